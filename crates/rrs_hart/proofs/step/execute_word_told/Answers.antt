use Rattle.rrs_hart.proofs.step.execute_word_told.Goals as goal

pub returns-in-Some-clause-step : goal.returns-in-Some-clause-step
returns-in-Some-clause-step g c = c.execute_row.ensures.step c.args.reservation.now

pub returns-in-Some-clause-makes : goal.returns-in-Some-clause-makes
returns-in-Some-clause-makes g c = c.execute_row.ensures.makes c.args.reservation.now
