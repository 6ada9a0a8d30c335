use Rattle.std.proofs.Common.{refl, rules}
use Rattle.rrs_gdb.specs.declared.breaks.Break.TheVariants as Place
use Rattle.rrs_gdb.specs.Sessions.{IsBreak}
use Rattle.rrs_board_gdb.proofs.AnswerLemmas.{no_error, removed_refused, stop_removed}
use Rattle.rrs_board_gdb.proofs.session.remove_stop.Goals as goal

pub returns-in-Some-Stop : goal.returns-in-Some-Stop
returns-in-Some-Stop c =
    let is : IsBreak c.args.text.now (Place.Stop c.in-Some-Stop.address) = search rules in
    let removed = c.remove_stop.ensures in
    stop_removed _ _ _ c.in-Some-Stop.address _ is (removed.removed, removed.watches) refl no_error

pub returns-in-None : goal.returns-in-None
returns-in-None c = removed_refused _ _ _ _ c.in-None.ensures (_, refl) (λ _. refl)
