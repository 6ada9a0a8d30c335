use Rattle.std.proofs.Common.{refl, rules, inr}
use Rattle.rrs_gdb.specs.declared.breaks.Break.TheVariants as Place
use Rattle.rrs_gdb.specs.Sessions.{IsBreak}
use Rattle.rrs_board_gdb.proofs.AnswerLemmas.{no_error, set_refused, stop_set}
use Rattle.rrs_board_gdb.proofs.session.set_stop.Goals as goal

pub returns-in-Ok : goal.returns-in-Ok
returns-in-Ok c =
    let is : IsBreak c.args.text.now (Place.Stop c.in-Some-Stop.address) = search rules in
    stop_set _ _ _ c.in-Some-Stop.address _ is (inr ((c.in-Ok.ensures.set, c.in-Ok.ensures.watches), refl)) no_error

pub returns-in-None : goal.returns-in-None
returns-in-None c = set_refused _ _ _ _ c.in-None.ensures (_, refl) (λ _. refl)
