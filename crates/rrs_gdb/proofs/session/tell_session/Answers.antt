-- `Q`.
use Rattle.rrs_gdb.proofs.AnswerLemmas.{manages_set}
use Rattle.rrs_gdb.proofs.session.tell_session.Goals as goal

pub returns-in-Some-clause-manages : goal.returns-in-Some-clause-manages
returns-in-Some-clause-manages g c =
    manages_set c.set.result _ c.in-Some.text.now _ _ _ _ _ _ c.in-Some.ensures c.set.ensures.silences c.set.ensures.acknowledges
    c.set.ensures.catches
