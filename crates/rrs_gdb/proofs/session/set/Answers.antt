-- Calls are caught, or the text names none.
use Rattle.std.proofs.Common.{List, ℕ, drop, ap, sym, ◌∙◌}
use Rattle.rrs_gdb.proofs.AnswerLemmas.{catches_or_stays}
use Rattle.rrs_gdb.proofs.session.set.Goals as goal

pub returns-in-Some-clause-catches : goal.returns-in-Some-clause-catches
returns-in-Some-clause-catches g c = λ asked is.
    catches_or_stays c.push_done.result c.in_ok-is_done.is_done c.in-Some.asked.now asked _ _ _ _
    (ap (λ (xs : List ℕ). drop 14 xs) (sym c.in-Some.ensures ∙ is))
    c.in_ok-is_done.ensures.caught c.in_ok-is_done.ensures.refused c.push_done.ensures.done c.push_done.ensures.refused

pub returns-clause-catches : goal.returns-clause-catches
returns-clause-catches g c = λ asked is. absurd (c.in_default.ensures asked is)
