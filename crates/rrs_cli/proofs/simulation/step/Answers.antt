use Rattle.std.proofs.Common.{◌≡◌, List, [], ◌∷◌, length, slice_index_or, sym, subst, arith}
use Rattle.rrs_lib.specs.Machine.{State}
use Rattle.rrs_lib.specs.Steps.{Step, StepAnswer, Run}
use Rattle.rrs_cli.proofs.simulation.step.Goals as goal

-- a run with one answer is a step
one_step : (s t : State) (answers : List StepAnswer) (d : StepAnswer) → length answers ≡ 1 → Run s answers t → Step s t (slice_index_or answers 0 d)
one_step s t [] d e run = absurd (omega (arith, e))
one_step s t (a ∷ []) d e run = let P : State → Type 0 = λ x. Step s x a in subst P (sym run.2) run.1
one_step s t (a ∷ (b ∷ more)) d e run = absurd (omega (arith, e))

pub returns : goal.returns
returns g c = one_step _ _ _ _ c.step_each.auto.answers c.step_each.ensures.run
