-- Nothing changes, or the step is made again, and kept or not.
use Rattle.std.proofs.Common.{refl}
use Rattle.rrs_gdb.proofs.HartLemmas.{stepped}
use Rattle.rrs_gdb.proofs.resume.touch_again.Goals as goal

pub returns-in_default-clause-touched : goal.returns-in_default-clause-touched
returns-in_default-clause-touched g c =
    (c.watch_hart.ensures.kept, refl, rw c.deref.ensures.value at c.in_default.ensures.touched)

pub returns-then-is_ok-clause-touched : goal.returns-then-is_ok-clause-touched
returns-then-is_ok-clause-touched g c =
    let made = c.step_hart_recorded.ensures in (
      rw c.deref.ensures.value at c.in-Some.ensures.touched,
      (c.step_hart_recorded.result, stepped _ _ _ _ _ _ _ _ _ _ _ c.watch_hart.ensures.kept refl made.step made.kept.these),
    )

pub returns-else-is_ok-clause-touched : goal.returns-else-is_ok-clause-touched
returns-else-is_ok-clause-touched g c =
    let made = c.step_hart_recorded.ensures in (
      rw c.deref.ensures.value at c.in-Some.ensures.touched,
      (c.step_hart_recorded.result, stepped _ _ _ _ _ _ _ _ _ _ _ c.watch_hart.ensures.kept refl made.step made.kept.these),
    )
