-- A step that is Ok, an ecall, or another exception.
use Rattle.std.proofs.Common.{◌++◌, Err, refl, subst, ap, ◌∙◌}
use Rattle.rrs_lib.specs.Steps.{StepAnswer}
use Rattle.rrs_lib.specs.Executor.{state_in}
use Rattle.rrs_lib.proofs.Making.{Makes-append}
use Rattle.rrs_hart.specs.Harts.{hart_with}
use Rattle.rrs_exec.specs.Protection.{protected_bytes, protected_writable, protected_reads, ProtectedWrites}
use Rattle.rrs_exec.specs.Watching.{SeesStep, Stepped, Faulted, Called}
use Rattle.rrs_exec.proofs.watching.take_turn.Goals as goal

pub returns-in_default-clause-turn : goal.returns-in_default-clause-turn
returns-in_default-clause-turn g c =
    let state = state_in protected_bytes protected_writable in
    let s = hart_with (state c.args.executor.now) c.args.reservation.now in
    let t = hart_with (state c.watch_step.new.executor) c.watch_step.new.reservation in
    let P : StepAnswer → Type 0 = λ a. SeesStep c.args.profile g.V.Watcher.sees c.args.number c.args.watcher.now s a t c.watch_step.new.self in
    record {
      accesses = c.watch_step.ensures.accesses.accesses;
      these = Stepped (subst P c.in_default.is c.watch_step.ensures.seen) c.watch_step.ensures.accesses.these refl refl;
      made = c.watch_step.ensures.accesses.made;
    }

pub returns-in-EnvironmentCall-clause-turn : goal.returns-in-EnvironmentCall-clause-turn
returns-in-EnvironmentCall-clause-turn g c =
    let state = state_in protected_bytes protected_writable in
    let s = hart_with (state c.args.executor.now) c.args.reservation.now in
    let m = hart_with (state c.watch_step.new.executor) c.watch_step.new.reservation in
    let step = c.watch_step.ensures in
    let pc = c.in-EnvironmentCall.pc in
    let P : StepAnswer → Type 0 = λ a. SeesStep c.args.profile g.V.Watcher.sees c.args.number c.args.watcher.now s a m c.watch_step.new.self in
    let call = c.serve_at.ensures.served in
    record {
      accesses = step.accesses.accesses ++ call.accesses;
      these =
          Called pc c.serve_at.result m (state c.serve_at.new.executor) step.accesses.accesses call.accesses (subst P (c.in-Err.is ∙ ap Err c.in-EnvironmentCall.is) step.seen)
          step.accesses.these call.these refl refl refl;
      made = Makes-append protected_reads ProtectedWrites step.accesses.accesses call.accesses _ _ _ step.accesses.made call.made;
    }

pub returns-in_default-exception-clause-turn : goal.returns-in_default-exception-clause-turn
returns-in_default-exception-clause-turn g c =
    let state = state_in protected_bytes protected_writable in
    let s = hart_with (state c.args.executor.now) c.args.reservation.now in
    let t = hart_with (state c.watch_step.new.executor) c.watch_step.new.reservation in
    let P : StepAnswer → Type 0 = λ a. SeesStep c.args.profile g.V.Watcher.sees c.args.number c.args.watcher.now s a t c.watch_step.new.self in
    record {
      accesses = c.watch_step.ensures.accesses.accesses;
      these = Faulted c.in-Err.exception (subst P c.in-Err.is c.watch_step.ensures.seen) c.watch_step.ensures.accesses.these c.in_default-exception.not-EnvironmentCall refl refl;
      made = c.watch_step.ensures.accesses.made;
    }
