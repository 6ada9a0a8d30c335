-- The step has a record, by which it is counted.
use Rattle.std.proofs.Common.{refl, sym, subst}
use Rattle.rrs_lib.specs.Machine.{state_of}
use Rattle.rrs_lib.specs.Executor.{state_in}
use Rattle.rrs_hart.specs.Harts.{hart_with}
use Rattle.rrs_exec.specs.declared.protected.ProtectedMemory.{ProtectedMemory}
use Rattle.rrs_exec.specs.Protection.{protected_bytes, protected_writable}
use Rattle.rrs_exec.specs.Watching.{SeesStep}
use Rattle.rrs_reports.specs.Coverages.{Counts}
use Rattle.rrs_reports.proofs.Unrecorded.{recorded}
use Rattle.rrs_reports.proofs.profile.ProfileWatcher.watch_step.Goals as goal

pub returns-clause-seen : goal.returns-clause-seen
returns-clause-seen c =
    let state = state_in protected_bytes protected_writable in
    let p = c.args.profile in
    let done = c.step_layers_cached-answer in
    let mid = done.new.executor in
    let s = hart_with (state c.args.executor.now) c.args.reservation.now in
    let t = hart_with (state mid) done.new.reservation in
    let step = done.ensures in
    let made = recorded p c.args.number s t done.result step.accesses.accesses c.if-profile.false step.step step.accesses.only in
    let P : ProtectedMemory → Type 0 = λ m.
    SeesStep p (λ old r new. Counts old.coverage r new.coverage) c.args.number c.args.self.now s done.result
    (hart_with (state_of mid.hart_state.now (protected_bytes m) (protected_writable m)) done.new.reservation) c.see.new.self in
    let seen : P mid.mem.now = record {
      retired = made.0;
      step = step.step;
      retires = made.1;
      seen = c.see.ensures.counts p c.args.number s t made.0 c.if-profile.false refl refl step.step made.1;
    } in
    subst P (sym c.see.ensures.kept) seen
