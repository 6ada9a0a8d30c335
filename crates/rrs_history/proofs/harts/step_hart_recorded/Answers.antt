-- The step, with the change that leads to where it began and the registers that it wrote; and
-- after an exception the same, forgotten.
use Rattle.std.proofs.Common.{length, refl, sym, drop}
use Rattle.rrs_lib.specs.Machine.{State, state_of}
use Rattle.rrs_lib.specs.Executor.{state_in}
use Rattle.rrs_hart.proofs.HartFaults.{fault_keeps}
use Rattle.rrs_hart.proofs.HartSteps.{HartStep-unique}
use Rattle.rrs_history.proofs.Remembering.{remembers}
use Rattle.rrs_history.proofs.Carrying.{remembers_call}
use Rattle.rrs_history.proofs.Forgetting.{still_leads}
use Rattle.rrs_history.proofs.harts.step_hart_recorded.Goals as goal

pub returns-in-Ok-clause-only : goal.returns-in-Ok-clause-only
returns-in-Ok-clause-only g c = λ t' a' step'.
    let same = HartStep-unique c.args.profile _ _ t' _ a' (rw c.in-Ok.is at c.step_over-answer.ensures.stepped.step) step' in
    (sym same.0, sym same.1)

pub returns-in-Err-clause-only : goal.returns-in-Err-clause-only
returns-in-Err-clause-only g c = λ t' a' step'.
    let same = HartStep-unique c.args.profile _ _ t' _ a' (rw c.in-Err.is at c.step_over-answer.ensures.stepped.step) step' in
    (sym same.0, sym same.1)

pub returns-in-Ok-clause-kept : goal.returns-in-Ok-clause-kept
returns-in-Ok-clause-kept g c =
    let memory = g.M.Memory in
    let over = c.step_over-answer.new in
    let stepped = c.step_over-answer.ensures.stepped in
    let pushed = c.push.ensures in
    let hart = c.args.executor.now.hart_state.now in
    let mem = c.args.executor.now.mem.now in
    let s = state_in memory.bytes memory.writable c.args.executor.now in
    let u : State = state_of hart (memory.bytes over.mem) (memory.writable over.mem) in
    let v : State = record u { registers = drop 1 over.hart_state.registers } in
    record {
      accesses = stepped.noted;
      these = record {
        of_step = stepped.of_step;
        are_its = stepped.are_its;
        with_reads = stepped.with_reads;
        kept = remembers_call c.args.history.now c.push.new.self over.history c.keep_registers.new.history s s u v _ c.begun.result (length stepped.noted)
            (remembers c.args.history.now c.push.new.self s s c.begun.result c.begun.ensures.starts
            (c.begun.ensures.same (memory.bytes mem) (memory.writable mem)) pushed.changes pushed.room pushed.within)
            pushed.changes c.begun.ensures.starts c.begun.ensures.of_call (stepped.carries hart) (c.keep_registers.ensures u refl)
            (record { registers = refl; bytes = refl; writable = refl });
        stays = tt;
      };
      made = stepped.made;
    }

pub returns-in-Err-clause-kept : goal.returns-in-Err-clause-kept
returns-in-Err-clause-kept g c =
    let memory = g.M.Memory in
    let over = c.step_over-answer.new in
    let stepped = c.step_over-answer.ensures.stepped in
    let pushed = c.push.ensures in
    let hart = c.args.executor.now.hart_state.now in
    let mem = c.args.executor.now.mem.now in
    let s = state_in memory.bytes memory.writable c.args.executor.now in
    let u : State = state_of hart (memory.bytes over.mem) (memory.writable over.mem) in
    let v : State = record u { registers = drop 1 over.hart_state.registers } in
    let t : State = state_of over.hart_state (memory.bytes over.mem) (memory.writable over.mem) in
    record {
      accesses = stepped.noted;
      these = record {
        of_step = stepped.of_step;
        are_its = stepped.are_its;
        with_reads = stepped.with_reads;
        kept = tt;
        stays = still_leads c.args.history.now c.keep_registers.new.history c.forget_latest.new.self s t (length stepped.noted)
            (remembers_call c.args.history.now c.push.new.self over.history c.keep_registers.new.history s s u v t c.begun.result (length stepped.noted)
            (remembers c.args.history.now c.push.new.self s s c.begun.result c.begun.ensures.starts
            (c.begun.ensures.same (memory.bytes mem) (memory.writable mem)) pushed.changes pushed.room pushed.within)
            pushed.changes c.begun.ensures.starts c.begun.ensures.of_call (stepped.carries hart) (c.keep_registers.ensures u refl)
            (record { registers = refl; bytes = refl; writable = refl }))
            (c.forget_latest.ensures.forgets t) c.forget_latest.ensures.room;
      };
      made = stepped.made;
    }

pub returns-in-Err-clause-fault : goal.returns-in-Err-clause-fault
returns-in-Err-clause-fault g c =
    fault_keeps c.args.profile _ _ c.in-Err.fault (rw c.in-Err.is at c.step_over-answer.ensures.stepped.step)
