-- The call, with what led to it and the registers that it wrote.
use Rattle.std.proofs.Common.{rules, refl, ap, drop, length, true}
use Rattle.rrs_lib.specs.Machine.{State, state_of}
use Rattle.rrs_lib.specs.Executor.{state_in}
use Rattle.rrs_history.specs.declared.change.Change.{Change}
use Rattle.rrs_history.specs.Changes.{undone}
use Rattle.rrs_history.proofs.Remembering.{remembers}
use Rattle.rrs_history.proofs.Carrying.{remembers_call}
use Rattle.rrs_history.proofs.calls.serve_noted.Goals as goal

pub returns-clause-served : goal.returns-clause-served
returns-clause-served g c =
    let memory = g.M.Memory in
    let call = c.serve_over-answer.ensures.served in
    let over = c.serve_over-answer.new in
    let pushed = c.push.ensures in
    let hart = c.args.executor.now.hart_state.now in
    let m = state_in memory.bytes memory.writable c.args.executor.now in
    let s = undone c.args.change m in
    let first : Change = record c.args.change { of_call = true } in
    let u : State = state_of hart (memory.bytes over.mem) (memory.writable over.mem) in
    let v : State = record u { registers = drop 1 over.hart_state.registers } in
    record {
      accesses = call.noted;
      these = (
        record {
          of_call = call.of_call;
          after_call = _;
          served = call.served;
          with_reads = call.with_reads;
          goes_on = search rules;
        },
        remembers_call c.args.history.now c.push.new.self over.history c.keep_registers.new.history s m u v _ first (length call.noted)
            (remembers c.args.history.now c.push.new.self s m first c.requires refl pushed.changes pushed.room pushed.within)
            pushed.changes c.requires refl (call.carries hart) (c.keep_registers.ensures u refl)
            (record { registers = ap (drop 1) c.resume.ensures.registers; bytes = refl; writable = refl }),
      );
      made = call.made;
    }
