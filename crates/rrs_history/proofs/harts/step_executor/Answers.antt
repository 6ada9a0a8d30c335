-- The accesses of the step, of the memory that is recorded and so of the one that is lent.
use Rattle.rrs_history.proofs.Carrying.{recorded}
use Rattle.rrs_history.proofs.harts.step_executor.Goals as goal

pub returns-clause-stepped : goal.returns-clause-stepped
returns-clause-stepped g c =
    let memory = g.M.Memory in
    let step = c.step_hart.ensures.accesses in
    let r = recorded memory.bytes memory.writable memory.reads memory.writes step.accesses
    c.args.executor.now.mem.now c.step_hart.new.executor.mem.now step.made in
    record {
      of_step = step.accesses;
      noted = r.noted;
      step = c.step_hart.ensures.step;
      are_its = step.these;
      with_reads = r.with_reads;
      made = r.made;
      carries = r.carries;
    }

pub returns-clause-same_memory : goal.returns-clause-same_memory
returns-clause-same_memory g c =
    let memory = g.M.Memory in
    let step = c.step_hart.ensures.accesses in
    (recorded memory.bytes memory.writable memory.reads memory.writes step.accesses
    c.args.executor.now.mem.now c.step_hart.new.executor.mem.now step.made).same_memory

pub returns-clause-same_history : goal.returns-clause-same_history
returns-clause-same_history g c =
    let memory = g.M.Memory in
    let step = c.step_hart.ensures.accesses in
    (recorded memory.bytes memory.writable memory.reads memory.writes step.accesses
    c.args.executor.now.mem.now c.step_hart.new.executor.mem.now step.made).same_history
