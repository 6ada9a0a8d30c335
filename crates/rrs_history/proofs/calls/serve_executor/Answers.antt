-- The accesses of the call, of the memory that is recorded and so of the one that is lent.
use Rattle.rrs_history.proofs.Carrying.{recorded}
use Rattle.rrs_history.proofs.calls.serve_executor.Goals as goal

pub returns-clause-served : goal.returns-clause-served
returns-clause-served g c =
    let memory = g.M.Memory in
    let call = c.serve.ensures.served in
    let r = recorded memory.bytes memory.writable memory.reads memory.writes call.accesses
    c.args.executor.now.mem.now c.serve.new.executor.mem.now call.made in
    record {
      of_call = call.accesses;
      noted = r.noted;
      served = call.these;
      with_reads = r.with_reads;
      made = r.made;
      carries = r.carries;
    }

pub returns-clause-same_memory : goal.returns-clause-same_memory
returns-clause-same_memory g c =
    let memory = g.M.Memory in
    let call = c.serve.ensures.served in
    (recorded memory.bytes memory.writable memory.reads memory.writes call.accesses
    c.args.executor.now.mem.now c.serve.new.executor.mem.now call.made).same_memory

pub returns-clause-same_history : goal.returns-clause-same_history
returns-clause-same_history g c =
    let memory = g.M.Memory in
    let call = c.serve.ensures.served in
    (recorded memory.bytes memory.writable memory.reads memory.writes call.accesses
    c.args.executor.now.mem.now c.serve.new.executor.mem.now call.made).same_history
