use Rattle.rrs_machine.proofs.Ending.{exactly_after, fault_after}
use Rattle.rrs_machine.proofs.machine.step_layers.Goals as goal

pub returns-in-Ok-clause-accesses : goal.returns-in-Ok-clause-accesses
returns-in-Ok-clause-accesses g c =
    let memory = g.M.Memory in
    let read = c.fetch_in.ensures in
    exactly_after memory.reads memory.writes memory.bytes memory.writable c.args.profile c.args.hart.now c.args.reservation.now
    c.args.mem.now c.fetch_in.new.mem read.bytes_kept read.writable_kept c.execute_in.new.mem read.makes c.execute_in.ensures.makes

pub returns-in-Err-clause-step : goal.returns-in-Err-clause-step
returns-in-Err-clause-step g c =
    let memory = g.M.Memory in
    let read = c.fetch_in.ensures in
    fault_after memory.reads memory.writes memory.bytes memory.writable c.args.profile c.args.hart.now c.args.reservation.now
    c.args.mem.now c.fetch_in.new.mem read.bytes_kept read.writable_kept c.in-Err.fault c.in-Err.ensures.step
