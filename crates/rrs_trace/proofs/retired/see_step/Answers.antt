-- The step of the memory that is traced is one of the memory that is lent.
use Rattle.std.proofs.Common.{rules}
use Rattle.rrs_lib.specs.Machine.{state_of, hart_of}
use Rattle.rrs_lib.specs.Steps.{Step}
use Rattle.rrs_lib.proofs.Engines.{moved}
use Rattle.rrs_trace.proofs.retired.see_step.Goals as goal

pub returns-clause-step : goal.returns-clause-step
returns-clause-step g c = λ last.
    let memory = g.M.Memory in
    let traced = c.trace_step in
    let s = state_of (hart_of c.args.registers.now c.args.pc last) (memory.bytes c.args.mem.now)
    (memory.writable c.args.mem.now) in
    let t = state_of (hart_of traced.new.registers traced.result.0.pc traced.result.0.last_register_write)
    (memory.bytes traced.new.traced.memory.now) (memory.writable traced.new.traced.memory.now) in
    moved (λ x. Step s x traced.result.0.answer) t _ (search rules) (traced.ensures.step last)
