-- The step of the memory that notes is one of the memory that is lent.
use Rattle.std.proofs.Common.{rules}
use Rattle.rrs_lib.specs.Machine.{state_of, hart_of}
use Rattle.rrs_lib.specs.Steps.{Step}
use Rattle.rrs_lib.proofs.Engines.{moved}
use Rattle.rrs_history.proofs.Written.{told_value}
use Rattle.rrs_history.proofs.recorder.record_step.Goals as goal

pub returns-clause-step : goal.returns-clause-step
returns-clause-step g c = λ last.
    let memory = g.M.Memory in
    let noting = c.step_noting-before in
    let s = state_of (hart_of c.args.registers.now c.args.pc last) (memory.bytes c.args.mem.now)
    (memory.writable c.args.mem.now) in
    let t = state_of (hart_of noting.new.registers noting.result.0.pc noting.result.0.last_register_write)
    (memory.bytes noting.new.noting.memory.now) (memory.writable noting.new.noting.memory.now) in
    moved (λ x. Step s x noting.result.0.answer) t _ (search rules) (noting.ensures.step last)

pub returns-clause-value : goal.returns-clause-value
returns-clause-value g c =
    let step = c.step_noting-before in
    let said = c.told-register in
    told_value c.args.registers.now step.result.0.last_register_write step.result.1 said.result.0 said.result.1
    step.ensures.last step.ensures.value said.ensures.number said.ensures.value said.ensures.none
