-- The step of a row, and of an illegal instruction, over the registers that were lent.
use Rattle.std.proofs.Common.{refl, rules}
use Rattle.rrs_lib.specs.Machine.{hart_of}
use Rattle.rrs_lib.proofs.Engines.{moved}
use Rattle.rrs_trace.specs.Outside.{Completes}
use Rattle.rrs_trace.proofs.OutsideSteps.{completes_row, completes_refused}
use Rattle.rrs_trace.proofs.LastWritten.{performs_last}
use Rattle.rrs_trace.proofs.outside.complete_parts.Goals as goal

pub returns-in-Some-clause-step : goal.returns-in-Some-clause-step
returns-in-Some-clause-step c = λ last.
    let found = c.in-Some.ensures.decoded in
    let end = c.in-Some.end in
    let before = hart_of c.args.registers.now c.args.pc last in
    moved (λ xs. Completes before (hart_of xs end.pc end.last_register_write) c.args.word c.args.given end.answer)
    c.process_instruction.new.processor.registers.now c.registers-1.given.0 (search rules)
    (completes_row before _ _ _ _ _ _ (search rules) found.is found.holds.performs)

pub returns-in-None-clause-step : goal.returns-in-None-clause-step
returns-in-None-clause-step c = λ last.
    let refused = c.refused-in-None.ensures in
    let end = c.refused-in-None.result in
    let before = hart_of c.args.registers.now c.args.pc last in
    moved (λ xs. Completes before (hart_of xs end.pc end.last_register_write) c.args.word c.args.given end.answer)
    c.args.registers.now c.registers-1.given.0 (search rules)
    (completes_refused c.args.registers.now c.args.pc end.pc c.args.word last end.last_register_write c.args.given
    end.answer refused.answer refused.pc refused.last (search rules) c.in-None.ensures.outside)

pub returns-in-Some-clause-last : goal.returns-in-Some-clause-last
returns-in-Some-clause-last c =
    let found = c.in-Some.ensures.decoded in
    performs_last _ _ _ _ _ _ _ found.is refl found.holds.performs
