use Rattle.std.proofs.Common.{refl, subst}
use Rattle.rrs_instruction.specs.Instructions.{row_of, fields_of}
use Rattle.rrs_lib.specs.Steps.{cleared}
use Rattle.rrs_lib.specs.Executor.{state_in}
use Rattle.rrs_hart.specs.Anywhere.{answer_of}
use Rattle.rrs_hart.specs.Halves.{RowStep, ARow, FetchAndRow}
use Rattle.rrs_hart.proofs.HalvesEnds.{tells_row, tells_outside}
use Rattle.rrs_hart.proofs.halves.step_encoding.Goals as goal

pub returns-in-Some-clause-step : goal.returns-in-Some-clause-step
returns-in-Some-clause-step g c =
    let memory = g.M.Memory in
    let s = cleared (state_in memory.bytes memory.writable c.args.executor.now) in
    let t = state_in memory.bytes memory.writable c.step_row.new.executor in
    let i = c.in-Some.instruction in
    ARow c.args.encoding (row_of i) (fields_of i) c.requires.fetched c.in-Some.ensures.stands
    (subst (λ n. RowStep c.args.profile n (row_of i) (fields_of i) s t (answer_of c.step_row.result)) c.bytes_of.ensures c.step_row.ensures.step) refl

pub returns-in-Some-clause-makes : goal.returns-in-Some-clause-makes
returns-in-Some-clause-makes g c =
    let i = c.in-Some.instruction in
    let made = c.step_row.ensures.makes in (
      made.0,
      FetchAndRow c.args.encoding (row_of i) (fields_of i) made.0 c.requires.fetched c.in-Some.ensures.stands made.1 refl,
      made.2,
    )

pub returns-in-Some-clause-told : goal.returns-in-Some-clause-told
returns-in-Some-clause-told g c =
    let memory = g.M.Memory in
    let s = state_in memory.bytes memory.writable c.args.executor.now in
    let i = c.in-Some.instruction in
    tells_row c.args.profile s c.args.encoding (row_of i) (fields_of i) c.requires.fetched c.in-Some.ensures.stands c.step_row.result
    c.step_row.ensures.told c.step_row.ensures.within

pub returns-in-Ok-clause-told : goal.returns-in-Ok-clause-told
returns-in-Ok-clause-told g c =
    let memory = g.M.Memory in
    let s = state_in memory.bytes memory.writable c.args.executor.now in
    tells_outside c.args.profile s c.args.encoding c.requires.fetched c.in-None.ensures.outside
