use Rattle.std.proofs.Common.{◌++◌, Err, IfOk, sym, subst}
use Rattle.rrs_instruction.specs.Instructions.{row_of, fields_of}
use Rattle.rrs_lib.specs.Bytes.{EndsAtLastAddress}
use Rattle.rrs_lib.specs.Machine.{State, Executes}
use Rattle.rrs_lib.specs.Steps.{cleared}
use Rattle.rrs_lib.specs.Executor.{state_in}
use Rattle.rrs_lib.specs.Accesses.{accesses_of_row}
use Rattle.rrs_lib.proofs.Making.{Makes-append}
use Rattle.rrs_hart.specs.Anywhere.{answer_of}
use Rattle.rrs_hart.specs.Halves.{RowStep, AccessesOfRowStep, TellsRow}
use Rattle.rrs_hart.proofs.HalvesEnds.{fault_sized, tells_sized}
use Rattle.rrs_hart.proofs.halves.step_row.Goals as goal

-- the row raised a fault, and left the state as it was
pub end_sized-requires-clause-ends : goal.end_sized-requires-clause-ends
end_sized-requires-clause-ends g c =
    let i = c.args.instruction.now in
    subst (λ (x : State). EndsAtLastAddress x.bytes x.writable)
    (sym (fault_sized c.args.size (row_of i) (fields_of i) _ _ c.in-Err.fault c.in-Err.ensures.sized).0) c.requires.ends

pub end_sized-requires-clause-refused : goal.end_sized-requires-clause-refused
end_sized-requires-clause-refused g c =
    let i = c.args.instruction.now in
    let kept = fault_sized c.args.size (row_of i) (fields_of i) _ _ c.in-Err.fault c.in-Err.ensures.sized in
    subst (λ x. Executes (row_of i) (fields_of i) x x (Err c.in-Err.fault)) (sym kept.0) kept.1

pub returns-in-Err-clause-step : goal.returns-in-Err-clause-step
returns-in-Err-clause-step g c =
    let memory = g.M.Memory in
    let t = state_in memory.bytes memory.writable c.end_sized.new.executor in
    let i = c.args.instruction.now in
    let kept = fault_sized c.args.size (row_of i) (fields_of i) _ _ c.in-Err.fault c.in-Err.ensures.sized in
    subst (λ x. RowStep c.args.profile c.args.size (row_of i) (fields_of i) x t (answer_of c.end_sized.result)) kept.0 c.end_sized.ensures.step

pub returns-in-Err-clause-makes : goal.returns-in-Err-clause-makes
returns-in-Err-clause-makes g c =
    let memory = g.M.Memory in
    let i = c.args.instruction.now in
    let row = row_of i in
    let f = fields_of i in
    let kept = fault_sized c.args.size row f _ _ c.in-Err.fault c.in-Err.ensures.sized in
    let s = cleared (state_in memory.bytes memory.writable c.args.executor.now) in
    let end = c.end_sized.ensures.makes in (
      accesses_of_row row f s ++ end.0,
      subst (λ x. AccessesOfRowStep c.args.profile row f x (accesses_of_row row f x ++ end.0)) kept.0 end.1,
      Makes-append memory.reads memory.writes (accesses_of_row row f s) end.0 c.args.executor.now.mem.now c.execute_sized.new.executor.mem.now
          c.end_sized.new.executor.mem.now c.execute_sized.ensures.makes end.2,
    )

pub returns-in-Err-clause-told : goal.returns-in-Err-clause-told
returns-in-Err-clause-told g c =
    let i = c.args.instruction.now in
    let kept = fault_sized c.args.size (row_of i) (fields_of i) _ _ c.in-Err.fault c.in-Err.ensures.sized in
    subst (λ x. IfOk c.end_sized.result (TellsRow c.args.profile (row_of i) (fields_of i) x)) kept.0 c.end_sized.ensures.told

pub returns-in-Ok-clause-told : goal.returns-in-Ok-clause-told
returns-in-Ok-clause-told g c =
    let i = c.args.instruction.now in
    tells_sized c.args.profile c.args.size (row_of i) (fields_of i) _ _ c.in-Ok.ensures.sized
