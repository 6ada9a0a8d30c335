use Rattle.std.proofs.Common.{rules}
use Rattle.rrs_instruction.specs.Instructions.{row_of, fields_of}
use Rattle.rrs_lib.specs.Machine.{Executes}
use Rattle.rrs_lib.proofs.Engines.{apart}
use Rattle.rrs_lib.proofs.instruction_executor.InstructionExecutorInstructionHandler.handle.Goals as goal

pub returns : goal.returns
returns g c =
    let i = c.args.instruction.now in
    record {
      executes = apart (λ s t. Executes (row_of i) (fields_of i) s t c.execute-answer.result) _ _ _ _
          c.new-engine.ensures.state c.put_together.ensures.state c.execute-answer.ensures.executes;
      rest = search rules;
      makes = search rules;
    }
