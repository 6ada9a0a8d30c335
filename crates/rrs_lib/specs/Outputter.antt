-- What each function of the outputter of texts says: the text of its row, and that the address
-- stays.
use Rattle.std.specs.Prelude.{◌≡◌, ℕ, List, Some, Result, String, IfOk, string_bytes}
use Rattle.std.specs.declared.alloc.AllocError.{AllocError}
use Rattle.std.specs.declared.alloc.Global.{Global}
use Rattle.rrs_lib.specs.declared.instruction_string_outputter.InstructionStringOutputter.{InstructionStringOutputter}
use Rattle.rrs_instruction.specs.Words.{word}
use Rattle.rrs_instruction.specs.Encodings.{Fields, R, I, IShamt, S, B, U, J}
use Rattle.rrs_instruction.specs.Table.{Row}
use Rattle.rrs_instruction.specs.Results.{plus_immediate}
use Rattle.rrs_lib.specs.Texts.{text_of, three_registers, two_registers, shifted_register, register_and_word, branch_to, register_and_place}

-- The outputter's relation: an answer that is Ok is the row's text at the outputter's address, and
-- the address stays.
pub record Prints (row : Row) (f : Fields) (before after : InstructionStringOutputter)
    (answer : Result (String Global) AllocError) : Type 0 where
  pub text : IfOk answer (λ text. text_of row f before.insn_pc ≡ Some (string_bytes text))
  pub pc_kept : after.insn_pc ≡ before.insn_pc

-- The text of most rows of a format. Others are `auipc`, the loads, `jalr`, and those that show no
-- operands.
abbrev pub usual_text : Row → Fields → ℕ → List ℕ
usual_text row (R f) pc = three_registers row f
usual_text row (I f) pc = two_registers row f
usual_text row (IShamt f) pc = shifted_register row f
usual_text row (S f) pc = register_and_place row f.rs2 f.imm f.rs1
usual_text row (B f) pc = branch_to row f pc
usual_text row (U f) pc = register_and_word row f.rd (word f.imm)
usual_text row (J f) pc = register_and_word row f.rd (plus_immediate pc f.imm)
