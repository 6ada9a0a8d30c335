-- The texts of the instructions of Zba to Zicond (RISC-V unprivileged specification, "B" Extension
-- for Bit Manipulation): the registers and a shift amount as in the texts of the 48 rows. A number
-- that tells the instruction is not shown.
use Rattle.std.specs.Prelude.{ℕ, ◌++◌, List, [], codes}
use Rattle.std.specs.Fmt.{decimal}
use Rattle.rrs_instruction.specs.declared.instruction_formats.RType.{RType}
use Rattle.rrs_words.specs.declared.bits.BitOperand.{BitOperand}
use Rattle.rrs_words.specs.declared.bits.BitOperand.TheVariants.{Register, NotX0, Amount, Fixed}
use Rattle.rrs_words.specs.declared.bits.BitRow.{BitRow}
use Rattle.rrs_words.specs.BitInstructions.{bit_table}
use Rattle.rrs_lib.specs.Texts.{register}

abbrev pub bit_operand : BitOperand → ℕ → List ℕ
bit_operand Register rs2 = codes ", " ++ register rs2
bit_operand NotX0 rs2 = codes ", " ++ register rs2
bit_operand Amount rs2 = codes ", " ++ decimal rs2
bit_operand (Fixed n) rs2 = []

-- name xD, xA, xB
abbrev pub bit_text : BitRow → RType → List ℕ
bit_text row f =
    (bit_table row).name ++ codes " " ++ register f.rd ++ codes ", " ++ register f.rs1
    ++ bit_operand (bit_table row).operand f.rs2
