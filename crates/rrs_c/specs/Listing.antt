-- The row and the fields of an instruction, as C has them.
use Rattle.std.specs.Prelude.{◌≡◌, ℕ, ◌%◌, pos, unwrap_or}
use Rattle.rrs_lib.specs.Encodings.{Fields}
use Rattle.rrs_lib.specs.Table.{Row, table}
use Rattle.rrs_lib.specs.Operands.{rd_of, rs1_of, rs2_of, immediate_of, shift_amount_of}
use Rattle.rrs_words.specs.declared.bits.BitOperand.{BitOperand}
use Rattle.rrs_words.specs.declared.bits.BitOperand.TheVariants.{Register, NotX0, Amount}
use Rattle.rrs_words.specs.BitInstructions.{bit_table}
use Rattle.rrs_words.specs.declared.layers.LayerInstruction.{LayerInstruction}
use Rattle.rrs_words.specs.declared.layers.LayerInstruction.TheVariants.{System, Atomic, Bits}
use Rattle.rrs_words.specs.SystemInstructions.{csr_number}
use Rattle.rrs_words.specs.Layers.{IsOfLayer, system_number, atomic_number, bit_number}
use Rattle.rrs_c.specs.declared.instruction.RrsInstruction.{RrsInstruction}

-- the row is listed by its number, and each field is 0 where the format does not have it
pub record Lists (row : Row) (f : Fields) (i : RrsInstruction) : Type 0 where
  pub number : i.row ≡ (table row).number
  pub rd : i.rd ≡ unwrap_or (rd_of f) 0
  pub rs1 : i.rs1 ≡ unwrap_or (rs1_of f) 0
  pub rs2 : i.rs2 ≡ unwrap_or (rs2_of f) 0
  pub shamt : i.shamt ≡ unwrap_or (shift_amount_of f) 0
  pub imm : i.imm ≡ unwrap_or (immediate_of f) (pos 0)

abbrev pub no_instruction : RrsInstruction
no_instruction = record { row = 0; rd = 0; rs1 = 0; rs2 = 0; shamt = 0; imm = pos 0 }

-- what stands in the place of rs2, as the number of a register and as a shift amount
abbrev pub register_in : BitOperand → ℕ → ℕ
register_in Register n = n
register_in NotX0 n = n
register_in _ n = 0

abbrev pub amount_in : BitOperand → ℕ → ℕ
amount_in Amount n = n
amount_in _ n = 0

-- An instruction of a layer is listed by its number, which follows those of the rows. Its immediate is
-- the number of the CSR, or, of extension A, 2 for aq and 1 for rl.
abbrev pub layer_listed : LayerInstruction → RrsInstruction
layer_listed (System i) = record {
  row = system_number i.row;
  rd = i.fields.rd;
  rs1 = i.fields.rs1;
  rs2 = 0;
  shamt = 0;
  imm = pos (csr_number i.fields);
}
layer_listed (Atomic i) = record {
  row = atomic_number i.row;
  rd = i.fields.rd;
  rs1 = i.fields.rs1;
  rs2 = i.fields.rs2;
  shamt = 0;
  imm = pos (i.fields.funct7 % 4);
}
layer_listed (Bits i) = record {
  row = bit_number i.row;
  rd = i.fields.rd;
  rs1 = i.fields.rs1;
  rs2 = register_in (bit_table i.row).operand i.fields.rs2;
  shamt = amount_in (bit_table i.row).operand i.fields.rs2;
  imm = pos 0;
}

-- A word that is no row of the table is listed as the instruction of a layer that it is, and else as
-- none.
pub record ListsLayer (word : ℕ) (i : RrsInstruction) : Type 0 where
  pub of_layer : (instruction : LayerInstruction) → IsOfLayer word instruction
      → i ≡ layer_listed instruction
  pub outside : ((instruction : LayerInstruction) → ¬ IsOfLayer word instruction)
      → i ≡ no_instruction
