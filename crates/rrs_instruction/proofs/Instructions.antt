-- An instruction is determined by its row and its fields, and by its word.
use Rattle.std.proofs.Common.{◌≡◌, ℕ, Option, Some, None, IfSome, IfNone, refl, sym, ap, ◌∙◌}
use Rattle.std.proofs.lemmas.Option.{same_Some}
use Rattle.rrs_instruction.specs.declared.instruction.Instruction.{Instruction}
use Rattle.rrs_instruction.specs.Encodings.{Fields, R, I, IShamt, S, B, U, J}
use Rattle.rrs_instruction.specs.Table.{Row, Decodes, IsIllegal}
use Rattle.rrs_instruction.specs.Instructions.{row_of, fields_of, IsInstruction}

-- the instruction of a row with fields of its format
abbrev instruction_of : Row → Fields → Option Instruction
instruction_of Row.Add (R f) = Some (Instruction.Add f)
instruction_of Row.Sub (R f) = Some (Instruction.Sub f)
instruction_of Row.Sll (R f) = Some (Instruction.Sll f)
instruction_of Row.Slt (R f) = Some (Instruction.Slt f)
instruction_of Row.Sltu (R f) = Some (Instruction.Sltu f)
instruction_of Row.Xor (R f) = Some (Instruction.Xor f)
instruction_of Row.Srl (R f) = Some (Instruction.Srl f)
instruction_of Row.Sra (R f) = Some (Instruction.Sra f)
instruction_of Row.Or (R f) = Some (Instruction.Or f)
instruction_of Row.And (R f) = Some (Instruction.And f)
instruction_of Row.Addi (I f) = Some (Instruction.Addi f)
instruction_of Row.Slli (IShamt f) = Some (Instruction.Slli f)
instruction_of Row.Slti (I f) = Some (Instruction.Slti f)
instruction_of Row.Sltiu (I f) = Some (Instruction.Sltiu f)
instruction_of Row.Xori (I f) = Some (Instruction.Xori f)
instruction_of Row.Srli (IShamt f) = Some (Instruction.Srli f)
instruction_of Row.Srai (IShamt f) = Some (Instruction.Srai f)
instruction_of Row.Ori (I f) = Some (Instruction.Ori f)
instruction_of Row.Andi (I f) = Some (Instruction.Andi f)
instruction_of Row.Lui (U f) = Some (Instruction.Lui f)
instruction_of Row.Auipc (U f) = Some (Instruction.Auipc f)
instruction_of Row.Beq (B f) = Some (Instruction.Beq f)
instruction_of Row.Bne (B f) = Some (Instruction.Bne f)
instruction_of Row.Blt (B f) = Some (Instruction.Blt f)
instruction_of Row.Bltu (B f) = Some (Instruction.Bltu f)
instruction_of Row.Bge (B f) = Some (Instruction.Bge f)
instruction_of Row.Bgeu (B f) = Some (Instruction.Bgeu f)
instruction_of Row.Lb (I f) = Some (Instruction.Lb f)
instruction_of Row.Lbu (I f) = Some (Instruction.Lbu f)
instruction_of Row.Lh (I f) = Some (Instruction.Lh f)
instruction_of Row.Lhu (I f) = Some (Instruction.Lhu f)
instruction_of Row.Lw (I f) = Some (Instruction.Lw f)
instruction_of Row.Sb (S f) = Some (Instruction.Sb f)
instruction_of Row.Sh (S f) = Some (Instruction.Sh f)
instruction_of Row.Sw (S f) = Some (Instruction.Sw f)
instruction_of Row.Jal (J f) = Some (Instruction.Jal f)
instruction_of Row.Jalr (I f) = Some (Instruction.Jalr f)
instruction_of Row.Mul (R f) = Some (Instruction.Mul f)
instruction_of Row.Mulh (R f) = Some (Instruction.Mulh f)
instruction_of Row.Mulhu (R f) = Some (Instruction.Mulhu f)
instruction_of Row.Mulhsu (R f) = Some (Instruction.Mulhsu f)
instruction_of Row.Div (R f) = Some (Instruction.Div f)
instruction_of Row.Divu (R f) = Some (Instruction.Divu f)
instruction_of Row.Rem (R f) = Some (Instruction.Rem f)
instruction_of Row.Remu (R f) = Some (Instruction.Remu f)
instruction_of Row.Fence (I f) = Some (Instruction.Fence f)
instruction_of Row.Ecall (I f) = Some (Instruction.Ecall f)
instruction_of Row.Ebreak (I f) = Some (Instruction.Ebreak f)
instruction_of _ f = None

found : (i : Instruction) → instruction_of (row_of i) (fields_of i) ≡ Some i
found (Instruction.Add f) = refl
found _ = refl

pub same_instruction : (i j : Instruction) → row_of i ≡ row_of j → fields_of i ≡ fields_of j → i ≡ j
same_instruction i j r f = same_Some _ _ (sym (found i) ∙ (λ k. instruction_of (r k) (f k)) ∙ found j)

-- what is decoded of a word that is this instruction is this instruction
pub decoded_again : (w : ℕ) (i : Instruction) (answer : Option Instruction) → IsInstruction w i → IfNone answer (IsIllegal w)
    → IfSome answer (λ j. (row : Row) (f : Fields) → Decodes w row f → (row ≡ row_of j) × (f ≡ fields_of j)) → answer ≡ Some i
decoded_again w i None is outside only = absurd (outside (row_of i) (fields_of i) is)
decoded_again w i (Some j) is outside only =
    let same = only (row_of i) (fields_of i) is in
    ap Some (sym (same_instruction i j same.0 same.1))
