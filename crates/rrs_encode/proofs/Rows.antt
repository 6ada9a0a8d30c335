-- The row of an instruction by its number, and words that are decoded to that row.
use Rattle.std.proofs.Common.{◌≡◌, ℕ, Option, Some, ◌==◌, refl, sym, ap, subst, ◌∙◌}
use Rattle.std.specs.List.{find}
use Rattle.std.proofs.lemmas.Option.{same_Some}
use Rattle.rrs_instruction.specs.declared.instruction.Instruction.{Instruction}
use Rattle.rrs_instruction.specs.Encodings.{Fields, IsInRange, encode}
use Rattle.rrs_instruction.specs.Table.{Row, table, all_rows, Decodes, format_of}
use Rattle.rrs_instruction.specs.Instructions.{row_of, fields_of, IsInstruction}
use Rattle.rrs_instruction.proofs.Rows.{small_opcode, same_fields_of}

row_numbered : ℕ → Option Row
row_numbered n = find (λ row. (table row).number == n) all_rows

row_numbered-number : (row : Row) → row_numbered (table row).number ≡ Some row
unfolding row_numbered
row_numbered-number Row.Add = refl
row_numbered-number _ = refl

same_row : (row row' : Row) → (table row).number ≡ (table row').number → row ≡ row'
same_row row row' e =
    same_Some _ _ (sym (row_numbered-number row) ∙ ap row_numbered e ∙ row_numbered-number row')

-- a word that is made of these fields, and is an instruction of this row, has these fields
pub decodes_with : (w : ℕ) (row : Row) (f : Fields) (found : Instruction)
    → format_of f ≡ (table row).format → IsInRange f → w ≡ encode (table row).opcode f
    → IsInstruction w found → (table (row_of found)).number ≡ (table row).number → Decodes w row f
decodes_with w row f found format range encoded is number =
    let own : Decodes w row (fields_of found) =
    subst (λ r. Decodes w r (fields_of found)) (same_row (row_of found) row number) is in
    subst (λ g. Decodes w row g) (same_fields_of w (table row).opcode (fields_of found) f (small_opcode row)
    (own.format ∙ sym format) own.in_range range own.encoded encoded) own
