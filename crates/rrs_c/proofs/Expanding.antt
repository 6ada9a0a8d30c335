-- The word that a half-word stands for is the one that the encoder finds.
use Rattle.std.specs.Prelude.{◌≡◌, ℕ}
use Rattle.std.proofs.Common.{sym, subst}
use Rattle.rrs_lib.specs.declared.instruction.Instruction.{Instruction}
use Rattle.rrs_lib.specs.Instructions.{IsInstruction, row_of, fields_of}
use Rattle.rrs_lib.specs.Table.{Decodes}
use Rattle.rrs_words.specs.declared.forms.ShortForm.{ShortForm}
use Rattle.rrs_words.specs.declared.forms.ShortOperands.{ShortOperands}
use Rattle.rrs_words.specs.Forms.{form_table, expanded_fields}

-- the word of a form, as one of the instruction that the form became
pub to_instruction : (w : ℕ) (i : Instruction) (form g : ShortForm) (o q : ShortOperands)
    → row_of i ≡ (form_table g).row → fields_of i ≡ expanded_fields g q → form ≡ g → o ≡ q
    → Decodes w (form_table form).row (expanded_fields form o) → IsInstruction w i
to_instruction w i form g o q row fields f e d =
    subst (λ r. Decodes w r (fields_of i)) (sym row)
    (subst (λ x. Decodes w (form_table g).row x) (sym fields)
    (subst (λ y. Decodes w (form_table g).row (expanded_fields g y)) e
    (subst (λ y. Decodes w (form_table y).row (expanded_fields y o)) f d)))

-- and back
pub to_form : (w : ℕ) (i : Instruction) (form g : ShortForm) (o q : ShortOperands)
    → row_of i ≡ (form_table g).row → fields_of i ≡ expanded_fields g q → form ≡ g → o ≡ q
    → IsInstruction w i → Decodes w (form_table form).row (expanded_fields form o)
to_form w i form g o q row fields f e is =
    subst (λ y. Decodes w (form_table y).row (expanded_fields y o)) (sym f)
    (subst (λ y. Decodes w (form_table g).row (expanded_fields g y)) (sym e)
    (subst (λ x. Decodes w (form_table g).row x) fields
    (subst (λ r. Decodes w r (fields_of i)) row is)))
