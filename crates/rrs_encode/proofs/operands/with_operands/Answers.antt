use Rattle.std.proofs.Common.{◌≡◌, ℕ, Option, Some, None, IfSome, IfNone, refl, sym, ap, subst, ◌∙◌}
use Rattle.std.specs.Prelude.{◌↔◌}
use Rattle.std.proofs.lemmas.Option.{none-some}
use Rattle.rrs_instruction.specs.declared.instruction.Instruction.{Instruction}
use Rattle.rrs_instruction.specs.Encodings.{Fields}
use Rattle.rrs_instruction.specs.Table.{Row, Decodes, IsIllegal}
use Rattle.rrs_instruction.specs.Instructions.{row_of, fields_of}
use Rattle.rrs_encode.specs.declared.operands.Operands.{Operands}
use Rattle.rrs_encode.specs.Operands.{with_operands}
use Rattle.rrs_encode.proofs.operands.with_operands.Goals as goal

-- what is decoded of a word that is this row and these fields
made : (w : ℕ) (row : Row) (f : Fields) (answer : Option Instruction) → Decodes w row f
    → IfSome answer (λ i. (r : Row) (g : Fields) → Decodes w r g → (r ≡ row_of i) × (g ≡ fields_of i))
    → IfSome answer (λ i. (row_of i ≡ row) × (fields_of i ≡ f))
made w row f None is only = tt
made w row f (Some i) is only = let same = only row f is in (sym same.0, sym same.1)

no_none : (P : Type 0) (w : ℕ) (row : Row) (f : Fields) (answer : Option Instruction) → Decodes w row f
    → IfNone answer (IsIllegal w) → IfNone answer P
no_none P w row f None is outside = absurd (outside row f is)
no_none P w row f (Some i) is outside = tt

no_word : (row : Row) (f : Fields) (answer : Option Instruction)
    → ((w : ℕ) → (◌≡◌ {A = Option ℕ} None (Some w)) ↔ Decodes w row f)
    → IfNone answer ((w : ℕ) → ¬ Decodes w row f)
no_word row f None is = λ w d. none-some w ((is w).1 d)
no_word row f (Some _) is = tt

-- which words are the row with the operands
words : (answer : Option ℕ) (row : Row) (own made wanted : Fields) (o : Operands) → own ≡ wanted
    → made ≡ with_operands own o → ((w : ℕ) → (answer ≡ Some w) ↔ Decodes w row made)
    → (w : ℕ) → (answer ≡ Some w) ↔ Decodes w row (with_operands wanted o)
words answer row own made wanted o same placed is w =
    subst (λ (f : Fields). (answer ≡ Some w) ↔ Decodes w row f)
    (placed ∙ ap (λ (f : Fields). with_operands f o) same) (is w)

pub returns-in_err-word-clause-no_word : goal.returns-in_err-word-clause-no_word
returns-in_err-word-clause-no_word c =
    let is = words None _ _ _ _ _ c.fields.ensures c.with_fields.ensures c.in_err-word.ensures in
    no_word _ _ _ is

pub returns-clause-made : goal.returns-clause-made
returns-clause-made c =
    let is = words (Some c.in_ok-word.word) _ _ _ _ _ c.fields.ensures c.with_fields.ensures c.in_ok-word.ensures in
    made _ _ _ _ ((is _).0 refl) c.decode.ensures.only

pub returns-clause-no_word : goal.returns-clause-no_word
returns-clause-no_word c =
    let is = words (Some c.in_ok-word.word) _ _ _ _ _ c.fields.ensures c.with_fields.ensures c.in_ok-word.ensures in
    no_none _ _ _ _ _ ((is _).0 refl) c.decode.ensures.outside
