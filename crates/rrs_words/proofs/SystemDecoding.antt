-- A word that is an instruction is decoded to it.
use Rattle.std.proofs.Common.{◌≡◌, ℕ, Option, Some, None, IfSome, IfNone, sym, ap}
use Rattle.rrs_instruction.specs.declared.instruction_formats.IType.{IType}
use Rattle.rrs_words.specs.declared.instructions.SystemRow.{SystemRow}
use Rattle.rrs_words.specs.declared.instructions.SystemInstruction.{SystemInstruction}
use Rattle.rrs_words.specs.SystemInstructions.{IsSystem}

pub decoded_again : (result : Option SystemInstruction) (w : ℕ) (i : SystemInstruction) → IsSystem w i.row i.fields
    → IfNone result ((row : SystemRow) (f : IType) → ¬ IsSystem w row f)
    → IfSome result (λ x. (row : SystemRow) (f : IType) → IsSystem w row f → (row ≡ x.row) × (f ≡ x.fields))
    → result ≡ Some i
decoded_again None w i is outside only = absurd (outside i.row i.fields is)
decoded_again (Some x) w i is outside only =
    let same = only i.row i.fields is in
    let made : x ≡ i = λ k. record { row = sym same.0 k; fields = sym same.1 k } in
    ap Some made

pub at_none : {A : Type 0} (P : Type 0) (answer : Option A) → P → IfNone answer P
at_none P None holds = holds
at_none P (Some _) holds = tt
