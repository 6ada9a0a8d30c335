-- The places of a word of extension A, and that it is decoded to its instruction.
use Rattle.std.proofs.Common.{◌≡◌, ℕ, ◌%◌, ◌^◌, Option, Some, None, IfSome, IfNone, sym, ◌∙◌, ap, arith}
use Rattle.rrs_instruction.specs.declared.instruction_formats.RType.{RType}
use Rattle.rrs_instruction.specs.Encodings.{R, encode}
use Rattle.rrs_instruction.proofs.Places.{places-R}
use Rattle.rrs_words.specs.declared.atomics.AtomicRow.{AtomicRow}
use Rattle.rrs_words.specs.declared.atomics.AtomicInstruction.{AtomicInstruction}
use Rattle.rrs_words.specs.AtomicInstructions.{IsAtomic}

pub atomic_places : (w : ℕ) (row : AtomicRow) (f : RType) → IsAtomic w row f
    → (w % 128 ≡ 0x2f) × (w ≡ encode (w % 2 ^ 7) (R f))
atomic_places w row f is =
    let p = places-R w 0x2f f (omega arith) is.in_range is.encoded in
    (p.0, is.encoded ∙ ap (λ op. encode op (R f)) (sym p.0))

pub atomic_decoded_again : (result : Option AtomicInstruction) (w : ℕ) (i : AtomicInstruction) → IsAtomic w i.row i.fields
    → IfNone result ((row : AtomicRow) (f : RType) → ¬ IsAtomic w row f)
    → IfSome result (λ x. (row : AtomicRow) (f : RType) → IsAtomic w row f → (row ≡ x.row) × (f ≡ x.fields))
    → result ≡ Some i
atomic_decoded_again None w i is outside only = absurd (outside i.row i.fields is)
atomic_decoded_again (Some x) w i is outside only =
    let same = only i.row i.fields is in
    let made : x ≡ i = λ k. record { row = sym same.0 k; fields = sym same.1 k } in
    ap Some made
