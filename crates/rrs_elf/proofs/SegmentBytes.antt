-- The bytes of a segment in memory.
use Rattle.std.proofs.Common.{◌≡◌, ℕ, zero, suc, ◌<◌, ◌⊎◌, inl, inr, List, [], ◌∷◌, length, slice_index, refl, sym, ◌∙◌, ap, arith}
use Rattle.std.proofs.lemmas.List.{length_push, get_or_append_left, get_or_push}
use Rattle.rrs_elf.specs.Loading.{segment_byte, segment_bytes}

pub length-segment_bytes : (file : List ℕ) (i n : ℕ) → length (segment_bytes file i n) ≡ n
length-segment_bytes file i zero = refl
length-segment_bytes file i (suc n) = length_push (segment_bytes file i n) (segment_byte file i n) ∙ omega (arith, length-segment_bytes file i n)

pub at-segment_bytes : (file : List ℕ) (i n k : ℕ) → k < n → slice_index (segment_bytes file i n) k ≡ segment_byte file i k
at-segment_bytes file i zero k below = absurd (omega arith)
at-segment_bytes file i (suc n) k below =
    let many = length-segment_bytes file i n in
    let either : (k < n) ⊎ (k ≡ n) = grind arith in
    elim either [
      | inl less ↦ get_or_append_left (segment_bytes file i n) (segment_byte file i n ∷ []) 0 k (omega arith) ∙ at-segment_bytes file i n k less
      | inr same ↦ get_or_push (segment_bytes file i n) (segment_byte file i n) 0 k (many ∙ sym same) ∙ ap (segment_byte file i) (sym same)
    ]
