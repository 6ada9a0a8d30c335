-- A text, cut at a byte.
use Rattle.std.proofs.Common.{◌≡◌, ℕ, ◌+◌, ◌<◌, Bool, true, false, not, List, ◌∷◌, ◌++◌, length, take, drop, get_or, All, subst, arith}
use Rattle.std.proofs.lemmas.List.Splits.{slice_split_at}
use Rattle.rrs_asm_lines.specs.Lines.{is_in_word}
use Rattle.rrs_asm_lines.proofs.Cutting.{around}
use Rattle.rrs_asm_macros.specs.Directives.{words}

-- the words of a text whose first one ends at a byte that stands in no name
pub words-at : (text : List ℕ) (end : ℕ) → end < length text → All (λ b. not (is_in_word b) ≡ false) (take end text) → (b : Bool) → b ≡ is_in_word (get_or text end 0) → b ≡ false → words text ≡ take end text ∷ words (drop (end + 1) text)
words-at text end lt before b same outside =
    let ends : not (is_in_word (get_or text end 0)) ≡ true = rw (← same, outside) in
    let at : words (take end text ++ (get_or text end 0 ∷ drop (end + 1) text)) ≡ take end text ∷ words (drop (end + 1) text) = slice_split_at (λ b. not (is_in_word b)) (take end text) (get_or text end 0) (drop (end + 1) text) before ends in
    let P : List ℕ → Type 0 = λ t. words t ≡ take end text ∷ words (drop (end + 1) text) in
    subst P (around text end lt) at
