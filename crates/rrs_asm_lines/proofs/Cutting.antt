-- A source and a line, cut at a byte.
use Rattle.std.proofs.Common.{◌≡◌, ℕ, ◌+◌, ◌<◌, ◌==◌, Bool, ◌&&◌, if◌then◌else◌, Option, Some, IfSome, true, false, List, [], ◌∷◌, ◌++◌, length, take, drop, get_or, add-one, refl, sym, subst, None, arith, count_by, All}
use Rattle.std.proofs.lemmas.List.{append_assoc, take_more, take-append-drop}
use Rattle.std.proofs.lemmas.List.Splits.{slice_split_at, slice_split_none}
use Rattle.std.proofs.lemmas.Grind.{common_steps}
use Rattle.std.proofs.Math.Seq.{drop-cons}
use Rattle.rrs_asm_lines.specs.declared.lexing.Place.{Place}
use Rattle.rrs_asm_lines.specs.declared.lexing.Mark.{Mark}
use Rattle.std.specs.List.{list_all}
use Rattle.std.specs.Str.{bytes_eq}
use Rattle.std.specs.Option.{is_some}
use Rattle.std.proofs.lemmas.Slice.Eq.{bytes_eq-Decides}
use Rattle.rrs_asm_lines.specs.Lines.{word, behind_word, with_word, words_from, place_from, is_line_feed, lines, Part, onto, parts_from, mark_of, next}

-- ---- lines

-- a text around one of its bytes
pub around : (text : List ℕ) (end : ℕ) → end < length text → take end text ++ (get_or text end 0 ∷ drop (end + 1) text) ≡ text
around text end lt =
    let cut : drop end text ≡ get_or text end 0 ∷ drop (end + 1) text = rw add-one (drop-cons text end 0 lt) in
    rw (← cut) (take-append-drop end text)

-- where none is counted, none passes
none-passes : (bs : List ℕ) → count_by is_line_feed bs ≡ 0 → All (λ b. is_line_feed b ≡ false) bs
none-passes bs none = grind (arith, common_steps)

-- the lines of a text with no line feed before one
pub lines-at : (text : List ℕ) (end : ℕ) → end < length text → count_by is_line_feed (take end text) ≡ 0 → get_or text end 0 ≡ 10 → lines text ≡ take end text ∷ lines (drop (end + 1) text)
lines-at text end lt none is =
    let ends : is_line_feed (get_or text end 0) ≡ true = rw is in
    let at : lines (take end text ++ (get_or text end 0 ∷ drop (end + 1) text)) ≡ take end text ∷ lines (drop (end + 1) text) = slice_split_at is_line_feed (take end text) (get_or text end 0) (drop (end + 1) text) (none-passes (take end text) none) ends in
    let P : List ℕ → Type 0 = λ t. lines t ≡ take end text ∷ lines (drop (end + 1) text) in
    subst P (around text end lt) at

pub lines-none : (text : List ℕ) → count_by is_line_feed text ≡ 0 → lines text ≡ text ∷ []
lines-none text none = slice_split_none is_line_feed text (none-passes text none)

-- ---- parts

pub onto-onto : (xs ys : List ℕ) (ps : List Part) → onto xs (onto ys ps) ≡ onto (xs ++ ys) ps
onto-onto xs ys [] = refl
onto-onto xs ys (Part.Label text ∷ ps) = rw append_assoc refl
onto-onto xs ys (Part.Statement text ∷ ps) = rw append_assoc refl

-- a byte that is no mark
pub parts-other : (place : Place) (xs : List ℕ) (b : ℕ) (bs : List ℕ) → mark_of place b bs ≡ Mark.Other → onto xs (parts_from place (b ∷ bs)) ≡ onto (xs ++ b ∷ []) (parts_from (next place b) bs)
parts-other place xs b bs is = rw is (onto-onto xs (b ∷ []) (parts_from (next place b) bs))

-- the same in a loop over a line
pub parts-other-at : (line : List ℕ) (i : ℕ) (place after : Place) (others : List ℕ) → i < length line → others ≡ drop (i + 1) line → mark_of place (get_or line i 0) others ≡ Mark.Other → after ≡ next place (get_or line i 0) → onto (take i line) (parts_from place (drop i line)) ≡ onto (take (i + 1) line) (parts_from after (drop (i + 1) line))
parts-other-at line i place after others lt same is follows =
    let cut : drop i line ≡ get_or line i 0 ∷ drop (i + 1) line = rw add-one (drop-cons line i 0 lt) in
    let mark : mark_of place (get_or line i 0) (drop (i + 1) line) ≡ Mark.Other = rw (← same) is in
    rw (cut, take_more line i 0 lt, follows) (parts-other place (take i line) (get_or line i 0) (drop (i + 1) line) mark)

-- ---- words

place-with : (n : ℕ) (wanted w : List ℕ) (ws : List (List ℕ)) → false ≡ (length w == 0)
    → place_from n wanted (with_word w ws) ≡ (if bytes_eq w wanted then Some n else place_from (n + 1) wanted ws)
place-with n wanted [] ws some = absurd (cc)
place-with n wanted (b ∷ bs) ws some = refl

-- the first of the words that are left in a loop, before those after it
pub place-first : (wanted words text w others : List ℕ) (i : ℕ) → i < length words → w ≡ word text → others ≡ behind_word text → false ≡ (length w == 0)
    → place_from i wanted (words_from (length (drop i words)) text)
    ≡ (if bytes_eq w wanted then Some i else place_from (i + 1) wanted (words_from (length (drop (i + 1) words)) others))
place-first wanted words text w others i lt is behind some =
    let cut : drop i words ≡ get_or words i 0 ∷ drop (i + 1) words = rw add-one (drop-cons words i 0 lt) in
    rw (cut, ← is, ← behind) (place-with i wanted w (words_from (length (drop (i + 1) words)) others) some)

both-true : (a b : Bool) → (a && b) ≡ true → (a ≡ true) × (b ≡ true)
both-true true b is = (refl, is)
both-true false b is = absurd (cc)

place-one : (fits : List ℕ → Bool) (n : ℕ) (wanted w : List ℕ) (further : Option ℕ) (same : Bool) → bytes_eq w wanted ≡ same → fits w ≡ true
    → IfSome further (λ place. fits wanted ≡ true) → IfSome (if same then Some n else further) (λ place. fits wanted ≡ true)
place-one fits n wanted w further true is passes others =
    let Fits : List ℕ → Type 0 = λ own. fits own ≡ true in
    subst Fits ((bytes_eq-Decides w wanted).0 is) passes
place-one fits n wanted w further false is passes others = others

-- what all words pass, a word passes that is one of them
place-fits : (fits : List ℕ → Bool) (n : ℕ) (wanted : List ℕ) (ws : List (List ℕ)) → list_all fits ws ≡ true → IfSome (place_from n wanted ws) (λ place. fits wanted ≡ true)
place-fits fits n wanted [] all = tt
place-fits fits n wanted (w ∷ ws) all =
    let each : (fits w ≡ true) × (list_all fits ws ≡ true) = both-true (fits w) (list_all fits ws) all in
    place-one fits n wanted w (place_from (n + 1) wanted ws) (bytes_eq w wanted) refl each.0 (place-fits fits (n + 1) wanted ws each.1)

pub place-some : (fits : List ℕ → Bool) (wanted : List ℕ) (ws : List (List ℕ)) (found : Option ℕ) → true ≡ is_some found → found ≡ place_from 0 wanted ws → list_all fits ws ≡ true → fits wanted ≡ true
place-some fits wanted ws None some is all = absurd (cc)
place-some fits wanted ws (Some place) some is all =
    let Fits : Option ℕ → Type 0 = λ found. IfSome found (λ place. fits wanted ≡ true) in
    subst Fits (sym is) (place-fits fits 0 wanted ws all)
