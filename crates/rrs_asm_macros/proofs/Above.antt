-- The lines above the first one with a directive, line by line.
use Rattle.std.proofs.Common.{◌≡◌, ℕ, suc, ◌+◌, ◌<◌, Bool, true, false, List, [], ◌∷◌, ◌++◌, length, get_or, refl, sym, ap, ◌∙◌, subst, arith}
use Rattle.rrs_asm_macros.specs.declared.output.Expanded.{Expanded}
use Rattle.rrs_asm_macros.specs.Directives.{has_directives}
use Rattle.rrs_asm_lines.specs.Lines.{lines}
use Rattle.rrs_asm_macros.specs.Lines.{lines_above, BeginWith, KeepsAbove}
use Rattle.std.specs.Prelude.{if◌then◌else◌}

pub above-none : (all others : List (List ℕ)) (line : List ℕ) → all ≡ line ∷ others → has_directives line ≡ true → lines_above all ≡ []
above-none all others line e has =
    let P : Bool → Type 0 = λ b. (if b then [] else line ∷ lines_above others) ≡ [] in
    ap lines_above e ∙ subst P (sym has) refl

pub above-more : (all others : List (List ℕ)) (line : List ℕ) → all ≡ line ∷ others → has_directives line ≡ false → lines_above all ≡ line ∷ lines_above others
above-more all others line e has =
    let P : Bool → Type 0 = λ b. (if b then [] else line ∷ lines_above others) ≡ line ∷ lines_above others in
    ap lines_above e ∙ subst P (sym has) refl

-- what is left has no lines above a directive
pub kept : {A : Type 0} (source : List ℕ) (expanded : Expanded A) (left made : List (List ℕ)) (number : ℕ)
    → ((others : List (List ℕ)) → made ≡ lines_above left ++ others → BeginWith (lines_above (lines source)) (lines expanded.text.items))
    → number + length (lines_above left) ≡ length (lines_above (lines source))
    → ((k : ℕ) → k < number → get_or expanded.lines.items k 0 ≡ k + 1)
    → lines_above left ≡ [] → KeepsAbove source expanded
kept source expanded left made number head counted numbered none =
    let P : List (List ℕ) → Type 0 = λ above. made ≡ above ++ made in
    let no_more : length (lines_above left) ≡ 0 = ap length none in record {
      head = head made (subst P (sym none) refl);
      numbered = λ k h. numbered k (omega (arith, h, counted, no_more));
    }

-- what is left after a line that both have
pub head-behind : (left made left_behind made_behind above all : List (List ℕ)) (line : List ℕ)
    → left ≡ line ∷ left_behind → made ≡ line ∷ made_behind → has_directives line ≡ false
    → ((others : List (List ℕ)) → made ≡ lines_above left ++ others → BeginWith above all)
    → (others : List (List ℕ)) → made_behind ≡ lines_above left_behind ++ others → BeginWith above all
head-behind left made left_behind made_behind above all line l m has head others e =
    let P : List (List ℕ) → Type 0 = λ a. made ≡ a ++ others in
    head others (subst P (sym (above-more left left_behind line l has)) (m ∙ ap (λ bs. line ∷ bs) e))

pub count-behind : (left left_behind : List (List ℕ)) (line : List ℕ) (number total : ℕ)
    → left ≡ line ∷ left_behind → has_directives line ≡ false
    → number + length (lines_above left) ≡ total → number + 1 + length (lines_above left_behind) ≡ total
count-behind left left_behind line number total l has counted =
    let one : length (lines_above left) ≡ suc (length (lines_above left_behind)) = ap length (above-more left left_behind line l has) in
    omega (arith, counted, one)

pub number-behind : (numbers : List ℕ) (number : ℕ)
    → ((k : ℕ) → k < number → get_or numbers k 0 ≡ k + 1) → get_or numbers number 0 ≡ number + 1
    → (k : ℕ) → k < number + 1 → get_or numbers k 0 ≡ k + 1
number-behind numbers number before here k h = grind (arith, before k, here, h)
