-- A result whose lines are of lines of the source.
use Rattle.std.proofs.Common.{◌≡◌, ℕ, ◌+◌, ◌≤◌, List, length, count_by, All, subst, arith}
use Rattle.std.proofs.lemmas.List.Splits.{length-slice_split}
use Rattle.rrs_asm_macros.specs.declared.output.Expanded.{Expanded}
use Rattle.rrs_asm_lines.specs.Lines.{is_line_feed, lines}
use Rattle.rrs_asm_macros.specs.Lines.{IsLine, IsMade, IsMapped}

pub one_line : (text : List ℕ) → 1 ≤ length (lines text)
one_line text =
    let counted : length (lines text) ≡ count_by is_line_feed text + 1 = length-slice_split is_line_feed text in
    omega (arith, counted)

pub mapped : {A : Type 0} (source : List ℕ) (total : ℕ) (made : Expanded A) → total ≡ length (lines source) → 1 ≤ length made.lines.items → IsMade total made → IsMapped source made
mapped source total made same some is =
    let counted : length (lines made.text.items) ≡ count_by is_line_feed made.text.items + 1 = length-slice_split is_line_feed made.text.items in
    let P : ℕ → Type 0 = λ n. All (IsLine n) made.lines.items in record {
      one_each = omega (arith, counted, is.feeds, some);
      within = subst P same is.within;
    }
