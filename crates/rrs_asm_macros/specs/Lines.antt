-- The lines of a source, and of which of them each line of a result is.
use Rattle.std.specs.Prelude.{◌≡◌, ℕ, ◌+◌, ◌-◌, ◌<◌, ◌≤◌, if◌then◌else◌, List, [], ◌∷◌, ◌++◌, length, get_or, count_by, All}
use Rattle.rrs_asm_lines.specs.Lines.{is_line_feed, lines}
use Rattle.rrs_asm_macros.specs.Directives.{has_directives}
use Rattle.rrs_asm_macros.specs.declared.output.Expanded.{Expanded}

-- the first line of a text
abbrev pub first_line : List ℕ → List ℕ
first_line text = get_or (lines text) 0 []

-- A number of a line, where there are so many: they are counted from 1.
abbrev pub IsLine : ℕ → ℕ → Type 0
IsLine total number = (1 ≤ number) × (number ≤ total)

-- Each line of the result is of a line of the source.
pub record IsMapped {A : Type 0} (source : List ℕ) (expanded : Expanded A) : Type 0 where
  pub one_each : length expanded.lines.items ≡ length (lines expanded.text.items)
  pub within : All (IsLine (length (lines source))) expanded.lines.items

-- The result is the source, and each of its lines is of itself.
pub record IsSame {A : Type 0} (source : List ℕ) (expanded : Expanded A) : Type 0 where
  pub text : expanded.text.items ≡ source
  pub count : length expanded.lines.items ≡ length (lines source)
  pub each : (k : ℕ) → k < length (lines source) → get_or expanded.lines.items k 0 ≡ k + 1

-- the lines above the first one with a directive
abbrev pub lines_above : List (List ℕ) → List (List ℕ)
lines_above [] = []
lines_above (line ∷ others) = if has_directives line then [] else line ∷ lines_above others

-- lines, the first of which are these
abbrev pub BeginWith : List (List ℕ) → List (List ℕ) → Type 0
BeginWith first all = (others : List (List ℕ)) × (all ≡ first ++ others)

-- The lines above the first one with a directive stand at the head of the result, each as it is,
-- and of itself.
pub record KeepsAbove {A : Type 0} (source : List ℕ) (expanded : Expanded A) : Type 0 where
  pub head : BeginWith (lines_above (lines source)) (lines expanded.text.items)
  pub numbered : (k : ℕ) → k < length (lines_above (lines source))
      → get_or expanded.lines.items k 0 ≡ k + 1

-- What is made so far: a line feed stands between two lines, and each is of one of so many lines.
pub record IsMade {A : Type 0} (total : ℕ) (expanded : Expanded A) : Type 0 where
  pub feeds : count_by is_line_feed expanded.text.items ≡ length expanded.lines.items - 1
  pub within : All (IsLine total) expanded.lines.items
