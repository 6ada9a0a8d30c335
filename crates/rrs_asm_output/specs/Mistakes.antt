-- Where a mistake that is told stands, by the errors of its source.
use Rattle.std.specs.Prelude.{◌≡◌, ℕ, ◌-◌, List, Contains, get_or}
use Rattle.rrs_asm.specs.declared.errors.SourceError.{SourceError}
use Rattle.rrs_asm_output.specs.declared.mistakes.Mistake.{Mistake}

-- The number that a line has, where lines have these numbers, or else its own. Lines are counted
-- from 1.
abbrev pub line_in : List ℕ → ℕ → ℕ
line_in numbers line = get_or numbers (line - 1) line

-- It stands where an error does: in the line of that number, at its column.
pub record StandsAt {A : Type 0} (numbers : List ℕ) (error : SourceError) (told : Mistake A) : Type 0 where
  pub line : told.line ≡ line_in numbers error.line
  pub column : told.column ≡ error.column

-- It stands where one of these errors does.
abbrev pub IsOfOne : {A : Type 0} → List ℕ → List SourceError → Mistake A → Type 0
IsOfOne numbers errors told =
    (error : SourceError) × Contains errors error × StandsAt numbers error told
