-- How far a text is read: the source, the lines of a macro that is called, or those of a repetition,
-- which are read once and then so many times more (GNU assembler manual, ".macro" and ".rept"). Its
-- lines are of the lines of the source from the first on, and after so many of them they are of
-- these again.
use Rattle.std.specs.Prelude.{◌≡◌, ℕ, zero, suc, ◌+◌, ◌-◌, ◌%◌, ◌==◌, Bool, false, nat_le, if◌then◌else◌, List, [], length, drop, Option, Some, None, unwrap_or}
use Rattle.std.specs.Option.{option_map, option_and_then}
use Rattle.rrs_asm_macros.specs.declared.frames.Reader.{Reader}
use Rattle.rrs_asm_macros.specs.Operands.{capped}

-- what is left of a text from a place on, if there is one
abbrev pub rest_of : Option ℕ → List ℕ → Option (List ℕ)
rest_of next text =
    option_and_then (λ at. if nat_le at (length text) then Some (drop at text) else None) next

-- how many of its lines are after, where more of them are
abbrev pub passed_by : ℕ → ℕ → ℕ → ℕ
passed_by height passed lines = if height == 0 then 0 else capped (passed + lines) % height

-- So many lines are read, and so many bytes of the text are left, or none of it.
pub record GoesOn {A : Type 0} (old new : Reader A) (total : ℕ) (left : Option ℕ) (lines : ℕ)
    : Type 0 where
  pub next : new.next ≡ option_map (λ behind. total - behind) left
  pub same_line : lines ≡ 0 → (new.line_start ≡ old.line_start) × (new.passed ≡ old.passed)
  pub line_start : (n : ℕ) → lines ≡ suc n
      → new.line_start ≡ unwrap_or (option_map (λ behind. total - behind) left) total
  pub passed : (n : ℕ) → lines ≡ suc n → new.passed ≡ passed_by old.height old.passed lines
  pub first_kept : new.first ≡ old.first
  pub height_kept : new.height ≡ old.height
  pub copies_kept : new.copies ≡ old.copies
  pub conditions_kept : new.conditions ≡ old.conditions
  pub source_kept : new.is_source ≡ old.is_source

-- It is at its head, with no condition, and so many times more it is read.
pub record IsAtHead {A : Type 0} (new : Reader A) (first height copies : ℕ) : Type 0 where
  pub next : new.next ≡ Some 0
  pub line_start : new.line_start ≡ 0
  pub passed : new.passed ≡ 0
  pub first_is : new.first ≡ first
  pub height_is : new.height ≡ height
  pub copies_are : new.copies ≡ copies
  pub none : new.conditions.items ≡ []
  pub no_source : new.is_source ≡ false

-- It is read once more, one time less.
pub record BeginsAgain {A : Type 0} (old new : Reader A) : Type 0 where
  pub next : new.next ≡ Some 0
  pub line_start : new.line_start ≡ 0
  pub passed : new.passed ≡ 0
  pub first_kept : new.first ≡ old.first
  pub height_kept : new.height ≡ old.height
  pub one_less : old.copies ≡ new.copies + 1
  pub none : new.conditions.items ≡ []
  pub source_kept : new.is_source ≡ old.is_source

-- It is at its head, and is read some times more.
abbrev pub IsRepeated : {A : Type 0} → Reader A → ℕ → ℕ → Type 0
IsRepeated new first height = IsAtHead new first height new.copies
