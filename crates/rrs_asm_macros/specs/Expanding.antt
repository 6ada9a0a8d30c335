-- A source while it is expanded: what is being read, the innermost text last, and the mistakes so
-- far. GNU `as` tells a mistake at the line that it is met on, and goes on; here no more than 20 are
-- told, the first of them, and none after one that says that too much is made.
use Rattle.std.specs.Prelude.{◌≡◌, ◌⊎◌, ℕ, ◌+◌, ◌<◌, ◌≤◌, Bool, true, false, List, [], ◌∷◌, ◌++◌, ◌-◌, length, slice_get, Option}
use Rattle.rrs_asm_macros.specs.declared.errors.MacroError.{MacroError}
use Rattle.rrs_asm_macros.specs.declared.errors.MacroFault.{MacroFault}
use Rattle.rrs_asm_macros.specs.declared.expanding.Expansion.{Expansion}
use Rattle.rrs_asm_macros.specs.declared.frames.Condition.{Condition}
use Rattle.rrs_asm_macros.specs.declared.frames.Frame.{Frame}
use Rattle.rrs_asm_macros.specs.declared.frames.Reader.{Reader}
use Rattle.rrs_asm_macros.specs.Mistakes.{is_last}
use Rattle.rrs_asm_macros.specs.Operands.{capped}

-- the line of the source that is read
abbrev pub line_of : {A : Type 0} → Reader A → ℕ
line_of reader = capped (reader.first + reader.passed)

-- memory is missing, and nothing more is read
pub record IsShort {A : Type 0} (old new : Expansion A) : Type 0 where
  pub short : new.is_short ≡ true
  pub over : new.is_over ≡ true
  pub mistakes_kept : new.mistakes.items ≡ old.mistakes.items

-- A text is read next.
pub record Enters {A : Type 0} (old new : Expansion A) (frame : Frame A) : Type 0 where
  pub innermost : new.frames.items ≡ old.frames.items ++ frame ∷ []
  pub mistakes_kept : new.mistakes.items ≡ old.mistakes.items
  pub over_kept : new.is_over ≡ old.is_over
  pub short_kept : new.is_short ≡ old.is_short

-- A mistake is the last of those that are told.
pub record Tells {A : Type 0} (old new : Expansion A) (mistake : MacroError) : Type 0 where
  pub told : new.mistakes.items ≡ old.mistakes.items ++ mistake ∷ []
  pub frames_kept : new.frames ≡ old.frames
  pub short_kept : new.is_short ≡ old.is_short
  pub last : is_last mistake.kind ≡ true → new.is_over ≡ true
  pub most : 20 ≤ length new.mistakes.items → new.is_over ≡ true
  pub goes_on : is_last mistake.kind ≡ false → length new.mistakes.items < 20
      → new.is_over ≡ old.is_over

-- one mistake more is told, or memory is missing
abbrev pub TellsOne : {A : Type 0} → Expansion A → Expansion A → MacroError → Type 0
TellsOne old new mistake =
    (new.mistakes.items ≡ old.mistakes.items ++ mistake ∷ []) ⊎ (new.is_short ≡ true)

-- the innermost condition
abbrev pub last_of : List Condition → Option Condition
last_of conditions = slice_get conditions (length conditions - 1)

-- from 1 to 20 mistakes
abbrev pub AreTold : {A : Type 0} → MacroFault A → Type 0
AreTold (MacroFault.Mistakes mistakes) =
    (1 ≤ length mistakes.items) × (length mistakes.items ≤ 20)
AreTold MacroFault.OutOfMemory = Unit {0}

-- these mistakes are told, or memory is missing
abbrev pub AreThese : {A : Type 0} → List MacroError → MacroFault A → Type 0
AreThese told (MacroFault.Mistakes mistakes) = mistakes.items ≡ told
AreThese told MacroFault.OutOfMemory = Unit {0}

-- At most 20 mistakes are told, and fewer where more is read.
pub record IsWithin {A : Type 0} (expansion : Expansion A) : Type 0 where
  pub most : length expansion.mistakes.items ≤ 20
  pub fewer : expansion.is_over ≡ false → length expansion.mistakes.items < 20
