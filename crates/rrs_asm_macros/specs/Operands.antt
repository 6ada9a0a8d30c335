-- Operands of a statement of macros, read from left to right (GNU assembler manual, "Whitespace"
-- and "Macros"). A blank means something between two words alone. The first mistake stays, and
-- nothing after it is read.
use Rattle.std.specs.Prelude.{◌≡◌, ℕ, ◌+◌, ◌-◌, ◌^◌, min, Bool, true, false, ◌&&◌, ◌||◌, ◌==◌, nat_lt, if◌then◌else◌, List, [], ◌∷◌, drop, length, Option, Some, None, unwrap_or}
use Rattle.rrs_asm_lines.specs.Lines.{is_in_word, behind_blanks}
use Rattle.rrs_asm_macros.specs.declared.cursor.Cursor.{Cursor}
use Rattle.rrs_asm_macros.specs.declared.errors.Halt.{Halt}
use Rattle.rrs_asm_macros.specs.declared.errors.MacroErrorKind.{MacroErrorKind}
use Rattle.rrs_asm_macros.specs.declared.errors.Slip.{Slip}

-- a number of 64 bits stays at the greatest
abbrev pub capped : ℕ → ℕ
capped n = min n (2 ^ 64 - 1)

-- a blank between two bytes means something
abbrev pub keeps_blank : ℕ → ℕ → Bool
keeps_blank before after = (is_in_word before || before == 34)
    && (is_in_word after || (after == 34 || (after == 39 || after == 92)))

-- The next byte and what is after it, where a byte stands before: no blank that means nothing.
abbrev pub first_byte : ℕ → Bool → List ℕ → Option (ℕ × List ℕ)
first_byte before behind_blank [] = None
first_byte before behind_blank (b ∷ bs) =
    if behind_blank && keeps_blank before b then Some (32, b ∷ bs) else Some (b, bs)

abbrev pub next_byte : ℕ → List ℕ → Option (ℕ × List ℕ)
next_byte before rest = let after = behind_blanks rest in
    first_byte before (nat_lt (length after) (length rest)) after

-- what is after a mark of one byte, which may stand after blanks
abbrev pub behind_mark : List ℕ → List ℕ
behind_mark rest = drop 1 (behind_blanks rest)

-- what is after the apostrophe that may end a character constant
abbrev pub behind_apostrophe : List ℕ → List ℕ
behind_apostrophe [] = []
behind_apostrophe (b ∷ bs) = if b == 39 then bs else b ∷ bs

-- a mistake, where memory is not missing
abbrev pub is_slip : Option Halt → Bool
is_slip (Some (Halt.Slip slip)) = true
is_slip _ = false

-- a mistake at this place, after blanks
abbrev pub slip_at : List ℕ → ℕ → MacroErrorKind → Slip
slip_at rest behind kind = record {
  kind = kind;
  left = capped (length (behind_blanks rest) + behind);
}

-- The first mistake is kept, and nothing is left.
pub record Halts (old new : Cursor) (halt : Halt) : Type 0 where
  pub first : new.mistake ≡ Some (unwrap_or old.mistake halt)
  pub over : new.rest.now ≡ []
  pub behind_kept : new.behind ≡ old.behind

-- This is left, and the rest is as it was.
pub record Reads (old new : Cursor) (rest : List ℕ) : Type 0 where
  pub left : new.rest.now ≡ rest
  pub behind_kept : new.behind ≡ old.behind
  pub mistake_kept : new.mistake ≡ old.mistake
