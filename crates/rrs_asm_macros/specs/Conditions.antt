-- Conditions (GNU assembler manual, ".if absolute expression"): what stands after `.if`, up to its
-- `.elseif`, `.else` or `.endif`, is read if the condition holds, and what stands after the others
-- if none before did. The value of an expression is a signed number of 64 bits.
use Rattle.std.specs.Prelude.{◌≡◌, ℕ, Bool, true, false, not, ◌&&◌, ◌||◌, ◌==◌, int_lt, List, [], ◌∷◌, ◌++◌, length, take, ◌-◌, slice_get, Option, Some}
use Rattle.std.specs.Int.{cast_signed, w64}
use Rattle.std.specs.Option.{option_map_or}
use Rattle.rrs_asm_macros.specs.declared.errors.MacroError.{MacroError}
use Rattle.rrs_asm_macros.specs.declared.directives.Comparison.{Comparison}
use Rattle.rrs_asm_macros.specs.declared.directives.Directive.{Directive}
use Rattle.rrs_asm_macros.specs.declared.directives.Test.{Test}
use Rattle.rrs_asm_macros.specs.declared.frames.Condition.{Condition}

abbrev pub is_below : ℕ → ℕ → Bool
is_below left right = int_lt (cast_signed w64 left) (cast_signed w64 right)

-- how two numbers compare
abbrev pub compares : Comparison → ℕ → ℕ → Bool
compares Comparison.Equal left right = left == right
compares Comparison.NotEqual left right = not (left == right)
compares Comparison.Less left right = is_below left right
compares Comparison.LessOrEqual left right = not (is_below right left)
compares Comparison.Greater left right = is_below right left
compares Comparison.GreaterOrEqual left right = not (is_below left right)

-- a condition none of whose parts is read so far, or is to be read any more
abbrev pub unread : MacroError → Bool → Condition
unread place is_done = record {
  place = place;
  is_read = false;
  is_done = is_done;
  is_behind_else = false;
}

-- Its next part is read if what it asks holds and no part before was to be read.
abbrev pub next_part : Condition → Bool → Bool → Condition
next_part condition holds is_else = record {
  place = condition.place;
  is_read = holds && not condition.is_done;
  is_done = holds || condition.is_done;
  is_behind_else = is_else;
}

-- The innermost of the conditions says whether a statement is read.
abbrev pub is_skipped : List Condition → Bool
is_skipped conditions =
    option_map_or (λ condition. not condition.is_read)
    (slice_get conditions (length conditions - 1)) false

-- the conditions around the innermost one
abbrev pub before_last : List Condition → List Condition
before_last conditions = take (length conditions - 1) conditions

abbrev pub is_end : Directive → Bool
is_end Directive.EndIf = true
is_end _ = false

abbrev pub is_else : Directive → Bool
is_else Directive.Else = true
is_else _ = false

-- something holds, where that is wanted, or does not
abbrev pub is_as : Bool → Bool → Bool
is_as holds true = holds
is_as holds false = not holds

-- `.ifb` and `.ifnb`
abbrev pub is_blank : Test → Bool
is_blank (Test.Blank wanted) = true
is_blank _ = false

-- The innermost is a new condition, whose first part is read if what it asks holds.
abbrev pub Begins : List Condition → MacroError → List Condition → Type 0
Begins old place new = (holds : Bool)
    × (new ≡ old ++ next_part (unread place false) holds false ∷ [])

-- `.else` has the next part read if none before was to be read, and `.elseif` if what it asks holds
-- too, which is not looked at where a part before was to be read.
pub record GoesOnWith (around : List Condition) (last : Condition) (is_behind_else : Bool)
    (new : List Condition) : Type 0 where
  pub other : is_behind_else ≡ true → new ≡ around ++ next_part last true true ∷ []
  pub done : is_behind_else ≡ false → last.is_done ≡ true
      → new ≡ around ++ next_part last false false ∷ []
  pub asked : is_behind_else ≡ false → last.is_done ≡ false
      → (holds : Bool) × (new ≡ around ++ next_part last holds false ∷ [])

-- A statement that is skipped, by the directive that it begins with, if it does: a condition is
-- skipped whole, `.elseif`, `.else` and `.endif` are of the innermost one, and another says nothing.
abbrev pub Skips : Option Directive → List Condition → List Condition → Type 0
Skips (Some (Directive.If test)) old new =
    (place : MacroError) × (new ≡ old ++ unread place true ∷ [])
Skips (Some Directive.EndIf) old new = new ≡ before_last old
Skips (Some Directive.Else) old new = (last : Condition)
    → slice_get old (length old - 1) ≡ Some last → GoesOnWith (before_last old) last true new
Skips (Some Directive.ElseIf) old new = (last : Condition)
    → slice_get old (length old - 1) ≡ Some last → GoesOnWith (before_last old) last false new
Skips _ old new = new ≡ old
