-- What the private functions that look at lines say. No public contract cites these.
use Rattle.std.specs.Prelude.{◌≡◌, ℕ, ◌+◌, ◌<◌, ◌≤◌, true, false, List, ◌∷◌, Some, length, map}
use Rattle.std.specs.Prelude.{take, drop}
use Rattle.std.specs.Borrow.{Bor}
use Rattle.rrs_asm_macros.specs.Directives.{has_directives}
use Rattle.rrs_asm_macros.specs.Expansion.{count, is_end, copied, IsOther, Expands, ExpandsFirst}
use Rattle.rrs_asm_macros.specs.declared.repeating.LineKind.{LineKind}
use Rattle.rrs_asm_macros.specs.declared.repeating.LineKind.TheVariants.{Plain, Repeat, End, Other}
use Rattle.rrs_asm_macros.specs.declared.following.Reach.{Reach}
use Rattle.rrs_asm_macros.specs.declared.following.Reach.TheVariants.{All, Up, Unsaid, Different}

-- a line is of a kind
abbrev pub IsKind : List ℕ → LineKind → Type 0
IsKind line Plain = has_directives line ≡ false
IsKind line (Repeat copies) = count line ≡ Some copies
IsKind line End = is_end line ≡ true
IsKind line Other = IsOther line

abbrev pub texts : List (Bor (List ℕ)) → List (List ℕ)
texts rows = map (λ row. row.now) rows

-- the first lines are so many copies of the first of them
abbrev pub AreCopies : List (Bor (List ℕ)) → ℕ → ℕ → ℕ → Type 0
AreCopies made size copies total = (total ≤ length made)
    × (texts (take total made) ≡ copied copies (texts (take size made)))

-- the line with this index is an end
abbrev pub EndsAt : List (Bor (List ℕ)) → ℕ → Type 0
EndsAt rows row = (end : List ℕ) × (is_end end ≡ true)
    × (texts (drop row rows) ≡ end ∷ texts (drop (row + 1) rows))

-- How far lines become others: all of them so many, or those before an end.
abbrev pub Reaches : List (Bor (List ℕ)) → List (Bor (List ℕ)) → Reach → Type 0
Reaches rows made (All at) = (at ≤ length made) × Expands (texts rows) (texts (take at made))
Reaches rows made (Up row at) = (row < length rows) × (at ≤ length made)
    × EndsAt rows row × Expands (texts (take row rows)) (texts (take at made))
Reaches rows made Unsaid = ExpandsFirst (texts rows) (texts made)
Reaches rows made Different = Unit {0}
