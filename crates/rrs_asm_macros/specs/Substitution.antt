-- A macro's body with arguments in the places of its parameters (GNU assembler manual, ".macro"):
-- "`\name`" stands for the value of the parameter with this name, which is its default where the
-- argument is empty, "`\@`" for the number of the call, and "`\()`" for nothing.
use Rattle.std.specs.Prelude.{◌≡◌, ℕ, ◌+◌, Bool, true, false, ◌||◌, ◌==◌, if◌then◌else◌, List, [], ◌∷◌, slice_get, Option, Some, None, Vec}
use Rattle.std.specs.List.{HoldsAt}
use Rattle.std.specs.Option.{option_map, option_and_then}
use Rattle.rrs_asm_lines.specs.Lines.{is_between, word}
use Rattle.rrs_asm_macros.specs.Arguments.{named}
use Rattle.rrs_asm_macros.specs.declared.arguments.Parameter.{Parameter}

-- an argument, or the default where it is empty
abbrev pub or_default : List ℕ → List ℕ → List ℕ
or_default [] default = default
or_default (b ∷ bs) default = b ∷ bs

-- the value of the parameter in a place
abbrev pub value_at : {A : Type 0} → List (Parameter A) → List (Vec ℕ A) → ℕ → Option (List ℕ)
value_at parameters values i =
    option_and_then (λ p. option_map (λ v. or_default v.items p.default.items) (slice_get values i))
    (slice_get parameters i)

-- a text is the value of the parameter with a name
abbrev pub IsValue : {A : Type 0} → List (Parameter A) → List (Vec ℕ A) → List ℕ → List ℕ → Type 0
IsValue parameters values name text = (i : ℕ) × HoldsAt (λ p. named name p ≡ true) parameters i
    × (value_at parameters values i ≡ Some text)

-- the name after a backslash
abbrev pub begins_name : ℕ → Bool
begins_name b =
    is_between 97 122 b || (is_between 65 90 b || (b == 95 || (b == 46 || b == 36)))

abbrev pub name_after : List ℕ → List ℕ
name_after [] = []
name_after (b ∷ bs) = if begins_name b then word (b ∷ bs) else []

-- what stands in the parentheses after a backslash, and how many bytes these are with it
abbrev pub in_parentheses : List ℕ → List ℕ
in_parentheses [] = []
in_parentheses (b ∷ bs) = if b == 41 then [] else b ∷ in_parentheses bs

abbrev pub size_with : List ℕ → ℕ
size_with [] = 2
size_with (b ∷ bs) = if b == 41 then 3 else size_with bs + 1
