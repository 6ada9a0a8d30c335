-- Parameters of macros and their arguments (GNU assembler manual, ".macro"): a parameter may have a
-- default, "`:req`" wants an argument that is not empty, and "`:vararg`" takes all that is left. An
-- argument is given by its place or by its name, and one with a name may not come before one
-- without.
use Rattle.std.specs.Prelude.{◌≡◌, ℕ, ◌+◌, ◌-◌, ◌*◌, ◌/◌, ◌%◌, ◌<◌, ◌≤◌, Bool, true, false, nat_lt, nat_le, not, ◌&&◌, ◌==◌, if◌then◌else◌, List, [], ◌∷◌, ◌++◌, length, slice_get, codes, Option, Some, None, Result, Ok, Err}
use Rattle.std.specs.List.{list_any}
use Rattle.std.specs.Str.{bytes_eq}
use Rattle.rrs_asm_macros.specs.declared.arguments.Kind.{Kind}
use Rattle.rrs_asm_macros.specs.declared.arguments.Parameter.{Parameter}
use Rattle.rrs_asm_macros.specs.declared.errors.MacroErrorKind.{MacroErrorKind}

-- a parameter has a name
abbrev pub named : {A : Type 0} → List ℕ → Parameter A → Bool
named name parameter = bytes_eq parameter.name.items name

-- one of them has
abbrev pub has_name : {A : Type 0} → List (Parameter A) → List ℕ → Bool
has_name parameters name = list_any (λ p. named name p) parameters

-- what a parameter takes, by the word after the colon
abbrev pub kind_of : List ℕ → Option Kind
kind_of word =
    if bytes_eq word (codes "req") then Some Kind.Required
    else (if bytes_eq word (codes "vararg") then Some Kind.Rest else None)

-- the parameter of an argument with no name, in its place after so many, or what is wrong with it
abbrev pub by_place : ℕ → ℕ → Bool → Result ℕ MacroErrorKind
by_place count next is_named =
    if is_named then Err MacroErrorKind.Mixed
    else (if nat_lt next count then Ok next else Err MacroErrorKind.Arguments)

-- a number below 256 in decimal
abbrev pub decimal_of : ℕ → List ℕ
decimal_of n =
    (if nat_le 100 n then (48 + n / 100) ∷ [] else [])
    ++ (if nat_le 10 n then (48 + n / 10 % 10) ∷ [] else []) ++ (48 + n % 10) ∷ []

-- What a string has after its first quotation mark, with the marks or without: a backslash takes
-- the next byte with it, and two quotation marks are one, which is kept as two with the marks. A
-- quotation mark was the last byte, or an escaping backslash was.
abbrev pub string_from : (keeps is_marked is_escaped : Bool) → List ℕ → List ℕ
string_from keeps is_marked is_escaped [] = []
string_from keeps true is_escaped (b ∷ bs) =
    if b == 34 then 34 ∷ string_from keeps false false bs else []
string_from keeps false is_escaped (b ∷ bs) =
    if b == 34 && not is_escaped
    then (if keeps then 34 ∷ string_from keeps true false bs else string_from keeps true false bs)
    else b ∷ string_from keeps false (b == 92 && not is_escaped) bs

-- what stands after a string
abbrev pub behind_string : (is_marked is_escaped : Bool) → List ℕ → List ℕ
behind_string is_marked is_escaped [] = []
behind_string true is_escaped (b ∷ bs) =
    if b == 34 then behind_string false false bs else b ∷ bs
behind_string false is_escaped (b ∷ bs) =
    if b == 34 && not is_escaped then behind_string true false bs
    else behind_string false (b == 92 && not is_escaped) bs
