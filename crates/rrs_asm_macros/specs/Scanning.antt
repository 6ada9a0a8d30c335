-- Where a byte of a statement stands (GNU assembler manual, "Strings", "Characters", "Comments"). A
-- string ends at a quotation mark, a character constant is one byte after an apostrophe, and may
-- have another after it, and a backslash takes the next byte with it. A comment begins before its
-- first byte, and goes on up to the end of the line.
use Rattle.std.specs.Prelude.{ℕ, zero, suc, Bool, true, false, ◌&&◌, ◌||◌, ◌==◌, not, List, [], ◌∷◌, if◌then◌else◌, length, take, ◌+◌, ◌-◌, Option, Some, None}
use Rattle.std.specs.Option.{option_map_or}
use Rattle.rrs_asm_lines.specs.Lines.{behind_blanks, behind_word, word}
use Rattle.rrs_asm_macros.specs.Directives.{directive_named, is_directive}
use Rattle.rrs_asm_macros.specs.declared.directives.Directive.{Directive}
use Rattle.rrs_asm_macros.specs.declared.scanning.Place.{Place}

abbrev pub is_slash : Option ℕ → Bool
is_slash None = false
is_slash (Some b) = b == 47

-- where the byte after one stands that stands in nothing, before another
abbrev pub plain_after : ℕ → Option ℕ → Place
plain_after b next =
    if b == 34 then Place.Text
    else (if b == 39 then Place.Character
    else (if b == 35 || (b == 47 && is_slash next) then Place.Comment else Place.Plain))

-- where the byte after one stands, before another
abbrev pub place_after : Place → ℕ → Option ℕ → Place
place_after Place.Plain b next = plain_after b next
place_after Place.Text b next =
    if b == 92 then Place.TextEscape else (if b == 34 then Place.Plain else Place.Text)
place_after Place.TextEscape b next = Place.Text
place_after Place.Character b next =
    if b == 92 then Place.CharacterEscape else Place.CharacterEnd
place_after Place.CharacterEscape b next = Place.CharacterEnd
place_after Place.CharacterEnd b next = if b == 39 then Place.Plain else plain_after b next
place_after Place.Comment b next = Place.Comment

-- a backslash and a name are a parameter everywhere but in a character constant
abbrev pub has_parameters : Place → Bool
has_parameters Place.Character = false
has_parameters Place.CharacterEscape = false
has_parameters _ = true

-- A label is a word that is no directive, before a colon.
abbrev pub label : List ℕ → List ℕ → Option (List ℕ × List ℕ)
label [] behind = None
label (c ∷ cs) [] = None
label (c ∷ cs) (b ∷ bs) =
    if b == 58 && not (is_directive (c ∷ cs)) then Some (c ∷ cs, bs) else None

-- the first label of a text, and what is after it
abbrev pub first_label : List ℕ → Option (List ℕ × List ℕ)
first_label text = label (word text) (behind_blanks (behind_word text))

-- a statement after its labels, of which there are no more than so many
abbrev pub behind_so_many : ℕ → List ℕ → List ℕ
behind_so_many zero code = code
behind_so_many (suc most) code =
    option_map_or (λ label. behind_so_many most label.1) (first_label code) code

abbrev pub behind_labels : List ℕ → List ℕ
behind_labels code = behind_so_many (length code) code

-- the directive of a statement
abbrev pub directive_of : List ℕ → Option Directive
directive_of code = directive_named (word (behind_labels code))

-- a statement ends at a line feed, and at a semicolon that stands in nothing
abbrev pub is_outside : Place → Bool
is_outside Place.Plain = true
is_outside Place.CharacterEnd = true
is_outside _ = false

abbrev pub ends_at : Place → ℕ → Bool
ends_at place b = b == 10 || (b == 59 && is_outside place)

abbrev pub is_comment : Place → Bool
is_comment Place.Comment = true
is_comment _ = false

abbrev pub first_of : List ℕ → Option ℕ
first_of [] = None
first_of (b ∷ bs) = Some b

-- the statement that a text begins with, without its comment
abbrev pub code_from : Place → List ℕ → List ℕ
code_from place [] = []
code_from place (b ∷ bs) =
    if ends_at place b || is_comment (place_after place b (first_of bs)) then []
    else b ∷ code_from (place_after place b (first_of bs)) bs

-- what is after it
abbrev pub others_from : Place → List ℕ → Option (List ℕ)
others_from place [] = None
others_from place (b ∷ bs) =
    if ends_at place b then Some bs else others_from (place_after place b (first_of bs)) bs

-- it is the last of its line
abbrev pub ends_line_from : Place → List ℕ → Bool
ends_line_from place [] = true
ends_line_from place (b ∷ bs) =
    if ends_at place b then b == 10 else ends_line_from (place_after place b (first_of bs)) bs

-- what stands in a text before a statement of it, with its labels, where this is left of it
abbrev pub before : List ℕ → List ℕ → List ℕ → List ℕ
before text rest code =
    take (length text - length rest + (length code - length (behind_labels code))) text
