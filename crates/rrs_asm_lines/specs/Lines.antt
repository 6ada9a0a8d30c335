-- The lines of a source of assembly, the parts of a line, and the first word of a part (GNU
-- assembler manual, "Syntax": whitespace, comments, statements and labels). Which labels and
-- statements the parts are is not said here.
use Rattle.std.specs.Prelude.{ℕ, zero, suc, length, ◌+◌, Bool, false, not, ◌&&◌, ◌||◌, ◌==◌, nat_lt, if◌then◌else◌, List, [], ◌∷◌, ◌++◌, Option, Some, None}
use Rattle.std.specs.List.{slice_split}
use Rattle.std.specs.Str.{bytes_eq}
use Rattle.rrs_asm_lines.specs.declared.lexing.Place.{Place}
use Rattle.rrs_asm_lines.specs.declared.lexing.Mark.{Mark}
use Rattle.rrs_asm_lines.specs.declared.lexing.Part.{Part as Cut}

abbrev pub is_line_feed : ℕ → Bool
is_line_feed b = b == 10

-- the lines, cut at each line feed
abbrev pub lines : List ℕ → List (List ℕ)
lines source = slice_split is_line_feed source

-- ---- the parts of a line

-- What stands before a colon is a label, and what stands before a semicolon, a comment or the end
-- of the line is a statement.
pub data Part : Type 0 where
  Label : (text : List ℕ) → Part
  Statement : (text : List ℕ) → Part

-- with a text in front of the first part
abbrev pub onto : List ℕ → List Part → List Part
onto before [] = []
onto before (Part.Label text ∷ parts) = Part.Label (before ++ text) ∷ parts
onto before (Part.Statement text ∷ parts) = Part.Statement (before ++ text) ∷ parts

abbrev pub begins_with : ℕ → List ℕ → Bool
begins_with wanted [] = false
begins_with wanted (b ∷ bs) = b == wanted

-- What a byte means, before others. A colon, a semicolon, `#` and `//` mean something, unless they
-- stand in a string or a character constant.
abbrev pub mark_of : Place → ℕ → List ℕ → Mark
mark_of Place.Plain b others =
    if b == 58 then Mark.Colon
    else (if b == 59 then Mark.Semicolon
    else (if b == 35 || (b == 47 && begins_with 47 others) then Mark.Comment else Mark.Other))
mark_of _ b others = Mark.Other

-- Where the byte after one that means nothing stands. A string ends at a quotation mark, and a
-- character constant is one byte and an apostrophe. A backslash takes the next byte with it.
abbrev pub next : Place → ℕ → Place
next Place.Plain b =
    if b == 34 then Place.Text else (if b == 39 then Place.Character else Place.Plain)
next Place.Text b =
    if b == 92 then Place.TextEscape else (if b == 34 then Place.Plain else Place.Text)
next Place.TextEscape b = Place.Text
next Place.Character b = if b == 92 then Place.CharacterEscape else Place.CharacterEnd
next Place.CharacterEscape b = Place.CharacterEnd
next Place.CharacterEnd b = Place.Plain

-- where the byte after any other stands
abbrev pub behind : Mark → Place → ℕ → Place
behind Mark.Other place b = next place b
behind _ place b = Place.Plain

-- the parts of what begins with a byte, from those of what is after it
abbrev pub cut : Mark → ℕ → List Part → List Part
cut Mark.Colon b parts = Part.Label [] ∷ parts
cut Mark.Semicolon b parts = Part.Statement [] ∷ parts
cut Mark.Comment b parts = Part.Statement [] ∷ []
cut Mark.Other b parts = onto (b ∷ []) parts

abbrev pub parts_from : Place → List ℕ → List Part
parts_from place [] = Part.Statement [] ∷ []
parts_from place (b ∷ bs) =
    let mark = mark_of place b bs in cut mark b (parts_from (behind mark place b) bs)

-- the parts of a line
abbrev pub parts : List ℕ → List Part
parts line = parts_from Place.Plain line

-- a part, as it was cut
abbrev pub shown : Cut → Part
shown (Cut.Label text) = Part.Label text.now
shown (Cut.Statement text) = Part.Statement text.now

-- ---- the words of a part

-- a space, a tab and a carriage return
abbrev pub is_blank : ℕ → Bool
is_blank b = b == 32 || (b == 9 || b == 13)

abbrev pub is_between : ℕ → ℕ → ℕ → Bool
is_between low high b = nat_lt b (high + 1) && nat_lt low (b + 1)

-- letters, digits, `_`, `.` and `$`
abbrev pub is_in_word : ℕ → Bool
is_in_word b =
    is_between 97 122 b || (is_between 65 90 b || (is_between 48 57 b
    || (b == 95 || (b == 46 || b == 36))))

abbrev pub behind_blanks : List ℕ → List ℕ
behind_blanks [] = []
behind_blanks (b ∷ bs) = if is_blank b then behind_blanks bs else b ∷ bs

abbrev pub first_word : List ℕ → List ℕ
first_word [] = []
first_word (b ∷ bs) = if is_in_word b then b ∷ first_word bs else []

abbrev pub behind_first_word : List ℕ → List ℕ
behind_first_word [] = []
behind_first_word (b ∷ bs) = if is_in_word b then behind_first_word bs else b ∷ bs

-- a name is a word that does not begin with a digit
abbrev pub is_name : List ℕ → Bool
is_name [] = false
is_name (b ∷ bs) = not (is_between 48 57 b)

-- the word that a text begins with, and what follows it
abbrev pub word : List ℕ → List ℕ
word text = first_word (behind_blanks text)

abbrev pub behind_word : List ℕ → List ℕ
behind_word text = behind_first_word (behind_blanks text)

-- with a word before others, if there is one
abbrev pub with_word : List ℕ → List (List ℕ) → List (List ℕ)
with_word [] words = []
with_word (b ∷ bs) words = (b ∷ bs) ∷ words

abbrev pub words_from : ℕ → List ℕ → List (List ℕ)
words_from zero text = []
words_from (suc most) text = with_word (word text) (words_from most (behind_word text))

-- the words of a text, with blanks between them
abbrev pub words_of : List ℕ → List (List ℕ)
words_of text = words_from (length text) text

-- which of these words is a word, the first of them having this number
abbrev pub place_from : ℕ → List ℕ → List (List ℕ) → Option ℕ
place_from number wanted [] = None
place_from number wanted (w ∷ ws) =
    if bytes_eq w wanted then Some number else place_from (number + 1) wanted ws
