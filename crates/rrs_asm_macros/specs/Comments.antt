-- Block comments (GNU assembler manual, "Comments"): "Anything from `/*` through the next `*/` is a
-- comment", and "the usual line comment" goes up to the end of its line. Neither begins in a string
-- or a character constant.
use Rattle.std.specs.Prelude.{ℕ, Bool, true, false, not, ◌&&◌, ◌||◌, ◌==◌, if◌then◌else◌, List, [], ◌∷◌, codes}
use Rattle.rrs_asm_macros.specs.declared.comments.Spot.{Spot}

abbrev pub is_hidden : Spot → Bool
is_hidden Spot.Opened = true
is_hidden Spot.Block = true
is_hidden Spot.Star = true
is_hidden _ = false

-- where the byte after one stands that stands in nothing and is no line feed, before another
abbrev pub plain_behind : ℕ → ℕ → Spot
plain_behind b next =
    if b == 34 then Spot.Text
    else (if b == 39 then Spot.Character
    else (if b == 35 || (b == 47 && next == 47) then Spot.Line
    else (if b == 47 && next == 42 then Spot.Opened else Spot.Plain)))

-- where the byte after one stands that is no line feed: a string ends at a quotation mark, and a
-- backslash takes the next byte with it
abbrev pub behind_other : Spot → ℕ → ℕ → Spot
behind_other Spot.Plain b next = plain_behind b next
behind_other Spot.Text b next =
    if b == 92 then Spot.TextEscape else (if b == 34 then Spot.Plain else Spot.Text)
behind_other Spot.TextEscape b next = Spot.Text
behind_other Spot.Character b next = if b == 92 then Spot.CharacterEscape else Spot.CharacterEnd
behind_other Spot.CharacterEscape b next = Spot.CharacterEnd
behind_other Spot.CharacterEnd b next = if b == 39 then Spot.Plain else plain_behind b next
behind_other spot b next = Spot.Line

-- where the byte after one stands, before another
abbrev pub behind : Spot → ℕ → ℕ → Spot
behind Spot.Opened b next = Spot.Block
behind Spot.Block b next = if b == 42 then Spot.Star else Spot.Block
behind Spot.Star b next =
    if b == 42 then Spot.Star else (if b == 47 then Spot.Plain else Spot.Block)
behind spot b next = if b == 10 then Spot.Plain else behind_other spot b next

-- a byte, or a blank in the place of one in a block comment; a line feed stays
abbrev pub shown : Spot → Spot → ℕ → ℕ
shown spot after b = if not (b == 10) && (is_hidden spot || is_hidden after) then 32 else b

abbrev pub next_of : List ℕ → ℕ
next_of [] = 0
next_of (b ∷ bs) = b

-- A text from a place on, with blanks for its block comments. One that does not end stays as it
-- begins, at the end.
abbrev pub without_from : Spot → List ℕ → List ℕ
without_from spot [] = if is_hidden spot then codes "/*" else []
without_from spot (b ∷ bs) =
    let after = behind spot b (next_of bs) in shown spot after b ∷ without_from after bs

-- a source with blanks for its block comments
abbrev pub without_comments : List ℕ → List ℕ
without_comments source = without_from Spot.Plain source
