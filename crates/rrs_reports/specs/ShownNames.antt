-- How the name of a symbol, a section or a file is shown, which may be any bytes: so that no
-- control character of it is written, and no line begins in it. A control character of ASCII is
-- written as readelf writes it, in caret notation: ^ and the character that is 64 above it.
use Rattle.std.specs.Prelude.{ℕ, ◌+◌, ◌==◌, ◌&&◌, nat_le, nat_lt, if◌then◌else◌, List, [], ◌++◌, length, take, flat_map, chars, codes}
use Rattle.std.specs.Str.{is_utf8}
use Rattle.std.specs.Char.{encode_utf8}
use Rattle.rrs_lib.specs.Texts.{hexadecimal}

-- a number that is shown by its digits, as {0x9b}
abbrev pub in_braces : ℕ → List ℕ
in_braces n = codes "{0x" ++ hexadecimal 2 n ++ codes "}"

-- a character: those below 32, 127, and those from 128 to 159 are control characters
abbrev pub shown_character : ℕ → List ℕ
shown_character c =
    if nat_lt c 32 then codes "^" ++ encode_utf8 (c + 64)
    else if c == 127 then codes "^?"
    else if nat_le 128 c && nat_lt c 160 then in_braces c
    else encode_utf8 c

abbrev pub shown_characters : List ℕ → List ℕ
shown_characters text = flat_map shown_character (chars text)

-- a byte of what is no text
abbrev pub shown_byte : ℕ → List ℕ
shown_byte b = if nat_lt b 128 then shown_character b else in_braces b

abbrev pub shown_bytes : List ℕ → List ℕ
shown_bytes bytes = flat_map shown_byte bytes

-- bytes, which are UTF-8 or not
abbrev pub shown_front : List ℕ → List ℕ
shown_front bytes = if is_utf8 bytes then shown_characters bytes else shown_bytes bytes

-- what stands after the first 1,024 bytes of a name
abbrev pub shown_end : List ℕ → List ℕ
shown_end name = if nat_lt 1024 (length name) then codes "[...]" else []

abbrev pub shown_name : List ℕ → List ℕ
shown_name name = shown_front (take 1024 name) ++ shown_end name
