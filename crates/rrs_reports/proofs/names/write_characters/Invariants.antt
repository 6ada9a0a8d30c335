use Rattle.std.proofs.Common.{◌≡◌, ℕ, List, ◌++◌, IsUtf8}
use Rattle.std.specs.Fmt.{HasWritten, IsPlainFormatter}
use Rattle.std.specs.Str.Iter.{chars_rest}
use Rattle.rrs_reports.specs.ShownNames.{shown_characters}
use Rattle.rrs_reports.proofs.names.write_characters.Given as goal

abbrev pub invariant-loop-character : goal.invariant-loop-character
invariant-loop-character g l =
    IsUtf8 (chars_rest l.character-iterator)
    × (IsPlainFormatter l.fn.f → (done : List ℕ) × HasWritten g.W.Write.write_str_gives l.fn.f done l.f
    × (done ++ shown_characters (chars_rest l.character-iterator) ≡ shown_characters l.fn.text))
