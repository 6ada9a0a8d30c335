use Rattle.std.proofs.Common.{rules, ◌+◌, ◌/◌, ◌%◌, ◌∷◌, []}
use Rattle.std.proofs.lemmas.Str.{IsUtf8-from_ascii}
use Rattle.std.proofs.lemmas.Str.Ascii.{IsAscii-from_all}
use Rattle.rrs_lib.proofs.disassembly.push_register.Goals as goal

pub from_utf8_unchecked-requires : goal.from_utf8_unchecked-requires
from_utf8_unchecked-requires c =
    let name = 120 ∷ (48 + c.args.number) ∷ [] in
    IsUtf8-from_ascii name (IsAscii-from_all name (search rules))

pub from_utf8_unchecked-requires-then-number-lt100 :
    goal.from_utf8_unchecked-requires-then-number-lt100
from_utf8_unchecked-requires-then-number-lt100 c =
    let name = 120 ∷ (48 + c.args.number / 10) ∷ (48 + c.args.number % 10) ∷ [] in
    IsUtf8-from_ascii name (IsAscii-from_all name (search rules))
