-- The digits so far, and their number.
use Rattle.std.proofs.Common.{◌≡◌, ◌<◌, ◌^◌, take}
use Rattle.std.specs.Str.Parse.{AllDigits, digits_value}
use Rattle.rrs_gdb.proofs.numbers.decimal_of.Given as goal

abbrev pub invariant-loop-digit : goal.invariant-loop-digit
invariant-loop-digit l =
    AllDigits 10 (take l.digit-index l.digits) × (l.number ≡ digits_value 10 (take l.digit-index l.digits))
    × (l.number < 2 ^ 64)
