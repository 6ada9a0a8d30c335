use Rattle.std.proofs.Common.{◌≡◌, ◌^◌, ◌<◌, drop}
use Rattle.rrs_oracle.specs.Numerals.{digits_after}
use Rattle.rrs_oracle.proofs.numerals.number.Given as goal

abbrev pub invariant-loop-byte : goal.invariant-loop-byte
invariant-loop-byte l =
    (l.value < l.base ^ l.byte-index)
    × (digits_after l.base (drop l.byte-index l.digits) l.value ≡ digits_after l.base l.digits 0)
