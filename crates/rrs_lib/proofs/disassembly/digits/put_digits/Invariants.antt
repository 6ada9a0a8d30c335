use Rattle.std.proofs.Common.{◌≡◌, ◌+◌, ◌^◌, ◌<◌, ◌≤◌, false, length, take, drop}
use Rattle.std.specs.Fmt.{digits, digits_onto}
use Rattle.rrs_lib.proofs.disassembly.digits.put_digits.Given as goal

-- the last digits are written, and what is left has no more than there are places
abbrev pub invariant-loop-place : goal.invariant-loop-place
invariant-loop-place l = record {
  within : l.place ≤ 8;
  long : length l.out ≡ 8;
  fits : l.rest < 16 ^ l.place;
  more : l.place < 8 → 0 < l.rest;
  written : digits_onto (56 + l.place) 16 false l.rest (drop l.place l.out) ≡ digits 16 false l.word;
  front : take l.place l.out ≡ take l.place l.fn.out;
}

abbrev pub decreases-loop-place : goal.decreases-loop-place
decreases-loop-place l = l.place
