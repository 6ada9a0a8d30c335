use Rattle.std.proofs.Common.{◌≡◌, true, ◌^◌, ◌<◌, take}
use Rattle.std.specs.List.{list_all}
use Rattle.std.specs.Char.{is_ascii_digit}
use Rattle.rrs_cli.specs.Limits.{number_of_digits}
use Rattle.rrs_cli.proofs.limits.limit_of.Given as goal

-- the bytes so far are digits, and the number is theirs
abbrev pub invariant-loop-digit : goal.invariant-loop-digit
invariant-loop-digit l = record {
  digits : list_all is_ascii_digit (take l.digit-index l.digits) ≡ true;
  value : l.limit ≡ number_of_digits (take l.digit-index l.digits);
  bound : l.limit < 10 ^ l.digit-index;
}
