use Rattle.std.proofs.Common.{◌≡◌, ◌<◌, drop}
use Rattle.rrs_asm_macros.specs.Expansion.{decimal}
use Rattle.rrs_asm_macros.proofs.repeating.decimal.Given as goal

-- what is left is after digits of this value
abbrev pub invariant-loop-byte : goal.invariant-loop-byte
invariant-loop-byte l = record {
  left : decimal 0 l.word ≡ decimal l.value (drop l.byte-index l.word);
  small : l.value < 1000000000;
}
