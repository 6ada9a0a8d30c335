use Rattle.std.proofs.Common.{◌≡◌, ◌+◌, ◌<◌, ◌^◌, drop, length, map}
use Rattle.std.specs.String.{string_bytes}
use Rattle.rrs_exec.specs.InitialStack.{strings}
use Rattle.rrs_exec.proofs.stack.string_length.Given as goal

abbrev pub invariant-loop-text : goal.invariant-loop-text
invariant-loop-text l = record {
  counted : l.count + length (strings (map string_bytes (drop l.text-index l.texts)))
      ≡ length (strings (map string_bytes l.texts));
  low : l.count < 2 ^ 32;
}
