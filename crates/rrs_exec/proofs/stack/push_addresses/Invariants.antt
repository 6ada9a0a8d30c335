use Rattle.std.proofs.Common.{◌≡◌, ◌+◌, ◌++◌, drop, length, map}
use Rattle.std.specs.String.{string_bytes}
use Rattle.rrs_exec.specs.InitialStack.{bytes_of_words, addresses, strings}
use Rattle.rrs_exec.proofs.stack.push_addresses.Given as goal

abbrev pub invariant-loop-text : goal.invariant-loop-text
invariant-loop-text l = record {
  pushed : l.block.items ++ bytes_of_words (addresses l.address (map string_bytes (drop l.text-index l.texts)))
      ≡ l.initial.block.items ++ bytes_of_words (addresses l.start (map string_bytes l.texts));
  within : l.address + length (strings (map string_bytes (drop l.text-index l.texts)))
      ≡ l.start + length (strings (map string_bytes l.texts));
}
