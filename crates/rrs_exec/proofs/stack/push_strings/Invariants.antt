use Rattle.std.proofs.Common.{◌≡◌, ◌++◌, drop, map}
use Rattle.std.specs.String.{string_bytes}
use Rattle.rrs_exec.specs.InitialStack.{strings}
use Rattle.rrs_exec.proofs.stack.push_strings.Given as goal

abbrev pub invariant-loop-text : goal.invariant-loop-text
invariant-loop-text l =
    l.block.items ++ strings (map string_bytes (drop l.text-index l.texts))
    ≡ l.initial.block.items ++ strings (map string_bytes l.texts)
