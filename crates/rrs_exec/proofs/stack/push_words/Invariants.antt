use Rattle.std.proofs.Common.{◌≡◌, ◌++◌, drop}
use Rattle.rrs_exec.specs.InitialStack.{bytes_of_words}
use Rattle.rrs_exec.proofs.stack.push_words.Given as goal

abbrev pub invariant-loop-word : goal.invariant-loop-word
invariant-loop-word l =
    l.block.items ++ bytes_of_words (drop l.word-index l.words) ≡ l.initial.block.items ++ bytes_of_words l.words
