use Rattle.std.proofs.Common.{◌≡◌, length}
use Rattle.rrs_oracle.specs.Questions.{memory_of}
use Rattle.rrs_oracle.proofs.Lists.{words_from}
use Rattle.rrs_oracle.proofs.parsing.memory_of.Given as goal

-- the words so far, and then those that the other entries are
abbrev pub invariant-loop-entry : goal.invariant-loop-entry
invariant-loop-entry l = memory_of l.fn.text ≡ words_from l.fn.text l.memory.items (length l.yielded)
