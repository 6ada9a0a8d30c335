use Rattle.std.proofs.Common.{◌≡◌, length}
use Rattle.rrs_oracle.specs.Questions.{registers_of}
use Rattle.rrs_oracle.proofs.Lists.{registers_from}
use Rattle.rrs_oracle.proofs.parsing.registers_of.Given as goal

-- the registers so far, and then those of the other entries
abbrev pub invariant-loop-entry : goal.invariant-loop-entry
invariant-loop-entry l = registers_of l.fn.text ≡ registers_from l.fn.text l.least l.registers (length l.yielded)
