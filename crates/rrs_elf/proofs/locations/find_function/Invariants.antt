use Rattle.std.proofs.Common.{◌≡◌, ℕ, ◌<◌, false}
use Rattle.rrs_elf.specs.Symbols.{covers}
use Rattle.rrs_elf.proofs.locations.find_function.Given as goal

-- none before has it
abbrev pub invariant-loop-index : goal.invariant-loop-index
invariant-loop-index l = (n : ℕ) → n < l.index → covers l.file l.table n l.address ≡ false
