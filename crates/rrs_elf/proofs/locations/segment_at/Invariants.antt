use Rattle.std.proofs.Common.{◌≡◌, None}
use Rattle.rrs_elf.specs.Symbols.{segment_below}
use Rattle.rrs_elf.proofs.locations.segment_at.Given as goal

-- none before has it
abbrev pub invariant-loop-index : goal.invariant-loop-index
invariant-loop-index l = segment_below l.file l.address l.index ≡ None
