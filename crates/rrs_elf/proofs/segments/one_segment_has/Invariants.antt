use Rattle.std.proofs.Common.{◌≡◌, false}
use Rattle.rrs_elf.specs.Refusals.{one_has_address}
use Rattle.rrs_elf.proofs.segments.one_segment_has.Given as goal

-- none before has it
abbrev pub invariant-loop-index : goal.invariant-loop-index
invariant-loop-index l = one_has_address l.file l.index l.address ≡ false
