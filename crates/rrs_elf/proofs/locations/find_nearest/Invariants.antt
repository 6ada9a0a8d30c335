use Rattle.rrs_elf.specs.Symbols.{IsNearestBelow}
use Rattle.rrs_elf.proofs.locations.find_nearest.Given as goal

-- the nearest of those before
abbrev pub invariant-loop-index : goal.invariant-loop-index
invariant-loop-index l = IsNearestBelow l.file l.table l.address l.index l.best
