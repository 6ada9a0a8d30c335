use Rattle.std.proofs.Common.{◌+◌, ◌≤◌, length}
use Rattle.std.specs.Option.{option_map_or}
use Rattle.rrs_asm.specs.declared.assembling.Reading.{Reading}
use Rattle.rrs_asm.specs.Source.{items_of}
use Rattle.rrs_asm.specs.Forms.{ReadsOn, left_in_source}
use Rattle.rrs_asm.proofs.assembling.read_source.Given as goal

-- Who reads what is left, reads the source. A line that was read has a byte at least.
abbrev pub invariant-loop-rest : goal.invariant-loop-rest
invariant-loop-rest g l =
    (option_map_or (λ rest. l.number + length rest.now) l.rest 0 ≤ length l.source)
    × ((end : Reading _) → ReadsOn (left_in_source (l.number + 1) l.rest) l.reading end
    → ReadsOn (items_of l.source) l.fn.reading end)

abbrev pub decreases-loop-rest : goal.decreases-loop-rest
decreases-loop-rest g l = option_map_or (λ rest. length rest.now + 1) l.rest 0
