use Rattle.std.proofs.Common.{◌+◌, length}
use Rattle.std.specs.Option.{option_map_or}
use Rattle.rrs_asm.specs.declared.assembling.Reading.{Reading}
use Rattle.rrs_asm_lines.specs.Lines.{parts}
use Rattle.rrs_asm.specs.Source.{items_of_parts}
use Rattle.rrs_asm.specs.Forms.{ReadsOn, left_in_line}
use Rattle.rrs_asm.proofs.assembling.read_line.Given as goal

-- who reads what is left, reads the line
abbrev pub invariant-loop-rest : goal.invariant-loop-rest
invariant-loop-rest g l = (end : Reading _) → ReadsOn (left_in_line l.number l.rest) l.reading end
    → ReadsOn (items_of_parts l.number (parts l.line)) l.fn.reading end

abbrev pub decreases-loop-rest : goal.decreases-loop-rest
decreases-loop-rest g l = option_map_or (λ rest. length rest.now + 1) l.rest 0
