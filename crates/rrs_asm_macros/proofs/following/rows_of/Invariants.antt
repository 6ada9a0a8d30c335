use Rattle.std.proofs.Common.{◌≡◌, ◌+◌, ◌++◌, [], length}
use Rattle.std.specs.Option.{option_map_or}
use Rattle.rrs_asm_macros.specs.Forms.{texts}
use Rattle.rrs_asm_lines.specs.Lines.{lines}
use Rattle.rrs_asm_macros.proofs.following.rows_of.Given as goal

-- the lines so far, and those that are left
abbrev pub invariant-loop-rest : goal.invariant-loop-rest
invariant-loop-rest g l = lines l.text ≡ texts l.rows.items ++ option_map_or (λ rest. lines rest.now) l.rest []

abbrev pub decreases-loop-rest : goal.decreases-loop-rest
decreases-loop-rest g l = option_map_or (λ rest. length rest.now + 1) l.rest 0
