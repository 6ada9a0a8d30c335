use Rattle.std.proofs.Common.{◌≡◌, ◌+◌, [], length}
use Rattle.std.specs.List.{list_any}
use Rattle.std.specs.Option.{option_map_or}
use Rattle.rrs_asm_macros.specs.Directives.{begins_one}
use Rattle.rrs_asm_lines.specs.Lines.{lines}
use Rattle.rrs_asm_macros.proofs.scanning.begins_directive.Given as goal

-- no line before begins with a directive
abbrev pub invariant-loop-rest : goal.invariant-loop-rest
invariant-loop-rest l =
    list_any begins_one (lines l.text) ≡ list_any begins_one (option_map_or (λ rest. lines rest.now) l.rest [])

abbrev pub decreases-loop-rest : goal.decreases-loop-rest
decreases-loop-rest l = option_map_or (λ rest. length rest.now + 1) l.rest 0
