use Rattle.std.proofs.Common.{◌≡◌, ◌+◌, [], length}
use Rattle.std.specs.List.{list_any}
use Rattle.std.specs.Option.{option_map_or}
use Rattle.rrs_asm_macros.specs.Directives.{is_directive, words}
use Rattle.rrs_asm_macros.proofs.words.has_directives.Given as goal

-- no word before is a directive
abbrev pub invariant-loop-rest : goal.invariant-loop-rest
invariant-loop-rest l =
    list_any is_directive (words l.text) ≡ list_any is_directive (option_map_or (λ rest. words rest.now) l.rest [])

abbrev pub decreases-loop-rest : goal.decreases-loop-rest
decreases-loop-rest l = option_map_or (λ rest. length rest.now + 1) l.rest 0
