use Rattle.std.proofs.Common.{◌≡◌, ◌+◌, [], length}
use Rattle.std.specs.Prelude.{slice_get}
use Rattle.std.specs.Option.{option_map_or}
use Rattle.rrs_asm_lines.specs.Lines.{lines}
use Rattle.rrs_asm_macros.specs.Mistakes.{line_with}
use Rattle.rrs_asm_macros.proofs.errors.MacroError.word.Given as goal

-- the line is so many lines below what is left
abbrev pub invariant-loop-rest : goal.invariant-loop-rest
invariant-loop-rest l =
    line_with l.self.line l.source ≡ slice_get (option_map_or (λ rest. lines rest.now) l.rest []) l.above

abbrev pub decreases-loop-rest : goal.decreases-loop-rest
decreases-loop-rest l = option_map_or (λ rest. length rest.now + 1) l.rest 0
