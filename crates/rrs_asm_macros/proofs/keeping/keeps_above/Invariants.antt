use Rattle.std.proofs.Common.{◌≡◌, ℕ, ◌+◌, ◌<◌, List, [], ◌++◌, length, get_or}
use Rattle.std.specs.Option.{option_map_or}
use Rattle.rrs_asm_lines.specs.Lines.{lines}
use Rattle.rrs_asm_macros.specs.Lines.{lines_above, BeginWith}
use Rattle.rrs_asm_macros.proofs.keeping.keeps_above.Given as goal

-- what the lines that are left keep, all keep; and those before are numbered
abbrev pub invariant-loop-left : goal.invariant-loop-left
invariant-loop-left g l = record {
  head : (others : List (List ℕ)) →
      option_map_or (λ text. lines text.now) l.made [] ≡ lines_above (option_map_or (λ text. lines text.now) l.left []) ++ others
      → BeginWith (lines_above (lines l.source)) (lines l.expanded.text.items);
  counted : l.number + length (lines_above (option_map_or (λ text. lines text.now) l.left [])) ≡ length (lines_above (lines l.source));
  numbered : (k : ℕ) → k < l.number → get_or l.expanded.lines.items k 0 ≡ k + 1;
}

abbrev pub decreases-loop-left : goal.decreases-loop-left
decreases-loop-left g l = option_map_or (λ text. length text.now + 1) l.left 0
