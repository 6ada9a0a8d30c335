use Rattle.std.proofs.Common.{◌≡◌, take, count_by}
use Rattle.rrs_asm_lines.specs.Lines.{is_line_feed}
use Rattle.rrs_asm_lines.proofs.lexing.first_line.Given as goal

-- no line feed stands before
abbrev pub invariant-loop-index : goal.invariant-loop-index
invariant-loop-index l = count_by is_line_feed (take l.index l.source) ≡ 0
