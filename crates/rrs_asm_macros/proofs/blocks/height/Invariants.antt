use Rattle.std.proofs.Common.{◌≡◌, ◌+◌, take, count_by}
use Rattle.rrs_asm_lines.specs.Lines.{is_line_feed}
use Rattle.rrs_asm_macros.proofs.blocks.height.Given as goal

-- a line more than the line feeds before
abbrev pub invariant-loop-byte : goal.invariant-loop-byte
invariant-loop-byte l = l.count ≡ count_by is_line_feed (take l.byte-index l.text) + 1
