use Rattle.std.proofs.Common.{◌≡◌, drop}
use Rattle.rrs_asm_lines.specs.Lines.{behind_blanks}
use Rattle.rrs_asm_lines.proofs.lexing.behind_blanks.Given as goal

-- what was read is blank
abbrev pub invariant-loop-index : goal.invariant-loop-index
invariant-loop-index l = behind_blanks l.text ≡ behind_blanks (drop l.index l.text)
