use Rattle.std.proofs.Common.{◌≡◌, false, take, All, not}
use Rattle.rrs_asm_lines.specs.Lines.{is_in_word}
use Rattle.rrs_asm_macros.proofs.words.first_word.Given as goal

-- each byte before stands in a name
abbrev pub invariant-loop-index : goal.invariant-loop-index
invariant-loop-index l = All (λ b. not (is_in_word b) ≡ false) (take l.index l.text)
