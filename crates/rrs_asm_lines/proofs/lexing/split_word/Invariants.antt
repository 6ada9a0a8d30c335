use Rattle.std.proofs.Common.{◌≡◌, ◌++◌, take, drop}
use Rattle.rrs_asm_lines.specs.Lines.{first_word, behind_first_word}
use Rattle.rrs_asm_lines.proofs.lexing.split_word.Given as goal

-- what was read stands in the word
abbrev pub invariant-loop-index : goal.invariant-loop-index
invariant-loop-index l =
    (first_word l.words ≡ take l.index l.words ++ first_word (drop l.index l.words))
    × (behind_first_word l.words ≡ behind_first_word (drop l.index l.words))
