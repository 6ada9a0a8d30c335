use Rattle.std.proofs.Common.{◌≡◌, length, drop}
use Rattle.rrs_asm_lines.specs.Lines.{words_from, words_of, place_from}
use Rattle.rrs_asm_lines.proofs.lexing.place_among.Given as goal

-- none of the words before is the one that is wanted
abbrev pub invariant-loop-index : goal.invariant-loop-index
invariant-loop-index l =
    place_from 0 l.wanted (words_of l.words)
    ≡ place_from l.index l.wanted (words_from (length (drop l.index l.words)) l.rest)
