-- Words none of which is there are zeros.
use Rattle.std.proofs.Common.{ap, ◌∙◌, replicate}
use Rattle.rrs_board.specs.Ram.{padded}
use Rattle.rrs_board.proofs.PaddedWords.{padded_none}
use Rattle.rrs_board.proofs.memory.Ram.new.Goals as goal

pub returns : goal.returns
returns c =
    let words = c.in_ok-words.words in
    ap (λ xs. padded words.room xs) c.in_ok-words.ensures.zeros ∙ padded_none words.room ∙ ap (λ n. replicate n 0) c.in_ok-words.ensures.room
