use Rattle.std.proofs.Common.{ap, ◌∙◌, lit<}
use Rattle.rrs_oracle.specs.Taking.{words_left}
use Rattle.rrs_oracle.proofs.Pieces.{words_cut, words_whole}
use Rattle.rrs_oracle.proofs.parsing.Words.next_word.Goals as goal

pub returns-in-Some : goal.returns-in-Some
returns-in-Some c =
    ap words_left c.in_ok-text.was ∙ words_cut _ _ _ (c.in-Some.ensures.byte (lit< tt) (λ w o found. found))

pub returns-in-None : goal.returns-in-None
returns-in-None c =
    ap words_left c.in_ok-text.was ∙ words_whole _ (c.in-None.ensures.byte (lit< tt) (λ w o found. found))
