use Rattle.rrs_extra.proofs.Faithful.{faithful, both_texts}
use Rattle.rrs_extra.proofs.SameWords.{words_faithful}
use Rattle.rrs_extra.proofs.laws.texts.both_texts.Goals as goal

pub returns-clause-faithful : goal.returns-clause-faithful
returns-clause-faithful c =
    both_texts c.args.insn_pc c.args.first c.args.second _ (words_faithful _ _ _) _ _ c.text_at.ensures.text c.text_at-2.ensures.text

pub returns-clause-alike : goal.returns-clause-alike
returns-clause-alike c =
    both_texts c.args.insn_pc c.args.first c.args.second _ (faithful _ _ _) _ _ c.text_at.ensures.text c.text_at-2.ensures.text
