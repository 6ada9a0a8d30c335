-- Its end.
use Rattle.rrs_board_gdb.proofs.AnswerLemmas.{ends_so}
use Rattle.rrs_board_gdb.proofs.target.push_target.Goals as goal

pub returns : goal.returns
returns c =
    ends_so c.push_text-5.result _ _ _ _ _ _ _ _ _ _ _ _ _ c.in_ok-push_text.ensures c.in_ok-push_text-2.ensures
    c.in_ok-push_text-3.ensures c.in_ok-push_text-4.ensures c.in_ok-push_csrs.ensures c.push_text-5.ensures
