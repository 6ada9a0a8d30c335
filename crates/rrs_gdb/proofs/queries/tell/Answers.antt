-- A part of something.
use Rattle.rrs_gdb.proofs.AnswerLemmas.{tells_part}
use Rattle.rrs_gdb.proofs.queries.tell.Goals as goal

pub returns-in-Some : goal.returns-in-Some
returns-in-Some c = record {
  tells = tells_part c.transfer.result _ _ _ _ _ _ _ c.in-Some.ensures c.transfer.ensures.target c.transfer.ensures.path;
}
