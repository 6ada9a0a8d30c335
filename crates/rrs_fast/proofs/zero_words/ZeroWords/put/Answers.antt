-- The write is one of the words that are there.
use Rattle.std.proofs.Common.{arith}
use Rattle.std.proofs.lemmas.Bool.{OnTrue_at, OnTrue_from}
use Rattle.rrs_fast.proofs.ZeroBytes.{stored_there}
use Rattle.rrs_fast.proofs.zero_words.ZeroWords.put.Goals as goal

pub returns-clause-written : goal.returns-clause-written
returns-clause-written c =
    OnTrue_from _ _ (λ t. stored_there c.args.place c.args.size c.requires (omega arith) _ _ c.args.value (omega arith) c.write_mem.ensures.did.length_kept (OnTrue_at t c.write_mem.ensures.laws.written) c.write_mem.ensures.did.others_kept)
