use Rattle.std.proofs.Common.{refl, inr}
use Rattle.rrs_gdb.proofs.EntryLemmas.{sets_one}
use Rattle.rrs_gdb.proofs.session.set_break.Goals as goal

pub returns-in-Ok-clause-sets : goal.returns-in-Ok-clause-sets
returns-in-Ok-clause-sets c = sets_one _ _ _ c.in-Some.place _ c.in-Some.ensures (inr (c.in-Ok.ensures.set, refl))
