use Rattle.rrs_gdb.proofs.WatchLemmas.{watch_found, untouched_none}
use Rattle.rrs_gdb.proofs.breaks.watch_at.Goals as goal

pub returns-in-Some-clause-touched : goal.returns-in-Some-clause-touched
returns-in-Some-clause-touched g c = watch_found _ _ c.in-Some.access _ c.in-Some.ensures.access c.touched.ensures

pub returns-in-None-clause-touched : goal.returns-in-None-clause-touched
returns-in-None-clause-touched g c = λ watch is_one. untouched_none _ watch c.in-None.ensures.access
