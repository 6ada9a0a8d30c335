use Rattle.std.proofs.Common.{refl}
use Rattle.rrs_gdb.proofs.EntryLemmas.{removes_one}
use Rattle.rrs_gdb.proofs.session.remove_break.Goals as goal

pub returns-clause-removes : goal.returns-clause-removes
returns-clause-removes c = removes_one _ _ _ c.in-Some.place _ c.in-Some.ensures c.remove.ensures.removed refl
