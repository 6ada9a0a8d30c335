-- Of another packet the program goes nowhere.
use Rattle.std.proofs.Common.{refl, inl}
use Rattle.rrs_gdb.specs.Sessions.{one_step}
use Rattle.rrs_gdb.proofs.session.act.Goals as goal

pub returns-clause-goes_on : goal.returns-clause-goes_on
returns-clause-goes_on g c = (one_step, inl (refl, refl))
