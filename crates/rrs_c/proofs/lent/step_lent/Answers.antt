-- The words stay lent, whatever accesses were made.
use Rattle.std.proofs.Common.{None}
use Rattle.rrs_lib.proofs.SliceLent.{still_lent}
use Rattle.rrs_c.proofs.lent.step_lent.Goals as goal

pub returns-clause-lent : goal.returns-clause-lent
returns-clause-lent c = still_lent _ _ _ (c.step_parts.ensures.accesses None)
