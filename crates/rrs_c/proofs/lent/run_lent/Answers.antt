-- The words stay lent, whatever accesses were made.
use Rattle.std.proofs.Common.{rules}
use Rattle.rrs_lib.proofs.SliceLent.{still_lent}
use Rattle.rrs_c.proofs.lent.run_lent.Goals as goal

pub returns-then-limit-lt-FEWEST_CACHED_STEPS-clause-lent : goal.returns-then-limit-lt-FEWEST_CACHED_STEPS-clause-lent
returns-then-limit-lt-FEWEST_CACHED_STEPS-clause-lent c =
    let kept = still_lent _ _ _ c.run.ensures.accesses in
    search rules
