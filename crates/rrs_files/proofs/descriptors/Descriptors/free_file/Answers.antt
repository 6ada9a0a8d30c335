use Rattle.std.proofs.Common.{below_more, refl}
use Rattle.rrs_files.proofs.descriptors.Descriptors.free_file.Goals as goal

pub loop-at-preserved : goal.loop-at-preserved
loop-at-preserved c = below_more _ _ c.loop-at.invariant (c.if-not-has.ensures.0 refl)
