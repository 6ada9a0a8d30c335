use Rattle.std.proofs.Common.{refl, sym}
use Rattle.rrs_elf.specs.Refusals.{overlap_check}
use Rattle.rrs_elf.proofs.CheckLists.{below_failed, next_passed}
use Rattle.rrs_elf.proofs.segments.check_overlaps.Goals as goal

pub returns-then-do_overlap : goal.returns-then-do_overlap
unfolding overlap_check
returns-then-do_overlap c =
    sym (below_failed (overlap_check c.args.addresses c.args.file.now c.args.index) c.args.index c.loop-earlier.earlier _ c.loop-earlier-test.true c.loop-earlier.invariant (rw (sym c.if-do_overlap.ensures) refl))

pub loop-earlier-preserved : goal.loop-earlier-preserved
unfolding overlap_check
loop-earlier-preserved c =
    next_passed (overlap_check c.args.addresses c.args.file.now c.args.index) c.loop-earlier.earlier _ refl c.loop-earlier.invariant (rw (sym c.if-do_overlap.ensures) refl)
