use Rattle.std.proofs.Common.{◌≡◌, Err, refl, sym, ◌∙◌, arith}
use Rattle.rrs_elf.specs.Refusals.{first_refusal, checks_below, segment_checks}
use Rattle.rrs_elf.proofs.CheckLists.{below_failed, next_passed}
use Rattle.rrs_elf.proofs.segments.check_segments.Goals as goal

pub returns-in_err-check_segment : goal.returns-in_err-check_segment
returns-in_err-check_segment c =
    let file = c.args.file.now in
    let failed : first_refusal (checks_below (segment_checks c.args.addresses file) c.read_header_count-index-end.result) ≡ Err c.in_err-check_segment.field-0.0 =
    below_failed (segment_checks c.args.addresses file) _ c.loop-index.index _ c.loop-index-test.true c.loop-index.invariant (sym c.check_segment.ensures ∙ c.in_err-check_segment.was) in
    let count = c.read_header_count-index-end.ensures in
    grind (arith, failed, count)

pub loop-index-preserved : goal.loop-index-preserved
loop-index-preserved c =
    next_passed (segment_checks c.args.addresses c.args.file.now) c.loop-index.index _ refl c.loop-index.invariant (sym c.check_segment.ensures ∙ c.in_ok-check_segment.was)
