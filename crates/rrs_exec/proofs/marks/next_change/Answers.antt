-- One range more, or all of them.
use Rattle.std.proofs.Common.{◌≡◌, arith}
use Rattle.rrs_exec.specs.Protection.{touches}
use Rattle.rrs_exec.specs.declared.marks.Protection.TheVariants.{Unmapped}
use Rattle.rrs_exec.proofs.Stretches.{one_more, one_mark}
use Rattle.rrs_exec.proofs.marks.next_change.Goals as goal

pub loop-range-preserved : goal.loop-range-preserved
loop-range-preserved c = record {
  later = omega (arith, c.loop-range.invariant.later, c.change_after.ensures.later);
  same = λ p from below.
      one_more (λ r. touches r p ≡ touches r c.args.page) c.loop-range.range-index c.args.ranges.now _
      (c.change_after.ensures.same p from (omega (arith, below))) c.loop-range-test.true
      (c.loop-range.invariant.same p from (omega (arith, below)));
}

pub returns-clause-same : goal.returns-clause-same
returns-clause-same c = λ p from below.
    one_mark c.args.ranges.now p c.args.page (λ k d less. c.loop-range.invariant.same p from below k d (omega (arith, less, c.loop-range-test.false))) Unmapped
