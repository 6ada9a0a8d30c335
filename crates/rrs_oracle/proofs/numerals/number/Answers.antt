use Rattle.std.proofs.Common.{arith}
use Rattle.rrs_oracle.proofs.Digits.{below_with_digit}
use Rattle.rrs_oracle.proofs.numerals.number.Goals as goal

pub overflow_mul-value : goal.overflow_mul-value
overflow_mul-value c =
    let fits = below_with_digit c.args.base c.loop-byte.byte-index _ c.loop-byte.value 0
    c.requires.positive c.requires.room c.loop-byte-test.true c.loop-byte.invariant.0 c.requires.positive in
    omega (arith, fits)

pub overflow_add-value : goal.overflow_add-value
overflow_add-value c =
    let fits = below_with_digit c.args.base c.loop-byte.byte-index _ c.loop-byte.value c.in_ok-value.field-0
    c.requires.positive c.requires.room c.loop-byte-test.true c.loop-byte.invariant.0 c.in_ok-value.ensures.below in
    omega (arith, fits)
