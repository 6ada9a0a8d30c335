-- Digit by digit.
use Rattle.std.proofs.Common.{◌≡◌, ◌<◌, ◌≤◌, length, slice_index, rules, arith}
use Rattle.std.specs.Char.{digit_value}
use Rattle.std.proofs.lemmas.Int.Digits.{digits_value_more, digits_more}
use Rattle.rrs_gdb.proofs.FieldLemmas.{digit_there, has_room}
use Rattle.rrs_gdb.proofs.numbers.number_of.Goals as goal

pub returns-in_err-value : goal.returns-in_err-value
returns-in_err-value c =
    let none : digit_value (slice_index c.args.digits.now c.loop-digit.digit-index) < 16 → ⊥ = search rules in
    rw c.from_residual.ensures (λ is. none (digit_there 16 c.args.digits.now _ is.0.1 c.loop-digit-test.true))

pub overflow_mul-number : goal.overflow_mul-number
overflow_mul-number c =
    let short : length c.args.digits.now ≤ 8 = search rules in
    omega (arith, has_room c.args.digits.now _ _ c.loop-digit-test.true short c.loop-digit.invariant.0 c.loop-digit.invariant.1)

pub overflow_add-number : goal.overflow_add-number
overflow_add-number c =
    let short : length c.args.digits.now ≤ 8 = search rules in
    omega (
      arith,
      c.in_ok-value.ensures.value.1,
      c.in_ok-value.ensures.value.0,
      has_room c.args.digits.now _ _ c.loop-digit-test.true short c.loop-digit.invariant.0 c.loop-digit.invariant.1,
    )

pub loop-digit-preserved : goal.loop-digit-preserved
loop-digit-preserved c =
    let digits = c.args.digits.now in
    let i = c.loop-digit.digit-index in
    let low : digit_value (slice_index digits i) < 16 = search rules in
    let value : c.in_ok-value.value ≡ digit_value (slice_index digits i) = search rules in
    let more = digits_value_more 16 digits i c.loop-digit-test.true in (
      digits_more 16 digits i c.loop-digit-test.true c.loop-digit.invariant.0 low,
      omega (arith, value, more, c.loop-digit.invariant.1),
    )
