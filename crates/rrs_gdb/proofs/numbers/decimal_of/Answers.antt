-- Digit by digit.
use Rattle.std.proofs.Common.{◌≡◌, ◌<◌, ◌≤◌, ◌*◌, ◌+◌, ◌^◌, rules, arith, take_all, take, length, slice_index, subst, List, ℕ}
use Rattle.std.specs.Char.{digit_value}
use Rattle.std.specs.Str.Parse.{digits_value, AllDigits}
use Rattle.std.proofs.lemmas.Int.Digits.{digits_value_more, digits_more}
use Rattle.rrs_gdb.proofs.FieldLemmas.{digit_there, too_many}
use Rattle.rrs_gdb.proofs.numbers.decimal_of.Goals as goal

pub returns-in_err-value : goal.returns-in_err-value
returns-in_err-value c =
    let none : digit_value (slice_index c.args.digits.now c.loop-digit.digit-index) < 10 → ⊥ = search rules in
    rw c.from_residual.ensures (λ is. none (digit_there 10 c.args.digits.now _ is.0.1 c.loop-digit-test.true))

pub returns-in_err-tens : goal.returns-in_err-tens
returns-in_err-tens c =
    let digits = c.args.digits.now in
    let i = c.loop-digit.digit-index in
    let more = digits_value_more 10 digits i c.loop-digit-test.true in
    let big : 2 ^ 64 ≤ c.loop-digit.number * 10 = search rules in
    rw c.from_residual-in_err-tens.ensures (λ is.
    too_many digits i c.loop-digit-test.true (omega (arith, more, big, c.loop-digit.invariant.1)) is.1)

pub returns-in_err-number : goal.returns-in_err-number
returns-in_err-number c =
    let digits = c.args.digits.now in
    let i = c.loop-digit.digit-index in
    let more = digits_value_more 10 digits i c.loop-digit-test.true in
    let value : c.in_ok-value.value ≡ digit_value (slice_index digits i) = search rules in
    let tens : c.in_ok-tens.tens ≡ c.loop-digit.number * 10 = search rules in
    let big : 2 ^ 64 ≤ c.in_ok-tens.tens + c.in_ok-value.value = search rules in
    rw c.from_residual-in_err-number.ensures (λ is.
    too_many digits i c.loop-digit-test.true (omega (arith, more, value, tens, big, c.loop-digit.invariant.1)) is.1)

pub loop-digit-preserved : goal.loop-digit-preserved
loop-digit-preserved c =
    let digits = c.args.digits.now in
    let i = c.loop-digit.digit-index in
    let low : digit_value (slice_index digits i) < 10 = search rules in
    let value : c.in_ok-value.value ≡ digit_value (slice_index digits i) = search rules in
    let tens : c.in_ok-tens.tens ≡ c.loop-digit.number * 10 = search rules in
    let sum : c.in_ok-number.number ≡ c.in_ok-tens.tens + c.in_ok-value.value = search rules in
    let more = digits_value_more 10 digits i c.loop-digit-test.true in (
      digits_more 10 digits i c.loop-digit-test.true c.loop-digit.invariant.0 low,
      omega (arith, value, tens, sum, more, c.loop-digit.invariant.1),
      search rules,
    )

pub returns : goal.returns
returns c =
    let digits = c.args.digits.now in
    let i = c.loop-digit.digit-index in
    let whole : take i digits ≡ digits = take_all i digits (omega (arith, c.loop-digit-test.false)) in
    let all : AllDigits 10 digits = subst (AllDigits 10) whole c.loop-digit.invariant.0 in
    let is : c.loop-digit.number ≡ digits_value 10 digits =
    subst (λ (xs : List ℕ). c.loop-digit.number ≡ digits_value 10 xs) whole c.loop-digit.invariant.1 in
    let some : 0 < length digits = search rules in
    let small : digits_value 10 digits < 2 ^ 64 = omega (arith, is, c.loop-digit.invariant.2) in
    (((some, all), small), is)
