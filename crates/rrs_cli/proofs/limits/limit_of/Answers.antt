use Rattle.std.proofs.Common.{◌≡◌, true, false, ◌<◌, sym, ap, ◌∙◌, get_or, arith}
use Rattle.std.specs.Char.{is_ascii_digit}
use Rattle.rrs_cli.specs.Limits.{limit_in}
use Rattle.rrs_cli.proofs.Digits.{number_of_digits-more, list_all-one_more, digit_below_ten, digit-bound, limit_in-not_digit}
use Rattle.rrs_cli.proofs.limits.limit_of.Goals as goal

pub returns-then-not-is_ascii_digit : goal.returns-then-not-is_ascii_digit
returns-then-not-is_ascii_digit c =
    let no_digit : is_ascii_digit (get_or c.as_bytes-digits.result.now c.loop-digit.digit-index 0) ≡ false = sym c.is_ascii_digit.ensures.value ∙ c.if-not-is_ascii_digit.true in
    sym (ap limit_in (sym c.as_bytes-digits.ensures.value) ∙ limit_in-not_digit _ _ c.loop-digit-test.true no_digit)

pub loop-digit-preserved : goal.loop-digit-preserved
loop-digit-preserved c =
    let before = c.loop-digit.invariant in
    let a_digit : is_ascii_digit (get_or c.as_bytes-digits.result.now c.loop-digit.digit-index 0) ≡ true = sym c.is_ascii_digit.ensures.value ∙ c.if-not-is_ascii_digit.false in
    let small : c.from.result < 10 = omega (arith, c.from.ensures, digit_below_ten (get_or c.as_bytes-digits.result.now c.loop-digit.digit-index 0) a_digit) in
    record {
      digits = list_all-one_more _ _ c.loop-digit-test.true before.digits a_digit;
      value = omega (arith, before.value, c.from.ensures, number_of_digits-more c.as_bytes-digits.result.now c.loop-digit.digit-index c.loop-digit-test.true);
      bound = digit-bound _ _ _ before.bound small;
    }
