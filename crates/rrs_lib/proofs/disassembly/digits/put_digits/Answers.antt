use Rattle.std.proofs.Common.{◌≡◌, ℕ, ◌+◌, ◌-◌, ◌*◌, ◌/◌, ◌^◌, ◌<◌, ◌≤◌, ◌%◌, false, List, ◌∷◌, take, drop, refl, sym, ap, ◌∙◌, arith, add-one}
use Rattle.std.proofs.Math.ListN.{drop_of_length-le, length-set}
use Rattle.std.proofs.Math.Seq.{take-take, take-set-le}
use Rattle.std.proofs.Math.Nat.{pow-suc}
use Rattle.std.specs.Fmt.{digit_glyph, digits_onto}
use Rattle.std.proofs.DigitsParse.{digits_onto-nil, digits_onto_last, digits_onto_step, drop-set-cons}
use Rattle.rrs_lib.proofs.disassembly.digits.put_digits.Goals as goal

-- one digit less fits one place less
one_less : (n k : ℕ) → 0 < k → n < 16 ^ k → n / 16 < 16 ^ (k - 1)
one_less n k some small =
    let same : k - 1 + 1 ≡ k = omega arith in
    let e : 16 ^ k ≡ 16 ^ (k - 1) * 16 = ap (λ j. 16 ^ j) (sym same ∙ add-one (k - 1)) ∙ pow-suc 16 (k - 1) in
    omega (arith, e, small)

shorter : (m n : ℕ) (xs ys : List ℕ) → m ≤ n → take n xs ≡ take n ys → take m xs ≡ take m ys
shorter m n xs ys within same = sym (take-take m n xs within) ∙ ap (take m) same ∙ take-take m n ys within

pub loop-place-init : goal.loop-place-init
loop-place-init c = record {
  within = omega arith;
  long = omega (arith, c.told-out);
  fits = omega (arith, c.ranges.word.fits);
  more = λ h. absurd (omega arith);
  written = ap (digits_onto 64 16 false c.args.word) (drop_of_length-le c.args.out.now {i = 8} (omega (arith, c.told-out))) ∙ digits_onto-nil _ _ _;
  front = refl;
}

pub loop-place-preserved : goal.loop-place-preserved
loop-place-preserved c =
    let l = c.loop-place in
    let before = l.invariant in
    let place : 56 + l.place - 1 ≡ 56 + (l.place - 1) = omega arith in
    let digits = digit_glyph false (l.rest % 16) ∷ drop l.place l.out in
    let digit = drop-set-cons l.out l.place _ _ c.loop-place-test.true (omega arith) c.digit.ensures in
    let step = digits_onto_step 16 false l.rest (drop l.place l.out) (56 + l.place) (omega arith) c.if-rest-eq0.false in
    record {
      within = omega arith;
      long = length-set l.out (l.place - 1) c.digit.result ∙ before.long;
      fits = one_less l.rest l.place c.loop-place-test.true before.fits;
      more = λ h. omega (arith, c.if-rest-eq0.false);
      written = ap (digits_onto (56 + (l.place - 1)) 16 false (l.rest / 16)) digit
          ∙ sym (step ∙ ap (λ k. digits_onto k 16 false (l.rest / 16) digits) place) ∙ before.written;
      front = take-set-le _ _ _ _ (omega arith) ∙ shorter _ l.place _ _ (omega arith) before.front;
    }

pub returns-then-rest-eq0-clause-written : goal.returns-then-rest-eq0-clause-written
returns-then-rest-eq0-clause-written c =
    let l = c.loop-place in
    drop-set-cons l.out l.place _ _ c.loop-place-test.true (omega arith) c.digit.ensures
    ∙ sym (digits_onto_last 16 false l.rest (drop l.place l.out) (56 + l.place) (omega arith) c.if-rest-eq0.true) ∙ l.invariant.written

pub returns-then-rest-eq0-clause-front : goal.returns-then-rest-eq0-clause-front
returns-then-rest-eq0-clause-front c =
    take-set-le _ _ _ _ (omega arith) ∙ shorter _ c.loop-place.place _ _ (omega arith) c.loop-place.invariant.front
