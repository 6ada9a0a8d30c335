-- Numbers of a few decimal digits, and hexadecimal ones that are filled up with zeros.
use Rattle.std.proofs.Common.{◌≡◌, ℕ, ◌+◌, ◌-◌, ◌*◌, ◌^◌, ◌<◌, List, [], ◌∷◌, length, take, get_or, None, true, false, ap, ◌∙◌, arith, add-one}
use Rattle.std.specs.List.{list_all}
use Rattle.std.specs.Char.{is_ascii_digit}
use Rattle.std.proofs.lemmas.List.{take_more}
use Rattle.std.proofs.lemmas.List.Folds.{list_all_at, list_all_more}
use Rattle.std.proofs.lemmas.Bool.Decides.{nat_tests}
use Rattle.std.proofs.lemmas.List.Sums.{fold-append}
use Rattle.std.proofs.Math.Nat.{pow-suc}
use Rattle.rrs_lib.proofs.TextLemmas.{padded_hexadecimal}
use Rattle.rrs_cli.specs.Limits.{number_of_digits, limit_in}

-- one more digit: ten times the number so far plus the digit
pub number_of_digits-more : (xs : List ℕ) (i : ℕ) → i < length xs → number_of_digits (take (i + 1) xs) ≡ 10 * number_of_digits (take i xs) + (get_or xs i 0 - 48)
number_of_digits-more xs i h =
    ap number_of_digits (take_more xs i 0 h) ∙ fold-append (λ n digit. 10 * n + (digit - 48)) 0 (take i xs) (get_or xs i 0 ∷ [])

-- one more digit: all of them are digits
pub list_all-one_more : (xs : List ℕ) (i : ℕ) → i < length xs → list_all is_ascii_digit (take i xs) ≡ true → is_ascii_digit (get_or xs i 0) ≡ true → list_all is_ascii_digit (take (i + 1) xs) ≡ true
list_all-one_more xs i h all last = list_all_more is_ascii_digit xs i 0 h ∙ rw all last

-- what a digit stands for is below ten
pub digit_below_ten : (b : ℕ) → is_ascii_digit b ≡ true → b - 48 < 10
digit_below_ten b h = grind (arith, nat_tests, h)

-- with one more digit a number is below the next power of ten
pub digit-bound : (n i d : ℕ) → n < 10 ^ i → d < 10 → n * 10 + d < 10 ^ (i + 1)
digit-bound n i d h small =
    let e : 10 ^ (i + 1) ≡ 10 ^ i * 10 = ap (λ k. 10 ^ k) (add-one i) ∙ pow-suc 10 i in omega (arith, e, h, small)

-- a word with a byte that is no digit is no limit
pub limit_in-not_digit : (xs : List ℕ) (i : ℕ) → i < length xs → is_ascii_digit (get_or xs i 0) ≡ false → limit_in xs ≡ None
limit_in-not_digit xs i h bad =
    let e : list_all is_ascii_digit xs ≡ false = list_all_at is_ascii_digit xs i 0 h bad in
    grind (arith, e)

-- a number that is printed with the options `08x`
pub ruleset padded_eight = padded_hexadecimal
