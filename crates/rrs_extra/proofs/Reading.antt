-- How texts are read: up to a separator, which is below 45, from pieces that have no byte below 45, as names, registers and numerals have none.
use Rattle.std.proofs.Common.{◌≡◌, ℕ, zero, suc, ◌-◌, ◌^◌, ◌<◌, ◌≤◌, ℤ, pos, negsuc, List, [], ◌∷◌, ◌++◌, length, replicate, false, ap, refl, arith, ◌∙◌}
use Rattle.std.specs.List.{AllByRecursion}
use Rattle.std.specs.Char.{digit_value}
use Rattle.std.specs.Int.Signed.{mag}
use Rattle.std.specs.Fmt.{digits, decimal, signed_decimal}
use Rattle.std.specs.Str.Parse.{AllDigits, digits_value}
use Rattle.std.proofs.lemmas.Fmt.{digits_is_IsNumeral, decimal_is_IsNumeral, decimal_injective}
use Rattle.std.proofs.lemmas.Bool.Decides.{nat_tests}
use Rattle.rrs_lib.specs.Texts.{hexadecimal, register}

-- no byte of the list is a separator
abbrev pub IsPiece : List ℕ → Type 0
IsPiece = AllByRecursion (λ byte. 45 ≤ byte)

-- Two texts that begin with a piece and a separator are equal only if the pieces are, and what follows.
pub same_pieces : (separator : ℕ) (a b x y : List ℕ) → separator < 45 → IsPiece a → IsPiece b
    → a ++ (separator ∷ x) ≡ b ++ (separator ∷ y) → (a ≡ b) × (x ≡ y)
same_pieces s [] [] x y low p q e = (refl, (cc))
same_pieces s [] (b ∷ m) x y low p q e = let same : s ≡ b = cc in absurd (omega (arith, q.0))
same_pieces s (a ∷ l) [] x y low p q e = let same : s ≡ a = cc in absurd (omega (arith, p.0))
same_pieces s (a ∷ l) (b ∷ m) x y low p q e =
    let head : a ≡ b = cc in
    let tail : l ++ (s ∷ x) ≡ m ++ (s ∷ y) = cc in
    let rest = same_pieces s l m x y low p.1 q.1 tail in
    let front : l ≡ m = rest.0 in
    (cc, rest.1)

-- a digit is no separator
digit_high : (base c : ℕ) → base ≤ 16 → digit_value c < base → 45 ≤ c
digit_high base c low h = grind (arith, nat_tests)

-- digits, in a base up to 16, have no separator
digits_are_piece : (base : ℕ) (ds : List ℕ) → base ≤ 16 → AllDigits base ds → IsPiece ds
digits_are_piece base [] low h = tt
digits_are_piece base (d ∷ ds) low h = (digit_high base d low h.0, digits_are_piece base ds low h.1)

-- ---- registers and numerals

zeros_are_piece : (k : ℕ) (ds : List ℕ) → IsPiece ds → IsPiece (replicate k 48 ++ ds)
zeros_are_piece zero ds h = h
zeros_are_piece (suc k) ds h = (omega arith, zeros_are_piece k ds h)

decimal_piece : (n : ℕ) → n < 2 ^ 64 → IsPiece (decimal n)
decimal_piece n small = digits_are_piece 10 (decimal n) (omega arith) (decimal_is_IsNumeral n small).0.1

pub register_piece : (r : ℕ) → r < 2 ^ 5 → IsPiece (register r)
register_piece r small = (omega arith, decimal_piece r (omega arith))

pub signed_piece : (z : ℤ) → mag z < 2 ^ 63 → IsPiece (signed_decimal z)
signed_piece (pos n) small = decimal_piece n (omega arith)
signed_piece (negsuc n) small = (omega arith, decimal_piece (suc n) (omega arith))

pub hexadecimal_piece : (n x : ℕ) → x < 2 ^ 32 → IsPiece (hexadecimal n x)
hexadecimal_piece n x small =
    let numeral = digits_is_IsNumeral 16 false (omega arith) (omega arith) x (omega arith) in
    zeros_are_piece _ _ (digits_are_piece 16 _ (omega arith) numeral.0.1)

-- a register is read back
pub same_register : (q r : ℕ) → q < 2 ^ 5 → r < 2 ^ 5 → register q ≡ register r → q ≡ r
same_register q r small small' e = decimal_injective q r (omega arith) (omega arith) (cc)

-- zeros in front do not change what digits write
value-zeros : (k : ℕ) (ds : List ℕ) → digits_value 16 (replicate k 48 ++ ds) ≡ digits_value 16 ds
value-zeros zero ds = refl
value-zeros (suc k) ds = value-zeros k ds

-- hexadecimal digits write their word
value-hexadecimal : (n x : ℕ) → x < 2 ^ 32 → digits_value 16 (hexadecimal n x) ≡ x
value-hexadecimal n x small =
    value-zeros (n - length (digits 16 false x)) (digits 16 false x) ∙ (digits_is_IsNumeral 16 false (omega arith) (omega arith) x (omega arith)).1

-- a hexadecimal word is read back
pub same_hexadecimal : (n x y : ℕ) → x < 2 ^ 32 → y < 2 ^ 32 → hexadecimal n x ≡ hexadecimal n y → x ≡ y
same_hexadecimal n x y small small' e = cc (value-hexadecimal n x small, value-hexadecimal n y small', ap (digits_value 16) e)
