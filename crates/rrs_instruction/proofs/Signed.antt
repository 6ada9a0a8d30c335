-- Words as signed numbers: what a cast gives, and the remainder of a signed division.
use Rattle.std.proofs.Common.{◌≡◌, ℕ, ◌%◌, ◌^◌, ◌<◌, ℤ, pos, negsuc, ◌+ℤ◌, ◌-ℤ◌, ◌*ℤ◌, FitsSigned, int_div, int_rem, sym, ap, ◌∙◌, Bool, cond, false, nat_eq, arith}
use Rattle.std.specs.Int.{w32, cast_signed, cast_unsigned}
use Rattle.std.proofs.lemmas.Int.{ints, quot-rem, to_z-of_z}
use Rattle.std.proofs.lemmas.Bool.Decides.{nat_tests}
use Rattle.std.proofs.Math.Nat.{mod-eq_of_lt}
use Rattle.std.proofs.Math.IntN.{*ℤ_comm}
use Rattle.rrs_instruction.specs.Words.{word, signed, truncated_quotient}
use Rattle.rrs_instruction.specs.Results as results

-- the signed number of a word is what a cast to a signed type gives
pub signed-is_cast : (x : ℕ) → x < 2 ^ 32 → signed x ≡ cast_signed w32 x
signed-is_cast x h = grind (arith, nat_tests)

-- a signed number in range has the word that a cast to an unsigned type gives
pub cast-is_word : (z : ℤ) → FitsSigned w32 z → cast_unsigned w32 z ≡ word z
cast-is_word (pos n) fits = sym (mod-eq_of_lt (omega (arith, fits)))
cast-is_word (negsuc n) fits =
    let e : n % 2 ^ 32 ≡ n = mod-eq_of_lt (omega (arith, fits.sfits)) in
    omega arith

-- a remainder is what the rounded quotient leaves of the dividend
pub remainder-is_rest : (x y : ℤ) → int_rem x y ≡ x -ℤ y *ℤ int_div x y
remainder-is_rest x y =
    let e : y *ℤ int_div x y +ℤ int_rem x y ≡ x = rw (*ℤ_comm y (int_div x y)) (quot-rem x y) in
    omega (arith, ints)

-- the remainder of two words as signed numbers, where the divisor is not 0, as the code computes it
pub remainder-is_word : (a b : ℕ) (x y z : ℤ) (bits : ℕ) → a < 2 ^ 32 → b < 2 ^ 32 → nat_eq b 0 ≡ false
    → FitsSigned w32 x → FitsSigned w32 y → FitsSigned w32 z
    → x ≡ cast_signed w32 a → y ≡ cast_signed w32 b
    → z ≡ int_rem (cast_signed w32 (cast_unsigned w32 x)) (cast_signed w32 (cast_unsigned w32 y))
    → bits ≡ cast_unsigned w32 (cast_signed w32 (cast_unsigned w32 z))
    → bits ≡ word (results.rem a b)
remainder-is_word a b x y z bits p q not_zero fx fy fz ex ey ez e =
    let sx : x ≡ signed a = ex ∙ sym (signed-is_cast a p) in
    let sy : y ≡ signed b = ey ∙ sym (signed-is_cast b q) in
    let rest : z ≡ signed a -ℤ signed b *ℤ truncated_quotient (signed a) (signed b) =
    ez ∙ ap (λ (v : ℤ). int_rem v (cast_signed w32 (cast_unsigned w32 y))) (to_z-of_z w32 x fx ∙ sx)
    ∙ ap (λ (v : ℤ). int_rem (signed a) v) (to_z-of_z w32 y fy ∙ sy)
    ∙ remainder-is_rest (signed a) (signed b)
    in
    e ∙ ap (cast_unsigned w32) (to_z-of_z w32 z fz) ∙ cast-is_word z fz ∙ ap word rest
    ∙ ap (λ (t : Bool). word (cond t (pos a) (signed a -ℤ signed b *ℤ truncated_quotient (signed a) (signed b)))) (sym not_zero)
