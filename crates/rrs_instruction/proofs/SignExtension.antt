-- A number of few bits, shifted to the top of a word and back, is the number that it is in two's complement.
use Rattle.std.proofs.Common.{◌≡◌, ℕ, ◌+◌, ◌*◌, ◌%◌, ◌-◌, ◌^◌, ◌<◌, ◌≤◌, ℤ, pos, ◌≤ℤ◌, ◌<ℤ◌, neg_ℤ, arith, sym, ap, subst, ◌∙◌, w32, to_z, of_z, FitsSigned, inl, inr}
use Rattle.std.proofs.Math.IntN.{negsuc}
use Rattle.std.proofs.Math.Nat.{mod-eq_of_lt, mul-div_cancel, mul-lt-mul_of_pos_right, mul-le-mul_right}
use Rattle.std.proofs.lemmas.Bool.{cases_lt}
use Rattle.std.proofs.lemmas.Int.{ints, to_z_pos, to_z-of_z}
use Rattle.std.proofs.lemmas.Nat.{div-mul-add, pow_pos, pow-add}
use Rattle.std.specs.Int.Signed.{shr_z}
use Rattle.rrs_instruction.specs.Words.{floor_mod}

-- z is the number between -h and h - 1 that is v modulo 2 * h
abbrev pub Extends : ℤ → ℕ → ℕ → Type 0
Extends z v h = (neg_ℤ (pos h) ≤ℤ z) × (z <ℤ pos h) × (floor_mod z (2 * h) ≡ v)

-- a number whose top bit is 0 comes back as it was
shifted_low : (v h k : ℕ) → 0 < k → v < h → h * k ≡ 2147483648 → shr_z (to_z w32 (v * k % 4294967296)) k ≡ pos v
shifted_low v h k o p e =
    let b : v * k < 2147483648 = omega (arith, mul-lt-mul_of_pos_right {k = k} p o) in
    let m : v * k % 4294967296 ≡ v * k = omega arith in
    ap (λ (n : ℕ). shr_z (to_z w32 n) k) m ∙ ap (λ (z : ℤ). shr_z z k) (to_z_pos w32 (v * k) b) ∙ ap pos (mul-div_cancel v o)

-- a word whose top bit is 1 is a negative number
to_z_high : (n a : ℕ) → 2147483648 ≤ n → n + a + 1 ≡ 4294967296 → to_z w32 n ≡ negsuc a
to_z_high n a p s = grind (arith, ints)

-- a number whose top bit is 1 comes back as a negative number
shifted_high : (v h k d : ℕ) → 0 < k → h ≤ v → v + d + 1 ≡ 2 * h → h * k ≡ 2147483648 → shr_z (to_z w32 (v * k % 4294967296)) k ≡ negsuc d
shifted_high v h k d o p s e =
    let t : v * k + d * k + k ≡ 4294967296 = omega (arith, ap (λ (n : ℕ). n * k) s) in
    let b : 2147483648 ≤ v * k = omega (arith, mul-le-mul_right k p) in
    let m : v * k % 4294967296 ≡ v * k = omega arith in
    ap (λ (n : ℕ). shr_z (to_z w32 n) k) m
    ∙ ap (λ (z : ℤ). shr_z z k) (to_z_high (v * k) (d * k + (k - 1)) b (omega arith))
    ∙ ap negsuc (div-mul-add d k (k - 1) (omega arith))

-- a number below h extends to itself
pub extends_low : (v h : ℕ) → v < h → Extends (pos v) v h
extends_low v h p = (omega (arith, ints), omega (arith, ints), mod-eq_of_lt (omega arith))

-- a number from h on extends to itself less 2 * h
pub extends_high : (v h d : ℕ) → h ≤ v → v + d + 1 ≡ 2 * h → Extends (negsuc d) v h
extends_high v h d p s =
    let m : d % (2 * h) ≡ d = mod-eq_of_lt (omega arith) in
    (omega (arith, ints), omega (arith, ints), omega arith)

-- what is computed from the word at the top, where h is 2 ^ (width - 1) and k is 2 ^ (32 - width)
extended : (v h k : ℕ) → 0 < k → v < 2 * h → h * k ≡ 2147483648 → Extends (to_z w32 (of_z w32 (shr_z (to_z w32 (v * k % 4294967296)) k))) v h
extended v h k o p e =
    let small : h ≤ 2147483648 = omega (arith, mul-le-mul_right h o) in
    elim (cases_lt v h) [
      | inl q ↦
          let f : to_z w32 (of_z w32 (pos v)) ≡ pos v = omega (arith, ints) in
          subst (λ (z : ℤ). Extends z v h) (sym (ap (λ (z : ℤ). to_z w32 (of_z w32 z)) (shifted_low v h k o q e) ∙ f)) (extends_low v h q)
      | inr q ↦
          let d : ℕ = 2 * h - 1 - v in
          let s : v + d + 1 ≡ 2 * h = omega arith in
          let f : to_z w32 (of_z w32 (negsuc d)) ≡ negsuc d = omega (arith, ints) in
          subst (λ (z : ℤ). Extends z v h) (sym (ap (λ (z : ℤ). to_z w32 (of_z w32 z)) (shifted_high v h k d o q s e) ∙ f)) (extends_high v h d q s)
    ]

-- half a word's numbers, times what is left of a word
half_times_rest : (width : ℕ) → 0 < width → width ≤ 32 → 2 ^ (width - 1) * 2 ^ (32 - width) ≡ 2147483648
half_times_rest width p q =
    let e : width - 1 + (32 - width) ≡ 31 = omega arith in
    sym (pow-add 2 (width - 1) (32 - width)) ∙ ap (λ (k : ℕ). 2 ^ k) e

-- 2 ^ width is twice 2 ^ (width - 1)
twice_half : (width : ℕ) → 0 < width → 2 ^ width ≡ 2 * 2 ^ (width - 1)
twice_half width p =
    let e : width ≡ 1 + (width - 1) = omega arith in
    ap (λ (k : ℕ). 2 ^ k) e ∙ pow-add 2 1 (width - 1)

-- what the code computes from the word that it shifts to the top
abbrev pub shifted_back : ℤ → ℕ → ℤ
shifted_back r width = to_z w32 (of_z w32 (shr_z (to_z w32 (of_z w32 r)) (2 ^ (32 - width))))

-- it extends the number that was shifted
pub sign_extended_is : (value width : ℕ) (r : ℤ) → 0 < width → width ≤ 32 → value < 2 ^ width
    → FitsSigned w32 r → r ≡ to_z w32 (value * 2 ^ (32 - width) % 4294967296)
    → (neg_ℤ (pos (2 ^ (width - 1))) ≤ℤ shifted_back r width)
    × (shifted_back r width <ℤ pos (2 ^ (width - 1)))
    × (floor_mod (shifted_back r width) (2 ^ width) ≡ value)
sign_extended_is value width r p q v f e =
    let twice = twice_half width p in
    let is : Extends (to_z w32 (of_z w32 (shr_z (to_z w32 (value * 2 ^ (32 - width) % 4294967296)) (2 ^ (32 - width))))) value (2 ^ (width - 1)) =
    extended value (2 ^ (width - 1)) (2 ^ (32 - width)) (pow_pos (32 - width)) (omega (arith, twice)) (half_times_rest width p q) in
    let same = subst (λ z. Extends (to_z w32 (of_z w32 (shr_z z (2 ^ (32 - width))))) value (2 ^ (width - 1))) (sym (to_z-of_z w32 r f ∙ e)) is in
    (same.0, same.1, ap (floor_mod (shifted_back r width)) twice ∙ same.2)
