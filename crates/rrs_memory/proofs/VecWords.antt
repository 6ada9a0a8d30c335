-- A memory of words as a map of bytes: what a read of one word gives, and what a write of one word leaves.
use Rattle.std.proofs.Common.{◌≡◌, ℕ, zero, suc, ◌+◌, ◌-◌, ◌*◌, ◌/◌, ◌%◌, ◌^◌, ◌<◌, ◌≤◌, List, length, slice_index, slice_set, Some, None, sym, ap, ◌∙◌, arith}
use Rattle.std.specs.Int.Bits.{bit_and, bit_or, or_zero_r}
use Rattle.std.proofs.Math.Nat.{pow-succ', div-div-eq-div-mul, add-mul, mul_assoc, add-mul-div_right, add-mul-mod_self_right, mod-one}
use Rattle.std.proofs.lemmas.Nat.{pow-add, and_mask, and-not, or_shifted, or_block, and_comm, pow_pos, shr-shr, shr_split, mod_below, shl_whole, div-mul-add, div-add-mod'}
use Rattle.std.proofs.lemmas.Nat.Bits.{and_high}
use Rattle.std.proofs.Math.Pow.{pow_mono}
use Rattle.std.proofs.lemmas.Bool.Decides.{nat_tests}
use Rattle.std.proofs.lemmas.List.{length-set, get_or-set_same, get_or-set_other}
use Rattle.rrs_memory.specs.declared.MemAccessSize.{MemAccessSize}
use Rattle.rrs_memory.specs.declared.MemAccessSize.TheVariants.{Byte}
use Rattle.rrs_memory.specs.Bytes.{width, little_endian, store, sum_if_both, at_place}
use Rattle.rrs_memory.specs.VecBytes.{bytes_of_words}
use Rattle.rrs_memory.proofs.ByteLemmas.{pow-256, pow-256_pos, one_more_byte, store_by}

-- a mask of the lowest n bytes
pub and_low : (x m n : ℕ) → m + 1 ≡ 256 ^ n → bit_and x m ≡ x % 256 ^ n
and_low x m n e =
    let p : 256 ^ n ≡ 2 ^ (8 * n) = pow-256 n in
    let q : m ≡ 2 ^ (8 * n) - 1 = omega arith in
    ap (λ y. bit_and x y) q ∙ and_mask x (8 * n) ∙ ap (λ y. x % y) (sym p)

-- a word in three parts: below place k, the n bits from there on, and those above
pub three_parts : (w n k : ℕ) → w ≡ (w / 2 ^ (n + k) * 2 ^ n) * 2 ^ k + (w / 2 ^ k % 2 ^ n) * 2 ^ k + w % 2 ^ k
three_parts w n k =
    let high : w / 2 ^ (n + k) * 2 ^ n + w / 2 ^ k % 2 ^ n ≡ w / 2 ^ k = ap (λ x. x * 2 ^ n + w / 2 ^ k % 2 ^ n) (ap (λ x. w / 2 ^ x) (omega arith) ∙ sym (shr-shr w k n)) ∙ shr_split (w / 2 ^ k) n in
    omega (arith, shr_split w k, add-mul (w / 2 ^ (n + k) * 2 ^ n) (w / 2 ^ k % 2 ^ n) (2 ^ k), ap (λ x. x * 2 ^ k) high)

-- n ones from place k on
pub ones_from : (n k : ℕ) → (2 ^ n - 1) * 2 ^ k ≡ 2 ^ (n + k) - 2 ^ k
ones_from n k =
    let one_more : 2 ^ n - 1 + 1 ≡ 2 ^ n = omega (arith, pow_pos n) in
    omega (arith, add-mul (2 ^ n - 1) 1 (2 ^ k), ap (λ x. x * 2 ^ k) one_more, pow-add 2 n k)

-- a word with the n bits from place k on cleared
pub cleared : (w n k : ℕ) → w < 2 ^ 32 → n + k ≤ 32 → bit_and w (2 ^ 32 - 1 - (2 ^ n - 1) * 2 ^ k) ≡ (w / 2 ^ (n + k) * 2 ^ n) * 2 ^ k + w % 2 ^ k
cleared w n k below fits =
    let ones = ones_from n k in
    let in_word : 2 ^ (n + k) ≤ 2 ^ 32 = pow_mono fits in
    let both = and-not 32 ((2 ^ n - 1) * 2 ^ k) w (omega (arith, pow_pos k, pow_pos 32)) below in
    let middle = and_comm ((2 ^ n - 1) * 2 ^ k) w ∙ ap (λ x. bit_and w x) ones ∙ and_high w n k in
    omega (arith, both, and_comm w (2 ^ 32 - 1 - (2 ^ n - 1) * 2 ^ k), middle, three_parts w n k)

-- n bits put at place k of a word where they were cleared
pub replaced_bits : (h v l n k : ℕ) → v < 2 ^ n → l < 2 ^ k → bit_or ((h * 2 ^ n) * 2 ^ k + l) (v * 2 ^ k) ≡ (h * 2 ^ n + v) * 2 ^ k + l
replaced_bits h v l n k pv pl =
    ap (λ x. bit_or ((h * 2 ^ n) * 2 ^ k + l) x) (omega arith)
    ∙ or_block k (h * 2 ^ n) v l 0 pl (pow_pos k)
    ∙ ap (λ x. x * 2 ^ k + bit_or l 0) (or_shifted h n v pv)
    ∙ ap (λ x. (h * 2 ^ n + v) * 2 ^ k + x) (or_zero_r l)

-- a word with the n bytes from byte p on replaced
pub replaced : (w v m n p : ℕ) → w < 2 ^ 32 → n + p ≤ 4 → m + 1 ≡ 256 ^ n
    → bit_or (bit_and w (2 ^ 32 - 1 - m * 2 ^ (8 * p) % 2 ^ 32)) (bit_and v m * 2 ^ (8 * p) % 2 ^ 32)
    ≡ (w / 256 ^ (n + p) * 256 ^ n + v % 256 ^ n) * 256 ^ p + w % 256 ^ p
replaced w v m n p below fits e =
    let pn : 256 ^ n ≡ 2 ^ (8 * n) = pow-256 n in
    let pp : 256 ^ p ≡ 2 ^ (8 * p) = pow-256 p in
    let pnp : 256 ^ (n + p) ≡ 2 ^ (8 * n + 8 * p) = pow-256 (n + p) ∙ ap (λ x. 2 ^ x) (omega arith) in
    let m_is : m ≡ 2 ^ (8 * n) - 1 = omega arith in
    let bits : 8 * n + 8 * p ≤ 32 = omega arith in
    let mask_whole : m * 2 ^ (8 * p) % 2 ^ 32 ≡ (2 ^ (8 * n) - 1) * 2 ^ (8 * p) = shl_whole m (8 * n) (8 * p) 32 (omega (arith, pow_pos (8 * n))) bits ∙ ap (λ x. x * 2 ^ (8 * p)) m_is in
    let v_is : bit_and v m ≡ v % 2 ^ (8 * n) = and_low v m n e ∙ ap (λ x. v % x) pn in
    let v_below : v % 2 ^ (8 * n) < 2 ^ (8 * n) = mod_below v (2 ^ (8 * n)) (pow_pos (8 * n)) in
    let v_whole : bit_and v m * 2 ^ (8 * p) % 2 ^ 32 ≡ (v % 2 ^ (8 * n)) * 2 ^ (8 * p) = ap (λ x. x * 2 ^ (8 * p) % 2 ^ 32) v_is ∙ shl_whole (v % 2 ^ (8 * n)) (8 * n) (8 * p) 32 v_below bits in
    let rest_is : bit_and w (2 ^ 32 - 1 - m * 2 ^ (8 * p) % 2 ^ 32) ≡ (w / 2 ^ (8 * n + 8 * p) * 2 ^ (8 * n)) * 2 ^ (8 * p) + w % 2 ^ (8 * p) = ap (λ x. bit_and w (2 ^ 32 - 1 - x)) mask_whole ∙ cleared w (8 * n) (8 * p) below bits in
    ap (λ x. bit_or x (bit_and v m * 2 ^ (8 * p) % 2 ^ 32)) rest_is
    ∙ ap (λ x. bit_or ((w / 2 ^ (8 * n + 8 * p) * 2 ^ (8 * n)) * 2 ^ (8 * p) + w % 2 ^ (8 * p)) x) v_whole
    ∙ replaced_bits (w / 2 ^ (8 * n + 8 * p)) (v % 2 ^ (8 * n)) (w % 2 ^ (8 * p)) (8 * n) (8 * p) v_below (mod_below w (2 ^ (8 * p)) (pow_pos (8 * p)))
    ∙ ap (λ x. (w / x * 2 ^ (8 * n) + v % 2 ^ (8 * n)) * 2 ^ (8 * p) + w % 2 ^ (8 * p)) (sym pnp)
    ∙ ap (λ x. (w / 256 ^ (n + p) * x + v % x) * 2 ^ (8 * p) + w % 2 ^ (8 * p)) (sym pn)
    ∙ ap (λ x. (w / 256 ^ (n + p) * 256 ^ n + v % 256 ^ n) * x + w % x) (sym pp)

-- ---- the bytes of a word of which some were replaced

-- a byte below the n-th is not changed by those from the n-th on
pub low_byte : (r h n i : ℕ) → i < n → (r + h * 256 ^ n) / 256 ^ i % 256 ≡ r / 256 ^ i % 256
low_byte r h n i below =
    let split : 256 ^ n ≡ 256 ^ (n - suc i) * 256 * 256 ^ i =
    ap (λ x. 256 ^ x) (omega arith) ∙ pow-add 256 (n - suc i) (suc i) ∙ ap (λ x. 256 ^ (n - suc i) * x) (pow-succ' 256 i) ∙ sym (mul_assoc (256 ^ (n - suc i)) 256 (256 ^ i)) in
    let high : h * 256 ^ n ≡ (h * 256 ^ (n - suc i) * 256) * 256 ^ i =
    ap (λ x. h * x) split ∙ sym (mul_assoc h (256 ^ (n - suc i) * 256) (256 ^ i)) ∙ ap (λ x. x * 256 ^ i) (sym (mul_assoc h (256 ^ (n - suc i)) 256)) in
    ap (λ x. (r + x) / 256 ^ i % 256) high
    ∙ ap (λ x. x % 256) (add-mul-div_right r (h * 256 ^ (n - suc i) * 256) (pow-256_pos i))
    ∙ add-mul-mod_self_right (r / 256 ^ i) (h * 256 ^ (n - suc i)) 256

-- the lowest n bytes of a number are its bytes
pub byte_of_low : (v n i : ℕ) → i < n → v % 256 ^ n / 256 ^ i % 256 ≡ v / 256 ^ i % 256
byte_of_low v n i below =
    let parts : v % 256 ^ n + v / 256 ^ n * 256 ^ n ≡ v = omega (arith, div-add-mod' v (256 ^ n)) in
    sym (low_byte (v % 256 ^ n) (v / 256 ^ n) n i below) ∙ ap (λ x. x / 256 ^ i % 256) parts

-- the word w with the n bytes from byte p on replaced by the lowest n bytes of v
abbrev pub with_bytes : ℕ → ℕ → ℕ → ℕ → ℕ
with_bytes w v n p = (w / 256 ^ (n + p) * 256 ^ n + v % 256 ^ n) * 256 ^ p + w % 256 ^ p

-- the bytes below those that are replaced
pub byte_below : (w v n p j : ℕ) → j < p → with_bytes w v n p / 256 ^ j % 256 ≡ w / 256 ^ j % 256
byte_below w v n p j below =
    ap (λ x. x / 256 ^ j % 256) (omega arith)
    ∙ low_byte (w % 256 ^ p) (w / 256 ^ (n + p) * 256 ^ n + v % 256 ^ n) p j below
    ∙ byte_of_low w p j below

-- the bytes that are replaced
pub byte_inside : (w v n p i : ℕ) → i < n → with_bytes w v n p / 256 ^ (p + i) % 256 ≡ v / 256 ^ i % 256
byte_inside w v n p i below =
    ap (λ x. with_bytes w v n p / x % 256) (pow-add 256 p i)
    ∙ ap (λ x. x % 256) (sym (div-div-eq-div-mul (with_bytes w v n p) (256 ^ p) (256 ^ i)))
    ∙ ap (λ x. x / 256 ^ i % 256) (div-mul-add (w / 256 ^ (n + p) * 256 ^ n + v % 256 ^ n) (256 ^ p) (w % 256 ^ p) (mod_below w (256 ^ p) (pow-256_pos p)))
    ∙ ap (λ x. x / 256 ^ i % 256) (omega arith)
    ∙ low_byte (v % 256 ^ n) (w / 256 ^ (n + p)) n i below
    ∙ byte_of_low v n i below

-- the bytes above those that are replaced
pub byte_above : (w v n p i : ℕ) → with_bytes w v n p / 256 ^ (n + p + i) % 256 ≡ w / 256 ^ (n + p + i) % 256
byte_above w v n p i =
    let shifted : (x : ℕ) → x / 256 ^ (n + p + i) ≡ x / 256 ^ (n + p) / 256 ^ i = λ x.
    ap (λ y. x / y) (pow-add 256 (n + p) i) ∙ sym (div-div-eq-div-mul x (256 ^ (n + p)) (256 ^ i)) in
    let high : with_bytes w v n p / 256 ^ (n + p) ≡ w / 256 ^ (n + p) =
    ap (λ x. with_bytes w v n p / x) (ap (λ x. 256 ^ x) (omega arith) ∙ pow-add 256 p n)
    ∙ sym (div-div-eq-div-mul (with_bytes w v n p) (256 ^ p) (256 ^ n))
    ∙ ap (λ x. x / 256 ^ n) (div-mul-add (w / 256 ^ (n + p) * 256 ^ n + v % 256 ^ n) (256 ^ p) (w % 256 ^ p) (mod_below w (256 ^ p) (pow-256_pos p)))
    ∙ div-mul-add (w / 256 ^ (n + p)) (256 ^ n) (v % 256 ^ n) (mod_below v (256 ^ n) (pow-256_pos n)) in
    ap (λ x. x % 256) (shifted (with_bytes w v n p) ∙ ap (λ x. x / 256 ^ i) high ∙ sym (shifted w))

-- ---- the bytes of a list of words

-- the byte at an address below 2 ^ 32 whose word is there
pub byte_at : (words : List ℕ) (a : ℕ) → a < 2 ^ 32 → a / 4 < length words
    → bytes_of_words words a ≡ Some (slice_index words (a / 4) / 256 ^ (a % 4) % 256)
byte_at words a low there = grind (arith, nat_tests)

-- there is none past them
pub byte_past : (words : List ℕ) (a : ℕ) → length words ≤ a / 4 → bytes_of_words words a ≡ None
byte_past words a past = grind (arith, nat_tests)

-- the byte j further in the same word
pub byte_on : (words : List ℕ) (a j : ℕ) → a < 2 ^ 32 → a / 4 < length words → a % 4 + j < 4 → bytes_of_words words (a + j) ≡ Some (slice_index words (a / 4) / 256 ^ (a % 4 + j) % 256)
byte_on words a j low there within =
    let same_word : (a + j) / 4 ≡ a / 4 = omega arith in
    let place : (a + j) % 4 ≡ a % 4 + j = omega arith in
    rw (← same_word, ← place) (byte_at words (a + j) (omega arith) (omega arith))

-- the value of n bytes of one word
pub value_of_bytes : (words : List ℕ) (a n : ℕ) → a < 2 ^ 32 → a / 4 < length words → a % 4 + n ≤ 4
    → little_endian (bytes_of_words words) a n ≡ Some (slice_index words (a / 4) / 256 ^ (a % 4) % 256 ^ n)
value_of_bytes words a zero low there within = ap Some (sym (mod-one (slice_index words (a / 4) / 256 ^ (a % 4))))
value_of_bytes words a (suc n) low there within =
    let x = slice_index words (a / 4) / 256 ^ (a % 4) in
    let byte : slice_index words (a / 4) / 256 ^ (a % 4 + n) ≡ x / 256 ^ n =
    ap (λ y. slice_index words (a / 4) / y) (pow-add 256 (a % 4) n) ∙ sym (div-div-eq-div-mul (slice_index words (a / 4)) (256 ^ (a % 4)) (256 ^ n)) in
    ap (λ o. sum_if_both o (at_place n (bytes_of_words words (a + n)))) (value_of_bytes words a n low there (omega arith))
    ∙ ap (λ o. sum_if_both (Some (x % 256 ^ n)) (at_place n o)) (byte_on words a n low there (omega arith))
    ∙ ap (λ y. Some (x % 256 ^ n + y % 256 * 256 ^ n)) byte
    ∙ ap Some (one_more_byte x n)

-- a byte of the word that was set
pub byte_of_set : (words : List ℕ) (i x b : ℕ) → b < 2 ^ 32 → i < length words → b / 4 ≡ i → bytes_of_words (slice_set words i x) b ≡ Some (x / 256 ^ (b % 4) % 256)
byte_of_set words i x b low there same = grind (arith, nat_tests, length-set, get_or-set_same)

-- replacing n bytes of the word at a stores them
pub write_stores : (words : List ℕ) (a n v : ℕ) → a < 2 ^ 32 → a / 4 < length words → a % 4 + n ≤ 4
    → bytes_of_words (slice_set words (a / 4) (with_bytes (slice_index words (a / 4)) v n (a % 4))) ≡ store (bytes_of_words words) a n v
write_stores words a n v low there within = store_by (bytes_of_words words) _ a n v inside outside
  where
    w : ℕ
    w = slice_index words (a / 4)

    inside : (b : ℕ) → a ≤ b → b < a + n → bytes_of_words (slice_set words (a / 4) (with_bytes w v n (a % 4))) b ≡ Some (v / 256 ^ (b - a) % 256)
    inside b from to =
        let place : b % 4 ≡ a % 4 + (b - a) = omega arith in
        byte_of_set words (a / 4) (with_bytes w v n (a % 4)) b (omega arith) there (omega arith)
        ∙ ap (λ j. Some (with_bytes w v n (a % 4) / 256 ^ j % 256)) place
        ∙ ap Some (byte_inside w v n (a % 4) (b - a) (omega arith))

    kept : (j : ℕ) → (a % 4 ≤ j → n + a % 4 ≤ j) → with_bytes w v n (a % 4) / 256 ^ j % 256 ≡ w / 256 ^ j % 256
    kept j apart = grind (arith, byte_below w v n (a % 4) j, byte_above w v n (a % 4) (j - (n + a % 4)))

    outside : (b : ℕ) → (a ≤ b → a + n ≤ b) → bytes_of_words (slice_set words (a / 4) (with_bytes w v n (a % 4))) b ≡ bytes_of_words words b
    outside b apart = grind (arith, nat_tests, length-set, get_or-set_same, get_or-set_other, kept (b % 4))

-- an access at a multiple of its size stays in one word
pub aligned_in_word : (a : ℕ) (size : MemAccessSize) → a % width size ≡ 0 → a % 4 + width size ≤ 4
aligned_in_word a Byte aligned = omega arith
aligned_in_word a _ aligned = omega arith
