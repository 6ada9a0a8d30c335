-- Bytes of words of registers: what a read of a part of one gives, and what replacing a part leaves.
use Rattle.std.proofs.Common.{◌≡◌, ◌≢◌, ℕ, zero, suc, ◌+◌, ◌-◌, ◌*◌, ◌/◌, ◌%◌, ◌^◌, ◌<◌, ◌≤◌, Bool, ◌&&◌, Option, Some, None, true, false, refl, sym, ap, ◌∙◌, inl, inr, arith}
use Rattle.std.specs.Prelude.{IsTrue, IsSome, ◌⊎◌}
use Rattle.std.proofs.lemmas.Bool.{cases_eq}
use Rattle.rrs_memory.specs.declared.MemAccessSize.TheVariants.{Byte, HalfWord, Word}
use Rattle.std.proofs.Math.Nat.{div-div-eq-div-mul, mod-one}
use Rattle.std.proofs.lemmas.Nat.{pow-add}
use Rattle.std.proofs.lemmas.Bool.Decides.{nat_tests}
use Rattle.rrs_memory.specs.declared.MemAccessSize.{MemAccessSize}
use Rattle.rrs_memory.specs.Bytes.{width, little_endian, all_writable, store, sum_if_both, at_place, IsLawful, EndsAtLastAddress}
use Rattle.rrs_memory.proofs.ByteLemmas.{one_more_byte, store_by}
use Rattle.rrs_memory.proofs.VecWords.{byte_below, byte_inside, byte_above}
use Rattle.rrs_board.specs.declared.devices.Devices.{Devices}
use Rattle.rrs_board.specs.Registers.{register, with_register, start_of, byte_of, is_word, word_bytes, with_bytes, device_bytes, device_writable}

-- ---- one word

-- the byte j further in the same word
byte_on : (f : ℕ → Option ℕ) (a j w : ℕ) → f (start_of a) ≡ Some w → a % 4 + j < 4
    → word_bytes f (a + j) ≡ Some (w / 256 ^ (a % 4 + j) % 256)
byte_on f a j w e within =
    let same : start_of (a + j) ≡ start_of a = omega arith in
    let place : (a + j) % 4 ≡ a % 4 + j = omega arith in
    ap (λ x. byte_of ((a + j) % 4) (f x)) same ∙ ap (byte_of ((a + j) % 4)) e
    ∙ ap (λ p. Some (w / 256 ^ p % 256)) place

pub value_of_word : (f : ℕ → Option ℕ) (a n w : ℕ) → f (start_of a) ≡ Some w → a % 4 + n ≤ 4
    → little_endian (word_bytes f) a n ≡ Some (w / 256 ^ (a % 4) % 256 ^ n)
value_of_word f a zero w e within = ap Some (sym (mod-one (w / 256 ^ (a % 4))))
value_of_word f a (suc n) w e within =
    let x = w / 256 ^ (a % 4) in
    let byte : w / 256 ^ (a % 4 + n) ≡ x / 256 ^ n =
    ap (λ y. w / y) (pow-add 256 (a % 4) n) ∙ sym (div-div-eq-div-mul w (256 ^ (a % 4)) (256 ^ n)) in
    ap (λ o. sum_if_both o (at_place n (word_bytes f (a + n)))) (value_of_word f a n w e (omega arith))
    ∙ ap (λ o. sum_if_both (Some (x % 256 ^ n)) (at_place n o)) (byte_on f a n w e (omega arith))
    ∙ ap (λ y. Some (x % 256 ^ n + y % 256 * 256 ^ n)) byte
    ∙ ap Some (one_more_byte x n)

-- where there is no word there are no bytes
nothing : (o : Option ℕ) → sum_if_both o None ≡ None
nothing None = refl
nothing (Some x) = refl

pub no_value : (f : ℕ → Option ℕ) (a n : ℕ) → f (start_of a) ≡ None → a % 4 + n < 4
    → little_endian (word_bytes f) a (suc n) ≡ None
no_value f a n e within =
    let same : start_of (a + n) ≡ start_of a = omega arith in
    ap (λ o. sum_if_both (little_endian (word_bytes f) a n) (at_place n (byte_of ((a + n) % 4) o))) (ap f same ∙ e)
    ∙ nothing (little_endian (word_bytes f) a n)

-- replacing n bytes of the word at a stores them
module _ (f g : ℕ → Option ℕ) (a n v w : ℕ) (e : f (start_of a) ≡ Some w)
    (e' : g (start_of a) ≡ Some (with_bytes w v n (a % 4)))
    (others : (k : ℕ) → k ≢ start_of a → g k ≡ f k) (within : a % 4 + n ≤ 4) where
  inside : (b : ℕ) → a ≤ b → b < a + n → word_bytes g b ≡ Some (v / 256 ^ (b - a) % 256)
  inside b from to =
      let same : start_of b ≡ start_of a = omega arith in
      let place : b % 4 ≡ a % 4 + (b - a) = omega arith in
      ap (λ x. byte_of (b % 4) (g x)) same ∙ ap (byte_of (b % 4)) e'
      ∙ ap (λ j. Some (with_bytes w v n (a % 4) / 256 ^ j % 256)) place
      ∙ ap Some (byte_inside w v n (a % 4) (b - a) (omega arith))

  kept : (j : ℕ) → (a % 4 ≤ j → n + a % 4 ≤ j)
      → with_bytes w v n (a % 4) / 256 ^ j % 256 ≡ w / 256 ^ j % 256
  kept j apart = grind (arith, byte_below w v n (a % 4) j, byte_above w v n (a % 4) (j - (n + a % 4)))

  in_word : (b : ℕ) → start_of b ≡ start_of a → (a ≤ b → a + n ≤ b) → word_bytes g b ≡ word_bytes f b
  in_word b same apart =
      ap (λ x. byte_of (b % 4) (g x)) same ∙ ap (byte_of (b % 4)) e'
      ∙ ap Some (kept (b % 4) (λ p. omega (arith, same, apart)))
      ∙ sym (ap (λ x. byte_of (b % 4) (f x)) same ∙ ap (byte_of (b % 4)) e)

  outside_by : (b : ℕ) → (a ≤ b → a + n ≤ b)
      → (start_of b ≡ start_of a) ⊎ (start_of b ≡ start_of a → ⊥) → word_bytes g b ≡ word_bytes f b
  outside_by b apart (inl same) = in_word b same apart
  outside_by b apart (inr other) = ap (byte_of (b % 4)) (others (start_of b) other)

  outside : (b : ℕ) → (a ≤ b → a + n ≤ b) → word_bytes g b ≡ word_bytes f b
  outside b apart = outside_by b apart (cases_eq (start_of b) (start_of a))

  pub stores : word_bytes g ≡ store (word_bytes f) a n v
  stores = store_by (word_bytes f) (word_bytes g) a n v inside outside

-- ---- which addresses there are

pub all_words : (f : ℕ → Option ℕ) (a n w : ℕ) → f (start_of a) ≡ Some w → a % 4 + n ≤ 4
    → all_writable (λ b. is_word (f (start_of b))) a n ≡ true
all_words f a zero w e within = refl
all_words f a (suc n) w e within =
    let same : start_of (a + n) ≡ start_of a = omega arith in
    ap (λ x. x && is_word (f (start_of (a + n)))) (all_words f a n w e (omega arith))
    ∙ ap is_word (ap f same ∙ e)

never : (x : Bool) → (x && false) ≡ false
never true = refl
never false = refl

no_words : (f : ℕ → Option ℕ) (a n : ℕ) → f (start_of a) ≡ None → a % 4 + n < 4
    → all_writable (λ b. is_word (f (start_of b))) a (suc n) ≡ false
no_words f a n e within =
    let same : start_of (a + n) ≡ start_of a = omega arith in
    ap (λ o. all_writable (λ b. is_word (f (start_of b))) a n && is_word o) (ap f same ∙ e)
    ∙ never (all_writable (λ b. is_word (f (start_of b))) a n)

-- an access of any size where there is no word
pub nothing_read : (f : ℕ → Option ℕ) (a : ℕ) (size : MemAccessSize) → f (start_of a) ≡ None
    → a % width size ≡ 0 → little_endian (word_bytes f) a (width size) ≡ None
nothing_read f a Byte e aligned = no_value f a 0 e (omega arith)
nothing_read f a HalfWord e aligned = no_value f a 1 e (omega arith)
nothing_read f a Word e aligned = no_value f a 3 e (omega arith)

pub nothing_writable : (f : ℕ → Option ℕ) (a : ℕ) (size : MemAccessSize) → f (start_of a) ≡ None
    → a % width size ≡ 0 → all_writable (λ b. is_word (f (start_of b))) a (width size) ≡ false
nothing_writable f a Byte e aligned = no_words f a 0 e (omega arith)
nothing_writable f a HalfWord e aligned = no_words f a 1 e (omega arith)
nothing_writable f a Word e aligned = no_words f a 3 e (omega arith)

-- as many words as before
same_words_by : (f g : ℕ → Option ℕ) (s v w k : ℕ) → f s ≡ Some w → g s ≡ Some v
    → ((k : ℕ) → k ≢ s → g k ≡ f k) → (k ≡ s) ⊎ (k ≡ s → ⊥) → is_word (g k) ≡ is_word (f k)
same_words_by f g s v w k e e' others (inl same) =
    ap (λ x. is_word (g x)) same ∙ ap is_word e' ∙ sym (ap (λ x. is_word (f x)) same ∙ ap is_word e)
same_words_by f g s v w k e e' others (inr other) = ap is_word (others k other)

pub same_words : (f g : ℕ → Option ℕ) (s v w k : ℕ) → f s ≡ Some w → g s ≡ Some v
    → ((k : ℕ) → k ≢ s → g k ≡ f k) → is_word (g k) ≡ is_word (f k)
same_words f g s v w k e e' others = same_words_by f g s v w k e e' others (cases_eq k s)

-- ---- the registers

pub register_set : (d : Devices) (s v w : ℕ) → v < 2 ^ 32 → register d s ≡ Some w
    → register (with_register d s v) s ≡ Some v
register_set d s v w below e = grind (arith, nat_tests)

pub register_other : (d : Devices) (s v k : ℕ) → v < 2 ^ 32 → k ≢ s
    → register (with_register d s v) k ≡ register d k
register_other d s v k below other = grind (arith, nat_tests)

-- no register is from 2 ^ 31 on
no_register : (d : Devices) (s : ℕ) → 2 ^ 31 ≤ s → register d s ≡ None
no_register d s past = grind (arith, nat_tests)

pub ends_devices : (d : Devices) → EndsAtLastAddress (device_bytes d) (device_writable d)
ends_devices d a past =
    let none = no_register d (start_of a) (omega arith) in
    (ap (byte_of (a % 4)) none, ap is_word none)

-- ---- laws

byte_below_256 : (o : Option ℕ) (p byte : ℕ) → byte_of p o ≡ Some byte → byte < 256
byte_below_256 (Some w) p byte e = grind arith
byte_below_256 None p byte e = grind arith

mapped_word : (o : Option ℕ) (p : ℕ) → IsTrue (is_word o) → IsSome (byte_of p o)
mapped_word (Some w) p t = search
mapped_word None p t = search

pub lawful_devices : (d : Devices) (a n : ℕ) → IsLawful (device_bytes d) (device_writable d) a n
lawful_devices d a n = record {
  values = λ i byte below e. byte_below_256 (register d (start_of (a + i))) ((a + i) % 4) byte e;
  mapped = λ i below t. mapped_word (register d (start_of (a + i))) ((a + i) % 4) t;
}
