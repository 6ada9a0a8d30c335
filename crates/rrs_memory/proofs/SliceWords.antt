-- The bytes of words from a base on are those of the words from 0 on, moved.
use Rattle.std.proofs.Common.{◌≡◌, ℕ, ◌+◌, ◌-◌, ◌*◌, ◌/◌, ◌%◌, ◌^◌, ◌<◌, ◌≤◌, List, length, true, false, ◌&&◌, nat_lt, Some, None, if◌then◌else◌, ap, ◌∙◌, arith}
use Rattle.std.proofs.lemmas.Bool.{cond-true}
use Rattle.std.proofs.lemmas.Bool.Decides.{nat_tests}
use Rattle.rrs_memory.specs.declared.MemAccessSize.{MemAccessSize}
use Rattle.rrs_memory.specs.Bytes.{width, little_endian, all_writable, store, IsLawful, EndsAtLastAddress}
use Rattle.rrs_memory.specs.VecBytes.{bytes_of_words, lies_in_words}
use Rattle.rrs_memory.specs.SliceBytes.{word_start, is_from, bytes_from, lies_from}
use Rattle.rrs_memory.proofs.ByteLemmas.{little_endian-moved, all_writable-moved, store_inside, store_by}
use Rattle.rrs_memory.proofs.Regions.{aligned_below, width_pos}

-- where the words begin, and past it
is_from_true : (base a : ℕ) → word_start base ≤ a → a < 2 ^ 32 → is_from base a ≡ true
is_from_true base a from low = grind (arith, nat_tests)

module _ (base a : ℕ) (size : MemAccessSize) (aligned : a % width size ≡ 0) (low : a < 2 ^ 32) where
  -- the bytes of an access from the base on
  module _ (words : List ℕ) (from : word_start base ≤ a) where
    inside : (i : ℕ) → i < width size → is_from base (a + i) ≡ true
    inside i below = is_from_true base (a + i) (omega (arith, from)) (aligned_below (2 ^ 32) a i size (omega arith) aligned below low)

    byte_moved : (i : ℕ) → i < width size → bytes_from base words (a + i) ≡ bytes_of_words words (a - word_start base + i)
    byte_moved i below = rw (inside i below) (ap (bytes_of_words words) (omega (arith, from)))

    lies_moved : (i : ℕ) → i < width size → lies_from base words (a + i) ≡ lies_in_words words (a - word_start base + i)
    lies_moved i below = rw (inside i below) (ap (lies_in_words words) (omega (arith, from)))

    pub value_from : little_endian (bytes_from base words) a (width size) ≡ little_endian (bytes_of_words words) (a - word_start base) (width size)
    value_from = little_endian-moved (bytes_from base words) (bytes_of_words words) a (a - word_start base) (width size) byte_moved

    pub writable_from : all_writable (lies_from base words) a (width size) ≡ all_writable (lies_in_words words) (a - word_start base) (width size)
    writable_from = all_writable-moved (lies_from base words) (lies_in_words words) a (a - word_start base) (width size) lies_moved

  -- a write of words from 0 on is one of words from the base on
  module _ (words words' : List ℕ) (value : ℕ) (from : word_start base ≤ a)
      (wrote : bytes_of_words words' ≡ store (bytes_of_words words) (a - word_start base) (width size) value) where
    end_low : a + width size ≤ 2 ^ 32
    end_low = omega (arith, aligned_below (2 ^ 32) a (width size - 1) size (omega arith) aligned (omega (arith, width_pos size)) low, width_pos size)

    byte_stored : (b : ℕ) → a ≤ b → b < a + width size → bytes_from base words' b ≡ Some (value / 256 ^ (b - a) % 256)
    byte_stored b p q =
        cond-true (is_from base b) (bytes_of_words words' (b - word_start base)) None (is_from_true base b (omega (arith, from)) (omega (arith, end_low)))
        ∙ ap (λ f. f (b - word_start base)) wrote
        ∙ store_inside (bytes_of_words words) (a - word_start base) (width size) value (b - word_start base) (omega arith) (omega (arith, from))
        ∙ ap (λ x. Some (value / 256 ^ x % 256)) (omega (arith, from))

    byte_kept : (b : ℕ) → (a ≤ b → a + width size ≤ b) → bytes_from base words' b ≡ bytes_from base words b
    byte_kept b apart = grind (arith, nat_tests, ap (λ f. f (b - word_start base)) wrote)

    pub store_from : bytes_from base words' ≡ store (bytes_from base words) a (width size) value
    store_from = store_by (bytes_from base words) (bytes_from base words') a (width size) value byte_stored byte_kept

-- the bytes are lawful everywhere, since all of them are
pub lawful_from : (base : ℕ) (words : List ℕ) (a n : ℕ) → IsLawful (bytes_from base words) (lies_from base words) a n
lawful_from base words a n = record {
  values = λ i byte below e. grind (arith, nat_tests);
  mapped = λ i below t. grind (arith, nat_tests);
}

pub ends_from : (base : ℕ) (words : List ℕ) → EndsAtLastAddress (bytes_from base words) (lies_from base words)
ends_from base words a past = (grind (arith, nat_tests), grind (arith, nat_tests))

-- as many words lie at the same addresses
pub lies_same : (base : ℕ) (words words' : List ℕ) → length words' ≡ length words → lies_from base words' ≡ lies_from base words
lies_same base words words' same =
    ap (λ n a. if is_from base a then nat_lt (a - word_start base) (4 * n) && nat_lt (a - word_start base) (2 ^ 32) else false) same
