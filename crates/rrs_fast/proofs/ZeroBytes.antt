-- Words that are there, and zeros past them, as bytes.
use Rattle.std.proofs.Common.{◌≡◌, ◌≢◌, ℕ, zero, suc, ◌+◌, ◌/◌, ◌%◌, ◌^◌, ◌<◌, ◌≤◌, List, [], ◌∷◌, ◌++◌, length, slice_index, slice_index_or, Bool, true, false, ◌==◌, Some, refl, sym, ap, ◌∙◌, arith}
use Rattle.std.proofs.Math.Nat.{zero-div}
use Rattle.std.proofs.lemmas.List.{get_or_past}
use Rattle.std.proofs.lemmas.Bool.Decides.{nat_tests}
use Rattle.rrs_memory.specs.declared.MemAccessSize.{MemAccessSize}
use Rattle.rrs_memory.specs.Bytes.{ByteMap, width, little_endian, all_writable, store}
use Rattle.rrs_memory.specs.VecBytes.{bytes_of_words, lies_in_words}
use Rattle.rrs_memory.proofs.ByteLemmas.{little_endian-moved, store_inside, store_outside, store_by, write-allowed}
use Rattle.rrs_memory.proofs.VecWords.{byte_at, aligned_in_word}
use Rattle.rrs_fast.specs.ZeroWords.{bytes_or_zero}

-- a zero more
pub zero_pushed : (words : List ℕ) (i : ℕ) → slice_index_or (words ++ 0 ∷ []) i 0 ≡ slice_index_or words i 0
zero_pushed [] zero = refl
zero_pushed [] (suc i) = refl
zero_pushed (w ∷ ws) zero = refl
zero_pushed (w ∷ ws) (suc i) = zero_pushed ws i

-- zeros have the value 0
pub zero_value : (f : ByteMap) (a n : ℕ) → ((i : ℕ) → i < n → f (a + i) ≡ Some 0) → little_endian f a n ≡ Some 0
zero_value f a zero zeros = refl
zero_value f a (suc n) zeros = rw (zero_value f a n (λ i less. zeros i (omega (arith, less))), zeros n (omega arith)) (ap Some (omega arith))

-- a byte past the words
pub past : (words : List ℕ) (place : ℕ) → length words ≤ place / 4 → bytes_or_zero words place ≡ Some 0
past words place beyond = rw (get_or_past words (place / 4) 0 beyond) (ap Some (ap (λ x. x % 256) (zero-div (256 ^ (place % 4)))))

-- the same words have the same bytes
pub same_bytes : (words words' : List ℕ) → ((i : ℕ) → slice_index_or words' i 0 ≡ slice_index_or words i 0)
    → (place : ℕ) → bytes_or_zero words' place ≡ bytes_or_zero words place
same_bytes words words' same place = ap (λ w. Some (w / 256 ^ (place % 4) % 256)) (same (place / 4))

module _ (place : ℕ) (size : MemAccessSize) (aligned : place % width size ≡ 0) (low : place < 2 ^ 32) where
  within : place % 4 + width size ≤ 4
  within = aligned_in_word place size aligned

  -- the bytes of a word that is there
  there : (words : List ℕ) → place / 4 < length words → (b : ℕ) → b / 4 ≡ place / 4 → bytes_of_words words b ≡ bytes_or_zero words b
  there words below b same = byte_at words b (omega (arith, same, low)) (omega (arith, same, below))

  pub value_there : (words : List ℕ) → place / 4 < length words
      → little_endian (bytes_of_words words) place (width size) ≡ little_endian (bytes_or_zero words) place (width size)
  value_there words below =
      little_endian-moved (bytes_of_words words) (bytes_or_zero words) place place (width size)
      (λ i less. there words below (place + i) (omega (arith, within, less)))

  pub granted_there : (words : List ℕ) → place / 4 < length words → all_writable (lies_in_words words) place (width size) ≡ true
  granted_there words below =
      write-allowed (lies_in_words words) place (width size)
      (λ i less. let same : (place + i) / 4 ≡ place / 4 = omega (arith, within, less) in grind (arith, nat_tests, same, low, below))

  -- a store into such a word
  pub stored_there : (old new : List ℕ) (value : ℕ) → place / 4 < length old → length new ≡ length old
      → bytes_of_words new ≡ store (bytes_of_words old) place (width size) value
      → ((i : ℕ) → i ≢ place / 4 → slice_index new i ≡ slice_index old i)
      → bytes_or_zero new ≡ store (bytes_or_zero old) place (width size) value
  stored_there old new value below same wrote others =
      store_by (bytes_or_zero old) (bytes_or_zero new) place (width size) value
      (λ b from to.
      let word : b / 4 ≡ place / 4 = omega (arith, within, from, to) in
      sym (there new (omega (arith, same, below)) b word) ∙ ap (λ f. f b) wrote
      ∙ store_inside (bytes_of_words old) place (width size) value b from to)
      (λ b apart. outside b apart (b / 4 == place / 4) refl)
    where
      outside : (b : ℕ) → (place ≤ b → place + width size ≤ b) → (t : Bool) → (b / 4 == place / 4) ≡ t → bytes_or_zero new b ≡ bytes_or_zero old b
      outside b apart true is =
          let word : b / 4 ≡ place / 4 = grind (arith, nat_tests, is) in
          sym (there new (omega (arith, same, below)) b word) ∙ ap (λ f. f b) wrote
          ∙ store_outside (bytes_of_words old) place (width size) value b apart ∙ there old below b word
      outside b apart false is =
          ap (λ w. Some (w / 256 ^ (b % 4) % 256)) (others (b / 4) (grind (arith, nat_tests, is)))
