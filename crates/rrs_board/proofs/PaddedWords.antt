-- The words of RAM as bytes: those that are there, and zeros for the others.
use Rattle.std.proofs.Common.{◌≡◌, ◌≢◌, ℕ, zero, suc, ◌+◌, ◌*◌, ◌/◌, ◌%◌, ◌^◌, ◌<◌, ◌≤◌, List, [], ◌∷◌, length, replicate, slice_index, slice_index_or, Bool, true, false, ◌&&◌, nat_lt, if◌then◌else◌, Some, None, vec_capacity, refl, sym, subst, ap, ◌∙◌, arith}
use Rattle.std.proofs.lemmas.Bool.Decides.{nat_tests}
use Rattle.std.proofs.lemmas.List.{get_or_past}
use Rattle.rrs_memory.specs.declared.MemAccessSize.{MemAccessSize}
use Rattle.rrs_memory.specs.Bytes.{width, little_endian, all_writable, store, Writes, IsLawful, EndsAtLastAddress}
use Rattle.rrs_memory.specs.VecBytes.{lies_in_words, bytes_of_words, vec_bytes, vec_writable, vec_layout, VecWrites}
use Rattle.rrs_memory.proofs.ByteLemmas.{little_endian-moved, little_endian-unmapped, all_writable-refused, store_inside, store_outside, store_by, write-allowed}
use Rattle.rrs_memory.proofs.Regions.{width_pos}
use Rattle.rrs_memory.proofs.VecWords.{aligned_in_word}
use Rattle.rrs_fast.specs.ZeroWords.{bytes_or_zero}
use Rattle.rrs_fast.specs.declared.zero_words.ZeroWords.{ZeroWords}
use Rattle.rrs_fast.proofs.ZeroBytes.{zero_value, past}
use Rattle.rrs_board.specs.Ram.{padded, padded_length, all_words}

-- ---- the words

pub padded_at : (n : ℕ) (words : List ℕ) (i : ℕ) → i < n → slice_index (padded n words) i ≡ slice_index_or words i 0
unfolding padded
padded_at zero words i below = absurd (omega (arith, below))
padded_at (suc n) [] zero below = refl
padded_at (suc n) [] (suc i) below = padded_at n [] i (omega (arith, below))
padded_at (suc n) (w ∷ words) zero below = refl
padded_at (suc n) (w ∷ words) (suc i) below = padded_at n words i (omega (arith, below))

pub padded_none : (n : ℕ) → padded n [] ≡ replicate n 0
unfolding padded
padded_none zero = refl
padded_none (suc n) = ap (λ words. 0 ∷ words) (padded_none n)

-- words of which one differs
pub padded_other : (n : ℕ) (old new : List ℕ) (i : ℕ) → slice_index_or new i 0 ≡ slice_index_or old i 0
    → slice_index (padded n new) i ≡ slice_index (padded n old) i
padded_other n old new i same = at (nat_lt i n) refl
  where
    at : (t : Bool) → nat_lt i n ≡ t → slice_index (padded n new) i ≡ slice_index (padded n old) i
    at true is =
        let below : i < n = grind (arith, nat_tests, is) in
        padded_at n new i below ∙ same ∙ sym (padded_at n old i below)
    at false is =
        let above : n ≤ i = grind (arith, nat_tests, is) in
        get_or_past (padded n new) i 0 (subst (λ m. m ≤ i) (padded_length n new) above)
        ∙ sym (get_or_past (padded n old) i 0 (subst (λ m. m ≤ i) (padded_length n old) above))

-- ---- their bytes

-- whether an address lies in n words
abbrev lies : ℕ → ℕ → Bool
lies n a = nat_lt a (4 * n) && nat_lt a (2 ^ 32)

pub lies_padded : (n : ℕ) (words : List ℕ) (a : ℕ) → lies_in_words (padded n words) a ≡ lies n a
lies_padded n words a = ap (λ m. nat_lt a (4 * m) && nat_lt a (2 ^ 32)) (sym (padded_length n words))

byte_padded : (n : ℕ) (words : List ℕ) (a : ℕ) → bytes_of_words (padded n words) a ≡ (if lies n a then bytes_or_zero words a else None)
byte_padded n words a = at (lies n a) refl
  where
    at : (t : Bool) → lies n a ≡ t → bytes_of_words (padded n words) a ≡ (if lies n a then bytes_or_zero words a else None)
    at true is =
        let below : a < 4 * n = grind (arith, nat_tests, is) in
        ap (λ (t : Bool). if t then Some (slice_index (padded n words) (a / 4) / 256 ^ (a % 4) % 256) else None) (lies_padded n words a ∙ is)
        ∙ ap (λ w. Some (w / 256 ^ (a % 4) % 256)) (padded_at n words (a / 4) (omega (arith, below)))
        ∙ sym (ap (λ (t : Bool). if t then bytes_or_zero words a else None) is)
    at false is =
        ap (λ (t : Bool). if t then Some (slice_index (padded n words) (a / 4) / 256 ^ (a % 4) % 256) else None) (lies_padded n words a ∙ is)
        ∙ sym (ap (λ (t : Bool). if t then bytes_or_zero words a else None) is)

lawful : (words : List ℕ) (a n : ℕ) → IsLawful (bytes_of_words words) (lies_in_words words) a n
lawful words a n = record {
  values = λ i byte below e. grind (arith, nat_tests);
  mapped = λ i below t. grind (arith, nat_tests);
}

ends : (words : List ℕ) → EndsAtLastAddress (bytes_of_words words) (lies_in_words words)
ends words a beyond = (grind (arith, nat_tests), grind (arith, nat_tests))

-- ---- an access

module _ (place : ℕ) (size : MemAccessSize) (aligned : place % width size ≡ 0) (low : place < 2 ^ 32) (n : ℕ) where
  within : place % 4 + width size ≤ 4
  within = aligned_in_word place size aligned

  module _ (there : place / 4 < n) where
    lies_there : (a : ℕ) → a / 4 ≡ place / 4 → lies n a ≡ true
    lies_there a same = grind (arith, nat_tests, same, low, there)

    byte_there : (words : List ℕ) (a : ℕ) → a / 4 ≡ place / 4 → bytes_of_words (padded n words) a ≡ bytes_or_zero words a
    byte_there words a same = byte_padded n words a ∙ ap (λ (t : Bool). if t then bytes_or_zero words a else None) (lies_there a same)

    pub value_padded : (words : List ℕ) → little_endian (bytes_of_words (padded n words)) place (width size) ≡ little_endian (bytes_or_zero words) place (width size)
    value_padded words = little_endian-moved (bytes_of_words (padded n words)) (bytes_or_zero words) place place (width size)
        (λ i less. byte_there words (place + i) (omega (arith, within, less)))

    pub zero_padded : (words : List ℕ) → length words ≤ place / 4 → little_endian (bytes_of_words (padded n words)) place (width size) ≡ Some 0
    zero_padded words beyond = value_padded words ∙ zero_value (bytes_or_zero words) place (width size)
        (λ i less. past words (place + i) (omega (arith, within, less, beyond)))

    pub granted_padded : (words : List ℕ) → all_writable (lies_in_words (padded n words)) place (width size) ≡ true
    granted_padded words = write-allowed (lies_in_words (padded n words)) place (width size)
        (λ i less. lies_padded n words (place + i) ∙ lies_there (place + i) (omega (arith, within, less)))

    pub stored_padded : (old new : List ℕ) (value : ℕ)
        → bytes_or_zero new ≡ store (bytes_or_zero old) place (width size) value
        → bytes_of_words (padded n new) ≡ store (bytes_of_words (padded n old)) place (width size) value
    stored_padded old new value wrote =
        store_by (bytes_of_words (padded n old)) (bytes_of_words (padded n new)) place (width size) value
        (λ a from to. byte_there new a (omega (arith, within, from, to)) ∙ ap (λ f. f a) wrote
        ∙ store_inside (bytes_or_zero old) place (width size) value a from to)
        (λ a apart. byte_padded n new a
        ∙ ap (λ o. if lies n a then o else None) (ap (λ f. f a) wrote ∙ store_outside (bytes_or_zero old) place (width size) value a apart)
        ∙ sym (byte_padded n old a))

  module _ (beyond : n ≤ place / 4) where
    lies_past : lies n (place + 0) ≡ false
    lies_past = grind (arith, nat_tests, beyond)

    pub none_padded : (words : List ℕ) → little_endian (bytes_of_words (padded n words)) place (width size) ≡ None
    none_padded words = little_endian-unmapped (bytes_of_words (padded n words)) place (width size) (width_pos size)
        (byte_padded n words (place + 0) ∙ ap (λ (t : Bool). if t then bytes_or_zero words (place + 0) else None) lies_past)

    pub refused_padded : (words : List ℕ) → all_writable (lies_in_words (padded n words)) place (width size) ≡ false
    refused_padded words = all_writable-refused (lies_in_words (padded n words)) place (width size) (width_pos size)
        (lies_padded n words (place + 0) ∙ lies_past)

-- the words that are there are no more than there is room for
pub fits : (z : ZeroWords) → length z.words.mem.items ≤ z.room
fits z = subst (λ n. n ≤ z.room) z.words.mem.ok.0 z.within

-- ---- a write

module _ (z : ZeroWords) (place : ℕ) (size : MemAccessSize) (aligned : place % width size ≡ 0) (low : place < 2 ^ 32) (value : ℕ) where
  -- of a word for which there is room
  module _ (z' : ZeroWords) (room : z'.room ≡ z.room) (cap : vec_capacity z'.words.mem ≡ vec_capacity z.words.mem) (there : place / 4 < z.room)
      (wrote : bytes_or_zero z'.words.mem.items ≡ store (bytes_or_zero z.words.mem.items) place (width size) value) where
    stored : vec_bytes (all_words z') ≡ store (vec_bytes (all_words z)) place (width size) value
    stored = ap (λ n. bytes_of_words (padded n z'.words.mem.items)) room
        ∙ stored_padded place size aligned low z.room there z.words.mem.items z'.words.mem.items value wrote

    length_same : length (padded z'.room z'.words.mem.items) ≡ length (padded z.room z.words.mem.items)
    length_same = sym (padded_length z'.room z'.words.mem.items) ∙ room ∙ padded_length z.room z.words.mem.items

    pub granted_write : Writes vec_bytes vec_writable vec_layout (all_words z) (all_words z') place (width size) value true
    granted_write = record {
      granted = sym (granted_padded place size aligned low z.room there z.words.mem.items);
      written = stored;
      refused = tt;
      writable_kept = ap (λ n a. nat_lt a (4 * n) && nat_lt a (2 ^ 32)) length_same;
      layout_kept = ap (λ n. n ∷ []) room;
      lawful = lawful (padded z.room z.words.mem.items) place (width size);
      ends = ends (padded z.room z.words.mem.items);
    }

    pub did_write : ((i : ℕ) → i ≢ place / 4 → slice_index_or z'.words.mem.items i 0 ≡ slice_index_or z.words.mem.items i 0)
        → VecWrites (all_words z) place size value (all_words z') true
    did_write others = record {
      written = stored;
      refused = tt;
      length_kept = length_same;
      room_kept = cap;
      others_kept = λ i other. ap (λ n. slice_index (padded n z'.words.mem.items) i) room
          ∙ padded_other z.room z.words.mem.items z'.words.mem.items i (others i other);
    }

  -- of another
  module _ (beyond : z.room ≤ place / 4) where
    pub refused_write : Writes vec_bytes vec_writable vec_layout (all_words z) (all_words z) place (width size) value false
    refused_write = record {
      granted = sym (refused_padded place size aligned low z.room beyond z.words.mem.items);
      written = tt;
      refused = refl;
      writable_kept = refl;
      layout_kept = refl;
      lawful = lawful (padded z.room z.words.mem.items) place (width size);
      ends = ends (padded z.room z.words.mem.items);
    }
