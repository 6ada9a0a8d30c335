-- The bytes of a process's memory: which word an access reads, and what a store into one leaves.
use Rattle.std.proofs.Common.{◌≡◌, ℕ, ◌+◌, ◌-◌, ◌*◌, ◌/◌, ◌%◌, ◌^◌, ◌<◌, ◌≤◌, Bool, true, false, List, length, slice_index_or, if◌then◌else◌, nat_lt, nat_le, Some, None, refl, ap, ◌∙◌, arith}
use Rattle.std.proofs.Math.Path.{fun_ext}
use Rattle.std.proofs.lemmas.Bool.Decides.{nat_tests}
use Rattle.rrs_memory.specs.declared.MemAccessSize.{MemAccessSize}
use Rattle.rrs_memory.specs.Bytes.{ByteMap, width, little_endian, all_writable, store, IsLawful, EndsAtLastAddress}
use Rattle.rrs_memory.proofs.ByteLemmas.{little_endian-moved, little_endian-unmapped, all_writable-refused, store_inside, store_outside, store_by, write-allowed}
use Rattle.rrs_memory.proofs.VecWords.{aligned_in_word}
use Rattle.rrs_memory.proofs.Regions.{width_pos}
use Rattle.rrs_fast.specs.ZeroWords.{bytes_or_zero}
use Rattle.rrs_exec.specs.ProcessPlaces.{distance, distance_below}
use Rattle.rrs_exec.specs.ProcessMemories.{lies_between, place_below, bytes_of_parts}
use Rattle.rrs_fast.proofs.ZeroBytes.{same_bytes, zero_value, past}

-- an access has a byte, and ends where a word does or before
pub some_width : (size : MemAccessSize) → 0 < width size
some_width size = width_pos size

pub to_bound : (a : ℕ) (size : MemAccessSize) → a % width size ≡ 0 → (end : ℕ) → end % 4 ≡ 0 → a < end → a + width size ≤ end
to_bound a size aligned end al before = omega (arith, aligned_in_word a size aligned, al, before)

-- places below an end are apart as their addresses are
apart_below : (end a b n : ℕ) → end % 4 ≡ 0 → a < end → b < end → a % 4 + n ≤ 4 → (a ≤ b → a + n ≤ b) → place_below end a ≤ place_below end b → place_below end a + n ≤ place_below end b
apart_below end a b n al la lb within apart from = at (nat_le a b) refl
  where
    at : (t : Bool) → nat_le a b ≡ t → place_below end a + n ≤ place_below end b
    at true is =
        let later : a + n ≤ b = apart (grind (arith, nat_tests, is)) in
        omega (arith, al, la, lb, within, later, from)
    at false is =
        let before : b < a = grind (arith, nat_tests, is) in
        omega (arith, al, la, lb, within, before, from)

-- the bytes of the two parts
abbrev pub parts : ℕ → ℕ → ℕ → List ℕ → List ℕ → ByteMap
parts base split end lower upper a = if lies_between base end a then bytes_of_parts base split end lower upper a else None

module _ (base split end : ℕ) (low high : List ℕ) where
  byte_low : (lower upper : List ℕ) (b : ℕ) → split ≤ end → base ≤ b → b < split → parts base split end lower upper b ≡ bytes_or_zero lower (b - base)
  byte_low lower upper b order from below = grind (arith, nat_tests)

  byte_high : (lower upper : List ℕ) (b : ℕ) → base ≤ split → split ≤ b → b < end → parts base split end lower upper b ≡ bytes_or_zero upper (place_below end b)
  byte_high lower upper b order from below = grind (arith, nat_tests)

  byte_out : (lower upper : List ℕ) (b : ℕ) → lies_between base end b ≡ false → parts base split end lower upper b ≡ None
  byte_out lower upper b out = rw out refl

  pub lawful_parts : (a n : ℕ) → IsLawful (parts base split end low high) (lies_between base end) a n
  lawful_parts a n = record {
    values = λ i byte below e. grind (arith, nat_tests);
    mapped = λ i below t. grind (arith, nat_tests);
  }

  pub ends_parts : end ≤ 2 ^ 32 → EndsAtLastAddress (parts base split end low high) (lies_between base end)
  ends_parts top a past = (grind (arith, nat_tests), grind (arith, nat_tests))

  -- other words with the same bytes
  pub same_parts : (low' high' : List ℕ) → ((i : ℕ) → slice_index_or low' i 0 ≡ slice_index_or low i 0)
      → ((i : ℕ) → slice_index_or high' i 0 ≡ slice_index_or high i 0) → parts base split end low' high' ≡ parts base split end low high
  same_parts low' high' l h =
      let lows : bytes_or_zero low' ≡ bytes_or_zero low = fun_ext (same_bytes low low' l) in
      let highs : bytes_or_zero high' ≡ bytes_or_zero high = fun_ext (same_bytes high high' h) in
      fun_ext (λ a. ap (λ f. if lies_between base end a then (if nat_lt a split then f (a - base) else bytes_or_zero high' (place_below end a)) else None) lows
      ∙ ap (λ f. if lies_between base end a then (if nat_lt a split then bytes_or_zero low (a - base) else f (place_below end a)) else None) highs)

  module _ (base-al : base % 4 ≡ 0) (split-al : split % 4 ≡ 0) (end-al : end % 4 ≡ 0) (top : end < 2 ^ 32)
      (low_fits : base + 4 * length low ≤ split) (high_fits : split + 4 * length high ≤ end)
      (a : ℕ) (size : MemAccessSize) (aligned : a % width size ≡ 0) (in_range : a < 2 ^ 32) where
    within : a % 4 + width size ≤ 4
    within = aligned_in_word a size aligned

    -- an access whose word is one of the lower ones
    module _ (hit : distance base a / 4 < length low) where
      pub from_base : base ≤ a
      from_base = omega (arith, hit, low_fits, high_fits, top, in_range, base-al)

      pub at_distance : distance base a ≡ a - base
      at_distance = omega (arith, from_base, in_range, top, low_fits, high_fits)

      pub to_split : a + width size ≤ split
      to_split = omega (arith, hit, at_distance, from_base, within, low_fits, base-al)

      pub value_low : little_endian (parts base split end low high) a (width size) ≡ little_endian (bytes_or_zero low) (distance base a) (width size)
      value_low = little_endian-moved (parts base split end low high) (bytes_or_zero low) a (distance base a) (width size)
          (λ i less. byte_low low high (a + i) (omega (arith, high_fits)) (omega (arith, from_base)) (omega (arith, less, to_split))
          ∙ ap (bytes_or_zero low) (omega (arith, from_base, at_distance)))

      pub granted_low : all_writable (lies_between base end) a (width size) ≡ true
      granted_low = write-allowed (lies_between base end) a (width size)
          (λ i less. let f : base ≤ a + i = omega (arith, from_base) in let t : a + i < end = omega (arith, less, to_split, high_fits) in grind (arith, nat_tests, f, t))

    -- a store into words with the same bytes as the lower ones
    pub store_low : (low' : List ℕ) (value : ℕ) → base ≤ a → a + width size ≤ split
        → bytes_or_zero low' ≡ store (bytes_or_zero low) (a - base) (width size) value
        → parts base split end low' high ≡ store (parts base split end low high) a (width size) value
    store_low low' value from to wrote =
        store_by (parts base split end low high) (parts base split end low' high) a (width size) value
        (λ b f t. byte_low low' high b (omega (arith, high_fits)) (omega (arith, from, f)) (omega (arith, t, to))
        ∙ ap (λ g. g (b - base)) wrote
        ∙ store_inside (bytes_or_zero low) (a - base) (width size) value (b - base) (omega (arith, f)) (omega (arith, f, t, from))
        ∙ ap (λ x. Some (value / 256 ^ x % 256)) (omega (arith, from, f)))
        (λ b apart.
        let kept : base ≤ b → bytes_or_zero low' (b - base) ≡ bytes_or_zero low (b - base) = λ f.
        ap (λ g. g (b - base)) wrote ∙ store_outside (bytes_or_zero low) (a - base) (width size) value (b - base) (λ g. omega (arith, from, f, g, apart)) in
        grind (arith, nat_tests, kept))

    -- an access whose word is one of the upper ones
    module _ (hit : distance_below end a / 4 < length high) where
      pub before_end : a < end
      before_end = omega (arith, hit, high_fits, top, in_range, end-al)

      pub place_is : distance_below end a ≡ place_below end a
      place_is = omega (arith, before_end, in_range, top)

      pub from_split : split ≤ a
      from_split = omega (arith, hit, place_is, before_end, high_fits, end-al)

    module _ (before : a < end) where
      pub to_end : a + width size ≤ end
      to_end = omega (arith, before, within, end-al)

      place_on : (i : ℕ) → i < width size → place_below end (a + i) ≡ place_below end a + i
      place_on i less = omega (arith, before, within, end-al, less)

      pub value_high : split ≤ a → little_endian (parts base split end low high) a (width size) ≡ little_endian (bytes_or_zero high) (place_below end a) (width size)
      value_high from = little_endian-moved (parts base split end low high) (bytes_or_zero high) a (place_below end a) (width size)
          (λ i less. byte_high low high (a + i) (omega (arith, low_fits)) (omega (arith, from)) (omega (arith, less, to_end))
          ∙ ap (bytes_or_zero high) (place_on i less))

      pub granted_high : base ≤ a → all_writable (lies_between base end) a (width size) ≡ true
      granted_high from = write-allowed (lies_between base end) a (width size)
          (λ i less. let f : base ≤ a + i = omega (arith, from) in let t : a + i < end = omega (arith, less, to_end) in grind (arith, nat_tests, f, t))

      pub store_high : (high' : List ℕ) (value : ℕ) → split ≤ a
          → bytes_or_zero high' ≡ store (bytes_or_zero high) (place_below end a) (width size) value
          → parts base split end low high' ≡ store (parts base split end low high) a (width size) value
      store_high high' value from wrote =
          store_by (parts base split end low high) (parts base split end low high') a (width size) value
          (λ b f t.
          let on : place_below end b ≡ place_below end a + (b - a) = omega (arith, before, within, end-al, f, t) in
          byte_high low high' b (omega (arith, low_fits)) (omega (arith, from, f)) (omega (arith, t, to_end))
          ∙ ap (λ g. g (place_below end b)) wrote
          ∙ store_inside (bytes_or_zero high) (place_below end a) (width size) value (place_below end b) (omega (arith, on)) (omega (arith, on, f, t))
          ∙ ap (λ x. Some (value / 256 ^ x % 256)) (omega (arith, on)))
          (λ b apart.
          let kept : b < end → bytes_or_zero high' (place_below end b) ≡ bytes_or_zero high (place_below end b) = λ t.
          ap (λ g. g (place_below end b)) wrote
          ∙ store_outside (bytes_or_zero high) (place_below end a) (width size) value (place_below end b) (apart_below end a b (width size) end-al before t within apart) in
          grind (arith, nat_tests, kept))

      -- an access whose word is none of them
      pub value_past : base ≤ a → length low ≤ distance base a / 4 → length high ≤ distance_below end a / 4
          → little_endian (parts base split end low high) a (width size) ≡ Some 0
      value_past from no_low no_high = zero_value (parts base split end low high) a (width size) (λ i less. byte i less (nat_lt (a + i) split) refl)
        where
          byte : (i : ℕ) → i < width size → (t : Bool) → nat_lt (a + i) split ≡ t → parts base split end low high (a + i) ≡ Some 0
          byte i less true is =
              let below : a + i < split = grind (arith, nat_tests, is) in
              byte_low low high (a + i) (omega (arith, high_fits)) (omega (arith, from)) below
              ∙ past low (a + i - base) (omega (arith, no_low, from, in_range, within, less, base-al, top, before))
          byte i less false is =
              let above : split ≤ a + i = grind (arith, nat_tests, is) in
              byte_high low high (a + i) (omega (arith, low_fits)) above (omega (arith, less, to_end))
              ∙ past high (place_below end (a + i)) (omega (arith, no_high, before, in_range, within, less, end-al, top))

    -- an access outside
    module _ (out : lies_between base end a ≡ false) where
      first_out : lies_between base end (a + 0) ≡ false
      first_out = let same : a + 0 ≡ a = omega arith in ap (lies_between base end) same ∙ out

      pub value_out : little_endian (parts base split end low high) a (width size) ≡ None
      value_out = little_endian-unmapped (parts base split end low high) a (width size) (width_pos size) (byte_out low high (a + 0) first_out)

      pub refused_out : all_writable (lies_between base end) a (width size) ≡ false
      refused_out = all_writable-refused (lies_between base end) a (width size) (width_pos size) first_out
