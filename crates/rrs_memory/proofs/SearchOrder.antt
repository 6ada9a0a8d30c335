-- How the regions of a space are found in the order of their bases, and what one more region leaves of that order.
use Rattle.std.proofs.Common.{◌≡◌, ◌⊎◌, ℕ, zero, suc, ◌+◌, ◌-◌, ◌*◌, ◌/◌, ◌^◌, ◌<◌, ◌≤◌, min, add-one, List, [], ◌∷◌, ◌++◌, length, map, get_or, set, Some, false, All, Any, inl, inr, refl, sym, ap, ◌∙◌, arith}
use Rattle.std.specs.List.{slice_get, insert}
use Rattle.std.proofs.Math.Nat.{pow-succ', mul_assoc, mul-le-mul_right}
use Rattle.std.proofs.lemmas.Nat.{pow_pos}
use Rattle.std.proofs.lemmas.Bool.{cases_lt}
use Rattle.std.proofs.lemmas.Bool.Decides.{nat_tests}
use Rattle.std.proofs.lemmas.List.{get_or-map, length-map, get_or_default, get_or_append_left, get_or_push, length_push, map_push}
use Rattle.std.proofs.lemmas.List.Edits.{length-insert, get_or-insert_at, get_or-insert_below, get_or-insert_above}
use Rattle.rrs_memory.specs.declared.memories.space.MemoryRegion.{MemoryRegion}
use Rattle.rrs_memory.specs.SpaceFields.{region_of, with_inner, base_at, size_at, IsSearchOrder}
use Rattle.rrs_memory.specs.Spaces.{Region, Space, serves, bounds, Overlaps, HasAddresses, IsSpace, IsServedAt, CountsCompared, digits_after, binary_digits}
use Rattle.rrs_memory.proofs.Regions.{true_serves, false_serves, bounds-with_memory, IsSpace-with_memory}
use Rattle.rrs_memory.proofs.RegionFields.{set_is_with_memory, with_memory_of, stands_of}

-- ---- digits

-- one more number, one more digit where it is a power of 2
digits_step : (n d : ℕ) → n < 2 ^ d → suc n < 2 ^ digits_after (suc n) d
digits_step n d below = grind (arith, nat_tests, pow-succ' 2 d, pow_pos d)

-- a number is below 2 to the power of its digits
pub below_digits : (n : ℕ) → n < 2 ^ binary_digits n
below_digits zero = omega arith
below_digits (suc n) = digits_step n (binary_digits n) (below_digits n)

-- what is left after more than a half was ruled out needs one digit less
pub halved : (n rest digits compared : ℕ) → 0 < n → n < 2 ^ (digits - compared) → rest ≤ n / 2 → (compared < digits) × (rest < 2 ^ (digits - (compared + 1)))
halved n rest digits compared some room half = grind (arith, pow-succ' 2 (digits - (compared + 1)))

-- the digits of the number of all have room for a part of them
pub digits_room : (len n : ℕ) → len ≤ n → len - 0 < 2 ^ (binary_digits n - 0)
digits_room len n few =
    let all : binary_digits n - 0 ≡ binary_digits n = omega arith in
    rw all (omega (arith, below_digits n, few))

-- a round rules out one and the smaller half of the others at most
pub one_round : (len n rest c : ℕ) → n ≤ 2 * rest + 2 → len + 2 ≤ (n + 2) * 2 ^ c → len + 2 ≤ (rest + 2) * 2 ^ (c + 1)
one_round len n rest c half before =
    let two : 2 ^ (c + 1) ≡ 2 * 2 ^ c = rw add-one (omega (arith, pow-succ' 2 c)) in
    let scaled : (n + 2) * 2 ^ c ≤ ((rest + 2) * 2) * 2 ^ c = mul-le-mul_right (2 ^ c) (omega arith) in
    let joined : ((rest + 2) * 2) * 2 ^ c ≡ (rest + 2) * 2 ^ (c + 1) = mul_assoc (rest + 2) 2 (2 ^ c) ∙ ap (λ x. (rest + 2) * x) (sym two) in
    omega (arith, before, scaled, joined)

-- ---- the order

-- along the order bases do not fall, nor do ends
pub along : (spans : List (ℕ × ℕ)) (order : List ℕ) (j k : ℕ) → IsSearchOrder spans order → j ≤ k → k < length order
    → (base_at spans (get_or order j 0) ≤ base_at spans (get_or order k 0))
    × (base_at spans (get_or order j 0) + size_at spans (get_or order j 0)
    ≤ base_at spans (get_or order k 0) + size_at spans (get_or order k 0))
along spans order j k sorted before within = grind (arith, sorted.rising j k)

-- ---- one more region

module _ (spans : List (ℕ × ℕ)) (order : List ℕ) (place : ℕ) (span : ℕ × ℕ) where
  abbrev spans' : List (ℕ × ℕ)
  spans' = spans ++ span ∷ []

  abbrev order' : List ℕ
  order' = insert order place (length spans)

  -- place j of the new order has what place i of the old one had
  abbrev Moved : ℕ → ℕ → Type 0
  Moved j i = (get_or order' j 0 ≡ get_or order i 0) × (base_at spans' (get_or order' j 0) ≡ base_at spans (get_or order i 0))
      × (size_at spans' (get_or order' j 0) ≡ size_at spans (get_or order i 0))

  -- place j of the new order has the new region
  abbrev New : ℕ → Type 0
  New j = (get_or order' j 0 ≡ length spans) × (base_at spans' (get_or order' j 0) ≡ span.0) × (size_at spans' (get_or order' j 0) ≡ span.1)

  -- what place j of the new order has: what it had, the new region, or what the place before it had
  abbrev Has : ℕ → Type 0
  Has j = ((j < place) × Moved j j) ⊎ (((j ≡ place) × New j) ⊎ ((place < j) × Moved j (j - 1)))

  moved : (j i : ℕ) → IsSearchOrder spans order → i < length order → get_or order' j 0 ≡ get_or order i 0 → Moved j i
  moved j i sorted within at =
      let same = get_or_append_left spans (span ∷ []) (0, 0) (get_or order i 0) (sorted.within i within) in
      (at, rw at (ap (λ p. p.0) same), rw at (ap (λ p. p.1) same))

  has : (j : ℕ) → IsSearchOrder spans order → place ≤ length order → j < length order + 1 → Has j
  has j sorted fits within =
      elim (cases_lt j place) [
        | inl p ↦ inl (p, moved j j sorted (omega arith) (get_or-insert_below order place (length spans) 0 j p fits))
        | inr past ↦ elim (cases_lt place j) [
          | inl above ↦
              let back : j - 1 + 1 ≡ j = omega arith in
              let at = rw back at (get_or-insert_above order place (length spans) 0 (j - 1) (omega arith) fits) in
              inr (inr (above, moved j (j - 1) sorted (omega arith) at))
          | inr same ↦
              let here : j ≡ place = omega arith in
              let at : get_or order' j 0 ≡ length spans = rw here (get_or-insert_at order place (length spans) 0 fits) in
              let last = get_or_push spans span (0, 0) (length spans) refl in
              inr (inl (here, (at, rw at (ap (λ p. p.0) last), rw at (ap (λ p. p.1) last))))
        ]
      ]

  -- a region of size above 0 that overlaps no other, added at the end, and its index put at its place
  pub IsSearchOrder-insert : IsSearchOrder spans order → place ≤ length order → 0 < span.1
      → ((j : ℕ) → j < place → base_at spans (get_or order j 0) ≤ span.0)
      → ((j : ℕ) → place ≤ j → j < length order → span.0 < base_at spans (get_or order j 0))
      → ((i : ℕ) → i < length spans → (base_at spans i < span.0 + span.1) × (span.0 < base_at spans i + size_at spans i) → ⊥)
      → IsSearchOrder (spans ++ span ∷ []) (insert order place (length spans))
  IsSearchOrder-insert sorted fits some before after apart = record {
    within = λ j below. grind (arith, longer, more, at j below, sorted.within j, sorted.within (j - 1));
    nonempty = λ j below. grind (arith, longer, at j below, sorted.nonempty j, sorted.nonempty (j - 1), some);
    complete = λ i inside large. complete i (omega (arith, more, inside)) large;
    rising = λ j k first below.
        grind (arith, longer, at j (omega arith), at k below, sorted.rising j k, sorted.rising j (k - 1), sorted.rising (j - 1) (k - 1), ends_before j, ends_in_time (k - 1));
    few = omega (arith, longer, more, sorted.few);
  }
    where
      longer : length order' ≡ length order + 1
      longer = length-insert order place (length spans) fits

      more : length spans' ≡ length spans + 1
      more = length_push spans span

      at : (j : ℕ) → j < length order' → Has j
      at j below = has j sorted fits (omega (arith, longer, below))

      complete : (i : ℕ) → i < length spans + 1 → 0 < size_at spans' i → (j : ℕ) × (j < length order') × (get_or order' j 0 ≡ i)
      complete i inside large =
          elim (cases_lt i (length spans)) [
            | inl old ↦
                let same = get_or_append_left spans (span ∷ []) (0, 0) i old in
                let w = sorted.complete i old (omega (arith, ap (λ p. p.1) same, large)) in
                elim (cases_lt w.0 place) [
                  | inl p ↦ (w.0, omega (arith, w.1, longer), get_or-insert_below order place _ 0 w.0 p fits ∙ w.2)
                  | inr p ↦ (w.0 + 1, omega (arith, w.1, longer), get_or-insert_above order place _ 0 w.0 p fits ∙ w.2)
                ]
            | inr new ↦ (place, omega (arith, longer, fits), get_or-insert_at order place _ 0 fits ∙ omega (arith, new, inside))
          ]

      -- the new region begins where those before it have ended
      ends_before : (j : ℕ) → j < place → base_at spans (get_or order j 0) + size_at spans (get_or order j 0) ≤ span.0
      ends_before j early =
          grind (arith, apart (get_or order j 0) (sorted.within j (omega arith)), before j early, some)

      -- it ends where those after it begin
      ends_in_time : (j : ℕ) → place ≤ j → j < length order → span.0 + span.1 ≤ base_at spans (get_or order j 0)
      ends_in_time j late below =
          grind (arith, apart (get_or order j 0) (sorted.within j below), after j late below)

-- an empty region added at the end
pub IsSearchOrder-push_empty : (spans : List (ℕ × ℕ)) (order : List ℕ) (span : ℕ × ℕ) → IsSearchOrder spans order → span.1 ≡ 0 → IsSearchOrder (spans ++ span ∷ []) order
IsSearchOrder-push_empty spans order span sorted empty = record {
  within = λ j below. omega (arith, more, sorted.within j below);
  nonempty = λ j below. omega (arith, ap (λ p. p.1) (same j below), sorted.nonempty j below);
  complete = λ i inside large.
      grind (arith, sorted.complete i, more, get_or_append_left spans (span ∷ []) (0, 0) i, get_or_push spans span (0, 0) i);
  rising = λ j k first below.
      omega (arith, ap (λ p. p.0) (same j (omega (arith, first, below))), ap (λ p. p.1) (same j (omega (arith, first, below))), ap (λ p. p.0) (same k below), sorted.rising j k first below);
  few = omega (arith, more, sorted.few);
}
  where
    more : length (spans ++ span ∷ []) ≡ length spans + 1
    more = length_push spans span

    same : (j : ℕ) → j < length order → get_or (spans ++ span ∷ []) (get_or order j 0) (0, 0) ≡ get_or spans (get_or order j 0) (0, 0)
    same j below = get_or_append_left spans (span ∷ []) (0, 0) (get_or order j 0) (sorted.within j below)

module _ {M : Type 0} (fields : List (MemoryRegion M)) where
  -- the bases and sizes of the regions of the code
  abbrev pub spans_of : List (ℕ × ℕ)
  spans_of = map bounds (map region_of fields)

  abbrev length-spans : length spans_of ≡ length fields
  length-spans = length-map (map region_of fields) bounds ∙ length-map fields region_of

  -- the region of the code that contains the address serves it
  pub field_at : (index a : ℕ) (x : MemoryRegion M) → index < length fields → x ≡ get_or fields index x
      → x.base ≤ a → a < x.base + x.size → a < 2 ^ 32 → IsServedAt (map region_of fields) a index
  field_at index a x inside read from before fits =
      let stands = stands_of fields (map region_of fields) index x refl (omega (arith, inside, length-map fields region_of)) read in
      record { region = region_of x; stands = stands.1; serves_it = true_serves (region_of x) a from before fits }

  module _ (order : List ℕ) where
    -- where the region at a place of the order begins, and where it ends
    abbrev pub begins : ℕ → ℕ
    begins j = base_at spans_of (get_or order j 0)

    abbrev pub ends : ℕ → ℕ
    ends j = begins j + size_at spans_of (get_or order j 0)

    module _ (sorted : IsSearchOrder spans_of order) where
      -- an index of the order is that of a region
      pub order_within : (j : ℕ) → j < length order → get_or order j 0 < length fields
      order_within j within = omega (arith, length-spans, sorted.within j within)

      -- there is no longer order than there are regions
      pub order_few : length order ≤ length fields
      order_few = omega (arith, length-spans, sorted.few)

      -- the base and the size of the region at a place of the order
      pub span_read : (j : ℕ) (d : MemoryRegion M) → j < length order
          → get_or spans_of (get_or order j 0) (0, 0) ≡ bounds (region_of (get_or fields (get_or order j 0) d))
      span_read j d below =
          let within = order_within j below in
          get_or-map bounds (map region_of fields) _ (region_of d) (0, 0) (omega (arith, within, length-map fields region_of))
          ∙ ap bounds (get_or-map region_of fields _ d (region_of d) within)

      -- a region with another memory leaves a space, and its order
      pub region_replaced : (old : List (Region M)) (i : ℕ) (x y : MemoryRegion M)
          → map region_of fields ≡ old → slice_get fields i ≡ Some x → y ≡ with_inner x y.memory → IsSpace old
          → IsSpace (map region_of (set fields i y)) × IsSearchOrder (map bounds (map region_of (set fields i y))) order
      region_replaced old i x y view stands e space = (
        rw (with_memory_of fields old i x y view stands e) (IsSpace-with_memory old i y.memory space),
        rw (set_is_with_memory fields i x y stands e, bounds-with_memory) sorted,
      )

      -- a region of the code that begins in time and does not contain the address has ended
      pub field_ended : (j a : ℕ) (x : MemoryRegion M) → j < length order → x ≡ get_or fields (get_or order j 0) x
          → x.base ≤ a → ((x.base ≤ a) × (a < x.base + x.size) → ⊥) → ends j ≤ a
      field_ended j a x within read from outside =
          let span = span_read j x within ∙ ap (λ r. bounds (region_of r)) (sym read) in
          grind (arith, outside, ap (λ p. p.0) span, ap (λ p. p.1) span)

      -- where none of the order is left, none serves the address
      pub none_left : (low hi a : ℕ) → hi ≤ low → ((j : ℕ) → j < low → j < length order → ends j ≤ a)
          → ((j : ℕ) → hi ≤ j → j < length order → a < begins j) → All (λ r. serves r a ≡ false) (map region_of fields)
      none_left low high a met before after k d within =
          let apart : (j : ℕ) → j < length order → begins j ≤ a → ends j ≤ a = λ j below from. grind (arith, before j, after j) in
          let here = get_or-map bounds (map region_of fields) k d (0, 0) within in
          let base = ap (λ p. p.0) here in
          let size = ap (λ p. p.1) here in
          false_serves (get_or (map region_of fields) k d) a (λ past.
          grind (arith, sorted.complete k, apart, base, size, length-map (map region_of fields) bounds))

      -- where a region has addresses, the order has it
      some_in_order : Any HasAddresses (map region_of fields) → 0 < length order
      some_in_order any =
          let size = ap (λ p. p.1) (get_or-map bounds (map region_of fields) any.0 any.1 (0, 0) any.2) ∙ ap (λ r. r.size) any.3 in
          let place = sorted.complete any.0 (omega (arith, length-map (map region_of fields) bounds, any.2)) (omega (arith, size, any.4)) in
          omega (arith, place.1)

      -- ---- a region appended

      -- the bases and sizes after a push
      spans_push : (new : List (MemoryRegion M)) (y : MemoryRegion M) → new ≡ fields ++ y ∷ []
          → map bounds (map region_of new) ≡ spans_of ++ (y.base, y.size) ∷ []
      spans_push new y e = rw e (simp map_push)

      -- a region of size above 0 that overlaps no other, whose index was put where it belongs
      pub order_inserted : (new : List (MemoryRegion M)) (old : List (Region M)) (new_order : List ℕ) (place index : ℕ)
          (y : MemoryRegion M) → map region_of fields ≡ old → (Any (Overlaps y.base y.size) old → ⊥) → new ≡ fields ++ y ∷ []
          → new_order ≡ insert order place index → index ≡ length fields → 0 < y.size → place ≤ length order
          → ((j : ℕ) → j < place → begins j ≤ y.base) → ((j : ℕ) → place ≤ j → j < length order → y.base < begins j)
          → IsSearchOrder (map bounds (map region_of new)) new_order
      order_inserted new old new_order place index y view apart e inserted at some fits before after =
          let regions = map region_of fields in
          let last : index ≡ length spans_of = omega (arith, length-spans) in
          rw (spans_push new y e, inserted, last) (IsSearchOrder-insert spans_of order place (y.base, y.size) sorted fits some before after (λ i within both.
          let inside : i < length regions = omega (arith, length-map regions bounds, within) in
          let here = get_or-map bounds regions i (region_of y) (0, 0) inside in
          let base = ap (λ p. p.0) here in
          let size = ap (λ p. p.1) here in
          let none : Any (Overlaps y.base y.size) regions → ⊥ = rw (← view) at apart in
          none (i, get_or regions i (region_of y), inside, get_or_default regions i _ (region_of y) inside, (omega arith, omega arith))))

      -- an empty region
      pub order_pushed_empty : (new : List (MemoryRegion M)) (y : MemoryRegion M) → new ≡ fields ++ y ∷ [] → y.size ≡ 0
          → IsSearchOrder (map bounds (map region_of new)) order
      order_pushed_empty new y e empty = rw (spans_push new y e) (IsSearchOrder-push_empty spans_of order (y.base, y.size) sorted empty)

      -- ---- what was counted

      -- what a search compared is added
      pub counts_search : (old new : Space M) (counted compared : ℕ) → map region_of fields ≡ old.regions → counted ≡ old.looked_at
          → new.looked_at ≡ min (counted + compared) (2 ^ 64 - 1) → compared ≤ binary_digits (length fields) + 1
          → CountsCompared old new
      counts_search old new counted compared view before after few =
          let long : length old.regions ≡ length fields = omega (arith, ap length view, length-map fields region_of) in
          record {
            compared = compared;
            counted = rw before at after;
            few = rw long (omega (arith, few));
          }

      -- and it is some
      pub compares_search : (old : Space M) (counted compared counted' : ℕ) → map region_of fields ≡ old.regions → counted ≡ old.looked_at
          → counted' ≡ min (counted + compared) (2 ^ 64 - 1) → (0 < length order → 0 < compared)
          → Any HasAddresses old.regions → old.looked_at < 2 ^ 64 - 1 → old.looked_at < counted'
      compares_search old counted compared counted' view before after some any room =
          let more : 0 < compared = some (some_in_order (rw (← view) at any)) in
          omega (arith, before, after, more, room)

module _ {M : Type 0} where
  -- the count alone matters
  pub counts_along : (old between new : Space M) → new.looked_at ≡ between.looked_at → CountsCompared old between → CountsCompared old new
  counts_along old between new same counts = record {
    compared = counts.compared;
    counted = same ∙ counts.counted;
    few = counts.few;
  }

  pub compares_along : (old : Space M) (between new : ℕ) → new ≡ between
      → (Any HasAddresses old.regions → old.looked_at < 2 ^ 64 - 1 → old.looked_at < between)
      → Any HasAddresses old.regions → old.looked_at < 2 ^ 64 - 1 → old.looked_at < new
  compares_along old between new same compares any room = omega (arith, same, compares any room)
