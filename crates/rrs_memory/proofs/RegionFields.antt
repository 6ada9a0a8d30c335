-- The regions of the code, and the list that contracts see of them.
use Rattle.std.proofs.Common.{◌≡◌, ◌↔◌, ℕ, zero, suc, ◌<◌, List, [], ◌∷◌, ◌++◌, length, map, get_or, set, Some, Result, Ok, Err, OnOk, Bool, true, false, IsTrue, Any, MatchBool, inl, inr, refl, sym, subst, ap, ◌∙◌, arith}
use Rattle.std.specs.List.{slice_get, HoldsAt, AllWithin}
use Rattle.std.proofs.lemmas.Bool.{false≢true}
use Rattle.std.proofs.lemmas.List.{map_push, length-map}
use Rattle.std.proofs.lemmas.Option.{none-some, same_Some, slice_get-map, slice_get_read, slice_get_within, slice_get_cases, get_or_from_slice_get}
use Rattle.rrs_memory.specs.declared.memories.space.MemoryRegion.{MemoryRegion}
use Rattle.rrs_memory.specs.SpaceFields.{region_of, with_inner}
use Rattle.rrs_memory.specs.Spaces.{Region, Space, with_region_memory, serves, Overlaps, IsWordRegion, IsSpace, with_memory, IsServedAt}
use Rattle.rrs_memory.proofs.Regions.{IsSpace-push}

-- a fact that a test says does not hold
pub refuted : {P : Type 0} (r : Bool) → r ≡ false → IsTrue r ↔ P → P → ⊥
refuted r e same p = false≢true (sym e ∙ same.1 p)

-- a fact holds where the result is `Ok` too
pub OnOk_always : {A B P : Type 0} (r : Result A B) → P → OnOk r P
OnOk_always (Ok x) p = p
OnOk_always (Err e) p = tt

module _ {M : Type 0} where
  -- a region of the code's list is one of the contract's
  pub stands_of : (fields : List (MemoryRegion M)) (old : List (Region M)) (i : ℕ) (x : MemoryRegion M) → map region_of fields ≡ old → i < length old → x ≡ get_or fields i x → (slice_get fields i ≡ Some x) × (slice_get old i ≡ Some (region_of x))
  stands_of fields old i x view within read =
      let inside : i < length fields = omega (arith, length-map fields region_of, ap length view, within) in
      let at_fields : slice_get fields i ≡ Some x = slice_get_read fields (length fields) i x refl inside read in
      (at_fields, ap (λ xs. slice_get xs i) (sym view) ∙ slice_get-map region_of fields i ∙ rw at_fields refl)

  -- the region of the code that was found for an address, at its place in the list of the contract
  pub record Found (fields : List (MemoryRegion M)) (old : List (Region M)) (i : ℕ) (x : MemoryRegion M) (a : ℕ) : Type 0 where
    pub view : map region_of fields ≡ old
    pub here : slice_get fields i ≡ Some x
    pub stands : slice_get old i ≡ Some (region_of x)
    pub hit : serves (region_of x) a ≡ true

  -- a region that serves an address is one of the code's list
  pub served_within : (fields : List (MemoryRegion M)) (old : List (Region M)) (i a : ℕ) → map region_of fields ≡ old → IsServedAt old a i → i < length fields
  served_within fields old i a view found =
      omega (arith, length-map fields region_of, ap length view, slice_get_within old i found.region found.stands)

  -- the region that was read at a served index
  pub served_field : (fields : List (MemoryRegion M)) (old : List (Region M)) (i : ℕ) (x : MemoryRegion M) (a : ℕ) → map region_of fields ≡ old → IsServedAt old a i → x ≡ get_or fields i x → Found fields old i x a
  served_field fields old i x a view found read =
      let both = stands_of fields old i x view (slice_get_within old i found.region found.stands) read in
      let same : found.region ≡ region_of x = same_Some _ _ (sym found.stands ∙ both.1) in
      record { view = view; here = both.0; stands = both.1; hit = ap (λ r. serves r a) (sym same) ∙ found.serves_it }

  -- a region of the code replaced by one with another memory, as the contract sees it
  pub set_is_with_memory : (fields : List (MemoryRegion M)) (i : ℕ) (x y : MemoryRegion M) → slice_get fields i ≡ Some x → y ≡ with_inner x y.memory → map region_of (set fields i y) ≡ with_memory (map region_of fields) i y.memory
  set_is_with_memory [] i x y stands e = absurd (none-some _ stands)
  set_is_with_memory (z ∷ fields) zero x y stands e =
      let same : x ≡ z = sym (same_Some _ _ stands) in
      let new : y ≡ with_inner z y.memory = e ∙ ap (λ w. with_inner w y.memory) same in
      ap (λ w. region_of w ∷ map region_of fields) new
  set_is_with_memory (z ∷ fields) (suc i) x y stands e =
      ap (λ xs. region_of z ∷ xs) (set_is_with_memory fields i x y stands e)

  -- the same, where the list was seen before
  pub with_memory_of : (fields : List (MemoryRegion M)) (old : List (Region M)) (i : ℕ) (x y : MemoryRegion M) → map region_of fields ≡ old → slice_get fields i ≡ Some x → y ≡ with_inner x y.memory → map region_of (set fields i y) ≡ with_memory old i y.memory
  with_memory_of fields old i x y view stands e = rw (← view) (set_is_with_memory fields i x y stands e)

  -- the same of the whole space
  pub with_region_memory_of : (fields : List (MemoryRegion M)) (looked_at : ℕ) (old : Space M) (i : ℕ) (x y : MemoryRegion M) → record { regions = map region_of fields; looked_at = looked_at } ≡ old → slice_get fields i ≡ Some x → y ≡ with_inner x y.memory → record { regions = map region_of (set fields i y); looked_at = looked_at } ≡ with_region_memory old i y.memory
  with_region_memory_of fields looked_at old i x y view stands e =
      let seen : List (Region M) → Space M = λ regions. record { regions = regions; looked_at = looked_at } in
      ap seen (set_is_with_memory fields i x y stands e) ∙ ap (λ s. with_region_memory s i y.memory) view

  -- what a push of a region that overlaps no other leaves
  pub IsSpace-after_push : (fields new : List (MemoryRegion M)) (old : List (Region M)) (y : MemoryRegion M) → map region_of fields ≡ old → IsSpace (map region_of fields) → IsWordRegion (region_of y) → (Any (Overlaps y.base y.size) old → ⊥) → new ≡ fields ++ y ∷ [] → IsSpace (map region_of new)
  IsSpace-after_push fields new old y view space word apart e =
      rw (e, map_push) (IsSpace-push (map region_of fields) (region_of y) space word (rw (← view) at apart))

  -- an answer that is told of the regions of the code is told of those that the contract sees
  pub any_overlaps : (fields : List (MemoryRegion M)) (old : List (Region M)) (base size : ℕ) (answer : Bool) → map region_of fields ≡ old → MatchBool answer ((k : ℕ) × (k < length fields) × HoldsAt (λ x. Overlaps base size (region_of x)) fields k) (AllWithin (λ x. Overlaps base size (region_of x) → ⊥) fields 0 (length fields)) → IsTrue answer ↔ Any (Overlaps base size) old
  any_overlaps fields old base size true view found =
      elim (slice_get_cases fields found.0).1 [
        | inl at ↦
            let x = at.0 in
            let stands : slice_get old found.0 ≡ Some (region_of x) = ap (λ xs. slice_get xs found.0) (sym view) ∙ slice_get-map region_of fields found.0 ∙ rw (at.2) refl in
            let holds : Overlaps base size (region_of x) = rw (at.3) at (found.2 x) in
            (λ _. (found.0, region_of x, slice_get_within old found.0 (region_of x) stands, get_or_from_slice_get old found.0 (region_of x) (region_of x) stands, holds), λ _. refl)
        | inr past ↦ absurd (omega (arith, past.0, found.1))
      ]
  any_overlaps fields old base size false view none =
      (λ t. absurd (false≢true t), λ any. absurd (refute any))
    where
      refute : Any (Overlaps base size) old → ⊥
      refute any =
          elim (slice_get_cases fields any.0).1 [
            | inl at ↦
                let x = at.0 in
                let stands : slice_get old any.0 ≡ Some (region_of x) = ap (λ xs. slice_get xs any.0) (sym view) ∙ slice_get-map region_of fields any.0 ∙ rw (at.2) refl in
                let same : region_of x ≡ any.1 = sym (get_or_from_slice_get old any.0 (region_of x) any.1 stands) ∙ any.3 in
                let apart : Overlaps base size (region_of x) → ⊥ = rw (at.3) at (none any.0 x (omega arith) at.1) in
                apart (subst (Overlaps base size) (sym same) any.4)
            | inr past ↦ absurd (omega (arith, past.0, any.2, ap length view, length-map fields region_of))
          ]
