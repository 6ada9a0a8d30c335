-- Where the reads of a space do nothing: where those of a region's memory do nothing, now and after any accesses.
use Rattle.std.proofs.Common.{◌≡◌, ℕ, zero, suc, ◌-◌, ◌%◌, ◌^◌, ◌≤◌, List, [], ◌∷◌, map, Option, Some, None, Bool, true, inl, inr, refl, sym, ap, subst, ◌∙◌, arith}
use Rattle.std.specs.List.{slice_get}
use Rattle.std.proofs.lemmas.Option.{none-some, same_Some}
use Rattle.rrs_memory.specs.declared.MemAccessSize.{MemAccessSize}
use Rattle.rrs_memory.specs.Bytes.{ByteMap, width, little_endian, ReadsArePure}
use Rattle.rrs_memory.specs.AccessLists.{Access, Read, Write, Makes}
use Rattle.rrs_memory.specs.Spaces.{Region, Space, serves, space_bytes, bounds, IsSpace, SpaceAccess}
use Rattle.rrs_memory.proofs.ByteLemmas.{little_endian-moved}
use Rattle.rrs_memory.proofs.Regions.{serves_cases, served_once, served_offset, served_byte, IsSpace-same}

module _ {M : Type 0} where
  -- regions of the same bounds stand at the same indexes
  stands_same : (old new : List (Region M)) (i : ℕ) (r : Region M) → map bounds new ≡ map bounds old → slice_get old i ≡ Some r
      → (s : Region M) × (slice_get new i ≡ Some s) × (bounds s ≡ bounds r)
  stands_same [] new i r same stands = absurd (none-some _ stands)
  stands_same (x ∷ xs) [] i r same stands = absurd (cc)
  stands_same (x ∷ xs) (y ∷ ys) zero r same stands =
      let head : bounds y ≡ bounds x = cc in
      (y, refl, head ∙ ap bounds (same_Some x r stands))
  stands_same (x ∷ xs) (y ∷ ys) (suc i) r same stands =
      let tail : map bounds ys ≡ map bounds xs = cc in
      stands_same xs ys i r tail stands

  -- whether a region serves an address is a matter of its bounds
  serves_same : (r s : Region M) (a : ℕ) → bounds s ≡ bounds r → serves r a ≡ true → serves s a ≡ true
  serves_same r s a same hit =
      let base : s.base ≡ r.base = ap (λ p. p.0) same in
      let size : s.size ≡ r.size = ap (λ p. p.1) same in
      rw (base, size) hit

module _ {M : Type 0} (reads : M → ℕ → MemAccessSize → M → Option ℕ → Type 0) (writes : M → ℕ → MemAccessSize → ℕ → M → Bool → Type 0) where
  -- the accesses of a space
  abbrev pub space_reads : Space M → ℕ → MemAccessSize → Space M → Option ℕ → Type 0
  space_reads old address size new answer = SpaceAccess address old new (λ before offset after. reads before offset size after answer)

  abbrev pub space_writes : Space M → ℕ → MemAccessSize → ℕ → Space M → Bool → Type 0
  space_writes old address size value new answer = SpaceAccess address old new (λ before offset after. writes before offset size value after answer)

  -- over accesses of the space, a region has the same bounds, and a memory that made the accesses that the region serves
  record IsLater (i : ℕ) (r : Region M) (new : Space M) : Type 0 where
    region : Region M
    stands : slice_get new.regions i ≡ Some region
    same : bounds region ≡ bounds r
    inner : List Access
    made : Makes reads writes inner r.memory region.memory

  region_later : (xs : List Access) (i : ℕ) (r : Region M) (old new : Space M) → Makes space_reads space_writes xs old new
      → slice_get old.regions i ≡ Some r → IsLater i r new
  region_later [] i r old new made stands = record {
    region = r;
    stands = ap (λ (s : Space M). slice_get s.regions i) made ∙ stands;
    same = refl;
    inner = [];
    made = refl;
  }
  region_later (Read a size answer ∷ xs) i r old new made stands =
      elim (serves_cases r a) [
        | inl hit ↦
            let next = stands_same old.regions made.0.regions i r made.1.regions_kept stands in
            let rest = region_later xs i next.0 made.0 new made.2 next.1 in
            record {
              region = rest.region;
              stands = rest.stands;
              same = rest.same ∙ next.2;
              inner = Read (a - r.base) size answer ∷ rest.inner;
              made = (next.0.memory, made.1.served i r next.0 stands hit next.1, rest.made);
            }
        | inr miss ↦ region_later xs i r made.0 new made.2 (made.1.others_kept i r stands miss)
      ]
  region_later (Write a size value answer ∷ xs) i r old new made stands =
      elim (serves_cases r a) [
        | inl hit ↦
            let next = stands_same old.regions made.0.regions i r made.1.regions_kept stands in
            let rest = region_later xs i next.0 made.0 new made.2 next.1 in
            record {
              region = rest.region;
              stands = rest.stands;
              same = rest.same ∙ next.2;
              inner = Write (a - r.base) size value answer ∷ rest.inner;
              made = (next.0.memory, made.1.served i r next.0 stands hit next.1, rest.made);
            }
        | inr miss ↦ region_later xs i r made.0 new made.2 (made.1.others_kept i r stands miss)
      ]

  -- all regions have the same bounds, and the count fits
  abbrev Lasts : Space M → Space M → Type 0
  Lasts old new = (map bounds new.regions ≡ map bounds old.regions) × (new.looked_at ≤ 2 ^ 64 - 1)

  lasts : (xs : List Access) (old new : Space M) → Makes space_reads space_writes xs old new → old.looked_at ≤ 2 ^ 64 - 1 → Lasts old new
  lasts [] old new made fits = subst (Lasts old) (sym made) (refl, fits)
  lasts (Read a size answer ∷ xs) old new made fits =
      let rest = lasts xs made.0 new made.2 (omega (arith, made.1.counts.counted)) in
      (rest.0 ∙ made.1.regions_kept, rest.1)
  lasts (Write a size value answer ∷ xs) old new made fits =
      let rest = lasts xs made.0 new made.2 (omega (arith, made.1.counts.counted)) in
      (rest.0 ∙ made.1.regions_kept, rest.1)

  -- a read that its region's memory may answer so
  unread : (bytes : M → ByteMap) (m : Space M) (a i : ℕ) (r : Region M) (n : MemAccessSize) → IsSpace m.regions → m.looked_at ≤ 2 ^ 64 - 1
      → slice_get m.regions i ≡ Some r → serves r a ≡ true → a % width n ≡ 0
      → reads r.memory (a - r.base) n r.memory (little_endian (bytes r.memory) (a - r.base) (width n))
      → space_reads m a n m (little_endian (space_bytes bytes m.regions) a (width n))
  unread bytes m a i r n space fits stands hit al did =
      let same = little_endian-moved (space_bytes bytes m.regions) (bytes r.memory) a (a - r.base) (width n)
      (λ k below. served_byte bytes None m.regions a i k r n space al stands hit below) in
      let P : Option ℕ → Type 0 = λ answer. reads r.memory (a - r.base) n r.memory answer in
      record {
        regions_kept = refl;
        others_kept = λ j s at miss. at;
        served = λ j s t at hit' at'.
            let here : i ≡ j = served_once m.regions a i j r s space.apart stands at hit hit' in
            let first : r ≡ s = same_Some _ _ (sym stands ∙ ap (slice_get m.regions) here ∙ at) in
            let second : s ≡ t = same_Some _ _ (sym at ∙ at') in
            let Q : Region M → Region M → Type 0 = λ x y. reads x.memory (a - x.base) n y.memory (little_endian (space_bytes bytes m.regions) a (width n)) in
            subst (Q s) second (subst (λ x. Q x x) first (subst P (sym same) did));
        counts = record { compared = 0; counted = omega arith; few = omega arith };
      }

  -- where the memory of the region that serves an address calls its reads pure
  pub pure_there : (bytes : M → ByteMap) (m : Space M) (a i : ℕ) (r : Region M) → IsSpace m.regions → m.looked_at ≤ 2 ^ 64 - 1
      → slice_get m.regions i ≡ Some r → serves r a ≡ true → ReadsArePure bytes reads writes r.memory (a - r.base)
      → ReadsArePure (λ s. space_bytes bytes s.regions) space_reads space_writes m a
  pure_there bytes m a i r space fits stands hit pure = λ xs later made n al.
      let all = lasts xs m later made fits in
      let there = region_later xs i r m later made stands in
      let s = there.region in
      let base : s.base ≡ r.base = ap (λ p. p.0) there.same in
      let space' = IsSpace-same m.regions later.regions all.0 space in
      let hit' = serves_same r s a there.same hit in
      let even = (served_offset m.regions a i r n space al stands hit).1 in
      let P : ℕ → Type 0 = λ b. reads s.memory (a - b) n s.memory (little_endian (bytes s.memory) (a - b) (width n)) in
      unread bytes later a i s n space' all.1 there.stands hit' al (subst P (sym base) (pure there.inner s.memory there.made n even))
