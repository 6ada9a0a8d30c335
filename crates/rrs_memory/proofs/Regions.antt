-- What the regions of an address space say of an address, and what replacing one region's memory changes of that.
use Rattle.std.proofs.Common.{◌≡◌, ◌⊎◌, ℕ, zero, suc, ◌+◌, ◌-◌, ◌/◌, ◌%◌, ◌^◌, ◌<◌, ◌≤◌, if◌then◌else◌, List, [], ◌∷◌, ◌++◌, length, map, get_or, Option, Some, None, Bool, true, false, All, Any, inl, inr, refl, sym, ap, subst, ◌∙◌, arith}
use Rattle.std.specs.List.{AllPairs, slice_get}
use Rattle.std.proofs.Math.Path.{fun_ext}
use Rattle.std.proofs.Math.ListN.{get_or-map}
use Rattle.std.proofs.lemmas.Bool.{false≢true, cases_Bool, OnTrue_at, OnTrue_from, OnFalse_at, OnFalse_from}
use Rattle.std.proofs.lemmas.Bool.Decides.{nat_tests}
use Rattle.std.proofs.lemmas.Option.{none-some, same_Some, get_or_from_slice_get, slice_get_within}
use Rattle.std.proofs.lemmas.List.Quantifiers.{all_pairs_push}
use Rattle.std.proofs.lemmas.List.Elements.{All-push}
use Rattle.std.proofs.lemmas.List.{get_or_default, length-map}
use Rattle.rrs_memory.specs.declared.MemAccessSize.{MemAccessSize}
use Rattle.rrs_memory.specs.declared.MemAccessSize.TheVariants.{Byte}
use Rattle.rrs_memory.specs.Bytes.{ByteMap, width, store, IsLawful, EndsAtLastAddress, Reads, Writes}
pub use Rattle.rrs_memory.proofs.ByteLemmas.{little_endian-moved, all_writable-moved, IsLawful-moved, little_endian-unmapped, all_writable-refused, IsLawful-unmapped, store_inside, store_outside, store_by}
use Rattle.rrs_memory.specs.Spaces.{Region, Space, serves, served_by, space_bytes, space_writable, space_layout, Overlaps, bounds, IsWordRegion, IsSpace, with_memory, CountsCompared, OthersKept, ServedBecomes, SpaceAccess}

-- ---- numbers

-- an address of an aligned access lies at a base or past it exactly where the access begins there
aligned_from : (b a i : ℕ) (n : MemAccessSize) → b % 4 ≡ 0 → a % width n ≡ 0 → i < width n → b ≤ a + i → b ≤ a
aligned_from base a i Byte b al below past = omega arith
aligned_from base a i _ b al below past = omega arith

-- an aligned access that begins below a multiple of 4 ends below it
pub aligned_below : (e a i : ℕ) (n : MemAccessSize) → e % 4 ≡ 0 → a % width n ≡ 0 → i < width n → a < e → a + i < e
aligned_below end a i Byte e al below before = omega arith
aligned_below end a i _ e al below before = omega arith

-- the offset of an aligned access from a multiple of 4 is aligned
pub aligned_offset : (b a : ℕ) (n : MemAccessSize) → b % 4 ≡ 0 → a % width n ≡ 0 → b ≤ a → (a - b) % width n ≡ 0
aligned_offset base a Byte b al past = omega arith
aligned_offset base a _ b al past = omega arith

-- an access has a first byte
pub width_pos : (n : MemAccessSize) → 0 < width n
width_pos Byte = omega arith
width_pos _ = omega arith

module _ {M : Type 0} where
  -- what it means that a region serves an address
  pub serves_true : (r : Region M) (a : ℕ) → serves r a ≡ true → (r.base ≤ a) × (a < r.base + r.size) × (a < 2 ^ 32)
  serves_true r a e = grind (arith, nat_tests)

  -- an address in the region and below the end of all addresses is served
  pub true_serves : (r : Region M) (a : ℕ) → r.base ≤ a → a < r.base + r.size → a < 2 ^ 32 → serves r a ≡ true
  true_serves r a p q w = grind (arith, nat_tests)

  -- what it means that a region serves no address
  pub serves_false : (r : Region M) (a : ℕ) → a < 2 ^ 32 → serves r a ≡ false → r.base ≤ a → r.base + r.size ≤ a
  serves_false r a w e p = grind (arith, nat_tests)

  -- an address outside of the region is not served
  pub false_serves : (r : Region M) (a : ℕ) → (r.base ≤ a → r.base + r.size ≤ a) → serves r a ≡ false
  false_serves r a h = grind (arith, nat_tests)

  -- whether a region serves an address, in two cases
  pub serves_cases : (r : Region M) (a : ℕ) → (serves r a ≡ true) ⊎ (serves r a ≡ false)
  serves_cases r a = cases_Bool (serves r a)

  -- all bytes of an aligned access are served by the region that serves the first
  pub serves_all : (r : Region M) (a i : ℕ) (n : MemAccessSize) → IsWordRegion r → a % width n ≡ 0 → i < width n → serves r a ≡ true → serves r (a + i) ≡ true
  serves_all r a i n word al below e =
      grind (arith, nat_tests, word.aligned, aligned_below (r.base + r.size) a i n, aligned_below (2 ^ 32) a i n)

  -- no byte of an aligned access is served by a region that does not serve the first
  pub serves_none : (r : Region M) (a i : ℕ) (n : MemAccessSize) → IsWordRegion r → a % width n ≡ 0 → i < width n → a < 2 ^ 32 → serves r a ≡ false → serves r (a + i) ≡ false
  serves_none r a i n word al below fits e =
      grind (arith, nat_tests, aligned_from r.base a i n word.aligned.0 al below)

  -- two regions that serve one address overlap
  serve_both : (r s : Region M) (a : ℕ) → serves r a ≡ true → serves s a ≡ true → Overlaps s.base s.size r
  serve_both r s a p q = grind (arith, nat_tests)

  -- ---- what the list says of an address

  -- of apart regions at most one serves an address
  pub served_once : (regions : List (Region M)) (a i j : ℕ) (r s : Region M)
      → AllPairs (λ r s. Overlaps s.base s.size r → ⊥) regions → slice_get regions i ≡ Some r → slice_get regions j ≡ Some s
      → serves r a ≡ true → serves s a ≡ true → i ≡ j
  served_once regions a i j r s apart stands_r stands_s hit_r hit_s =
      let not_before : i < j → ⊥ = λ first. clash i j r s first stands_r stands_s hit_r hit_s in
      let not_after : j < i → ⊥ = λ first. clash j i s r first stands_s stands_r hit_s hit_r in
      omega arith
    where
      clash : (i j : ℕ) (r s : Region M) → i < j → slice_get regions i ≡ Some r → slice_get regions j ≡ Some s
          → serves r a ≡ true → serves s a ≡ true → ⊥
      clash i j r s first at at' hit hit' =
          let overlap = apart i j r first (slice_get_within regions j s at') in
          (rw (get_or_from_slice_get regions i r r at, get_or_from_slice_get regions j s r at') at overlap) (serve_both r s a hit hit')

  -- where no region serves an address, the list says the default
  module _ {T : Type 0} (says : M → ℕ → T) (default : T) where
    pub served_nowhere : (regions : List (Region M)) (a : ℕ) → All (λ r. serves r a ≡ false) regions
        → served_by says default regions a ≡ default
    served_nowhere [] a h = refl
    served_nowhere (r ∷ regions) a h =
        let miss : serves r a ≡ false = h 0 r (omega arith) in
        rw miss (served_nowhere regions a (λ k d below. h (suc k) d (omega arith)))

    -- the one region that serves an address is the one that the list asks
    served_at : (regions : List (Region M)) (a i : ℕ) (r : Region M) → slice_get regions i ≡ Some r → serves r a ≡ true
        → ((k : ℕ) (s : Region M) → slice_get regions k ≡ Some s → serves s a ≡ true → i ≡ k)
        → served_by says default regions a ≡ says r.memory (a - r.base)
    served_at [] a i r stands e only = absurd (none-some _ stands)
    served_at (x ∷ regions) a zero r stands e only =
        let same : x ≡ r = same_Some _ _ stands in
        let hit : serves x a ≡ true = ap (λ y. serves y a) same ∙ e in
        rw hit (ap (λ y. says y.memory (a - y.base)) same)
    served_at (x ∷ regions) a (suc i) r stands e only =
        elim (serves_cases x a) [
          | inl hit ↦ absurd (omega (arith, only 0 x refl hit))
          | inr miss ↦ rw miss (served_at regions a i r stands e (λ k s at hit. omega (arith, only (suc k) s at hit)))
        ]

  -- a space ends at 2 ^ 32
  pub space_ends : (bytes : M → ByteMap) (writable : M → ℕ → Bool) (regions : List (Region M)) → EndsAtLastAddress (space_bytes bytes regions) (space_writable writable regions)
  space_ends bytes writable regions a past =
      let miss : All (λ r. serves r a ≡ false) regions = λ k d within. past_end (get_or regions k d) in
      (served_nowhere bytes None regions a miss, served_nowhere writable false regions a miss)
    where
      past_end : (r : Region M) → serves r a ≡ false
      past_end r = grind (arith, nat_tests)

  -- ---- a memory replaced

  -- all bounds stay
  pub bounds-with_memory : (rs : List (Region M)) (i : ℕ) (m : M) → map bounds (with_memory rs i m) ≡ map bounds rs
  bounds-with_memory [] i m = refl
  bounds-with_memory (r ∷ regions) zero m = refl
  bounds-with_memory (r ∷ regions) (suc i) m = ap (λ xs. (r.base, r.size) ∷ xs) (bounds-with_memory regions i m)

  -- the list keeps its length
  pub length-with_memory : (rs : List (Region M)) (i : ℕ) (m : M) → length (with_memory rs i m) ≡ length rs
  length-with_memory regions i m =
      omega (arith, ap length (bounds-with_memory regions i m), length-map (with_memory regions i m) bounds, length-map regions bounds)

  -- the same at each index
  bounds_at : (regions new : List (Region M)) → map bounds new ≡ map bounds regions → (k : ℕ) (d : Region M)
      → bounds (get_or new k d) ≡ bounds (get_or regions k d)
  bounds_at regions new same k d =
      sym (get_or-map bounds new k d) ∙ ap (λ xs. get_or xs k (bounds d)) same ∙ get_or-map bounds regions k d

  -- regions of the same bounds are an address space
  pub IsSpace-same : (old new : List (Region M)) → map bounds new ≡ map bounds old → IsSpace old → IsSpace new
  IsSpace-same regions new same space = record {
    words = λ k d below.
        let word = space.words k d (omega (arith, as_long)) in
        let base_k = base k d in
        let size_k = size k d in
        record { aligned = (omega arith, omega arith); base_fits = omega arith; size_fits = omega arith };
    apart = λ j k d first below both. space.apart j k d first (omega (arith, as_long)) (
      omega (arith, base j d, base k d, size k d, both.0),
      omega (arith, base j d, size j d, base k d, both.1),
    );
  }
    where
      as_long : length new ≡ length regions
      as_long = omega (arith, ap length same, length-map new bounds, length-map regions bounds)

      base : (k : ℕ) (d : Region M) → (get_or new k d).base ≡ (get_or regions k d).base
      base k d = ap (λ p. p.0) (bounds_at regions new same k d)

      size : (k : ℕ) (d : Region M) → (get_or new k d).size ≡ (get_or regions k d).size
      size k d = ap (λ p. p.1) (bounds_at regions new same k d)

  -- it stays an address space
  pub IsSpace-with_memory : (rs : List (Region M)) (i : ℕ) (m : M) → IsSpace rs → IsSpace (with_memory rs i m)
  IsSpace-with_memory regions i m space = IsSpace-same regions (with_memory regions i m) (bounds-with_memory regions i m) space

  -- the region has its place still, with the other memory
  pub stands-with_memory : (regions : List (Region M)) (i : ℕ) (r : Region M) (m : M) → slice_get regions i ≡ Some r
      → slice_get (with_memory regions i m) i ≡ Some (record r { memory = m })
  stands-with_memory [] i r m stands = absurd (none-some _ stands)
  stands-with_memory (x ∷ regions) zero r m stands =
      ap (λ (y : Region M). Some (record y { memory = m })) (same_Some x r stands)
  stands-with_memory (x ∷ regions) (suc i) r m stands = stands-with_memory regions i r m stands

  -- the regions that do not serve the address stay
  module _ (r : Region M) (m : M) (a : ℕ) (hit : serves r a ≡ true) where
    pub OthersKept-with_memory : (regions : List (Region M)) (i : ℕ) → slice_get regions i ≡ Some r
        → OthersKept a regions (with_memory regions i m)
    OthersKept-with_memory [] i stands k s other miss = absurd (none-some _ stands)
    OthersKept-with_memory (x ∷ regions) zero stands zero s other miss =
        let same : r ≡ s = same_Some _ _ (sym stands ∙ other) in
        absurd (false≢true (sym miss ∙ ap (λ y. serves y a) (sym same) ∙ hit))
    OthersKept-with_memory (x ∷ regions) zero stands (suc k) s other miss = other
    OthersKept-with_memory (x ∷ regions) (suc i) stands zero s other miss = other
    OthersKept-with_memory (x ∷ rs) (suc i) at (suc k) s other miss = OthersKept-with_memory rs i at k s other miss

  module _ {T : Type 0} (says : M → ℕ → T) (default : T) where
    -- the list says the same of an address unless the two memories differ there
    pub served-with_memory : (rs : List (Region M)) (i : ℕ) (r : Region M) (m : M) (a : ℕ) → slice_get rs i ≡ Some r
        → (serves r a ≡ true → says m (a - r.base) ≡ says r.memory (a - r.base))
        → served_by says default (with_memory rs i m) a ≡ served_by says default rs a
    served-with_memory [] i r m a stands same = absurd (none-some _ stands)
    served-with_memory (x ∷ regions) zero r m a stands same =
        let P : Region M → Type 0 = λ y. serves y a ≡ true → says m (a - y.base) ≡ says y.memory (a - y.base) in
        grind (arith, subst P (sym (same_Some x r stands)) same)
    served-with_memory (x ∷ regions) (suc i) r m a stands same =
        let rest = served-with_memory regions i r m a stands same in
        ap (λ y. if serves x a then says x.memory (a - x.base) else y) rest

    -- the list says the same of every address where the two memories do
    pub served_same : (regions : List (Region M)) (i : ℕ) (r : Region M) (m : M) → slice_get regions i ≡ Some r
        → says m ≡ says r.memory → served_by says default (with_memory regions i m) ≡ served_by says default regions
    served_same regions i r m stands same =
        fun_ext (λ a. served-with_memory regions i r m a stands (λ hit. ap (λ f. f (a - r.base)) same))

  -- the layout stays where the inner one does
  pub layout-with_memory : (layout : M → List ℕ) (regions : List (Region M)) (i : ℕ) (r : Region M) (m : M)
      → slice_get regions i ≡ Some r → layout m ≡ layout r.memory
      → space_layout layout (with_memory regions i m) ≡ space_layout layout regions
  layout-with_memory layout [] i r m stands same = absurd (none-some _ stands)
  layout-with_memory layout (x ∷ regions) zero r m stands same =
      let same_x : layout m ≡ layout x.memory = same ∙ ap (λ y. layout y.memory) (sym (same_Some x r stands)) in
      ap (λ inner. (x.base ∷ x.size ∷ length inner ∷ []) ++ inner ++ space_layout layout regions) same_x
  layout-with_memory layout (x ∷ regions) (suc i) r m stands same =
      let rest = layout-with_memory layout regions i r m stands same in
      ap (λ ys. (x.base ∷ x.size ∷ length (layout x.memory) ∷ []) ++ layout x.memory ++ ys) rest

module _ {M : Type 0} where
  -- the region at an index of a space is of whole words
  served_word : (rs : List (Region M)) (i : ℕ) (r : Region M) → IsSpace rs → slice_get rs i ≡ Some r → IsWordRegion r
  served_word regions i r space stands =
      rw (get_or_from_slice_get regions i r r stands) at (space.words i r (slice_get_within regions i r stands))

  -- an aligned access at an address that it serves begins in it, at an aligned offset
  pub served_offset : (regions : List (Region M)) (a i : ℕ) (r : Region M) (n : MemAccessSize) → IsSpace regions → a % width n ≡ 0 → slice_get regions i ≡ Some r → serves r a ≡ true → (r.base ≤ a) × ((a - r.base) % width n ≡ 0)
  served_offset regions a i r n space al stands hit =
      let from : r.base ≤ a = (serves_true r a hit).0 in
      (from, aligned_offset r.base a n (served_word regions i r space stands).aligned.0 al from)

  -- and what the space says of each byte of it, the region's memory says at the offset
  pub served_byte : {T : Type 0} (says : M → ℕ → T) (default : T) (regions : List (Region M)) (a i k : ℕ) (r : Region M) (n : MemAccessSize) → IsSpace regions → a % width n ≡ 0 → slice_get regions i ≡ Some r → serves r a ≡ true → k < width n
      → served_by says default regions (a + k) ≡ says r.memory ((a - r.base) + k)
  served_byte says default regions a i k r n space al stands hit below =
      let hit_k = serves_all r a k n (served_word regions i r space stands) al below hit in
      served_at says default regions (a + k) i r stands hit_k (λ j s at. served_once regions (a + k) i j r s space.apart stands at hit_k)
      ∙ ap (says r.memory) (omega (arith, (serves_true r a hit).0))

  -- ---- a region appended

  -- where no region overlaps, each is apart
  pub all_apart : (regions : List (Region M)) (base size : ℕ) → (Any (Overlaps base size) regions → ⊥) → All (λ r. Overlaps base size r → ⊥) regions
  all_apart regions base size none k d within both =
      none (k, get_or regions k d, within, get_or_default regions k _ d within, both)

  -- a list of regions with one more, which overlaps none of them, is an address space
  pub IsSpace-push : (regions : List (Region M)) (r : Region M) → IsSpace regions → IsWordRegion r → (Any (Overlaps r.base r.size) regions → ⊥) → IsSpace (regions ++ r ∷ [])
  IsSpace-push regions r space word apart = record {
    words = All-push IsWordRegion regions r space.words word;
    apart = all_pairs_push (λ r s. Overlaps s.base s.size r → ⊥) regions r space.apart (all_apart regions r.base r.size apart);
  }

-- ---- an aligned access to a space

module _ {M : Type 0} (bytes : M → ByteMap) (writable : M → ℕ → Bool) (layout : M → List ℕ) (old new : Space M) (a : ℕ)
    (n : MemAccessSize) (space : IsSpace old.regions) (al : a % width n ≡ 0) where
  abbrev bytes_in : Space M → ByteMap
  bytes_in s = space_bytes bytes s.regions

  abbrev writable_in : Space M → ℕ → Bool
  writable_in s = space_writable writable s.regions

  abbrev layout_in : Space M → List ℕ
  layout_in s = space_layout layout s.regions

  -- where no region serves its address, none serves any byte of it
  module _ (fits : a < 2 ^ 32) (none : All (λ r. serves r a ≡ false) old.regions) (same : new.regions ≡ old.regions) where
    unserved_at : {T : Type 0} (says : M → ℕ → T) (default : T) (i : ℕ) → i < width n → served_by says default old.regions (a + i) ≡ default
    unserved_at says default i below =
        served_nowhere says default old.regions (a + i) (λ k d within. serves_none (get_or old.regions k d) a i n (space.words k d within) al below fits (none k d within))

    lawful_none : IsLawful (bytes_in old) (writable_in old) a (width n)
    lawful_none = IsLawful-unmapped (bytes_in old) (writable_in old) a (width n) (unserved_at bytes None) (unserved_at writable false)

    -- a read answers that nothing is mapped
    pub reads_none : Reads bytes_in writable_in layout_in old new a (width n) None
    reads_none = record {
      value = sym (little_endian-unmapped (bytes_in old) a (width n) (width_pos n) (unserved_at bytes None 0 (width_pos n)));
      bytes_kept = ap (space_bytes bytes) same;
      writable_kept = ap (space_writable writable) same;
      layout_kept = ap (space_layout layout) same;
      lawful = lawful_none;
      ends = space_ends bytes writable old.regions;
    }

    -- a write is refused
    pub writes_none : (value : ℕ) → Writes bytes_in writable_in layout_in old new a (width n) value false
    writes_none value = record {
      granted = sym (all_writable-refused (writable_in old) a (width n) (width_pos n) (unserved_at writable false 0 (width_pos n)));
      written = tt;
      refused = ap (space_bytes bytes) same;
      writable_kept = ap (space_writable writable) same;
      layout_kept = ap (space_layout layout) same;
      lawful = lawful_none;
      ends = space_ends bytes writable old.regions;
    }

  -- where a region serves its address, it is one to the inner memory, at the offset from the base
  module _ (i : ℕ) (r : Region M) (m : M) (stands : slice_get old.regions i ≡ Some r) (hit : serves r a ≡ true) (e : new.regions ≡ with_memory old.regions i m) where
    offset_at : {T : Type 0} (says : M → ℕ → T) (default : T) (k : ℕ) → k < width n → served_by says default old.regions (a + k) ≡ says r.memory ((a - r.base) + k)
    offset_at says default k below = served_byte says default old.regions a i k r n space al stands hit below

    kept : {T : Type 0} (says : M → ℕ → T) (default : T) → says m ≡ says r.memory → served_by says default new.regions ≡ served_by says default old.regions
    kept says default same = ap (served_by says default) e ∙ served_same says default old.regions i r m stands same

    layout_kept : layout m ≡ layout r.memory → layout_in new ≡ layout_in old
    layout_kept same = ap (space_layout layout) e ∙ layout-with_memory layout old.regions i r m stands same

    lawful_there : IsLawful (bytes r.memory) (writable r.memory) (a - r.base) (width n) → IsLawful (bytes_in old) (writable_in old) a (width n)
    lawful_there = IsLawful-moved _ _ (writable_in old) (writable r.memory) a (a - r.base) (width n) (offset_at bytes None) (offset_at writable false)

    pub reads_there : (answer : Option ℕ) → Reads bytes writable layout r.memory m (a - r.base) (width n) answer → Reads bytes_in writable_in layout_in old new a (width n) answer
    reads_there answer laws = record {
      value = laws.value ∙ sym (little_endian-moved (bytes_in old) (bytes r.memory) a (a - r.base) (width n) (offset_at bytes None));
      bytes_kept = kept bytes None laws.bytes_kept;
      writable_kept = kept writable false laws.writable_kept;
      layout_kept = layout_kept laws.layout_kept;
      lawful = lawful_there laws.lawful;
      ends = space_ends bytes writable old.regions;
    }

    -- what the inner memory took is stored in the space
    stored : (v : ℕ) → bytes m ≡ store (bytes r.memory) (a - r.base) (width n) v → bytes_in new ≡ store (bytes_in old) a (width n) v
    stored v wrote = ap (space_bytes bytes) e ∙ store_by (bytes_in old) _ a (width n) v inside outside
      where
        from : r.base ≤ a
        from = (serves_true r a hit).0

        inside : (b : ℕ) → a ≤ b → b < a + width n → space_bytes bytes (with_memory old.regions i m) b ≡ Some (v / 256 ^ (b - a) % 256)
        inside b p q =
            let k : a + (b - a) ≡ b = omega arith in
            let whole : serves r b ≡ true = rw k at (serves_all r a (b - a) n (served_word old.regions i r space stands) al (omega arith) hit) in
            let regions = with_memory old.regions i m in
            let at_i = stands-with_memory old.regions i r m stands in
            let apart = (IsSpace-with_memory old.regions i m space).apart in
            served_at bytes None regions b i _ at_i whole (λ j s at. served_once regions b i j _ s apart at_i at whole)
            ∙ ap (λ f. f (b - r.base)) wrote
            ∙ store_inside (bytes r.memory) (a - r.base) (width n) v (b - r.base) (omega (arith, from)) (omega (arith, from))
            ∙ ap (λ x. Some (v / 256 ^ x % 256)) (omega (arith, from))

        outside : (b : ℕ) → (a ≤ b → a + width n ≤ b) → space_bytes bytes (with_memory old.regions i m) b ≡ bytes_in old b
        outside b apart =
            served-with_memory bytes None old.regions i r m b stands (λ hit_b.
            ap (λ f. f (b - r.base)) wrote
            ∙ store_outside (bytes r.memory) (a - r.base) (width n) v (b - r.base) (λ p. omega (arith, from, (serves_true r b hit_b).0, apart, p)))

    pub writes_there : (v : ℕ) (answer : Bool) → Writes bytes writable layout r.memory m (a - r.base) (width n) v answer → Writes bytes_in writable_in layout_in old new a (width n) v answer
    writes_there v answer laws = record {
      granted = laws.granted ∙ sym (all_writable-moved (writable_in old) (writable r.memory) a (a - r.base) (width n) (offset_at writable false));
      written = OnTrue_from answer _ (λ t. stored v (OnTrue_at t laws.written));
      refused = OnFalse_from answer _ (λ f. kept bytes None (OnFalse_at f laws.refused));
      writable_kept = kept writable false laws.writable_kept;
      layout_kept = layout_kept laws.layout_kept;
      lawful = lawful_there laws.lawful;
      ends = space_ends bytes writable old.regions;
    }

-- ---- what an access does to the whole space

module _ {M : Type 0} (P : M → ℕ → M → Type 0) (regions new : List (Region M)) (a : ℕ) where
  -- where no region serves the address, nothing is said of its memory
  pub becomes_none : All (λ r. serves r a ≡ false) regions → ServedBecomes a regions new P
  becomes_none none j r s stands hit after =
      let here : get_or regions j r ≡ r = get_or_from_slice_get regions j r r stands in
      absurd (false≢true (sym (rw here at (none j r (slice_get_within regions j r stands))) ∙ hit))

  -- what holds of the memory that serves the address, as it was and as it is
  pub becomes_there : (i : ℕ) (r : Region M) (m : M) → IsSpace regions → slice_get regions i ≡ Some r → serves r a ≡ true → new ≡ with_memory regions i m → P r.memory (a - r.base) m → ServedBecomes a regions new P
  becomes_there i r m space stands hit e holds j r' s stands' hit' after =
      let here : i ≡ j = served_once regions a i j r r' space.apart stands stands' hit hit' in
      let same : r ≡ r' = same_Some _ _ (sym stands ∙ ap (slice_get regions) here ∙ stands') in
      let new_r : record r { memory = m } ≡ s = same_Some _ _ (sym (stands-with_memory regions i r m stands) ∙ (λ k. slice_get (sym e k) (here k)) ∙ after) in
      let Q : Region M → Region M → Type 0 = λ x y. P x.memory (a - x.base) y.memory in
      subst (λ x. Q x s) same (subst (Q r) new_r holds)

module _ {M : Type 0} (P : M → ℕ → M → Type 0) (old new : Space M) (a : ℕ) where
  pub access_none : All (λ r. serves r a ≡ false) old.regions → new.regions ≡ old.regions → CountsCompared old new → SpaceAccess a old new P
  access_none none same counts = record {
    regions_kept = ap (map bounds) same;
    others_kept = λ i r stands miss. ap (λ rs. slice_get rs i) same ∙ stands;
    served = becomes_none P old.regions new.regions a none;
    counts = counts;
  }

  pub access_there : (i : ℕ) (r : Region M) (m : M) → IsSpace old.regions → slice_get old.regions i ≡ Some r → serves r a ≡ true → new.regions ≡ with_memory old.regions i m → CountsCompared old new → P r.memory (a - r.base) m → SpaceAccess a old new P
  access_there i r m space stands hit e counts holds = record {
    regions_kept = ap (map bounds) e ∙ bounds-with_memory old.regions i m;
    others_kept = rw e (OthersKept-with_memory r m a hit old.regions i stands);
    served = becomes_there P old.regions new.regions a i r m space stands hit e holds;
    counts = counts;
  }
