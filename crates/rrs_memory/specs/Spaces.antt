-- What an address space of regions means. A region has a base, a size, and an inner memory, whose
-- address 0 lies at the base. Addresses are those of RV32I: 0 to 2 ^ 32 - 1.
use Rattle.std.specs.Prelude.{◌≡◌, ℕ, zero, suc, ◌+◌, ◌-◌, ◌%◌, ◌^◌, ◌<◌, ◌≤◌, min, Bool, true, false, ◌&&◌, ◌==◌, nat_le, nat_lt, if◌then◌else◌, List, [], ◌∷◌, ◌++◌, length, Option, Some, None, map, All, Any, AllPairs, slice_get, option_map, refl}
use Rattle.std.specs.Coded.{Coded, code_by, coded×, coded_ℕ, coded_list}
use Rattle.rrs_memory.specs.Bytes.{ByteMap}

-- a region as a contract sees it
pub record Region (M : Type 0) : Type 0 where
  pub base : ℕ
  pub size : ℕ
  pub memory : M

-- a region is stored as the tuple of its fields
abbrev pub region_code : {M : Type 0} → Coded M → Coded (Region M)
region_code {M} code =
    code_by
    (ℕ × (ℕ × M))
    (coded× coded_ℕ (coded× coded_ℕ code))
    (λ r. (r.base, (r.size, r.memory)))
    (λ p. record { base = p.0; size = p.1.0; memory = p.1.1 })
    (λ _. refl)

-- an address space as a contract sees it: its regions in the order in which they were added, and
-- how many of them its reads and writes have compared so far
pub record Space (M : Type 0) : Type 0 where
  pub regions : List (Region M)
  pub looked_at : ℕ

-- a space is stored as the pair of its fields
abbrev pub space_code : {M : Type 0} → Coded M → Coded (Space M)
space_code {M} code =
    code_by
    (List (Region M) × ℕ)
    (coded× (coded_list (region_code code)) coded_ℕ)
    (λ s. (s.regions, s.looked_at))
    (λ p. record { regions = p.0; looked_at = p.1 })
    (λ _. refl)

-- how many binary digits n has, where the number before it has this many: a power of 2 has one more
abbrev pub digits_after : ℕ → ℕ → ℕ
digits_after n digits = if n == 2 ^ digits then digits + 1 else digits

-- how many binary digits n has, and 0 has none: n is below 2 to that power
abbrev pub binary_digits : ℕ → ℕ
binary_digits zero = 0
binary_digits (suc n) = digits_after (suc n) (binary_digits n)

-- base and size are multiples of 4
abbrev pub AreAligned : ℕ → ℕ → Type 0
AreAligned base size = (base % 4 ≡ 0) × (size % 4 ≡ 0)

module _ {M : Type 0} where
  -- Whether a region serves an address: it lies in the region, and addresses end at 2 ^ 32.
  abbrev pub serves : Region M → ℕ → Bool
  serves r a = (nat_le r.base a && nat_lt a (r.base + r.size)) && nat_lt a (2 ^ 32)

  -- what the first region that serves the address says of it, or a default where none does: in a
  -- space no two regions serve one address
  abbrev pub served_by : {T : Type 0} → (M → ℕ → T) → T → List (Region M) → ℕ → T
  served_by says default [] a = default
  served_by says default (r ∷ regions) a =
      if serves r a then says r.memory (a - r.base) else served_by says default regions a

  -- the byte at an address: that of the inner memory of the region that serves it
  abbrev pub space_bytes : (M → ByteMap) → List (Region M) → ByteMap
  space_bytes bytes regions a = served_by bytes None regions a

  -- the same for what is writable
  abbrev pub space_writable : (M → ℕ → Bool) → List (Region M) → ℕ → Bool
  space_writable writable regions a = served_by writable false regions a

  -- the base, the size, the length of the inner layout and that layout, of each region in order
  abbrev pub space_layout : (M → List ℕ) → List (Region M) → List ℕ
  space_layout layout [] = []
  space_layout layout (r ∷ regions) =
      (r.base ∷ r.size ∷ length (layout r.memory) ∷ []) ++ layout r.memory
      ++ space_layout layout regions

  -- a region of this base and size would overlap r: the sums are exact
  abbrev pub Overlaps : ℕ → ℕ → Region M → Type 0
  Overlaps base size r = (r.base < base + size) × (base < r.base + r.size)

  -- a region that has addresses, so that an access may have to compare it
  abbrev pub HasAddresses : Region M → Type 0
  HasAddresses r = 0 < r.size

  -- what no access changes of a region beside its inner layout
  abbrev pub bounds : Region M → ℕ × ℕ
  bounds r = (r.base, r.size)

  -- base and size are words, and multiples of 4
  pub record IsWordRegion (r : Region M) : Type 0 where
    pub aligned : AreAligned r.base r.size
    pub base_fits : r.base < 2 ^ 32
    pub size_fits : r.size < 2 ^ 32

  -- what every address space keeps: its regions are whole words, and no two of them overlap
  pub record IsSpace (regions : List (Region M)) : Type 0 where
    pub words : All IsWordRegion regions
    pub apart : AllPairs (λ r s. Overlaps s.base s.size r → ⊥) regions

  -- the memory of a region, if there is one of this index
  abbrev pub memory_at : List (Region M) → ℕ → Option M
  memory_at regions i = option_map (λ r. r.memory) (slice_get regions i)

  -- the regions after the memory of one was replaced
  abbrev pub with_memory : List (Region M) → ℕ → M → List (Region M)
  with_memory [] i m = []
  with_memory (r ∷ regions) zero m = record r { memory = m } ∷ regions
  with_memory (r ∷ regions) (suc i) m = r ∷ with_memory regions i m

  -- the space after the memory of one region was replaced
  abbrev pub with_region_memory : Space M → ℕ → M → Space M
  with_region_memory s i m = record s { regions = with_memory s.regions i m }

  -- The count after an access, which compared some of the regions. It stays at 2 ^ 64 - 1 once it
  -- is there. At most as many are compared as the number of all regions has binary digits, plus
  -- one.
  pub record CountsCompared (old new : Space M) : Type 0 where
    pub compared : ℕ
    pub counted : new.looked_at ≡ min (old.looked_at + compared) (2 ^ 64 - 1)
    pub few : compared ≤ binary_digits (length old.regions) + 1

  -- a call compares at least one region, where some region has addresses
  abbrev pub ComparesSome : Space M → Space M → Type 0
  ComparesSome old new =
      Any HasAddresses old.regions → old.looked_at < 2 ^ 64 - 1 → old.looked_at < new.looked_at

  -- each region that does not serve the address is as it was, memory and all
  abbrev pub OthersKept : ℕ → List (Region M) → List (Region M) → Type 0
  OthersKept a old new = (i : ℕ) (r : Region M)
      → slice_get old i ≡ Some r → serves r a ≡ false → slice_get new i ≡ Some r

  -- region i serves the address
  pub record IsServedAt (regions : List (Region M)) (a i : ℕ) : Type 0 where
    pub region : Region M
    pub stands : slice_get regions i ≡ Some region
    pub serves_it : serves region a ≡ true

  -- P holds of the memory that serves the address as it was, of the address in it, and of that
  -- memory as it is
  abbrev pub ServedBecomes : ℕ → List (Region M) → List (Region M) → (M → ℕ → M → Type 0) → Type 0
  ServedBecomes a old new P = (i : ℕ) (r s : Region M)
      → slice_get old i ≡ Some r → serves r a ≡ true → slice_get new i ≡ Some s
      → P r.memory (a - r.base) s.memory

  -- What an access at an address does to a space, where P says what it does to an inner memory: to
  -- the one that serves the address, at the offset from its base. No other region changes.
  pub record SpaceAccess (a : ℕ) (old new : Space M) (P : M → ℕ → M → Type 0) : Type 0 where
    pub regions_kept : map bounds new.regions ≡ map bounds old.regions
    pub others_kept : OthersKept a old.regions new.regions
    pub served : ServedBecomes a old.regions new.regions P
    pub counts : CountsCompared old new
