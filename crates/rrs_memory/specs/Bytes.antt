-- Memory as a map of bytes (RISC-V unprivileged specification, RV32I, "Load and Store
-- Instructions": a byte-addressed space of 2 ^ 32 bytes, little-endian), and the laws of its reads
-- and writes.
use Rattle.std.specs.Prelude.{◌≡◌, ℕ, zero, suc, ◌+◌, ◌-◌, ◌*◌, ◌/◌, ◌%◌, ◌^◌, ◌<◌, ◌≤◌, Bool, true, false, ◌&&◌, nat_le, nat_lt, if◌then◌else◌, List, Option, Some, None, IsTrue, IsSome}
use Rattle.std.specs.Bool.{OnTrue, OnFalse}
use Rattle.rrs_memory.specs.declared.MemAccessSize.{MemAccessSize}
use Rattle.rrs_memory.specs.declared.MemAccessSize.TheVariants.{Byte, HalfWord, Word}
use Rattle.rrs_memory.specs.AccessLists.{Access, Makes}

-- What each address has: a byte, or nothing where it is not mapped. No access reaches 2 ^ 32.
abbrev pub ByteMap : Type 0
ByteMap = ℕ → Option ℕ

-- the size of an access in bytes
abbrev pub width : MemAccessSize → ℕ
width Byte = 1
width HalfWord = 2
width Word = 4

-- the sum of two values, where there are both
abbrev pub sum_if_both : Option ℕ → Option ℕ → Option ℕ
sum_if_both None o = None
sum_if_both (Some x) None = None
sum_if_both (Some x) (Some y) = Some (x + y)

-- the value of byte i of a little-endian number, where there is one
abbrev pub at_place : ℕ → Option ℕ → Option ℕ
at_place i None = None
at_place i (Some byte) = Some (byte * 256 ^ i)

-- the little-endian value of the n bytes from a on, if all of them are mapped: the sum of byte i
-- times 256 ^ i
abbrev pub little_endian : ByteMap → ℕ → ℕ → Option ℕ
little_endian bytes a zero = Some 0
little_endian bytes a (suc n) = sum_if_both (little_endian bytes a n) (at_place n (bytes (a + n)))

-- whether the n addresses from a on are writable
abbrev pub all_writable : (ℕ → Bool) → ℕ → ℕ → Bool
all_writable writable a zero = true
all_writable writable a (suc n) = all_writable writable a n && writable (a + n)

-- whether b is one of the n addresses from a on
abbrev pub is_among : ℕ → ℕ → ℕ → Bool
is_among a n b = nat_le a b && nat_lt b (a + n)

-- the map after the low n bytes of a value were stored at a, lowest first
abbrev pub store : ByteMap → ℕ → ℕ → ℕ → ByteMap
store bytes a n value b =
    if is_among a n b then Some (value / 256 ^ (b - a) % 256) else bytes b

-- ---- the laws

-- at the n addresses from a on, bytes are below 256, and what is writable is mapped
pub record IsLawful (bytes : ByteMap) (writable : ℕ → Bool) (a n : ℕ) : Type 0 where
  pub values : (i byte : ℕ) → i < n → bytes (a + i) ≡ Some byte → byte < 256
  pub mapped : (i : ℕ) → i < n → IsTrue (writable (a + i)) → IsSome (bytes (a + i))

-- addresses end at 2 ^ 32: from there on nothing is mapped, and nothing is writable
abbrev pub EndsAtLastAddress : ByteMap → (ℕ → Bool) → Type 0
EndsAtLastAddress bytes writable = (a : ℕ) → 2 ^ 32 ≤ a → (bytes a ≡ None) × (writable a ≡ false)

-- The laws of a memory of type M, which says of each value its bytes, its writable addresses, and a
-- layout, a list of numbers of its own choice that no access changes.
module _ {M : Type 0} (bytes : M → ByteMap) (writable : M → ℕ → Bool) (layout : M → List ℕ) where
  -- A read of the n bytes at a answers their little-endian value, or None where one of them is not
  -- mapped, and changes nothing.
  pub record Reads (old new : M) (a n : ℕ) (answer : Option ℕ) : Type 0 where
    pub value : answer ≡ little_endian (bytes old) a n
    pub bytes_kept : bytes new ≡ bytes old
    pub writable_kept : writable new ≡ writable old
    pub layout_kept : layout new ≡ layout old
    pub lawful : IsLawful (bytes old) (writable old) a n
    pub ends : EndsAtLastAddress (bytes old) (writable old)

  -- A write of the low n bytes of a value at a answers whether all n addresses are writable. Then
  -- they hold these bytes, and otherwise nothing changes.
  pub record Writes (old new : M) (a n value : ℕ) (answer : Bool) : Type 0 where
    pub granted : answer ≡ all_writable (writable old) a n
    pub written : OnTrue answer (bytes new ≡ store (bytes old) a n value)
    pub refused : OnFalse answer (bytes new ≡ bytes old)
    pub writable_kept : writable new ≡ writable old
    pub layout_kept : layout new ≡ layout old
    pub lawful : IsLawful (bytes old) (writable old) a n
    pub ends : EndsAtLastAddress (bytes old) (writable old)

-- ---- pure reads

-- Reads at an address do nothing, by what a memory of type M says of its reads and its writes:
-- after any accesses from m on, a read there, of a size that the address is a multiple of, may
-- answer as the law has it and leave the memory as it is. So one may be left out.
abbrev pub ReadsArePure : {M : Type 0} → (M → ByteMap)
    → (M → ℕ → MemAccessSize → M → Option ℕ → Type 0)
    → (M → ℕ → MemAccessSize → ℕ → M → Bool → Type 0) → M → ℕ → Type 0
ReadsArePure {M = M} bytes reads writes m a = (accesses : List Access) (later : M)
    → Makes reads writes accesses m later → (size : MemAccessSize) → a % width size ≡ 0
    → reads later a size later (little_endian (bytes later) a (width size))
