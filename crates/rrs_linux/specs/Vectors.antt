-- What writev writes (writev(2)): the pieces of a vector, one after another. Each is written as a
-- buffer of write is.
use Rattle.std.specs.Prelude.{◌≡◌, ◌≢◌, ◌⊎◌, ℕ, zero, suc, ◌+◌, ◌-◌, ◌*◌, ◌^◌, ◌<◌, ◌≤◌, min, nat_lt, if◌then◌else◌, List, [], ◌++◌, length, Some, None}
use Rattle.rrs_lib.specs.Bytes.{ByteMap, little_endian}
use Rattle.rrs_lib.specs.AccessLists.{Access}
use Rattle.rrs_linux.specs.Requests.{error}
use Rattle.rrs_linux.specs.Transfers.{Takes, Stands, byte_reads, counted, most_bytes}

-- a piece is at a (struct iovec, 8 bytes): iov_base, and iov_len after it
pub record IsPiece (bytes : ByteMap) (a base size : ℕ) : Type 0 where
  pub base_there : little_endian bytes a 4 ≡ Some base
  pub size_there : little_endian bytes (a + 4) 4 ≡ Some size

-- one of the n pieces from a on has a length that is negative as a ssize_t
pub record HasNegative (bytes : ByteMap) (a n : ℕ) : Type 0 where
  pub index : ℕ
  pub within : index < n
  pub size : ℕ
  pub size_there : little_endian bytes (a + 8 * index + 4) 4 ≡ Some size
  pub negative : 2 ^ 31 ≤ size

-- none of them has
abbrev pub HasNoNegative : ByteMap → ℕ → ℕ → Type 0
HasNoNegative bytes a n =
    (index size : ℕ) → index < n → little_endian bytes (a + 8 * index + 4) 4 ≡ Some size
    → size < 2 ^ 31

-- The answer of a call that wrote so many bytes, and then a piece not whole: how many were written
-- together, or the error that was met before the first. An error is more than any length.
abbrev pub together : (done wanted answer : ℕ) → ℕ
together done wanted answer =
    if nat_lt answer wanted then done + answer else counted done answer

-- By what a write of a buffer does to a stream, and by the bytes of memory:
module _ {W : Type 0} (takes : Takes W) (bytes : ByteMap) where
  -- After `done` bytes of the pieces before, the n pieces from a on are written one after another,
  -- as far as one call writes, up to the first that is not written whole.
  abbrev pub WritesPieces : (a n done : ℕ) → W → W → (answer : ℕ) → List Access → Type 0
  WritesPieces a zero done old new answer accesses =
      (new ≡ old) × (answer ≡ done) × (accesses ≡ [])
  WritesPieces a (suc n) done old new answer accesses =
      (base size wanted taken : ℕ) × (mid : W) × (first later : List Access)
      × IsPiece bytes a base size × (wanted ≡ min size (most_bytes - done))
      × takes bytes base wanted old mid taken first
      × (((taken ≡ wanted) × WritesPieces (a + 8) n (done + wanted) mid new answer later)
      ⊎ ((taken ≢ wanted) × (new ≡ mid) × (answer ≡ together done wanted taken) × (later ≡ [])))
      × (accesses ≡ first ++ later)

  -- What a call does with the vector of so many pieces at a. Each byte of it is read once, in
  -- order, before anything is written.
  pub data WritesVector (a count : ℕ) (old new : W) (answer : ℕ) (accesses : List Access)
      : Type 0 where
    IsWritten : (vector : List ℕ) (more : List Access)
        → count ≤ 1024 → a + 8 * count ≤ 2 ^ 32
        → Stands bytes a vector → length vector ≡ 8 * count → HasNoNegative bytes a count
        → WritesPieces a count 0 old new answer more
        → accesses ≡ byte_reads bytes a (8 * count) ++ more
        → WritesVector a count old new answer accesses
    -- a length is negative (EINVAL is 22)
    IsNegative : (vector : List ℕ)
        → count ≤ 1024 → a + 8 * count ≤ 2 ^ 32
        → Stands bytes a vector → length vector ≡ 8 * count → HasNegative bytes a count
        → new ≡ old → answer ≡ error 22 → accesses ≡ byte_reads bytes a (8 * count)
        → WritesVector a count old new answer accesses
    -- a byte of the vector is not mapped, and those before it are (EFAULT is 14)
    IsUnmapped : (vector : List ℕ)
        → count ≤ 1024 → a + 8 * count ≤ 2 ^ 32
        → Stands bytes a vector → length vector < 8 * count → bytes (a + length vector) ≡ None
        → new ≡ old → answer ≡ error 14 → accesses ≡ byte_reads bytes a (length vector + 1)
        → WritesVector a count old new answer accesses
    -- the vector passes the last address
    PassesEnd :
        count ≤ 1024 → 2 ^ 32 < a + 8 * count
        → new ≡ old → answer ≡ error 14 → accesses ≡ []
        → WritesVector a count old new answer accesses
    -- there are more than IOV_MAX pieces (1,024)
    IsTooLong :
        1024 < count → new ≡ old → answer ≡ error 22 → accesses ≡ []
        → WritesVector a count old new answer accesses
