-- What write and read transfer (write(2) and read(2)): which bytes, by which accesses of the
-- memory, and what the call answers. A stream's bytes are given where they are known.
use Rattle.std.specs.Prelude.{◌≡◌, ◌⊎◌, ℕ, zero, suc, ◌+◌, ◌%◌, ◌^◌, ◌<◌, ◌≤◌, min, Bool, false, if◌then◌else◌, List, [], ◌∷◌, ◌++◌, length, slice_index, Option, Some, None}
use Rattle.std.specs.Io.KnownBytes.{Appends, Consumes, IsAtEnd}
use Rattle.rrs_lib.specs.declared.MemAccessSize.TheVariants.{Byte}
use Rattle.rrs_lib.specs.Bytes.{ByteMap}
use Rattle.rrs_lib.specs.AccessLists.{Access, Read}
use Rattle.rrs_lib.specs.Loading.{Loaded, byte_writes}
use Rattle.rrs_linux.specs.Requests.{error}

-- the most bytes that one call transfers
abbrev pub most_bytes : ℕ
most_bytes = 0x7ffff000

-- how many bytes were transferred, or the error that was met before the first
abbrev pub counted : ℕ → ℕ → ℕ
counted zero e = e
counted (suc n) e = suc n

-- What a write of a buffer at a does to a stream: by the bytes of memory, from the stream before to
-- the one after, with this answer and these accesses.
abbrev pub Takes : Type 0 → Type 1
Takes W = ByteMap → (a count : ℕ) → W → W → (answer : ℕ) → List Access → Type 0

-- What a read to a buffer at a does: by the addresses that are writable, from the bytes of memory,
-- the input and what is kept of it before to those after.
abbrev pub Gives : Type 0 → Type 0 → Type 1
Gives R K =
    (ℕ → Bool) → ByteMap → ByteMap → (a count : ℕ) → R → K → R → K → (answer : ℕ) → List Access
    → Type 0

-- ---- write

-- the text is at a
abbrev pub Stands : ByteMap → ℕ → List ℕ → Type 0
Stands bytes a text = (i : ℕ) → i < length text → bytes (a + i) ≡ Some (slice_index text i)

-- a read of each of the n bytes from a on, in order
abbrev pub byte_reads : ByteMap → ℕ → ℕ → List Access
byte_reads bytes a zero = []
byte_reads bytes a (suc n) = byte_reads bytes a n ++ Read (a + n) Byte (bytes (a + n)) ∷ []

-- the error of a write that failed: nobody reads what is written (EPIPE is 32), or another (EIO is
-- 5)
abbrev pub failure : Bool → ℕ
failure broken = error (if broken then 32 else 5)

-- How the write of a buffer at a, of a text that stands at its beginning, ended: by how many writes
-- of the host had been short before and have been after, modulo 2^64, and whether the latest of
-- these failed because nobody reads; how many bytes of the memory were read, and the answer.
pub data WriteEnds (bytes : ByteMap) (a count : ℕ) (text : List ℕ) (short short' : ℕ)
    (broken : Bool) (reads answer : ℕ) : Type 0 where
  -- the whole buffer is written, or as much of it as one call writes
  Whole :
      a + count ≤ 2 ^ 32 → length text ≡ min count most_bytes → short' ≡ short
      → reads ≡ length text → answer ≡ length text
      → WriteEnds bytes a count text short short' broken reads answer
  -- all bytes before one that is not mapped are written (EFAULT is 14)
  IsUnmapped :
      a + count ≤ 2 ^ 32 → length text < min count most_bytes → bytes (a + length text) ≡ None
      → short' ≡ short
      → reads ≡ length text + 1 → answer ≡ counted (length text) (error 14)
      → WriteEnds bytes a count text short short' broken reads answer
  -- a write of the host was short in this call: it failed, or took less than it was offered
  IsShort :
      a + count ≤ 2 ^ 32 → length text < reads → reads ≤ min count most_bytes
      → short' ≡ (short + 1) % 2 ^ 64
      → answer ≡ counted (length text) (failure broken)
      → WriteEnds bytes a count text short short' broken reads answer
  -- the buffer passes the last address
  PassesEnd :
      2 ^ 32 < a + count → text ≡ [] → short' ≡ short → reads ≡ 0 → answer ≡ error 14
      → WriteEnds bytes a count text short short' broken reads answer

-- The bytes of a buffer are appended to a stream, in order, from its first on: all of them, but
-- where one is not mapped or a write of the host is short.
pub record WritesText (bytes : ByteMap) (a count : ℕ) (before after : Option (List ℕ))
    (short short' : ℕ) (broken : Bool) (answer : ℕ) (accesses : List Access) : Type 0 where
  pub text : List ℕ
  pub stands : Stands bytes a text
  pub appended : Appends before after text
  pub reads : ℕ
  pub ended : WriteEnds bytes a count text short short' broken reads answer
  pub accessed : accesses ≡ byte_reads bytes a reads

-- ---- read

-- Where no bytes are held, the host is asked once, for so many at most: what is at hand then, and
-- what the host has left, where that is known.
pub record Fills (most : ℕ) (held at_hand : List ℕ) (left left' : Option (List ℕ)) : Type 0 where
  pub taken : List ℕ
  pub consumed : Consumes left left' taken
  pub within : length taken ≤ most
  pub only_then : (taken ≡ []) ⊎ (held ≡ [])
  pub together : at_hand ≡ held ++ taken

-- How the read to a buffer at a, of a text that was given of the bytes at hand, ended: by what the
-- host has left, how many of its reads had failed before and have after, modulo 2^64, the accesses,
-- and the answer.
pub data ReadEnds (writable : ℕ → Bool) (a count : ℕ) (at_hand text : List ℕ)
    (left : Option (List ℕ)) (failures failures' : ℕ) (accesses : List Access) (answer : ℕ)
    : Type 0 where
  -- bytes are at hand, and as many are given as there are and were asked for, or as one call reads
  IsGiven :
      a + count ≤ 2 ^ 32 → 0 < length text
      → length text ≡ min (min count most_bytes) (length at_hand)
      → accesses ≡ byte_writes writable a text → answer ≡ length text
      → ReadEnds writable a count at_hand text left failures failures' accesses answer
  -- there are no more, or none were asked for
  IsNone :
      a + count ≤ 2 ^ 32 → text ≡ [] → ((at_hand ≡ []) × IsAtEnd left) ⊎ (count ≡ 0)
      → accesses ≡ [] → answer ≡ 0
      → ReadEnds writable a count at_hand text left failures failures' accesses answer
  -- the next address is not writable: the byte for it is the next of the input still
  IsRefused : (byte : ℕ) (rest : List ℕ)
      → a + count ≤ 2 ^ 32 → length text < min count most_bytes
      → writable (a + length text) ≡ false → at_hand ≡ text ++ byte ∷ rest
      → accesses ≡ byte_writes writable a (text ++ byte ∷ [])
      → answer ≡ counted (length text) (error 14)
      → ReadEnds writable a count at_hand text left failures failures' accesses answer
  -- bytes were asked for, none are at hand, and a read of the input failed in this call
  HasFailed :
      a + count ≤ 2 ^ 32 → 0 < count → at_hand ≡ [] → text ≡ []
      → failures' ≡ (failures + 1) % 2 ^ 64 → accesses ≡ [] → answer ≡ error 5
      → ReadEnds writable a count at_hand text left failures failures' accesses answer
  -- the buffer passes the last address
  PassesEnd :
      2 ^ 32 < a + count → text ≡ [] → accesses ≡ [] → answer ≡ error 14
      → ReadEnds writable a count at_hand text left failures failures' accesses answer

-- The bytes at hand are given to a buffer, in order, from its first on, and all others are held.
-- The host is asked for no more than the program asks for, and only where nothing is held.
pub record ReadsText (writable : ℕ → Bool) (bytes bytes' : ByteMap) (a count : ℕ)
    (held held' : List ℕ) (left left' : Option (List ℕ)) (failures failures' answer : ℕ)
    (accesses : List Access) : Type 0 where
  pub text : List ℕ
  pub loaded : Loaded bytes bytes' writable a text
  pub at_hand : List ℕ
  pub filled : Fills (min count most_bytes) held at_hand left left'
  pub kept : at_hand ≡ text ++ held'
  pub ended : ReadEnds writable a count at_hand text left' failures failures' accesses answer
