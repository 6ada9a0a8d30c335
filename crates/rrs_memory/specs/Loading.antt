-- What a loader leaves, what each of its answers says, and which accesses it makes.
use Rattle.std.specs.Prelude.{◌≡◌, ◌⊎◌, ℕ, ◌+◌, ◌^◌, ◌<◌, ◌≤◌, nat_lt, Bool, true, false, if◌then◌else◌, List, [], ◌∷◌, ◌++◌, length, slice_index, Option, Some, Result, Ok, Err, is_some}
use Rattle.std.specs.Io.KnownBytes.{Consumes, IsAtEnd}
use Rattle.rrs_memory.specs.declared.memories.load.LoadFault.{LoadFault}
use Rattle.rrs_memory.specs.declared.memories.load.LoadFault.TheVariants.{Reader, Refused, EndOfAddresses}
use Rattle.rrs_memory.specs.declared.MemAccessSize.{MemAccessSize}
use Rattle.rrs_memory.specs.declared.MemAccessSize.TheVariants.{Byte}
use Rattle.rrs_memory.specs.Bytes.{ByteMap}
use Rattle.rrs_memory.specs.AccessLists.{Access, Write, Makes}

-- The memory has the input from the start on, at addresses that are writable; all other bytes are
-- as before.
pub record Loaded (old new : ByteMap) (writable : ℕ → Bool) (start : ℕ) (input : List ℕ)
    : Type 0 where
  pub writable_there : (i : ℕ) → i < length input → writable (start + i) ≡ true
  pub loaded : (i : ℕ) → i < length input → new (start + i) ≡ Some (slice_index input i)
  pub others : (a : ℕ) → (a < start) ⊎ (start + length input ≤ a) → new a ≡ old a
  pub mapped : (a : ℕ) → is_some (new a) ≡ is_some (old a)
  pub in_range : start + length input ≤ 2 ^ 32

-- What each answer says, where the input was written. A reader's bytes before and after are given
-- where they are known.
abbrev pub AnswerOf : Option (List ℕ) → Option (List ℕ)
    → (ℕ → Bool) → ℕ → List ℕ → Result (Unit {0}) LoadFault → Type 0
-- the reader ended, and all that it gave was written
AnswerOf before after writable start input (Ok done) = Consumes before after input × IsAtEnd after
-- a read failed: what was given before it is written
AnswerOf before after writable start input (Err (Reader error)) = Consumes before after input
-- one byte more was read, at an address that is not writable
AnswerOf before after writable start input (Err (Refused a)) =
    (a ≡ start + length input) × (writable a ≡ false)
    × ((byte : ℕ) × Consumes before after (input ++ byte ∷ []))
-- one byte more was read, after the last address
AnswerOf before after writable start input (Err EndOfAddresses) =
    (start + length input ≡ 2 ^ 32) × ((byte : ℕ) × Consumes before after (input ++ byte ∷ []))

-- a loader took the reader and the memory from the first to the second, and wrote some input
pub record Loads (before after : Option (List ℕ)) (old new : ByteMap) (writable : ℕ → Bool)
    (start : ℕ) (answer : Result (Unit {0}) LoadFault) : Type 0 where
  pub input : List ℕ
  pub loaded : Loaded old new writable start input
  pub answered : AnswerOf before after writable start input answer

-- One write for each of these bytes, from address a on, with the answers that the laws of a memory
-- give them. There is none past the last address.
abbrev pub byte_writes : (ℕ → Bool) → ℕ → List ℕ → List Access
byte_writes writable a [] = []
byte_writes writable a (byte ∷ bytes) =
    if nat_lt a (2 ^ 32)
    then Write a Byte byte (writable a) ∷ byte_writes writable (a + 1) bytes else []

-- By what a memory of type M says of its reads and its writes: a loader took the reader and the
-- memory from the first to the second, the memory by exactly one write for each byte that was read,
-- in order, and by no read. One that the memory refused is among them, as the last.
pub record WritesEachByte {M : Type 0}
    (reads : M → ℕ → MemAccessSize → M → Option ℕ → Type 0)
    (writes : M → ℕ → MemAccessSize → ℕ → M → Bool → Type 0)
    (before after : Option (List ℕ)) (old new : M) (writable : ℕ → Bool) (start : ℕ)
    : Type 0 where
  pub input : List ℕ
  pub consumed : Consumes before after input
  pub made : Makes reads writes (byte_writes writable start input) old new
