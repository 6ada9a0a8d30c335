-- What a system call does to an environment whose streams are known bytes: its input was given
-- beforehand, and what is written goes to a record, as far as that has room. What a call asks for
-- is as over any streams (`Asks`), and so are the bytes and the accesses; but nothing here fails by
-- the host, so each outcome follows from the environment and the machine (read(2), write(2)).
use denote.Bor.{Bor}
use Rattle.std.specs.Prelude.{◌≡◌, ℕ, ◌+◌, ◌-◌, ◌^◌, ◌<◌, ◌≤◌, min, List, [], ◌++◌, length, Option, None, Vec, vec_capacity}
use Rattle.std.specs.declared.alloc.Global.{Global}
use Rattle.rrs_lib.specs.Bytes.{ByteMap}
use Rattle.rrs_lib.specs.AccessLists.{Access}
use Rattle.rrs_lib.specs.Machine.{State}
use Rattle.rrs_linux.specs.declared.Process.{Process}
use Rattle.rrs_linux.specs.declared.recorder.Known.{Known}
use Rattle.rrs_linux.specs.Clocks.{Tells, TellsStopped}
use Rattle.rrs_linux.specs.Giving.{GivesText}
use Rattle.rrs_linux.specs.Requests.{error}
use Rattle.rrs_linux.specs.SystemCalls.{ServesBy, AreAlike}
use Rattle.rrs_linux.specs.Transfers.{Gives, Takes, Stands, byte_reads, counted, most_bytes}

-- ---- write

-- How the write of a buffer at a to a record with so much room, of a text that stands at the
-- buffer's beginning, ended: how many bytes of the memory were read, and the answer.
pub data TakingEnds (bytes : ByteMap) (a count room : ℕ) (text : List ℕ) (reads answer : ℕ)
    : Type 0 where
  -- the whole buffer is taken, or as much of it as one call writes
  IsWhole :
      a + count ≤ 2 ^ 32 → length text ≡ min count most_bytes → length text ≤ room
      → reads ≡ length text → answer ≡ length text
      → TakingEnds bytes a count room text reads answer
  -- there is no room for the next byte (ENOSPC is 28)
  IsFull :
      a + count ≤ 2 ^ 32 → length text < min count most_bytes → length text ≡ room
      → reads ≡ length text → answer ≡ counted (length text) (error 28)
      → TakingEnds bytes a count room text reads answer
  -- there is room, and the next byte is not mapped (EFAULT is 14)
  IsUnmapped :
      a + count ≤ 2 ^ 32 → length text < min count most_bytes → length text < room
      → bytes (a + length text) ≡ None
      → reads ≡ length text + 1 → answer ≡ counted (length text) (error 14)
      → TakingEnds bytes a count room text reads answer
  -- the buffer passes the last address
  PassesEnd :
      2 ^ 32 < a + count → text ≡ [] → reads ≡ 0 → answer ≡ error 14
      → TakingEnds bytes a count room text reads answer

-- The bytes of a buffer are appended to a record, in order, from its first on. The record has a
-- capacity for all that it holds.
pub record TakesText (bytes : ByteMap) (a count capacity : ℕ) (old new : List ℕ) (answer : ℕ)
    (accesses : List Access) : Type 0 where
  pub text : List ℕ
  pub stands : Stands bytes a text
  pub appended : new ≡ old ++ text
  pub reads : ℕ
  pub ended : TakingEnds bytes a count (capacity - length old) text reads answer
  pub accessed : accesses ≡ byte_reads bytes a reads

-- ---- a call

-- a read of bytes that are known: those that are left
abbrev pub GivesInput : Gives (Bor (List ℕ)) Known
GivesInput writable bytes bytes' a count old held new held' answer accesses =
    GivesText writable bytes bytes' a count old.now new.now answer accesses × (held' ≡ held)

-- a write to a record, whose capacity is the room that it has
abbrev pub TakesOutput : Takes (Vec ℕ Global)
TakesOutput bytes a count old new answer accesses =
    TakesText bytes a count (vec_capacity old) old.items new.items answer accesses
    × (vec_capacity new ≡ vec_capacity old)

-- a clock that stands still
abbrev pub TellsKnown : Tells Known
TellsKnown known = TellsStopped known.clocks

-- an environment over known bytes
abbrev pub Recording : Type 0
Recording = Process (Bor (List ℕ)) (Vec ℕ Global) (Vec ℕ Global) Known

-- What a call does over known bytes.
abbrev pub Records : Recording → State → Recording → State → List Access → Option ℕ → Type 0
Records = ServesBy GivesInput TakesOutput TakesOutput TellsKnown

-- ---- which are alike

-- inputs that have the same bytes left
abbrev pub AlikeInputs : Bor (List ℕ) → Bor (List ℕ) → Type 0
AlikeInputs a b = a.now ≡ b.now

-- records that hold the same bytes, with a capacity for as many
abbrev pub AlikeRecords : Vec ℕ Global → Vec ℕ Global → Type 0
AlikeRecords a b = (a.items ≡ b.items) × (vec_capacity a ≡ vec_capacity b)

-- environments with such an input and such records, with one heap, with the same numbers of calls
-- that there are not, and with one state of the pseudo-random numbers
abbrev pub AlikeRecordings : Recording → Recording → Type 0
AlikeRecordings = AreAlike AlikeInputs AlikeRecords AlikeRecords
