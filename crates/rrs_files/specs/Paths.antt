-- The paths of a program (path_resolution(7)): the bytes of its memory up to a 0, names between
-- slashes. The folder is the program's root and its working directory. A path may not have the name
-- "..", and none of its parts may be a link.
use Rattle.std.specs.Prelude.{◌≡◌, ◌≢◌, ◌⊎◌, ℕ, ◌+◌, ◌-◌, ◌^◌, ◌<◌, ◌==◌, bit_and, if◌then◌else◌, List, [], length, take, slice_index, Option, Some, None, Result, Ok, Err}
use Rattle.rrs_lib.specs.Bytes.{ByteMap}
use Rattle.rrs_lib.specs.AccessLists.{Access}
use Rattle.rrs_linux.specs.Requests.{error}
use Rattle.rrs_linux.specs.Transfers.{Stands, byte_reads}
use Rattle.rrs_files.specs.declared.descriptors.Descriptors.{Descriptors}
use Rattle.rrs_files.specs.declared.folder.Status.{Status}
use Rattle.rrs_files.specs.declared.paths.Named.{Named}
use Rattle.rrs_files.specs.declared.paths.Named.TheVariants.{There, Missing, Stopped}
use Rattle.rrs_files.specs.Descriptors.{HasTarget, IsFree}
use Rattle.rrs_files.specs.declared.descriptors.Target.{Target}
use Rattle.rrs_files.specs.Events.{Did, Looked}

-- ---- the text

-- a text without a 0 is at a
abbrev pub IsPart : ByteMap → ℕ → List ℕ → Type 0
IsPart bytes a text = Stands bytes a text × ((i : ℕ) → i < length text → slice_index text i ≢ 0)

-- The path at a, which has 4,095 bytes at most (PATH_MAX), or the error. Its bytes are read in
-- order, and no more.
pub data IsText (bytes : ByteMap) (a : ℕ) (path : Result (List ℕ) ℕ) (accesses : List Access)
    : Type 0 where
  IsEnded : (text : List ℕ)
      → IsPart bytes a text → length text < 4096 → bytes (a + length text) ≡ Some 0
      → accesses ≡ byte_reads bytes a (length text + 1) → path ≡ Ok text
      → IsText bytes a path accesses
  -- a byte is not mapped (EFAULT is 14)
  IsUnmapped : (text : List ℕ)
      → IsPart bytes a text → length text < 4096 → bytes (a + length text) ≡ None
      → accesses ≡ byte_reads bytes a (length text + 1) → path ≡ Err (error 14)
      → IsText bytes a path accesses
  PassesEnd : (text : List ℕ)
      → IsPart bytes a text → length text < 4096 → a + length text ≡ 2 ^ 32
      → accesses ≡ byte_reads bytes a (length text) → path ≡ Err (error 14)
      → IsText bytes a path accesses
  -- it is too long (ENAMETOOLONG is 36)
  IsLong : (text : List ℕ)
      → IsPart bytes a text → length text ≡ 4096
      → accesses ≡ byte_reads bytes a (length text) → path ≡ Err (error 36)
      → IsText bytes a path accesses

-- ---- which paths are allowed

-- the name ".." stands at a place of a path (46 is '.', and 47 '/')
pub record ClimbsAt (path : List ℕ) (at : ℕ) : Type 0 where
  pub begins : (at ≡ 0) ⊎ (slice_index path (at - 1) ≡ 47)
  pub first : slice_index path at ≡ 46
  pub more : at + 1 < length path
  pub second : slice_index path (at + 1) ≡ 46
  pub ends : (at + 2 ≡ length path) ⊎ ((at + 2 < length path) × (slice_index path (at + 2) ≡ 47))

-- it stands somewhere
abbrev pub Climbs : List ℕ → Type 0
Climbs path = (at : ℕ) × (at < length path) × ClimbsAt path at

-- a path begins at the folder: it is absolute, or beside the working directory (AT_FDCWD, -100)
abbrev pub BeginsHere : List ℕ → (beside : ℕ) → Type 0
BeginsHere path beside = (slice_index path 0 ≡ 47) ⊎ (beside ≡ error 100)

pub record IsAllowed (path : List ℕ) (beside : ℕ) : Type 0 where
  pub some : 0 < length path
  pub here : BeginsHere path beside
  pub stays : Climbs path → ⊥

-- why a path is not allowed
pub data IsForbidden (path : List ℕ) (beside : ℕ) (descriptors : Descriptors) (answer : ℕ)
    : Type 0 where
  -- ENOENT is 2
  IsEmpty : path ≡ [] → answer ≡ error 2 → IsForbidden path beside descriptors answer
  -- it is beside a descriptor, which is answered as where that is no directory, or not open
  -- (ENOTDIR is 20, and EBADF 9)
  IsBeside :
      (BeginsHere path beside → ⊥)
      → (target : Target) → HasTarget descriptors.targets beside target
      → answer ≡ error 20 → IsForbidden path beside descriptors answer
  IsNowhere :
      (BeginsHere path beside → ⊥)
      → IsFree descriptors.targets beside
      → answer ≡ error 9 → IsForbidden path beside descriptors answer
  -- EACCES is 13
  IsUp : Climbs path → answer ≡ error 13 → IsForbidden path beside descriptors answer

-- ---- what a path names

-- the kind of a file (st_mode, S_IFMT): a directory is 0x4000, a file 0x8000, a link 0xa000
abbrev pub kind : Status → ℕ
kind status = bit_and status.mode 0xf000

-- why a path ends at a part before its last: there is none, it is a link (ELOOP is 40), or no
-- directory (ENOTDIR is 20)
abbrev pub stop_at : Result Status ℕ → Option ℕ
stop_at (Err e) = Some e
stop_at (Ok status) =
    if kind status == 0x4000 then None
    else (if kind status == 0xa000 then Some (error 40) else Some (error 20))

-- what a look at the whole path tells (ENOENT is 2)
abbrev pub named_of : Result Status ℕ → Named
named_of (Ok status) = There status
named_of (Err e) = if e == error 2 then Missing else Stopped e

-- By what a folder says of a call:
module _ {F : Type 0} (did : Did F) (path : List ℕ) where
  -- At a slash what stands before it is looked at, and the path ends there, or goes on. Elsewhere
  -- no call of the host is made.
  pub data Enters (at : ℕ) (now next : F) (stop : Option ℕ) : Type 0 where
    IsName :
        slice_index path at ≢ 47 → next ≡ now → stop ≡ None → Enters at now next stop
    IsSlash : (seen : Result Status ℕ)
        → slice_index path at ≡ 47 → did now (Looked (take at path) seen) next
        → stop ≡ stop_at seen → Enters at now next stop

  -- All before a place of the path was entered, in order, and each part is a directory, no link.
  pub data Walked (old : F) : ℕ → F → Type 0 where
    Begun : Walked old 0 old
    Further : (at : ℕ) (now next : F)
        → Walked old at now → Enters at now next None → Walked old (at + 1) next

  -- Then the whole path is looked at; or else it ended before.
  pub data Walks (old new : F) (named : Named) : Type 0 where
    IsSeen : (now : F) (seen : Result Status ℕ)
        → Walked old (length path) now → did now (Looked path seen) new
        → named ≡ named_of seen → Walks old new named
    IsStopped : (at : ℕ) (now : F) (e : ℕ)
        → Walked old at now → at < length path → Enters at now new (Some e)
        → named ≡ Stopped e → Walks old new named
