-- What the calls for files do to the files and to the machine: which bytes of memory are read and
-- written, which calls of the host are made, and what is answered. A call that is refused makes no
-- call of the host, but for the looks at its path.
use Rattle.std.specs.Prelude.{◌≡◌, ◌≢◌, ◌⊎◌, ℕ, ◌+◌, ◌-◌, ◌^◌, ◌<◌, ◌≤◌, ◌*◌, ◌==◌, ◌&&◌, ◌||◌, nat_le, min, not, bit_and, if◌then◌else◌, Bool, true, false, take, List, [], ◌∷◌, ◌++◌, length, Option, Some, None, Result, Ok, Err}
use Rattle.std.specs.Int.{to_le_bytes, w64}
use Rattle.rrs_lib.specs.Bytes.{ByteMap, little_endian}
use Rattle.rrs_lib.specs.AccessLists.{Access}
use Rattle.rrs_lib.specs.Machine.{State}
use Rattle.rrs_fast.specs.Serving.{Relation}
use Rattle.rrs_linux.specs.Giving.{GivesText}
use Rattle.rrs_linux.specs.Requests.{error}
use Rattle.rrs_linux.specs.Statuses.{PutsBytes}
use Rattle.rrs_linux.specs.SystemCalls.{answered}
use Rattle.rrs_linux.specs.Transfers.{Takes, Stands, byte_reads}
use Rattle.rrs_linux.specs.Vectors.{WritesVector}
use Rattle.rrs_files.specs.declared.descriptors.Descriptors.{Descriptors}
use Rattle.rrs_files.specs.declared.files.Files.{Files}
use Rattle.rrs_files.specs.declared.folder.Moment.{Moment}
use Rattle.rrs_files.specs.declared.folder.NameChange.{NameChange}
use Rattle.rrs_files.specs.declared.folder.NameChange.TheVariants.{SetTimes}
use Rattle.rrs_files.specs.declared.folder.Status.{Status}
use Rattle.rrs_files.specs.declared.paths.Named.{Named}
use Rattle.rrs_files.specs.declared.paths.Named.TheVariants.{There, Missing, Stopped}
use Rattle.rrs_files.specs.declared.pieces.OpenFile.{OpenFile}
use Rattle.rrs_files.specs.declared.requests.FileRequest.{FileRequest}
use Rattle.rrs_files.specs.declared.serving.WithFiles.{WithFiles}
use Rattle.rrs_files.specs.declared.statuses.Form.{Form}
use Rattle.rrs_files.specs.Acts.{Opens, Closes, Copies, CopiesTo, Changes, Owns, ChangesName, Renames, Tests, Controls, ControlsDevice}
use Rattle.rrs_files.specs.Descriptors.{IsOpen, IsClosed, may_write, stream_at, stream_of}
use Rattle.rrs_files.specs.Entries.{ReadsDirectory}
use Rattle.rrs_files.specs.Events.{Allowed, Did, Gave, LinkTold, Looked, Took, Sought, Told}
use Rattle.rrs_files.specs.Paths.{IsText, IsAllowed, IsForbidden, Walks, kind}
use Rattle.rrs_files.specs.Requests.{AsksFile, descriptor_in}
use Rattle.rrs_files.specs.Statuses.{stream_bytes, told_bytes}

-- the most bytes of a file that one call reads or writes
abbrev pub most_of_file : ℕ
most_of_file = 65536

-- The path of a call is read, and it is allowed; or the error.
pub data TakesPath (bytes : ByteMap) (descriptors : Descriptors) (beside a : ℕ)
    (path : Result (List ℕ) ℕ) (accesses : List Access) : Type 0 where
  IsTaken : (text : List ℕ)
      → IsText bytes a (Ok text) accesses → IsAllowed text beside → path ≡ Ok text
      → TakesPath bytes descriptors beside a path accesses
  IsNot : (text : List ℕ) (e : ℕ)
      → IsText bytes a (Ok text) accesses → IsForbidden text beside descriptors e → path ≡ Err e
      → TakesPath bytes descriptors beside a path accesses
  HasNoText : (e : ℕ)
      → IsText bytes a (Err e) accesses → path ≡ Err e
      → TakesPath bytes descriptors beside a path accesses

-- the status of what a path names, or the error (ENOENT is 2, ELOOP 40); AT_SYMLINK_NOFOLLOW is
-- 0x100
abbrev pub naming : Named → (flags : ℕ) → Result Status ℕ
naming (Stopped e) flags = Err e
naming Missing flags = Err (error 2)
naming (There status) flags =
    if (kind status == 0xa000) && (bit_and flags 0x100 == 0) then Err (error 40) else Ok status

-- a status is that of what a path is beside: the path is empty, and may be (AT_EMPTY_PATH is
-- 0x1000)
abbrev pub is_of_descriptor : (e flags : ℕ) → Bool
is_of_descriptor e flags = (e == error 2) && not (bit_and flags 0x1000 == 0)

-- how many bytes of entries are put, where the position is moved after them, or the error
abbrev pub listed_of : (moved : Result ℕ ℕ) → (size : ℕ) → ℕ
listed_of (Ok position) size = size
listed_of (Err e) size = e

-- why what a path names has no text of a link, if it has none (ENOENT is 2): it is none (EINVAL is
-- 22)
abbrev pub linking : Named → Option ℕ
linking (Stopped e) = Some e
linking Missing = Some (error 2)
linking (There status) = if kind status == 0xa000 then None else Some (error 22)

-- the answer of readlinkat where this many bytes were put with this answer: how many they are, or
-- the error
abbrev pub link_answer : (put size : ℕ) → ℕ
link_answer put size = if put == 0 then size else put

-- how many bytes were written, or the error
abbrev pub taken_of : Result ℕ ℕ → ℕ
taken_of (Ok n) = n
taken_of (Err e) = e

-- How far a buffer at a was read of which n bytes are wanted: to its end, or to a byte that is not
-- mapped.
pub data ReadsBuffer (bytes : ByteMap) (a n : ℕ) (text : List ℕ) (reads : ℕ) : Type 0 where
  IsWhole : length text ≡ n → reads ≡ n → ReadsBuffer bytes a n text reads
  IsCut :
      0 < length text → length text < n → bytes (a + length text) ≡ None
      → reads ≡ length text + 1 → ReadsBuffer bytes a n text reads

-- the answer of getcwd where its bytes were put with this answer: how many they are, or the error
abbrev pub folder_answer : ℕ → ℕ
folder_answer put = if put == 0 then 2 else put

-- getcwd: the path of the folder, which is "/", and the 0 that ends it (ERANGE is 34)
pub data TellsFolder (writable : ℕ → Bool) (bytes bytes' : ByteMap) (a size answer : ℕ)
    (accesses : List Access) : Type 0 where
  HasNoRoom :
      size < 2 → bytes' ≡ bytes → accesses ≡ [] → answer ≡ error 34
      → TellsFolder writable bytes bytes' a size answer accesses
  HasRoom : (put : ℕ)
      → 2 ≤ size → PutsBytes writable bytes bytes' a (47 ∷ 0 ∷ []) accesses put
      → answer ≡ folder_answer put → TellsFolder writable bytes bytes' a size answer accesses

-- A time is at a (struct __kernel_timespec): the seconds in 8 bytes, and the nanoseconds in the
-- lowest 4 of 8.
pub record IsMoment (bytes : ByteMap) (a : ℕ) (moment : Moment) : Type 0 where
  pub low : ℕ
  pub high : ℕ
  pub low_there : little_endian bytes a 4 ≡ Some low
  pub high_there : little_endian bytes (a + 4) 4 ≡ Some high
  pub is_seconds : moment.seconds ≡ high * 2 ^ 32 + low
  pub nanos_there : little_endian bytes (a + 8) 4 ≡ Some moment.nanos

-- the change to two times, of which each has less nanoseconds than a second (EINVAL is 22): neither
-- UTIME_NOW nor UTIME_OMIT is served
abbrev pub times_of : (accessed modified : Moment) → Result NameChange ℕ
times_of accessed modified =
    if nat_le 1000000000 accessed.nanos || nat_le 1000000000 modified.nanos then Err (error 22)
    else Ok (SetTimes accessed modified)

-- The 32 bytes of two times at a are read, up to the first that is not mapped (EFAULT is 14), and
-- they ask for this change, or the error.
pub data TakesTimes (bytes : ByteMap) (a : ℕ) (change : Result NameChange ℕ)
    (accesses : List Access) : Type 0 where
  AreTaken : (accessed modified : Moment)
      → a + 32 ≤ 2 ^ 32 → IsMoment bytes a accessed → IsMoment bytes (a + 16) modified
      → accesses ≡ byte_reads bytes a 32 → change ≡ times_of accessed modified
      → TakesTimes bytes a change accesses
  AreUnmapped : (n : ℕ)
      → a + 32 ≤ 2 ^ 32 → n < 32 → bytes (a + n) ≡ None
      → accesses ≡ byte_reads bytes a (n + 1) → change ≡ Err (error 14)
      → TakesTimes bytes a change accesses
  PassEnd :
      2 ^ 32 < a + 32 → accesses ≡ [] → change ≡ Err (error 14)
      → TakesTimes bytes a change accesses

-- The path of a link is walked, and then the link is read; or the error.
pub data FindsLink {F : Type 0} (did : Did F) (path : List ℕ) (old new : F)
    (target : Result (List ℕ) ℕ) : Type 0 where
  HasNoLink : (named : Named) (e : ℕ)
      → Walks did path old new named → linking named ≡ Some e → target ≡ Err e
      → FindsLink did path old new target
  HasLink : (named : Named) (mid : F)
      → Walks did path old mid named → linking named ≡ None → did mid (LinkTold path target) new
      → FindsLink did path old new target

-- The position of a file goes on by what was given of a read. It is moved back by so many bytes
-- that are left (lseek(2): SEEK_CUR is 1, and the offset is modulo 2^64), where there are some, and
-- where the read was not from an offset, which moves no position.
pub data MovesBack {F : Type 0} (did : Did F) (place : ℕ) (from : Option ℕ) (left : ℕ) (old new : F)
    : Type 0 where
  IsThere :
      (left ≡ 0) ⊎ (from ≢ None) → new ≡ old → MovesBack did place from left old new
  IsMovedBack : (moved : Result ℕ ℕ)
      → 0 < left → from ≡ None → did old (Sought place 1 (2 ^ 64 - left) moved) new
      → MovesBack did place from left old new

-- a write by a descriptor that is open is refused (EBADF is 9): files may only be read, or it is
-- open to be read alone
abbrev pub refuses_write : {F : Type 0} → Files F → (descriptor : ℕ) → Bool
refuses_write files descriptor =
    files.is_read_only || not (may_write files.descriptors.flags descriptor)

-- By what a folder says of a call, and by the bytes of memory, which stay:
module _ {F : Type 0} (did : Did F) (bytes : ByteMap) where
  -- write and, from an offset, pwrite64: at once, so many bytes at most, from a on
  pub data WritesFile (descriptor : ℕ) (from : Option ℕ) (a count : ℕ) (old new : Files F)
      (answer : ℕ) (accesses : List Access) : Type 0 where
    NotOpenToWrite :
        IsClosed old.descriptors.targets descriptor
        → new ≡ old → accesses ≡ [] → answer ≡ error 9
        → WritesFile descriptor from a count old new answer accesses
    MayNotWrite : (place : ℕ)
        → IsOpen old.descriptors.targets descriptor place → refuses_write old descriptor ≡ true
        → new ≡ old → accesses ≡ [] → answer ≡ error 9
        → WritesFile descriptor from a count old new answer accesses
    WritePassesEnd : (place : ℕ)
        → IsOpen old.descriptors.targets descriptor place → refuses_write old descriptor ≡ false
        → 2 ^ 32 < a + count
        → new ≡ old → accesses ≡ [] → answer ≡ error 14
        → WritesFile descriptor from a count old new answer accesses
    -- the first byte is not mapped
    IsUnmapped : (place : ℕ)
        → IsOpen old.descriptors.targets descriptor place → refuses_write old descriptor ≡ false
        → a + count ≤ 2 ^ 32 → 0 < count → bytes a ≡ None
        → new ≡ old → accesses ≡ byte_reads bytes a 1 → answer ≡ error 14
        → WritesFile descriptor from a count old new answer accesses
    IsWritten : (place : ℕ) (folder : F) (text : List ℕ) (reads : ℕ) (taken : Result ℕ ℕ)
        → IsOpen old.descriptors.targets descriptor place → refuses_write old descriptor ≡ false
        → a + count ≤ 2 ^ 32 → Stands bytes a text
        → ReadsBuffer bytes a (min count most_of_file) text reads
        → did old.folder (Took place from text taken) folder
        → new ≡ record old { folder = folder } → accesses ≡ byte_reads bytes a reads
        → answer ≡ taken_of taken
        → WritesFile descriptor from a count old new answer accesses

-- what a write does by a descriptor to the files, as to a stream
abbrev pub takes_of_file : {F : Type 0} → Did F → (descriptor : ℕ) → Takes (Files F)
takes_of_file did descriptor bytes a count old new answer accesses =
    WritesFile did bytes descriptor None a count old new answer accesses

-- what it does where the files are lent: they are the same ones still
abbrev pub takes_lent : {F : Type 0} → Did F → Takes (OpenFile F)
takes_lent did bytes a count old new answer accesses =
    (new.descriptor ≡ old.descriptor) × (new.files.ghost_name ≡ old.files.ghost_name)
    × takes_of_file did old.descriptor bytes a count old.files.now new.files.now answer accesses

-- writev: each piece is written as write writes a buffer
pub data WritesFilePieces {F : Type 0} (did : Did F) (bytes : ByteMap) (descriptor a count : ℕ)
    (old new : Files F) (answer : ℕ) (accesses : List Access) : Type 0 where
  NotOpenToWritePieces :
      IsClosed old.descriptors.targets descriptor → new ≡ old → accesses ≡ [] → answer ≡ error 9
      → WritesFilePieces did bytes descriptor a count old new answer accesses
  -- the vector is not looked at
  MayNotWritePieces : (place : ℕ)
      → IsOpen old.descriptors.targets descriptor place → refuses_write old descriptor ≡ true
      → new ≡ old → accesses ≡ [] → answer ≡ error 9
      → WritesFilePieces did bytes descriptor a count old new answer accesses
  ArePiecesWritten : (place : ℕ)
      → IsOpen old.descriptors.targets descriptor place → refuses_write old descriptor ≡ false
      → WritesVector (takes_of_file did descriptor) bytes a count old new answer accesses
      → WritesFilePieces did bytes descriptor a count old new answer accesses

-- By what a folder says of a call, by which addresses are writable, and by the bytes before and
-- after:
module _ {F : Type 0} (did : Did F) (writable : ℕ → Bool) (bytes bytes' : ByteMap) where
  -- a call that names a file and does this to it
  pub data ByPath (does : List ℕ → Files F → Files F → ℕ → Type 0) (beside a : ℕ)
      (old new : Files F) (answer : ℕ) (accesses : List Access) : Type 0 where
    IsDone : (path : List ℕ)
        → TakesPath bytes old.descriptors beside a (Ok path) accesses
        → does path old new answer → bytes' ≡ bytes
        → ByPath does beside a old new answer accesses
    IsRefused :
        TakesPath bytes old.descriptors beside a (Err answer) accesses
        → new ≡ old → bytes' ≡ bytes → ByPath does beside a old new answer accesses

  -- a call that names two files and does this to them; the second path is read after the first one
  pub data ByPaths (does : List ℕ → List ℕ → Files F → Files F → ℕ → Type 0)
      (beside a beside' a' : ℕ) (old new : Files F) (answer : ℕ) (accesses : List Access)
      : Type 0 where
    AreDone : (path path' : List ℕ) (first later : List Access)
        → TakesPath bytes old.descriptors beside a (Ok path) first
        → TakesPath bytes old.descriptors beside' a' (Ok path') later
        → accesses ≡ first ++ later → does path path' old new answer → bytes' ≡ bytes
        → ByPaths does beside a beside' a' old new answer accesses
    FirstIsRefused :
        TakesPath bytes old.descriptors beside a (Err answer) accesses
        → new ≡ old → bytes' ≡ bytes → ByPaths does beside a beside' a' old new answer accesses
    SecondIsRefused : (path : List ℕ) (first later : List Access)
        → TakesPath bytes old.descriptors beside a (Ok path) first
        → TakesPath bytes old.descriptors beside' a' (Err answer) later
        → accesses ≡ first ++ later → new ≡ old → bytes' ≡ bytes
        → ByPaths does beside a beside' a' old new answer accesses

  -- read and, from an offset, pread64: at once, so many bytes at most, which are put at a one after
  -- another
  pub data ReadsFile (descriptor : ℕ) (from : Option ℕ) (a count : ℕ) (old new : Files F)
      (answer : ℕ) (accesses : List Access) : Type 0 where
    -- EBADF is 9, and EFAULT 14
    NotOpenToRead :
        IsClosed old.descriptors.targets descriptor
        → new ≡ old → bytes' ≡ bytes → accesses ≡ [] → answer ≡ error 9
        → ReadsFile descriptor from a count old new answer accesses
    ReadPassesEnd : (place : ℕ)
        → IsOpen old.descriptors.targets descriptor place → 2 ^ 32 < a + count
        → new ≡ old → bytes' ≡ bytes → accesses ≡ [] → answer ≡ error 14
        → ReadsFile descriptor from a count old new answer accesses
    ReadFailed : (place : ℕ) (folder : F)
        → IsOpen old.descriptors.targets descriptor place → a + count ≤ 2 ^ 32
        → did old.folder (Gave place from (min count most_of_file) (Err answer)) folder
        → new ≡ record old { folder = folder } → bytes' ≡ bytes → accesses ≡ []
        → ReadsFile descriptor from a count old new answer accesses
    -- those that find no room are the next still
    IsGiven : (place : ℕ) (mid folder : F) (text left : List ℕ)
        → IsOpen old.descriptors.targets descriptor place → a + count ≤ 2 ^ 32
        → did old.folder (Gave place from (min count most_of_file) (Ok text)) mid
        → GivesText writable bytes bytes' a (min count most_of_file) text left answer accesses
        → MovesBack did place from (length left) mid folder
        → new ≡ record old { folder = folder }
        → ReadsFile descriptor from a count old new answer accesses

  -- _llseek: the position is put at a, in 8 bytes
  pub data SeeksFile (descriptor offset from a : ℕ) (old new : Files F) (answer : ℕ)
      (accesses : List Access) : Type 0 where
    NotOpenToSeek :
        IsClosed old.descriptors.targets descriptor
        → new ≡ old → bytes' ≡ bytes → accesses ≡ [] → answer ≡ error 9
        → SeeksFile descriptor offset from a old new answer accesses
    -- EINVAL is 22
    IsFromNowhere : (place : ℕ)
        → IsOpen old.descriptors.targets descriptor place → 2 < from
        → new ≡ old → bytes' ≡ bytes → accesses ≡ [] → answer ≡ error 22
        → SeeksFile descriptor offset from a old new answer accesses
    SeekFailed : (place : ℕ) (folder : F)
        → IsOpen old.descriptors.targets descriptor place → from ≤ 2
        → did old.folder (Sought place from offset (Err answer)) folder
        → new ≡ record old { folder = folder } → bytes' ≡ bytes → accesses ≡ []
        → SeeksFile descriptor offset from a old new answer accesses
    IsMoved : (place position : ℕ) (folder : F)
        → IsOpen old.descriptors.targets descriptor place → from ≤ 2
        → did old.folder (Sought place from offset (Ok position)) folder
        → new ≡ record old { folder = folder }
        → PutsBytes writable bytes bytes' a (to_le_bytes w64 position) accesses answer
        → SeeksFile descriptor offset from a old new answer accesses

  -- getdents64: the next entries, all that have room, are put at a, and then the position is moved
  -- after them
  pub data ListsFile (descriptor a count : ℕ) (old new : Files F) (answer : ℕ)
      (accesses : List Access) : Type 0 where
    NotOpenToList :
        IsClosed old.descriptors.targets descriptor
        → new ≡ old → bytes' ≡ bytes → accesses ≡ [] → answer ≡ error 9
        → ListsFile descriptor a count old new answer accesses
    IsNotListed : (place : ℕ) (folder : F) (text : List ℕ)
        → IsOpen old.descriptors.targets descriptor place
        → ReadsDirectory did place count old.folder folder text (Err answer)
        → new ≡ record old { folder = folder } → bytes' ≡ bytes → accesses ≡ []
        → ListsFile descriptor a count old new answer accesses
    -- there are no more
    IsAtEnd : (place next : ℕ) (folder : F)
        → IsOpen old.descriptors.targets descriptor place
        → ReadsDirectory did place count old.folder folder [] (Ok next)
        → new ≡ record old { folder = folder } → bytes' ≡ bytes → accesses ≡ [] → answer ≡ 0
        → ListsFile descriptor a count old new answer accesses
    -- the next call gives them once more
    IsNotPut : (place next : ℕ) (folder : F) (text : List ℕ)
        → IsOpen old.descriptors.targets descriptor place
        → ReadsDirectory did place count old.folder folder text (Ok next)
        → new ≡ record old { folder = folder }
        → PutsBytes writable bytes bytes' a text accesses answer → answer ≢ 0
        → ListsFile descriptor a count old new answer accesses
    IsListed : (place next : ℕ) (mid folder : F) (text : List ℕ) (moved : Result ℕ ℕ)
        → IsOpen old.descriptors.targets descriptor place
        → ReadsDirectory did place count old.folder mid text (Ok next) → 0 < length text
        → PutsBytes writable bytes bytes' a text accesses 0
        → did mid (Sought place 0 next moved) folder
        → new ≡ record old { folder = folder } → answer ≡ listed_of moved (length text)
        → ListsFile descriptor a count old new answer accesses

  -- fstat64, in struct stat64, and statx of a descriptor
  pub data TellsFile (descriptor a : ℕ) (form : Form) (old new : Files F) (answer : ℕ) (accesses : List Access)
      : Type 0 where
    NotOpenToTell :
        IsClosed old.descriptors.targets descriptor
        → new ≡ old → bytes' ≡ bytes → accesses ≡ [] → answer ≡ error 9
        → TellsFile descriptor a form old new answer accesses
    TellFailed : (place : ℕ) (folder : F)
        → IsOpen old.descriptors.targets descriptor place
        → did old.folder (Told place (Err answer)) folder
        → new ≡ record old { folder = folder } → bytes' ≡ bytes → accesses ≡ []
        → TellsFile descriptor a form old new answer accesses
    IsTold : (place : ℕ) (folder : F) (status : Status)
        → IsOpen old.descriptors.targets descriptor place
        → did old.folder (Told place (Ok status)) folder
        → new ≡ record old { folder = folder }
        → PutsBytes writable bytes bytes' a (told_bytes form status) accesses answer
        → TellsFile descriptor a form old new answer accesses

  -- fstatat64 and statx of an empty path, where it may be (AT_EMPTY_PATH): the status of what the
  -- descriptor has, a file or a standard stream, or of the working directory (AT_FDCWD, -100),
  -- which is the folder
  pub data TellsBeside (beside a : ℕ) (form : Form) (old new : Files F) (answer : ℕ)
      (accesses : List Access) : Type 0 where
    IsOfFile :
        stream_at old.descriptors.targets beside ≡ None → beside ≢ error 100
        → TellsFile beside a form old new answer accesses
        → TellsBeside beside a form old new answer accesses
    IsOfOpenStream : (stream : ℕ)
        → stream_at old.descriptors.targets beside ≡ Some stream → new ≡ old
        → PutsBytes writable bytes bytes' a (stream_bytes form) accesses answer
        → TellsBeside beside a form old new answer accesses
    IsOfNoFolder : (folder : F)
        → beside ≡ error 100 → did old.folder (Looked [] (Err answer)) folder
        → new ≡ record old { folder = folder } → bytes' ≡ bytes → accesses ≡ []
        → TellsBeside beside a form old new answer accesses
    IsOfFolder : (folder : F) (status : Status)
        → beside ≡ error 100 → did old.folder (Looked [] (Ok status)) folder
        → new ≡ record old { folder = folder }
        → PutsBytes writable bytes bytes' a (told_bytes form status) accesses answer
        → TellsBeside beside a form old new answer accesses

  -- fstatat64 and statx: of a path, or of what it is beside
  pub data TellsNamed (beside path flags a : ℕ) (form : Form) (old new : Files F) (answer : ℕ)
      (accesses : List Access) : Type 0 where
    IsOfDescriptor : (e : ℕ) (first later : List Access)
        → TakesPath bytes old.descriptors beside path (Err e) first
        → is_of_descriptor e flags ≡ true
        → TellsBeside beside a form old new answer later → accesses ≡ first ++ later
        → TellsNamed beside path flags a form old new answer accesses
    IsForbiddenPath :
        TakesPath bytes old.descriptors beside path (Err answer) accesses
        → is_of_descriptor answer flags ≡ false
        → new ≡ old → bytes' ≡ bytes → TellsNamed beside path flags a form old new answer accesses
    HasNoStatus : (text : List ℕ) (named : Named) (folder : F)
        → TakesPath bytes old.descriptors beside path (Ok text) accesses
        → Walks did text old.folder folder named → naming named flags ≡ Err answer
        → new ≡ record old { folder = folder } → bytes' ≡ bytes
        → TellsNamed beside path flags a form old new answer accesses
    IsToldByName : (text : List ℕ) (named : Named) (folder : F) (status : Status)
        (first later : List Access)
        → TakesPath bytes old.descriptors beside path (Ok text) first
        → Walks did text old.folder folder named → naming named flags ≡ Ok status
        → new ≡ record old { folder = folder }
        → PutsBytes writable bytes bytes' a (told_bytes form status) later answer
        → accesses ≡ first ++ later
        → TellsNamed beside path flags a form old new answer accesses

  -- readlinkat: the text of a link, which is the last part of the path, as many bytes as are wanted
  pub data ReadsLink (beside path a size : ℕ) (old new : Files F) (answer : ℕ)
      (accesses : List Access) : Type 0 where
    -- as a number with a sign it is not above 0 (EINVAL is 22)
    HasNoSize :
        (size ≡ 0) ⊎ (2 ^ 31 ≤ size) → new ≡ old → bytes' ≡ bytes → accesses ≡ []
        → answer ≡ error 22 → ReadsLink beside path a size old new answer accesses
    IsForbiddenLink :
        TakesPath bytes old.descriptors beside path (Err answer) accesses
        → new ≡ old → bytes' ≡ bytes → ReadsLink beside path a size old new answer accesses
    IsNoLink : (text : List ℕ) (folder : F)
        → TakesPath bytes old.descriptors beside path (Ok text) accesses
        → FindsLink did text old.folder folder (Err answer)
        → new ≡ record old { folder = folder } → bytes' ≡ bytes
        → ReadsLink beside path a size old new answer accesses
    IsLink : (text target : List ℕ) (folder : F) (first later : List Access) (put : ℕ)
        → TakesPath bytes old.descriptors beside path (Ok text) first
        → FindsLink did text old.folder folder (Ok target)
        → new ≡ record old { folder = folder }
        → PutsBytes writable bytes bytes' a (take size target) later put
        → accesses ≡ first ++ later → answer ≡ link_answer put (min size (length target))
        → ReadsLink beside path a size old new answer accesses

  -- utimensat: the times at a are read, and then the path
  pub data SetsTimes (beside path a : ℕ) (old new : Files F) (answer : ℕ) (accesses : List Access)
      : Type 0 where
    HasNoTimes :
        TakesTimes bytes a (Err answer) accesses → new ≡ old → bytes' ≡ bytes
        → SetsTimes beside path a old new answer accesses
    HasTimes : (change : NameChange) (first later : List Access)
        → TakesTimes bytes a (Ok change) first
        → ByPath (λ text. ChangesName did text change) beside path old new answer later
        → accesses ≡ first ++ later → SetsTimes beside path a old new answer accesses

  -- what is asked for takes the files from the first to the second
  abbrev pub DoesFile : FileRequest → Files F → Files F → ℕ → List Access → Type 0
  DoesFile (FileRequest.Open beside path flags mode) old new answer accesses =
      ByPath (λ text. Opens did text flags mode) beside path old new answer accesses
  DoesFile (FileRequest.Close descriptor) old new answer accesses =
      Closes did descriptor old new answer × (bytes' ≡ bytes) × (accesses ≡ [])
  DoesFile (FileRequest.Copy descriptor) old new answer accesses =
      Copies did descriptor 0 old new answer × (bytes' ≡ bytes) × (accesses ≡ [])
  DoesFile (FileRequest.CopyTo descriptor to flags) old new answer accesses =
      CopiesTo did descriptor to flags old new answer × (bytes' ≡ bytes) × (accesses ≡ [])
  DoesFile (FileRequest.Seek descriptor offset from a) old new answer accesses =
      SeeksFile descriptor offset from a old new answer accesses
  DoesFile (FileRequest.List descriptor a count) old new answer accesses =
      ListsFile descriptor a count old new answer accesses
  DoesFile (FileRequest.Read descriptor a count) old new answer accesses =
      ReadsFile descriptor None a count old new answer accesses
  DoesFile (FileRequest.ReadAt descriptor offset a count) old new answer accesses =
      ReadsFile descriptor (Some offset) a count old new answer accesses
  DoesFile (FileRequest.Write descriptor a count) old new answer accesses =
      WritesFile did bytes descriptor None a count old new answer accesses × (bytes' ≡ bytes)
  DoesFile (FileRequest.WriteAt descriptor offset a count) old new answer accesses =
      WritesFile did bytes descriptor (Some offset) a count old new answer accesses
      × (bytes' ≡ bytes)
  DoesFile (FileRequest.WritePieces descriptor a count) old new answer accesses =
      WritesFilePieces did bytes descriptor a count old new answer accesses × (bytes' ≡ bytes)
  DoesFile (FileRequest.Status descriptor a) old new answer accesses =
      TellsFile descriptor a Form.Stat64 old new answer accesses
  DoesFile (FileRequest.NamedStatus beside path flags a) old new answer accesses =
      TellsNamed beside path flags a Form.Stat64 old new answer accesses
  DoesFile (FileRequest.ExtendedStatus beside path flags a) old new answer accesses =
      TellsNamed beside path flags a Form.Statx old new answer accesses
  DoesFile (FileRequest.Link beside path a size) old new answer accesses =
      ReadsLink beside path a size old new answer accesses
  DoesFile (FileRequest.ChangeFile descriptor change) old new answer accesses =
      Changes did descriptor change old new answer × (bytes' ≡ bytes) × (accesses ≡ [])
  DoesFile (FileRequest.Own descriptor owner group) old new answer accesses =
      Owns did descriptor owner group old new answer × (bytes' ≡ bytes) × (accesses ≡ [])
  DoesFile (FileRequest.ChangeName beside path change) old new answer accesses =
      ByPath (λ text. ChangesName did text change) beside path old new answer accesses
  DoesFile (FileRequest.Rename beside path beside' path') old new answer accesses =
      ByPaths (Renames did) beside path beside' path' old new answer accesses
  DoesFile (FileRequest.Test beside path asked) old new answer accesses =
      ByPath (λ text. Tests did text asked) beside path old new answer accesses
  DoesFile (FileRequest.Control descriptor command argument) old new answer accesses =
      Controls did descriptor command argument old new answer × (bytes' ≡ bytes)
      × (accesses ≡ [])
  DoesFile (FileRequest.ControlDevice descriptor) old new answer accesses =
      ControlsDevice did descriptor old new answer × (bytes' ≡ bytes) × (accesses ≡ [])
  DoesFile (FileRequest.SetTimes beside path a) old new answer accesses =
      SetsTimes beside path a old new answer accesses
  DoesFile (FileRequest.Folder a size) old new answer accesses =
      TellsFolder writable bytes bytes' a size answer accesses × (new ≡ old)
  DoesFile (FileRequest.Refused said) old new answer accesses =
      (new ≡ old) × (bytes' ≡ bytes) × (accesses ≡ []) × (answer ≡ said)

-- the standard stream that a call reads, writes or asks, if it is one on a stream
abbrev pub stream_asked : FileRequest → Descriptors → Option ℕ
stream_asked request descriptors = stream_of descriptors.targets (descriptor_in request)

-- What a call does: it is one for the files, which the machine goes on after, with the answer in
-- a0, and of which each call of the host changes nothing where files may only be read; or it is one
-- on a standard stream, which the other environment serves as one on the stream's own descriptor; or
-- it is another, for that environment. Then the files stay.
pub data ServesFiles {P F : Type 0} (serves : Relation P) (did : Did F) (old : WithFiles P F)
    (s : State) (new : WithFiles P F) (t : State) (accesses : List Access) (end : Option ℕ)
    : Type 0 where
  IsFile : (request : FileRequest) (bytes : ByteMap) (answer : ℕ)
      → AsksFile s (Some request) → stream_asked request old.files.descriptors ≡ None
      → DoesFile (Allowed did old.files.is_read_only) s.writable s.bytes bytes request
      old.files new.files answer accesses
      → new.files.is_read_only ≡ old.files.is_read_only
      → t ≡ answered (record s { bytes = bytes }) answer → end ≡ None
      → new.process.now ≡ old.process.now
      → ServesFiles serves did old s new t accesses end
  IsOnStream : (request : FileRequest) (stream : ℕ)
      → AsksFile s (Some request) → stream_asked request old.files.descriptors ≡ Some stream
      → serves old.process.now (answered s stream) new.process.now t accesses end
      → new.files ≡ old.files
      → ServesFiles serves did old s new t accesses end
  IsOther :
      AsksFile s None
      → serves old.process.now s new.process.now t accesses end → new.files ≡ old.files
      → ServesFiles serves did old s new t accesses end
