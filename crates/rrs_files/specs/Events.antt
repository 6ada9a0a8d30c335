-- The calls of the host, each with its outcome. A path is relative to the folder; a number is that
-- of an open file; an error is the word that answers it.
use Rattle.std.specs.Prelude.{◌≡◌, ℕ, Bool, true, false, List, Option, Result}
use Rattle.rrs_files.specs.declared.folder.Status.{Status}
use Rattle.rrs_files.specs.declared.folder.Change.{Change}
use Rattle.rrs_files.specs.declared.folder.Entry.{Entry}
use Rattle.rrs_files.specs.declared.folder.How.{How}
use Rattle.rrs_files.specs.declared.folder.NameChange.{NameChange}

pub data Event : Type 0 where
  -- lstat(2)
  Looked : (path : List ℕ) → Result Status ℕ → Event
  -- readlink(2)
  LinkTold : (path : List ℕ) → Result (List ℕ) ℕ → Event
  -- open(2), close(2), and read(2) of so many bytes at most, or, from an offset, pread(2)
  Opened : (at : ℕ) → (path : List ℕ) → How → Option ℕ → Event
  Closed : (at : ℕ) → Event
  Gave : (at : ℕ) → (from : Option ℕ) → (most : ℕ) → Result (List ℕ) ℕ → Event
  -- write(2), or pwrite(2): how many of the bytes were written
  Took : (at : ℕ) → (from : Option ℕ) → List ℕ → Result ℕ ℕ → Event
  -- lseek(2): from the beginning (0), the position (1) or the end (2), and to which position
  Sought : (at from offset : ℕ) → Result ℕ ℕ → Event
  -- readdir(3) of a directory: the entry at a position and its name, or none, the positions from 0
  -- on. At 0 the directory is read anew. The names "." and ".." come first, and the others in their
  -- order; one that is not UTF-8 is left out
  Listed : (at position : ℕ) → (name : List ℕ) → Result (Option Entry) ℕ → Event
  -- fstat(2)
  Told : (at : ℕ) → Result Status ℕ → Event
  -- ftruncate(2), fsync(2), fdatasync(2), fchmod(2)
  Changed : (at : ℕ) → Change → Option ℕ → Event
  -- unlink(2), rmdir(2), mkdir(2), utimensat(2), and rename(2) from one path to the other
  NameChanged : (path : List ℕ) → NameChange → Option ℕ → Event
  Renamed : (from to : List ℕ) → Option ℕ → Event

-- A file is opened to be read alone (open(2): O_RDONLY, and neither O_APPEND, O_CREAT nor O_TRUNC).
pub record IsReadAlone (how : How) : Type 0 where
  pub no_write : how.writes ≡ false
  pub no_append : how.appends ≡ false
  pub no_create : how.creates ≡ false
  pub no_truncate : how.truncates ≡ false

-- A call of the host that can change nothing of a file or of a name, and of a status no more than
-- when it was read last (st_atim): no write(2) and pwrite(2), no ftruncate(2) and fchmod(2), no
-- unlink(2), rmdir(2), mkdir(2), utimensat(2) and rename(2), and no open(2) but to read alone.
abbrev pub ChangesNothing : Event → Type 0
ChangesNothing (Looked path seen) = Unit {0}
ChangesNothing (LinkTold path target) = Unit {0}
ChangesNothing (Opened at path how failed) = IsReadAlone how
ChangesNothing (Closed at) = Unit {0}
ChangesNothing (Gave at from most given) = Unit {0}
ChangesNothing (Took at from bytes taken) = ⊥
ChangesNothing (Sought at from offset position) = Unit {0}
ChangesNothing (Listed at position name entry) = Unit {0}
ChangesNothing (Told at status) = Unit {0}
ChangesNothing (Changed at (Change.Length length) failed) = ⊥
ChangesNothing (Changed at Change.Flush failed) = Unit {0}
ChangesNothing (Changed at Change.FlushBytes failed) = Unit {0}
ChangesNothing (Changed at (Change.Mode mode) failed) = ⊥
ChangesNothing (NameChanged path change failed) = ⊥
ChangesNothing (Renamed from to failed) = ⊥

-- what a folder says of a call: itself before, the call, and itself after
abbrev pub Did : Type 0 → Type 1
Did F = F → Event → F → Type 0

-- what a folder says of a call, which changes nothing where files may only be read
abbrev pub Allowed : {F : Type 0} → Did F → (is_read_only : Bool) → Did F
Allowed did is_read_only before event after =
    did before event after × (is_read_only ≡ true → ChangesNothing event)
