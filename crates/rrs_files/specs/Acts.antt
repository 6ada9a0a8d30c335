-- What the calls that put nothing into memory do to the files of a program, where the path is read
-- and allowed: which calls of the host are made, in order, and with which path. No other is made.
use Rattle.std.specs.Prelude.{◌≡◌, ◌≢◌, ◌⊎◌, ℕ, ◌*◌, ◌<◌, ◌≤◌, ◌==◌, ◌&&◌, ◌||◌, not, bit_and, if◌then◌else◌, List, Bool, true, false, set, slice_index_or, Option, Some, None, unwrap_or, Ok, Err}
use Rattle.rrs_linux.specs.Requests.{error}
use Rattle.rrs_files.specs.declared.files.Files.{Files}
use Rattle.rrs_files.specs.declared.folder.Status.{Status}
use Rattle.rrs_files.specs.declared.folder.Change.{Change}
use Rattle.rrs_files.specs.declared.folder.How.{How}
use Rattle.rrs_files.specs.declared.folder.NameChange.{NameChange}
use Rattle.rrs_files.specs.declared.paths.Named.{Named}
use Rattle.rrs_files.specs.declared.paths.Named.TheVariants.{There, Missing, Stopped}
use Rattle.rrs_files.specs.declared.descriptors.Target.{Target}
use Rattle.rrs_files.specs.declared.descriptors.Target.TheVariants.{File, Stream}
use Rattle.rrs_files.specs.Descriptors.{AreUsed, HasTarget, IsOpen, IsClosed, IsFree, IsFirstFree, IsFull, IsUnused, IsUsed, kept_flags}
use Rattle.rrs_files.specs.Events.{Did, Opened, Closed, Told, Changed, NameChanged, Renamed}
use Rattle.rrs_files.specs.Paths.{Walks, kind}
use Rattle.rrs_files.specs.Requests.{how_of, not_served, changes}

-- why what a path names isn't opened, if it isn't
abbrev pub opening : Named → How → Option ℕ
opening (Stopped e) how = Some e
-- ENOENT is 2
opening Missing how = if how.creates then None else Some (error 2)
opening (There status) how =
    -- EEXIST is 17
    if how.creates && how.is_new then Some (error 17)
    -- a link: ELOOP is 40
    else (if kind status == 0xa000 then Some (error 40)
    -- a directory, which is opened to be read alone: EISDIR is 21
    else (if kind status == 0x4000 then (if changes how then Some (error 21) else None)
    -- no directory, where one is wanted: ENOTDIR is 20
    else (if how.is_directory then Some (error 20)
    -- a file; or a device, a pipe, a socket: EACCES is 13
    else (if kind status == 0x8000 then None else Some (error 13)))))

-- why the times of what has this status aren't set, if they aren't: it is neither a file nor a
-- directory, but a link (ELOOP is 40), or another (EACCES is 13)
abbrev pub timing : Status → Option ℕ
timing status =
    if kind status == 0x8000 then None
    else (if kind status == 0x4000 then None
    else (if kind status == 0xa000 then Some (error 40) else Some (error 13)))

-- why a name isn't changed, if it isn't; a link is removed
abbrev pub keeping : Named → NameChange → Option ℕ
keeping (Stopped e) change = Some e
-- ENOENT is 2
keeping Missing (NameChange.MakeDirectory mode) = None
keeping Missing change = Some (error 2)
-- EEXIST is 17, EISDIR 21, and ENOTDIR 20
keeping (There status) (NameChange.MakeDirectory mode) = Some (error 17)
keeping (There status) NameChange.Remove =
    if kind status == 0x4000 then Some (error 21) else None
keeping (There status) NameChange.RemoveDirectory =
    if kind status == 0x4000 then None else Some (error 20)
keeping (There status) (NameChange.SetTimes accessed modified) = timing status

-- why what a path names isn't renamed, if it isn't: there is none, or it is a link (ELOOP is 40)
abbrev pub moving : Named → Option ℕ
moving (Stopped e) = Some e
moving Missing = Some (error 2)
moving (There status) = if kind status == 0xa000 then Some (error 40) else None

-- why no name is put in its place, if none is
abbrev pub replacing : Named → Option ℕ
replacing (Stopped e) = Some e
replacing Missing = None
replacing (There status) = if kind status == 0xa000 then Some (error 40) else None

-- why what a path names may not be read (4), written (2) or executed (1), if it may not: by what
-- its owner may (EROFS is 30, and EACCES 13)
abbrev pub denying : Named → (asked : ℕ) → (is_read_only : Bool) → Option ℕ
denying (Stopped e) asked only = Some e
denying Missing asked only = Some (error 2)
denying (There status) asked only =
    if kind status == 0xa000 then Some (error 40)
    else (if only && not (bit_and asked 2 == 0) then Some (error 30)
    else (if bit_and status.mode (bit_and asked 7 * 64) == bit_and asked 7 * 64 then None
    else Some (error 13)))

-- why a file is not changed where files may only be read, if it isn't: it has no other mode (EROFS
-- is 30), and it is not open to be written, as a change of its length wants (EINVAL is 22)
abbrev pub withholding : (is_read_only : Bool) → Change → Option ℕ
withholding only (Change.Mode mode) = if only then Some (error 30) else None
withholding only (Change.Length length) = if only then Some (error 22) else None
withholding only Change.Flush = None
withholding only Change.FlushBytes = None

-- The answer to a command of fcntl64 on a descriptor with these flags. It is 0 to F_GETFD (1) and
-- F_SETFD (2), since no program is started for which a descriptor would be closed; the flags to
-- F_GETFL (3); and 0 to F_SETFL (4) where O_APPEND (0x400) stays, since no other flag changes
-- anything. There are no others (EINVAL is 22).
abbrev pub control_answer : (flags command argument : ℕ) → ℕ
control_answer flags command argument =
    if (command == 1) || (command == 2) then 0
    else (if command == 3 then flags
    else (if (command == 4) && (bit_and argument 0x400 == bit_and flags 0x400) then 0
    else error 22))

-- F_DUPFD is 0, and F_DUPFD_CLOEXEC 1030
abbrev pub copies : (command : ℕ) → Bool
copies command = (command == 0) || (command == 1030)

-- an owner or a group stays the one it is: it is that, or -1
abbrev pub keeps : (wanted present : ℕ) → Bool
keeps wanted present = (wanted == 0xffffffff) || (wanted == present)

-- whether what has this status gets an owner and a group: where it has them (EPERM is 1)
abbrev pub owning : Status → (owner group : ℕ) → ℕ
owning status owner group =
    if keeps owner status.owner && keeps group status.group then 0 else error 1

-- By what a folder says of a call:
module _ {F : Type 0} (did : Did F) where
  -- openat of a path: it is walked, and where it names what may be opened, that is, at the first
  -- place that is free
  pub data Opens (path : List ℕ) (flags mode : ℕ) (old new : Files F) (answer : ℕ) : Type 0 where
    -- EINVAL is 22, EROFS 30, and EMFILE 24
    IsUnserved :
        not_served flags ≡ true → new ≡ old → answer ≡ error 22
        → Opens path flags mode old new answer
    IsReadOnly :
        not_served flags ≡ false → (old.is_read_only && changes (how_of flags mode)) ≡ true
        → new ≡ old → answer ≡ error 30 → Opens path flags mode old new answer
    HasNoPlace :
        not_served flags ≡ false → (old.is_read_only && changes (how_of flags mode)) ≡ false
        → IsFull old.descriptors.targets 0 ⊎ AreUsed old.descriptors.targets
        → new ≡ old → answer ≡ error 24 → Opens path flags mode old new answer
    IsRefused : (named : Named) (folder : F)
        → not_served flags ≡ false → (old.is_read_only && changes (how_of flags mode)) ≡ false
        → Walks did path old.folder folder named → opening named (how_of flags mode) ≡ Some answer
        → new ≡ record old { folder = folder } → Opens path flags mode old new answer
    HasFailed : (named : Named) (place at : ℕ) (mid folder : F)
        → not_served flags ≡ false → (old.is_read_only && changes (how_of flags mode)) ≡ false
        → IsFirstFree old.descriptors.targets 0 place → IsUnused old.descriptors.targets at
        → Walks did path old.folder mid named → opening named (how_of flags mode) ≡ None
        → did mid (Opened at path (how_of flags mode) (Some answer)) folder
        → new ≡ record old { folder = folder } → Opens path flags mode old new answer
    IsOpened : (named : Named) (place at : ℕ) (mid folder : F)
        → not_served flags ≡ false → (old.is_read_only && changes (how_of flags mode)) ≡ false
        → IsFirstFree old.descriptors.targets 0 place → IsUnused old.descriptors.targets at
        → Walks did path old.folder mid named → opening named (how_of flags mode) ≡ None
        → did mid (Opened at path (how_of flags mode) None) folder
        → new ≡ record old {
          folder = folder;
          descriptors = record {
            targets = set old.descriptors.targets place (Some (File at));
            flags = set old.descriptors.flags place (kept_flags flags);
          };
        }
        → answer ≡ place → Opens path flags mode old new answer

  -- the file of a number is closed, unless a descriptor has it
  pub data Leaves (at : ℕ) (old new : Files F) : Type 0 where
    IsLeft : (folder : F)
        → (IsUsed old.descriptors.targets (File at) → ⊥) → did old.folder (Closed at) folder
        → new ≡ record old { folder = folder } → Leaves at old new
    IsStillUsed : IsUsed old.descriptors.targets (File at) → new ≡ old → Leaves at old new

  -- close: the file of the descriptor, and no other
  pub data Closes (descriptor : ℕ) (old new : Files F) (answer : ℕ) : Type 0 where
    IsClosedNow : (at : ℕ) (mid : Files F)
        → IsOpen old.descriptors.targets descriptor at
        → mid ≡ record old {
          descriptors = record old.descriptors {
            targets = set old.descriptors.targets descriptor None;
          };
        }
        → Leaves at mid new → answer ≡ 0 → Closes descriptor old new answer
    -- a standard stream stays where it is
    WasStream : (stream : ℕ)
        → HasTarget old.descriptors.targets descriptor (Stream stream)
        → new ≡ record old {
          descriptors = record old.descriptors {
            targets = set old.descriptors.targets descriptor None;
          };
        }
        → answer ≡ 0 → Closes descriptor old new answer
    -- EBADF is 9
    WasClosed :
        IsFree old.descriptors.targets descriptor → new ≡ old → answer ≡ error 9
        → Closes descriptor old new answer

  -- dup, and F_DUPFD of fcntl64: the first descriptor from a least one on that is free has the same
  -- file, which is opened no second time, so that both share its position, or the same stream. No
  -- call of the host is made
  pub data Copies (descriptor least : ℕ) (old new : Files F) (answer : ℕ) : Type 0 where
    IsCopied : (target : Target) (place : ℕ)
        → HasTarget old.descriptors.targets descriptor target
        → IsFirstFree old.descriptors.targets least place
        → new ≡ record old {
          descriptors = record {
            targets = set old.descriptors.targets place (Some target);
            flags = set old.descriptors.flags place
                (kept_flags (slice_index_or old.descriptors.flags descriptor 0));
          };
        }
        → answer ≡ place → Copies descriptor least old new answer
    -- EMFILE is 24
    HasNoPlaceToCopy : (target : Target)
        → HasTarget old.descriptors.targets descriptor target
        → least < 67 → IsFull old.descriptors.targets least
        → new ≡ old → answer ≡ error 24 → Copies descriptor least old new answer
    -- EINVAL is 22
    HasNoLeast : (target : Target)
        → HasTarget old.descriptors.targets descriptor target → 67 ≤ least
        → new ≡ old → answer ≡ error 22 → Copies descriptor least old new answer
    NotOpenToCopy :
        IsFree old.descriptors.targets descriptor → new ≡ old → answer ≡ error 9
        → Copies descriptor least old new answer

  -- dup3: this descriptor has the same, after it was closed, if it was open. The flags may have
  -- O_CLOEXEC (0x80000)
  pub data CopiesTo (descriptor to flags : ℕ) (old new : Files F) (answer : ℕ) : Type 0 where
    HasBadFlags :
        (descriptor ≡ to) ⊎ (bit_and flags 0xfff7ffff ≢ 0) → new ≡ old → answer ≡ error 22
        → CopiesTo descriptor to flags old new answer
    IsNoDescriptor :
        67 ≤ to → new ≡ old → answer ≡ error 9 → CopiesTo descriptor to flags old new answer
    NotOpenToCopyTo :
        IsFree old.descriptors.targets descriptor → new ≡ old → answer ≡ error 9
        → CopiesTo descriptor to flags old new answer
    IsCopiedTo : (target : Target) (closed : ℕ) (mid : Files F)
        → descriptor ≢ to → bit_and flags 0xfff7ffff ≡ 0 → to < 67
        → HasTarget old.descriptors.targets descriptor target → Closes to old mid closed
        → new ≡ record mid {
          descriptors = record {
            targets = set mid.descriptors.targets to (Some target);
            flags = set mid.descriptors.flags to
                (kept_flags (slice_index_or old.descriptors.flags descriptor 0));
          };
        }
        → answer ≡ to → CopiesTo descriptor to flags old new answer

  -- ftruncate64, fsync, fdatasync and fchmod: the file of the descriptor, and no other
  pub data Changes (descriptor : ℕ) (change : Change) (old new : Files F) (answer : ℕ) : Type 0 where
    NotOpenToChange :
        IsClosed old.descriptors.targets descriptor → new ≡ old → answer ≡ error 9
        → Changes descriptor change old new answer
    MayNotChange : (place : ℕ)
        → IsOpen old.descriptors.targets descriptor place
        → withholding old.is_read_only change ≡ Some answer
        → new ≡ old → Changes descriptor change old new answer
    IsChanged : (place : ℕ) (folder : F) (failed : Option ℕ)
        → IsOpen old.descriptors.targets descriptor place
        → withholding old.is_read_only change ≡ None
        → did old.folder (Changed place change failed) folder
        → new ≡ record old { folder = folder } → answer ≡ unwrap_or failed 0
        → Changes descriptor change old new answer

  -- fchown: no owner is changed, but the file of the descriptor may have this one
  pub data Owns (descriptor owner group : ℕ) (old new : Files F) (answer : ℕ) : Type 0 where
    NotOpenToOwn :
        IsClosed old.descriptors.targets descriptor → new ≡ old → answer ≡ error 9
        → Owns descriptor owner group old new answer
    HasNoOwner : (place : ℕ) (folder : F)
        → IsOpen old.descriptors.targets descriptor place
        → did old.folder (Told place (Err answer)) folder
        → new ≡ record old { folder = folder } → Owns descriptor owner group old new answer
    HasOwner : (place : ℕ) (folder : F) (status : Status)
        → IsOpen old.descriptors.targets descriptor place
        → did old.folder (Told place (Ok status)) folder
        → new ≡ record old { folder = folder } → answer ≡ owning status owner group
        → Owns descriptor owner group old new answer

  -- unlinkat, mkdirat and utimensat of a path
  pub data ChangesName (path : List ℕ) (change : NameChange) (old new : Files F) (answer : ℕ)
      : Type 0 where
    MayNot :
        old.is_read_only ≡ true → new ≡ old → answer ≡ error 30
        → ChangesName path change old new answer
    IsKept : (named : Named) (folder : F)
        → old.is_read_only ≡ false
        → Walks did path old.folder folder named → keeping named change ≡ Some answer
        → new ≡ record old { folder = folder } → ChangesName path change old new answer
    HasChanged : (named : Named) (mid folder : F) (failed : Option ℕ)
        → old.is_read_only ≡ false
        → Walks did path old.folder mid named → keeping named change ≡ None
        → did mid (NameChanged path change failed) folder
        → new ≡ record old { folder = folder } → answer ≡ unwrap_or failed 0
        → ChangesName path change old new answer

  -- renameat2 of two paths
  pub data Renames (from to : List ℕ) (old new : Files F) (answer : ℕ) : Type 0 where
    MayNotRename :
        old.is_read_only ≡ true → new ≡ old → answer ≡ error 30 → Renames from to old new answer
    IsNotMoved : (named : Named) (folder : F)
        → old.is_read_only ≡ false
        → Walks did from old.folder folder named → moving named ≡ Some answer
        → new ≡ record old { folder = folder } → Renames from to old new answer
    IsNotReplaced : (named there : Named) (mid folder : F)
        → old.is_read_only ≡ false
        → Walks did from old.folder mid named → moving named ≡ None
        → Walks did to mid folder there → replacing there ≡ Some answer
        → new ≡ record old { folder = folder } → Renames from to old new answer
    IsRenamed : (named there : Named) (mid seen folder : F) (failed : Option ℕ)
        → old.is_read_only ≡ false
        → Walks did from old.folder mid named → moving named ≡ None
        → Walks did to mid seen there → replacing there ≡ None
        → did seen (Renamed from to failed) folder
        → new ≡ record old { folder = folder } → answer ≡ unwrap_or failed 0
        → Renames from to old new answer

  -- faccessat of a path: it is walked, and nothing else is done
  pub data Tests (path : List ℕ) (asked : ℕ) (old new : Files F) (answer : ℕ) : Type 0 where
    IsTested : (named : Named) (folder : F)
        → Walks did path old.folder folder named → new ≡ record old { folder = folder }
        → answer ≡ unwrap_or (denying named asked old.is_read_only) 0
        → Tests path asked old new answer

  -- fcntl64 on a descriptor
  pub data Controls (descriptor command argument : ℕ) (old new : Files F) (answer : ℕ)
      : Type 0 where
    IsCopying :
        copies command ≡ true → Copies descriptor argument old new answer
        → Controls descriptor command argument old new answer
    NotOpenToControl :
        IsFree old.descriptors.targets descriptor → new ≡ old → answer ≡ error 9
        → Controls descriptor command argument old new answer
    IsControlled : (target : Target)
        → HasTarget old.descriptors.targets descriptor target → copies command ≡ false
        → new ≡ old
        → answer
        ≡ control_answer (slice_index_or old.descriptors.flags descriptor 0) command argument
        → Controls descriptor command argument old new answer

  -- ioctl on a file or a directory, which is no terminal (ENOTTY is 25)
  pub data ControlsDevice (descriptor : ℕ) (old new : Files F) (answer : ℕ) : Type 0 where
    NotOpenToControlDevice :
        IsClosed old.descriptors.targets descriptor → new ≡ old → answer ≡ error 9
        → ControlsDevice descriptor old new answer
    IsNoTerminal : (place : ℕ)
        → IsOpen old.descriptors.targets descriptor place → new ≡ old → answer ≡ error 25
        → ControlsDevice descriptor old new answer
