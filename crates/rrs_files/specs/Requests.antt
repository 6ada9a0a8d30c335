-- Which calls for files there are (the Linux system call convention of RISC-V with 32 bits, as
-- rrs_linux restates it; the numbers are those of asm-generic/unistd.h). A call that reads, writes or
-- asks a standard stream is for the other environment, as is each call that is not here.
use Rattle.std.specs.Prelude.{◌≡◌, ◌≢◌, ◌⊎◌, ℕ, ◌+◌, ◌*◌, ◌^◌, ◌<◌, ◌≤◌, ◌==◌, ◌&&◌, ◌||◌, not, bit_and, Bool, true, false, Option, Some, None}
use Rattle.rrs_lib.specs.Machine.{State, reg}
use Rattle.rrs_linux.specs.Requests.{are_flags, are_statx_flags, error}
use Rattle.rrs_files.specs.declared.folder.Change.TheVariants.{Length, Flush, FlushBytes, Mode}
use Rattle.rrs_files.specs.declared.folder.How.{How}
use Rattle.rrs_files.specs.declared.folder.NameChange.TheVariants.{Remove, RemoveDirectory, MakeDirectory}
use Rattle.rrs_files.specs.declared.requests.FileRequest.{FileRequest}
use Rattle.rrs_files.specs.declared.requests.FileRequest.TheVariants.{Open, Close, Copy, CopyTo, Seek, List, Read, ReadAt, Write, WriteAt, WritePieces, Status, NamedStatus, ExtendedStatus, Link, ChangeFile, Own, ChangeName, Rename, Test, Control, ControlDevice, SetTimes, Folder, Refused}

-- getdents64, read, write, fstat64, _llseek, ftruncate64, fsync, fdatasync, fchmod, fchown, pread64,
-- pwrite64, writev and ioctl, which read, write or ask the descriptor that is their first argument
abbrev pub TakesDescriptor : ℕ → Type 0
TakesDescriptor call =
    (call ≡ 61) ⊎ (call ≡ 63) ⊎ (call ≡ 64) ⊎ (call ≡ 80) ⊎ (call ≡ 62) ⊎ (call ≡ 46)
    ⊎ (call ≡ 82) ⊎ (call ≡ 83) ⊎ (call ≡ 52) ⊎ (call ≡ 55) ⊎ (call ≡ 67) ⊎ (call ≡ 68)
    ⊎ (call ≡ 66) ⊎ (call ≡ 29)

-- openat, unlinkat, mkdirat, faccessat, renameat2, utimensat_time64, readlinkat, fstatat64, statx
-- and getcwd, which name a file, and fcntl64, close, dup and dup3, of each descriptor
abbrev pub IsOfFiles : ℕ → Type 0
IsOfFiles call =
    (call ≡ 56) ⊎ (call ≡ 35) ⊎ (call ≡ 34) ⊎ (call ≡ 48) ⊎ (call ≡ 276) ⊎ (call ≡ 412)
    ⊎ (call ≡ 78) ⊎ (call ≡ 79) ⊎ (call ≡ 291) ⊎ (call ≡ 17) ⊎ (call ≡ 25) ⊎ (call ≡ 57)
    ⊎ (call ≡ 23) ⊎ (call ≡ 24)

-- what a call with this number and these arguments asks for
pub data AsksFileBy (call a0 a1 a2 a3 a4 : ℕ) (request : Option FileRequest) : Type 0 where
  -- openat(2): a path beside a descriptor, flags, and a mode
  ToOpen : call ≡ 56 → request ≡ Some (Open a0 a1 a2 a3) → AsksFileBy call a0 a1 a2 a3 a4 request
  -- unlinkat(2), with no flag or AT_REMOVEDIR (0x200)
  ToRemove :
      call ≡ 35 → a2 ≡ 0 → request ≡ Some (ChangeName a0 a1 Remove)
      → AsksFileBy call a0 a1 a2 a3 a4 request
  ToRemoveDirectory :
      call ≡ 35 → a2 ≡ 0x200 → request ≡ Some (ChangeName a0 a1 RemoveDirectory)
      → AsksFileBy call a0 a1 a2 a3 a4 request
  -- EINVAL is 22
  ToRemoveSo :
      call ≡ 35 → a2 ≢ 0 → a2 ≢ 0x200 → request ≡ Some (Refused (error 22))
      → AsksFileBy call a0 a1 a2 a3 a4 request
  -- mkdirat(2)
  ToMakeDirectory :
      call ≡ 34 → request ≡ Some (ChangeName a0 a1 (MakeDirectory (bit_and a2 0o1777)))
      → AsksFileBy call a0 a1 a2 a3 a4 request
  -- renameat2(2), with no flag
  ToRename :
      call ≡ 276 → a4 ≡ 0 → request ≡ Some (Rename a0 a1 a2 a3)
      → AsksFileBy call a0 a1 a2 a3 a4 request
  ToRenameSo :
      call ≡ 276 → a4 ≢ 0 → request ≡ Some (Refused (error 22))
      → AsksFileBy call a0 a1 a2 a3 a4 request
  -- faccessat(2): R_OK is 4, W_OK 2 and X_OK 1
  ToTest :
      call ≡ 48 → a2 ≤ 7 → request ≡ Some (Test a0 a1 a2) → AsksFileBy call a0 a1 a2 a3 a4 request
  ToTestSo :
      call ≡ 48 → 7 < a2 → request ≡ Some (Refused (error 22))
      → AsksFileBy call a0 a1 a2 a3 a4 request
  -- readlinkat (readlink(2)): where the text is put, and how many bytes of it
  ToReadLink :
      call ≡ 78 → request ≡ Some (Link a0 a1 a2 a3) → AsksFileBy call a0 a1 a2 a3 a4 request
  -- getcwd(2)
  ToTellFolder :
      call ≡ 17 → request ≡ Some (Folder a0 a1) → AsksFileBy call a0 a1 a2 a3 a4 request
  -- ftruncate(2): the low and the high half of the length
  ToSetLength :
      call ≡ 46 → request ≡ Some (ChangeFile a0 (Length (a2 * 2 ^ 32 + a1)))
      → AsksFileBy call a0 a1 a2 a3 a4 request
  ToFlush :
      call ≡ 82 → request ≡ Some (ChangeFile a0 Flush)
      → AsksFileBy call a0 a1 a2 a3 a4 request
  ToFlushBytes :
      call ≡ 83 → request ≡ Some (ChangeFile a0 FlushBytes)
      → AsksFileBy call a0 a1 a2 a3 a4 request
  -- fchmod(2)
  ToSetMode :
      call ≡ 52 → request ≡ Some (ChangeFile a0 (Mode (bit_and a1 0o7777)))
      → AsksFileBy call a0 a1 a2 a3 a4 request
  -- fchown(2)
  ToOwn :
      call ≡ 55 → request ≡ Some (Own a0 a1 a2) → AsksFileBy call a0 a1 a2 a3 a4 request
  -- fcntl(2)
  ToControl :
      call ≡ 25 → request ≡ Some (Control a0 a1 a2) → AsksFileBy call a0 a1 a2 a3 a4 request
  -- utimensat(2): times, and no flag
  ToSetTimes :
      call ≡ 412 → a2 ≢ 0 → a3 ≡ 0 → request ≡ Some (SetTimes a0 a1 a2)
      → AsksFileBy call a0 a1 a2 a3 a4 request
  ToSetTimesSo :
      call ≡ 412 → (a2 ≡ 0) ⊎ (a3 ≢ 0) → request ≡ Some (Refused (error 22))
      → AsksFileBy call a0 a1 a2 a3 a4 request
  -- fstatat64 (fstatat(2)): the status is put at a2, and the flags are a3
  ToGetNamed :
      call ≡ 79 → are_flags a3 ≡ true → request ≡ Some (NamedStatus a0 a1 a3 a2)
      → AsksFileBy call a0 a1 a2 a3 a4 request
  ToGetNamedSo :
      call ≡ 79 → are_flags a3 ≡ false → request ≡ Some (Refused (error 22))
      → AsksFileBy call a0 a1 a2 a3 a4 request
  -- dup(2), and dup3
  ToCopy : call ≡ 23 → request ≡ Some (Copy a0) → AsksFileBy call a0 a1 a2 a3 a4 request
  ToCopyTo :
      call ≡ 24 → request ≡ Some (CopyTo a0 a1 a2)
      → AsksFileBy call a0 a1 a2 a3 a4 request
  ToClose : call ≡ 57 → request ≡ Some (Close a0) → AsksFileBy call a0 a1 a2 a3 a4 request
  -- getdents64 (getdents(2))
  ToList : call ≡ 61 → request ≡ Some (List a0 a1 a2) → AsksFileBy call a0 a1 a2 a3 a4 request
  ToRead : call ≡ 63 → request ≡ Some (Read a0 a1 a2) → AsksFileBy call a0 a1 a2 a3 a4 request
  ToWrite : call ≡ 64 → request ≡ Some (Write a0 a1 a2) → AsksFileBy call a0 a1 a2 a3 a4 request
  -- pread(2) and pwrite(2): the low and the high half of the offset
  ToReadAt :
      call ≡ 67 → request ≡ Some (ReadAt a0 (a4 * 2 ^ 32 + a3) a1 a2)
      → AsksFileBy call a0 a1 a2 a3 a4 request
  ToWriteAt :
      call ≡ 68 → request ≡ Some (WriteAt a0 (a4 * 2 ^ 32 + a3) a1 a2)
      → AsksFileBy call a0 a1 a2 a3 a4 request
  -- writev (readv(2)): where the vector is, and how many pieces it has
  ToWritePieces :
      call ≡ 66 → request ≡ Some (WritePieces a0 a1 a2)
      → AsksFileBy call a0 a1 a2 a3 a4 request
  -- ioctl(2)
  ToControlDevice :
      call ≡ 29 → request ≡ Some (ControlDevice a0)
      → AsksFileBy call a0 a1 a2 a3 a4 request
  ToGetStatus : call ≡ 80 → request ≡ Some (Status a0 a1) → AsksFileBy call a0 a1 a2 a3 a4 request
  -- _llseek(2): the high and the low half of the offset, where the position is put, and from where
  ToSeek :
      call ≡ 62 → request ≡ Some (Seek a0 (a1 * 2 ^ 32 + a2) a4 a3)
      → AsksFileBy call a0 a1 a2 a3 a4 request
  -- statx(2): the flags are a2, the mask a3, of which no more than the basic one is given, and the
  -- status is put at a4
  ToExtend :
      call ≡ 291 → are_statx_flags a2 a3 ≡ true
      → request ≡ Some (ExtendedStatus a0 a1 a2 a4) → AsksFileBy call a0 a1 a2 a3 a4 request
  ToExtendSo :
      call ≡ 291 → are_statx_flags a2 a3 ≡ false → request ≡ Some (Refused (error 22))
      → AsksFileBy call a0 a1 a2 a3 a4 request
  OfOther :
      (IsOfFiles call → ⊥) → (TakesDescriptor call → ⊥) → request ≡ None
      → AsksFileBy call a0 a1 a2 a3 a4 request

-- what the call of a machine at an ecall asks for
abbrev pub AsksFile : State → Option FileRequest → Type 0
AsksFile s request =
    AsksFileBy (reg s 17) (reg s 10) (reg s 11) (reg s 12) (reg s 13) (reg s 14) request

-- the descriptor that is read, written or asked, if one is
abbrev pub descriptor_in : FileRequest → Option ℕ
descriptor_in (Seek descriptor offset from a) = Some descriptor
descriptor_in (Read descriptor a count) = Some descriptor
descriptor_in (ReadAt descriptor offset a count) = Some descriptor
descriptor_in (Write descriptor a count) = Some descriptor
descriptor_in (WriteAt descriptor offset a count) = Some descriptor
descriptor_in (WritePieces descriptor a count) = Some descriptor
descriptor_in (List descriptor a count) = Some descriptor
descriptor_in (Status descriptor a) = Some descriptor
descriptor_in (ChangeFile descriptor change) = Some descriptor
descriptor_in (Own descriptor owner group) = Some descriptor
descriptor_in (ControlDevice descriptor) = Some descriptor
descriptor_in _ = None

-- ---- the flags of openat

-- How a file is opened by flags and a mode (fcntl.h): O_WRONLY is 1, O_RDWR 2, O_CREAT 0x40, O_EXCL
-- 0x80, O_TRUNC 0x200, O_APPEND 0x400 and O_DIRECTORY 0x10000. The other flags change nothing here,
-- and O_APPEND nothing of a file that is open to be read alone (O_RDONLY is 0): only a write is at
-- the end.
abbrev pub how_of : (flags mode : ℕ) → How
how_of flags mode = record {
  reads = bit_and flags 1 == 0;
  writes = not (bit_and flags 3 == 0);
  appends = not (bit_and flags 0x400 == 0) && not (bit_and flags 3 == 0);
  creates = not (bit_and flags 0x40 == 0);
  is_new = not (bit_and flags 0x80 == 0);
  truncates = not (bit_and flags 0x200 == 0);
  is_directory = not (bit_and flags 0x10000 == 0);
  mode = bit_and mode 0o777;
}

-- flags that are not served: both O_WRONLY and O_RDWR, O_PATH (0x200000), O_TMPFILE (which has
-- 0x400000), and both O_CREAT and O_DIRECTORY
abbrev pub not_served : ℕ → Bool
not_served flags =
    (bit_and flags 3 == 3) || not (bit_and flags 0x600000 == 0)
    || (bit_and flags 0x10040 == 0x10040)

-- what changes files
abbrev pub changes : How → Bool
changes how = how.writes || how.appends || how.creates || how.truncates
