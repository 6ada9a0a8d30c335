-- Which system calls there are (the Linux system call convention of RISC-V, syscall(2): a7 has the
-- number, a0 to a5 the arguments, and a0 takes the answer; the numbers are those of
-- asm-generic/unistd.h). Registers go by their numbers: a0 is x10, and a7 is x17.
--
-- Six choices are made here. Only the descriptors 0, 1 and 2 are open, 0 to read and the others to
-- write, each as a pipe is: it has no position, and is no terminal. close answers that it was done,
-- and they stay open. The process is number 1. Its user and its group are number 1000. fstat,
-- newfstatat and lseek, which Linux has in another form for 32 bits, take what a C library passes:
-- three words to lseek, and a struct stat64. So does gettimeofday, which it has not: its second
-- argument is not looked at. The bytes of getrandom are pseudo-random, by a seed (Random.antt). Each
-- other call is one that there is not.
use Rattle.std.specs.Prelude.{◌≡◌, ◌≢◌, ◌⊎◌, ℕ, ◌-◌, ◌%◌, ◌^◌, ◌<◌, ◌≤◌, ◌==◌, ◌&&◌, nat_lt, not, bit_and, Bool, true, false}
use Rattle.rrs_linux.specs.declared.clocks.TimeForm.TheVariants.{Timespec, Timeval}
use Rattle.rrs_linux.specs.declared.requests.Request.{Request}
use Rattle.rrs_linux.specs.declared.requests.Request.TheVariants.{Exit, Answer, NoCall, Status, NamedStatus, ExtendedStatus, Time, SetBreak, Names, Random, Read, WriteOutput, WriteErrors, WriteOutputPieces, WriteErrorPieces}
use Rattle.rrs_lib.specs.Machine.{State, reg}

-- the word that answers error n: -n
abbrev pub error : ℕ → ℕ
error n = 2 ^ 32 - n

-- ioctl, close, lseek and fstat, which take each descriptor that is open
abbrev pub TakesEach : ℕ → Type 0
TakesEach call = (call ≡ 29) ⊎ (call ≡ 57) ⊎ (call ≡ 62) ⊎ (call ≡ 80)

-- a descriptor that is not open for what this call does with it
abbrev pub HasBadDescriptor : ℕ → ℕ → Type 0
HasBadDescriptor call fd =
    (TakesEach call × (2 < fd)) ⊎ ((call ≡ 63) × (fd ≢ 0))
    ⊎ (((call ≡ 64) ⊎ (call ≡ 66)) × (fd ≢ 1) × (fd ≢ 2))

-- The flags that there are for a path (fcntl.h): AT_SYMLINK_NOFOLLOW 0x100, AT_NO_AUTOMOUNT 0x800,
-- AT_EMPTY_PATH 0x1000, AT_STATX_FORCE_SYNC 0x2000 and AT_STATX_DONT_SYNC 0x4000. Only
-- AT_EMPTY_PATH changes anything here.
abbrev pub are_flags : ℕ → Bool
are_flags flags = bit_and flags (2 ^ 32 - 1 - 0x7900) == 0

-- What statx takes (statx(2)): such flags, but not both about synchronization, and a mask without
-- its last bit.
abbrev pub are_statx_flags : (flags mask : ℕ) → Bool
are_statx_flags flags mask =
    are_flags flags && not (bit_and flags 0x6000 == 0x6000) && nat_lt mask (2 ^ 31)

-- What getrandom takes (getrandom(2)): GRND_NONBLOCK 1, GRND_RANDOM 2 and GRND_INSECURE 4, but not
-- both of the last.
abbrev pub are_random_flags : ℕ → Bool
are_random_flags flags = nat_lt flags 8 && not (bit_and flags 6 == 6)

-- flags that newfstatat, statx or getrandom doesn't take
abbrev pub HasBadFlags : (call a2 a3 : ℕ) → Type 0
HasBadFlags call a2 a3 =
    ((call ≡ 79) × (are_flags a3 ≡ false)) ⊎ ((call ≡ 291) × (are_statx_flags a2 a3 ≡ false))
    ⊎ ((call ≡ 278) × (are_random_flags a2 ≡ false))

-- getuid, geteuid, getgid and getegid
abbrev pub IsOfUser : ℕ → Type 0
IsOfUser call = (call ≡ 174) ⊎ (call ≡ 175) ⊎ (call ≡ 176) ⊎ (call ≡ 177)

-- none of the calls that there are
abbrev pub IsNoCall : ℕ → Type 0
IsNoCall call =
    (call ≢ 57) × (call ≢ 63) × (call ≢ 64) × (call ≢ 93) × (call ≢ 94) × (call ≢ 214)
    × (call ≢ 29) × (call ≢ 62) × (call ≢ 80) × (call ≢ 172) × (call ≢ 66) × (call ≢ 79)
    × (call ≢ 291) × (call ≢ 403) × (call ≢ 169) × (call ≢ 160) × (call ≢ 278)
    × (IsOfUser call → ⊥)

-- what a call with this number and these arguments asks for
pub data AsksBy (call a0 a1 a2 a3 a4 : ℕ) (request : Request) : Type 0 where
  -- exit and exit_group: the low eight bits are the status
  ToExit :
      (call ≡ 93) ⊎ (call ≡ 94) → request ≡ Exit (a0 % 256)
      → AsksBy call a0 a1 a2 a3 a4 request
  -- read, of standard input
  ToRead : call ≡ 63 → a0 ≡ 0 → request ≡ Read a1 a2 → AsksBy call a0 a1 a2 a3 a4 request
  -- write, to standard output and to standard error
  ToWriteOutput :
      call ≡ 64 → a0 ≡ 1 → request ≡ WriteOutput a1 a2
      → AsksBy call a0 a1 a2 a3 a4 request
  ToWriteErrors :
      call ≡ 64 → a0 ≡ 2 → request ≡ WriteErrors a1 a2
      → AsksBy call a0 a1 a2 a3 a4 request
  -- writev
  ToWriteOutputPieces :
      call ≡ 66 → a0 ≡ 1 → request ≡ WriteOutputPieces a1 a2
      → AsksBy call a0 a1 a2 a3 a4 request
  ToWriteErrorPieces :
      call ≡ 66 → a0 ≡ 2 → request ≡ WriteErrorPieces a1 a2
      → AsksBy call a0 a1 a2 a3 a4 request
  -- brk
  ToSetBreak : call ≡ 214 → request ≡ SetBreak a0 → AsksBy call a0 a1 a2 a3 a4 request
  -- close
  ToClose : call ≡ 57 → a0 ≤ 2 → request ≡ Answer 0 → AsksBy call a0 a1 a2 a3 a4 request
  -- ioctl: ENOTTY is 25
  ToControl : call ≡ 29 → a0 ≤ 2 → request ≡ Answer (error 25) → AsksBy call a0 a1 a2 a3 a4 request
  -- lseek: ESPIPE is 29
  ToSeek : call ≡ 62 → a0 ≤ 2 → request ≡ Answer (error 29) → AsksBy call a0 a1 a2 a3 a4 request
  -- fstat
  ToGetStatus : call ≡ 80 → a0 ≤ 2 → request ≡ Status a1 → AsksBy call a0 a1 a2 a3 a4 request
  -- newfstatat and statx: beside a descriptor, by a path and flags
  ToGetNamed :
      call ≡ 79 → are_flags a3 ≡ true
      → request ≡ NamedStatus (record { descriptor = a0; path = a1; flags = a3 }) a2
      → AsksBy call a0 a1 a2 a3 a4 request
  ToGetExtended :
      call ≡ 291 → are_statx_flags a2 a3 ≡ true
      → request ≡ ExtendedStatus (record { descriptor = a0; path = a1; flags = a2 }) a4
      → AsksBy call a0 a1 a2 a3 a4 request
  -- clock_gettime64, of the clocks that there are, and gettimeofday
  ToGetTime :
      call ≡ 403 → a0 ≤ 3 → request ≡ Time a0 Timespec a1
      → AsksBy call a0 a1 a2 a3 a4 request
  ToGetTimeOfDay :
      call ≡ 169 → request ≡ Time 0 Timeval a0
      → AsksBy call a0 a1 a2 a3 a4 request
  -- uname
  ToGetNames : call ≡ 160 → request ≡ Names a0 → AsksBy call a0 a1 a2 a3 a4 request
  -- getrandom
  ToGetRandom :
      call ≡ 278 → are_random_flags a2 ≡ true → request ≡ Random a0 a1
      → AsksBy call a0 a1 a2 a3 a4 request
  -- getpid
  ToGetNumber : call ≡ 172 → request ≡ Answer 1 → AsksBy call a0 a1 a2 a3 a4 request
  ToGetUser : IsOfUser call → request ≡ Answer 1000 → AsksBy call a0 a1 a2 a3 a4 request
  -- EBADF is 9
  OfNoFile :
      HasBadDescriptor call a0 → request ≡ Answer (error 9)
      → AsksBy call a0 a1 a2 a3 a4 request
  -- EINVAL is 22
  OfNoFlags :
      HasBadFlags call a2 a3 → request ≡ Answer (error 22) → AsksBy call a0 a1 a2 a3 a4 request
  OfNoClock :
      call ≡ 403 → 3 < a0 → request ≡ Answer (error 22) → AsksBy call a0 a1 a2 a3 a4 request
  OfNoCall : IsNoCall call → request ≡ NoCall call → AsksBy call a0 a1 a2 a3 a4 request

-- what the call of a machine at an ecall asks for
abbrev pub Asks : State → Request → Type 0
Asks s request =
    AsksBy (reg s 17) (reg s 10) (reg s 11) (reg s 12) (reg s 13) (reg s 14) request
