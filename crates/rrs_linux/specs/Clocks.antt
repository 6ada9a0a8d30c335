-- What the clocks of a program tell, and what the calls that tell a time put into memory
-- (clock_gettime(2), gettimeofday(2)). Clock 0 is CLOCK_REALTIME, 1 CLOCK_MONOTONIC, 2
-- CLOCK_PROCESS_CPUTIME_ID and 3 CLOCK_THREAD_CPUTIME_ID; a program has one thread.
use Rattle.std.specs.Prelude.{◌≡◌, ℕ, ◌/◌, ◌%◌, ◌^◌, ◌==◌, if◌then◌else◌, Bool, List, [], ◌++◌, Option, Some, None}
use Rattle.std.specs.Int.{to_le_bytes, w64}
use Rattle.std.specs.Duration.{as_nanos}
use Rattle.std.specs.declared.time.Duration.{Duration}
use Rattle.rrs_lib.specs.Bytes.{ByteMap}
use Rattle.rrs_lib.specs.AccessLists.{Access}
use Rattle.rrs_linux.specs.declared.clocks.StoppedClocks.{StoppedClocks}
use Rattle.rrs_linux.specs.declared.clocks.LinuxClocks.{LinuxClocks}
use Rattle.rrs_linux.specs.declared.clocks.LinuxClocks.TheVariants.{Host, Stopped}
use Rattle.rrs_linux.specs.declared.clocks.TimeForm.{TimeForm}
use Rattle.rrs_linux.specs.declared.host_side.HostSide.{HostSide}
use Rattle.rrs_linux.specs.declared.clocks.TimeForm.TheVariants.{Timespec, Timeval}
use Rattle.rrs_linux.specs.Requests.{error}
use Rattle.rrs_linux.specs.Statuses.{PutsBytes}

-- struct __kernel_timespec, 16 bytes: tv_sec and tv_nsec, of so many nanoseconds
abbrev pub timespec : ℕ → List ℕ
timespec nanos = to_le_bytes w64 (nanos / 10 ^ 9) ++ to_le_bytes w64 (nanos % 10 ^ 9)

-- struct timeval, 16 bytes: tv_sec and tv_usec
abbrev pub timeval : ℕ → List ℕ
timeval nanos = to_le_bytes w64 (nanos / 10 ^ 9) ++ to_le_bytes w64 (nanos % 10 ^ 9 / 1000)

abbrev pub form_of : TimeForm → ℕ → List ℕ
form_of Timespec nanos = timespec nanos
form_of Timeval nanos = timeval nanos

-- ---- clocks

-- what a clock says of itself and of a number: what it tells, or None where it can't be read
abbrev pub Tells : Type 0 → Type 1
Tells C = C → ℕ → Option Duration → Type 0

-- clocks that stand still
abbrev pub stopped_at : StoppedClocks → ℕ → Duration
stopped_at clocks clock =
    if clock == 0 then clocks.since_1970
    else (if clock == 1 then clocks.monotonic else clocks.used)

abbrev pub TellsStopped : Tells StoppedClocks
TellsStopped clocks clock told = told ≡ Some (stopped_at clocks clock)

-- The clocks of a program. The library's contract of the host's clock says nothing of what it
-- tells: it may go back, and it may fail.
abbrev pub TellsOf : Tells LinuxClocks
TellsOf (Host runtime) clock told = Unit {0}
TellsOf (Stopped clocks) clock told = TellsStopped clocks clock told

abbrev pub TellsTime : Tells HostSide
TellsTime side = TellsOf side.clocks

-- ---- a time

-- A time that was told is put at a in this form, or the clock can't be read (EIO is 5).
pub data PutsTime (form : ℕ → List ℕ) (writable : ℕ → Bool) (bytes bytes' : ByteMap)
    (told : Option Duration) (a : ℕ) (accesses : List Access) (answer : ℕ) : Type 0 where
  IsTold : (time : Duration)
      → told ≡ Some time → PutsBytes writable bytes bytes' a (form (as_nanos time)) accesses answer
      → PutsTime form writable bytes bytes' told a accesses answer
  HasFailed :
      told ≡ None → bytes' ≡ bytes → accesses ≡ [] → answer ≡ error 5
      → PutsTime form writable bytes bytes' told a accesses answer
