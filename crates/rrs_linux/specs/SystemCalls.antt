-- What a system call does to the environment and to the machine, and whether it ends the program.
use Rattle.std.specs.Prelude.{◌≡◌, ℕ, ◌==◌, ◌&&◌, ◌||◌, nat_le, nat_lt, if◌then◌else◌, List, [], ◌∷◌, ◌++◌, length, Option, Some, None, pos}
use Rattle.std.specs.List.{list_any}
use Rattle.std.specs.declared.time.Duration.{Duration}
use Rattle.rrs_lib.specs.Bytes.{ByteMap}
use Rattle.rrs_lib.specs.AccessLists.{Access}
use Rattle.rrs_lib.specs.Machine.{State, put}
use Rattle.rrs_linux.specs.declared.Heap.{Heap}
use Rattle.rrs_linux.specs.declared.Process.{Process}
use Rattle.rrs_linux.specs.declared.host_writer.HostWriter.{HostWriter}
use Rattle.rrs_linux.specs.declared.host_side.HostSide.{HostSide}
use Rattle.rrs_linux.specs.declared.requests.Request.{Request}
use Rattle.rrs_linux.specs.declared.requests.Request.TheVariants.{Exit, Answer, NoCall, Status, NamedStatus, ExtendedStatus, Time, SetBreak, Names, Random, Read, WriteOutput, WriteErrors, WriteOutputPieces, WriteErrorPieces}
use Rattle.rrs_linux.specs.Requests.{Asks, error}
use Rattle.rrs_linux.specs.BufferedBytes.{buffered_bytes}
use Rattle.rrs_linux.specs.Clocks.{Tells, TellsTime, PutsTime, form_of}
use Rattle.rrs_linux.specs.Giving.{GivesText}
use Rattle.rrs_linux.specs.Names.{system_names}
use Rattle.rrs_linux.specs.Random.{random_bytes, state_after}
use Rattle.rrs_linux.specs.Statuses.{PutsBytes, PutsNamed, stream_status, extended_status}
use Rattle.rrs_linux.specs.Transfers.{Gives, Takes, WritesText, ReadsText}
use Rattle.rrs_linux.specs.Vectors.{WritesVector}

-- the break at an address, if it may lie there, and else as it was (brk(2), as the kernel answers)
abbrev pub moved : Heap → ℕ → Heap
moved heap address =
    if nat_le heap.start address && nat_le address heap.end
    then record heap { top = address } else heap

-- the answer in a0
abbrev pub answered : State → ℕ → State
answered s answer = put s 10 (pos answer)

-- How a write ends the program: by the signal SIGPIPE (13) where nobody reads what is written, as
-- its default action is (signal(7), pipe(7)), with the status that a shell gives it, 128 + 13. The
-- answer stands in a0 then.
abbrev pub ended_by : ℕ → Option ℕ
ended_by answer = if answer == error 32 then Some 141 else None

-- the numbers of the calls that were made and that there are not, each once, and 16 at most, when
-- such a call was made
abbrev pub noted : List ℕ → ℕ → List ℕ
noted numbers call =
    if list_any (λ number. number == call) numbers || length numbers == 16 then numbers
    else numbers ++ call ∷ []

-- These numbers when a break is asked for: that of brk, 214, is among them where the program was
-- refused memory, since the address is past the highest break.
abbrev pub noted_break : Heap → List ℕ → ℕ → List ℕ
noted_break heap numbers address =
    if nat_lt heap.end address then noted numbers 214 else numbers

-- By which streams are alike: environments are alike that have such streams, one heap, the same
-- numbers of calls that there are not, one state of the pseudo-random numbers, and the same kept of
-- the input.
pub record AreAlike {R W E K : Type 0} (input : R → R → Type 0) (output : W → W → Type 0)
    (errors : E → E → Type 0) (d e : Process R W E K) : Type 0 where
  pub inputs : input d.input e.input
  pub outputs : output d.output e.output
  pub error_outputs : errors d.errors e.errors
  pub heap : d.heap ≡ e.heap
  pub unserved : d.unserved ≡ e.unserved
  pub random : d.random ≡ e.random
  pub held : d.held ≡ e.held

-- By what the streams do with the bytes of a buffer, and by what the clocks tell:
module _ {R W E K : Type 0} (gives : Gives R K) (takes : Takes W) (takes_errors : Takes E)
    (tells : Tells K) where
  -- what is asked for takes the environment and the machine from the first to the second
  abbrev pub Does : Request → Process R W E K → State → Process R W E K → State
      → List Access → Option ℕ → Type 0
  Does (Exit status) old s new t accesses end =
      (end ≡ Some status) × (new ≡ old) × (t ≡ s) × (accesses ≡ [])
  Does (Answer word) old s new t accesses end =
      (end ≡ None) × (new ≡ old) × (t ≡ answered s word) × (accesses ≡ [])
  -- ENOSYS is 38
  Does (NoCall call) old s new t accesses end =
      (end ≡ None)
      × (new ≡ record old { unserved = record { items = noted old.unserved.items call } })
      × (t ≡ answered s (error 38)) × (accesses ≡ [])
  Does (Status a) old s new t accesses end =
      (end ≡ None) × (new ≡ old) × (bytes : ByteMap) × (answer : ℕ)
      × PutsBytes s.writable s.bytes bytes a stream_status accesses answer
      × (t ≡ answered (record s { bytes = bytes }) answer)
  Does (NamedStatus lookup a) old s new t accesses end =
      (end ≡ None) × (new ≡ old) × (bytes : ByteMap) × (answer : ℕ)
      × PutsNamed s.writable s.bytes bytes lookup a stream_status accesses answer
      × (t ≡ answered (record s { bytes = bytes }) answer)
  Does (ExtendedStatus lookup a) old s new t accesses end =
      (end ≡ None) × (new ≡ old) × (bytes : ByteMap) × (answer : ℕ)
      × PutsNamed s.writable s.bytes bytes lookup a extended_status accesses answer
      × (t ≡ answered (record s { bytes = bytes }) answer)
  Does (Time clock form a) old s new t accesses end =
      (end ≡ None) × (new ≡ old) × (told : Option Duration) × tells old.held clock told
      × (bytes : ByteMap) × (answer : ℕ)
      × PutsTime (form_of form) s.writable s.bytes bytes told a accesses answer
      × (t ≡ answered (record s { bytes = bytes }) answer)
  Does (SetBreak address) old s new t accesses end =
      (end ≡ None)
      × (new ≡ record old {
        heap = moved old.heap address;
        unserved = record { items = noted_break old.heap old.unserved.items address };
      })
      × (t ≡ answered s (moved old.heap address).top) × (accesses ≡ [])
  Does (Names a) old s new t accesses end =
      (end ≡ None) × (new ≡ old) × (bytes : ByteMap) × (answer : ℕ)
      × PutsBytes s.writable s.bytes bytes a system_names accesses answer
      × (t ≡ answered (record s { bytes = bytes }) answer)
  -- 256 bytes at most are given, those of the next 32 numbers, and those not given are dropped
  Does (Random a count) old s new t accesses end =
      (end ≡ None) × (new ≡ record old { random = state_after old.random 32 })
      × (bytes : ByteMap) × (dropped : List ℕ) × (answer : ℕ)
      × GivesText s.writable s.bytes bytes a count (random_bytes old.random 32) dropped answer
      accesses
      × (t ≡ answered (record s { bytes = bytes }) answer)
  Does (Read a count) old s new t accesses end =
      (end ≡ None) × (input : R) × (held : K) × (bytes : ByteMap) × (answer : ℕ)
      × gives s.writable s.bytes bytes a count old.input old.held input held answer accesses
      × (new ≡ record old { input = input; held = held })
      × (t ≡ answered (record s { bytes = bytes }) answer)
  Does (WriteOutput a count) old s new t accesses end =
      (output : W) × (answer : ℕ) × takes s.bytes a count old.output output answer accesses
      × (new ≡ record old { output = output }) × (t ≡ answered s answer) × (end ≡ ended_by answer)
  Does (WriteErrors a count) old s new t accesses end =
      (errors : E) × (answer : ℕ) × takes_errors s.bytes a count old.errors errors answer accesses
      × (new ≡ record old { errors = errors }) × (t ≡ answered s answer) × (end ≡ ended_by answer)
  Does (WriteOutputPieces a count) old s new t accesses end =
      (output : W) × (answer : ℕ)
      × WritesVector takes s.bytes a count old.output output answer accesses
      × (new ≡ record old { output = output }) × (t ≡ answered s answer) × (end ≡ ended_by answer)
  Does (WriteErrorPieces a count) old s new t accesses end =
      (errors : E) × (answer : ℕ)
      × WritesVector takes_errors s.bytes a count old.errors errors answer accesses
      × (new ≡ record old { errors = errors }) × (t ≡ answered s answer) × (end ≡ ended_by answer)

  -- What a call does: it asks for something, and that is done.
  pub record ServesBy (old : Process R W E K) (s : State) (new : Process R W E K) (t : State)
      (accesses : List Access) (end : Option ℕ) : Type 0 where
    pub request : Request
    pub asks : Asks s request
    pub does : Does request old s new t accesses end

-- ---- streams of the host

-- A write to a writer, by the bytes that it holds, where these are known, and by how many of its
-- writes were short. The library's contract of a writer doesn't say when one is.
abbrev pub WritesOutput : {W : Type 0} → (W → Option (List ℕ)) → Takes (HostWriter W)
WritesOutput contents bytes a count old new answer accesses =
    WritesText bytes a count (contents old.stream) (contents new.stream)
    old.short_writes new.short_writes new.is_broken answer accesses

-- A read of a reader, by the bytes that it has left, where these are known, by those held, and by
-- how many reads failed. The library's contract of a reader doesn't say when it fails.
abbrev pub ReadsInput : {R : Type 0} → (R → Option (List ℕ)) → Gives R HostSide
ReadsInput remaining writable bytes bytes' a count old held new held' answer accesses =
    ReadsText writable bytes bytes' a count (buffered_bytes held.buffer)
    (buffered_bytes held'.buffer) (remaining old) (remaining new)
    held.buffer.failures held'.buffer.failures answer accesses
    × (held'.clocks ≡ held.clocks)

-- What a call does over a reader and two writers of the host, by what is known of each.
abbrev pub Serves : {R W E : Type 0} → (R → Option (List ℕ)) → (W → Option (List ℕ))
    → (E → Option (List ℕ)) → Process R (HostWriter W) (HostWriter E) HostSide → State
    → Process R (HostWriter W) (HostWriter E) HostSide → State → List Access → Option ℕ → Type 0
Serves remaining contents errors_of =
    ServesBy (ReadsInput remaining) (WritesOutput contents) (WritesOutput errors_of) TellsTime
