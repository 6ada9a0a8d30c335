-- What is said of the functions that answer packets: what an answer leaves as it was, and what it
-- means, by the letter of the packet. No public contract cites this.
use Rattle.std.specs.Prelude.{◌≡◌, ◌≢◌, ◌⊎◌, ℕ, ◌-◌, ◌^◌, Bool, List, [], ◌++◌, drop, Ok, IsOk, codes}
use Rattle.std.specs.Bool.{OnTrue, OnFalse}
use Rattle.hex.specs.Hex.{decode_of}
use Rattle.rrs_lib.specs.Machine.{State, with_pc}
use Rattle.rrs_linux.specs.Recording.{Recording}
use Rattle.rrs_gdb.specs.declared.session.Subject.{Subject}
use Rattle.rrs_gdb.specs.declared.session.Subject.TheVariants.{Shown, Changed, Run, Named, Back, Breaks, Query, Session}
use Rattle.rrs_gdb.specs.declared.state.SessionState.{SessionState}
use Rattle.rrs_gdb.specs.Packets.{IsNumber, number, before, behind}
use Rattle.rrs_gdb.specs.Shown.{registers_text, stop_text}
use Rattle.rrs_gdb.specs.Sessions.{letter, ChangesNone, RunsNone, ChangesRegister, ChangesMemory, BreaksNone, MemoryKept, RegistersKept, BreaksKept, SessionKept, has_ended, IsError, ForgetsOrStays, Monitors, SetsBreak, RemovesBreak, ShowsRegister, SetsRegister, SetsRegisters, ShowsMemory, SetsMemory, Around, around, asked_by, forgotten, Most, one_step, up_to, GoesOnOrStays, GoesOnFrom, Resumes, Signals, Acts, SessionGoesBack}

-- a session, the environment and the state of its program, and what is answered so far
pub record Moment : Type 0 where
  pub session : SessionState
  pub environment : Recording
  pub state : State
  pub reply : List ℕ

abbrev pub moment : SessionState → Recording → State → List ℕ → Moment
moment session environment state reply =
    record { session = session; environment = environment; state = state; reply = reply }

-- none of `g`, `p` and `m`, which show the machine
abbrev pub ShowsNone : List ℕ → Type 0
ShowsNone payload = (letter payload ≢ 103) × (letter payload ≢ 112) × (letter payload ≢ 109)

-- what a packet is about
abbrev pub HasSubject : List ℕ → Subject → Type 0
HasSubject payload Shown = (letter payload ≡ 103) ⊎ (letter payload ≡ 112) ⊎ (letter payload ≡ 109)
HasSubject payload Changed =
    (letter payload ≡ 71) ⊎ (letter payload ≡ 80) ⊎ (letter payload ≡ 77) ⊎ (letter payload ≡ 88)
HasSubject payload Run =
    (letter payload ≡ 99) ⊎ (letter payload ≡ 67) ⊎ (letter payload ≡ 115) ⊎ (letter payload ≡ 83)
HasSubject payload Named = letter payload ≡ 118
HasSubject payload Back = letter payload ≡ 98
HasSubject payload Breaks = (letter payload ≡ 90) ⊎ (letter payload ≡ 122)
HasSubject payload Query = letter payload ≡ 113
HasSubject payload Session =
    ChangesNone payload × RunsNone payload × ShowsNone payload × (letter payload ≢ 113)
    × BreaksNone payload

-- ---- the machine is shown and changed

-- `g`, `p` and `m`
pub record Shows (payload : List ℕ) (s : State) (old new : List ℕ) : Type 0 where
  pub registers : payload ≡ codes "g" → new ≡ old ++ registers_text s
  pub register : letter payload ≡ 112 → ShowsRegister (drop 1 payload) s old new
  pub memory : letter payload ≡ 109 → ShowsMemory (drop 1 payload) s old new

-- `G`, `P`, `M` and `X`
pub record Sets (payload : List ℕ) (s t : State) (old new : List ℕ) : Type 0 where
  pub registers : letter payload ≡ 71 → SetsRegisters (drop 1 payload) s t old new
  pub register : letter payload ≡ 80 → SetsRegister (drop 1 payload) s t old new
  pub memory : letter payload ≡ 77 → (values : List ℕ)
      → decode_of (behind 58 (drop 1 payload)) ≡ Ok values
      → SetsMemory values (drop 1 payload) s t old new
  pub no_values : letter payload ≡ 77 → ¬ IsOk (decode_of (behind 58 (drop 1 payload)))
      → IsError old new
  pub bytes : letter payload ≡ 88
      → SetsMemory (behind 58 (drop 1 payload)) (drop 1 payload) s t old new

-- a change that is done is no error, and one that is not done changes nothing
pub record IsDone (is_changed : Bool) (s t : State) (old new : List ℕ) : Type 0 where
  pub no_error : OnTrue is_changed (IsError old new → ⊥)
  pub none : OnFalse is_changed (t ≡ s)

-- ---- the program goes on and back

-- the address to go on from stands after the letter, or nothing does
pub data BeginsBy (rest : List ℕ) (a : Around) (s : State) (a' : Around) (s' : State)
    : Type 0 where
  Here : rest ≡ [] → a' ≡ a → s' ≡ s → BeginsBy rest a s a' s'
  There : IsNumber rest → a' ≡ forgotten a → s' ≡ with_pc s (number rest)
      → BeginsBy rest a s a' s'

-- what is around the machine of a moment
abbrev pub around_in : Moment → Around
around_in m = around m.session m.environment

-- `s`, `c`, `S` and `C`
pub record Goes (payload : List ℕ) (m n : Moment) : Type 0 where
  pub step : (letter payload ≡ 115) ⊎ (letter payload ≡ 83)
      → GoesOnFrom (asked_by m.session) one_step (around_in m) m.state (around_in n) n.state
  pub goes_on : (letter payload ≡ 99) ⊎ (letter payload ≡ 67)
      → GoesOnFrom (asked_by m.session) (up_to m.session.settings.limit)
      (around_in m) m.state (around_in n) n.state
  pub steps : letter payload ≡ 115
      → Resumes (drop 1 payload) (has_ended m.session) (asked_by m.session) one_step
      (around_in m) m.state (around_in n) n.state m.reply n.reply
  pub continues : letter payload ≡ 99
      → Resumes (drop 1 payload) (has_ended m.session) (asked_by m.session)
      (up_to m.session.settings.limit)
      (around_in m) m.state (around_in n) n.state m.reply n.reply
  pub step_signal : letter payload ≡ 83
      → Signals (drop 1 payload) (has_ended m.session) (asked_by m.session) one_step
      (around_in m) m.state (around_in n) n.state m.reply n.reply
  pub signal : letter payload ≡ 67
      → Signals (drop 1 payload) (has_ended m.session) (asked_by m.session)
      (up_to m.session.settings.limit)
      (around_in m) m.state (around_in n) n.state m.reply n.reply

-- `v`
pub record ActsBy (payload : List ℕ) (m n : Moment) : Type 0 where
  pub goes_on : letter payload ≡ 118 → (most : Most)
      × GoesOnOrStays (asked_by m.session) most (around_in m) m.state (around_in n) n.state
  pub acts : (actions : List ℕ) → payload ≡ codes "vCont;" ++ actions
      → Acts actions (has_ended m.session) (asked_by m.session) m.session.settings.limit
      (around_in m) m.state (around_in n) n.state m.reply n.reply

-- `bs` and `bc`
pub record Returns (payload : List ℕ) (m n : Moment) : Type 0 where
  pub step : payload ≡ codes "bs" → SessionGoesBack 1
      n.session.stop m.session m.environment m.state n.session n.environment n.state
  pub goes_back : payload ≡ codes "bc" → SessionGoesBack (2 ^ 64 - 1)
      n.session.stop m.session m.environment m.state n.session n.environment n.state
  pub told : (payload ≡ codes "bs") ⊎ (payload ≡ codes "bc")
      → n.reply ≡ m.reply ++ stop_text n.session.stop

-- ---- breakpoints, questions and settings

-- `Z`, `z`, `?` and `q`
pub record Asks (payload : List ℕ) (m n : Moment) : Type 0 where
  pub sets_break : letter payload ≡ 90
      → SetsBreak (drop 1 payload) m.session.breaks n.session.breaks m.reply n.reply
  pub removes_break : letter payload ≡ 122
      → RemovesBreak (drop 1 payload) m.session.breaks n.session.breaks m.reply n.reply
  pub stopped : payload ≡ codes "?" → n.reply ≡ m.reply ++ stop_text m.session.stop
  pub monitors : (digits command : List ℕ) → payload ≡ codes "qRcmd," ++ digits
      → decode_of digits ≡ Ok command
      → Monitors (before 32 command) (behind 32 command) m.session n.session m.reply n.reply
  pub questions : letter payload ≡ 113 → ((digits : List ℕ) → payload ≢ codes "qRcmd," ++ digits)
      → n.session ≡ m.session

-- ---- an answer

-- nothing changes but what is answered
pub record Stays (m n : Moment) : Type 0 where
  pub state_kept : n.state ≡ m.state
  pub environment_kept : n.environment ≡ m.environment
  pub session_kept : SessionKept m.session n.session

-- what an answer leaves as it was, whether it is whole or not
pub record Leaves (payload : List ℕ) (m n : Moment) : Type 0 where
  pub asks : ChangesNone payload → RunsNone payload → n.state ≡ m.state
  pub registers : ChangesRegister payload → MemoryKept m.state n.state
  pub memory : ChangesMemory payload → RegistersKept m.state n.state
  pub environment : RunsNone payload → n.environment ≡ m.environment
  pub breaks : BreaksNone payload → BreaksKept m.session n.session
  pub settings : letter payload ≢ 113 → n.session.settings ≡ m.session.settings
  pub history : ChangesNone payload → RunsNone payload → letter payload ≢ 113
      → n.session.history ≡ m.session.history

-- what a packet means that is answered
pub record Means (payload : List ℕ) (m n : Moment) : Type 0 where
  pub shows : Shows payload m.state m.reply n.reply
  pub sets : Sets payload m.state n.state m.reply n.reply
  pub goes : Goes payload m n
  pub acts : ActsBy payload m n
  pub returns : Returns payload m n
  pub asks : Asks payload m n
  pub forgets : ChangesRegister payload ⊎ ChangesMemory payload
      → ForgetsOrStays m.state n.state m.session n.session
  pub error : letter payload ≢ 113 → IsError m.reply n.reply → Stays m n
