-- What is said of the functions that answer packets: what an answer leaves as it was, and what it
-- means, by the letter of the packet. No public contract cites this.
use Rattle.std.specs.Prelude.{◌≡◌, ◌≢◌, ◌⊎◌, ℕ, List, ◌++◌, codes, drop, Ok}
use Rattle.hex.specs.Hex.{decode_of}
use Rattle.rrs_board.specs.declared.board.Board.{Board}
use Rattle.rrs_gdb.specs.Packets.{before, behind}
use Rattle.rrs_gdb.specs.Sessions.{letter, BreaksNone, ChangesMemory, ChangesNone, IsError, RunsNone, SetsMemory, ShowsMemory}
use Rattle.rrs_board_gdb.specs.declared.session.BoardSession.{BoardSession}
use Rattle.rrs_board_gdb.specs.declared.session.Subject.{Subject}
use Rattle.rrs_board_gdb.specs.declared.session.Subject.TheVariants.{Run, Inspected, Session}
use Rattle.rrs_board_gdb.specs.Shown.{SameBoard, SameButRam, ram_state}
use Rattle.rrs_board_gdb.specs.Sessions.{GoesBy, IsGoing, RemovesStop, SetsRegister, SetsStop, ShowsRegister, stop_text}

-- neither `p`, `P`, `m` nor `M`
abbrev pub InspectsNone : List ℕ → Type 0
InspectsNone payload =
    (letter payload ≢ 112) × (letter payload ≢ 80) × (letter payload ≢ 109) × (letter payload ≢ 77)

-- what a packet is about
abbrev pub HasSubject : List ℕ → Subject → Type 0
HasSubject payload Run = IsGoing payload
HasSubject payload Inspected =
    (letter payload ≡ 103) ⊎ (letter payload ≡ 112) ⊎ (letter payload ≡ 80)
    ⊎ (letter payload ≡ 109) ⊎ (letter payload ≡ 77)
HasSubject payload Session = (¬ IsGoing payload) × InspectsNone payload

-- `p`, `P`, `m` and `M`
pub record Inspects (payload : List ℕ) (b b' : Board) (old new : List ℕ) : Type 0 where
  pub shows_register : letter payload ≡ 112 → ShowsRegister (drop 1 payload) b old new
  pub sets_register : letter payload ≡ 80 → SetsRegister (drop 1 payload) b b' old new
  pub shows_memory : letter payload ≡ 109 → ShowsMemory (drop 1 payload) (ram_state b) old new
  pub sets_memory : letter payload ≡ 77 → (values : List ℕ)
      → decode_of (behind 58 (drop 1 payload)) ≡ Ok values
      → SetsMemory values (drop 1 payload) (ram_state b) (ram_state b') old new

-- `Z`, `z` and `?`
pub record Asks (payload : List ℕ) (s t : BoardSession) (old new : List ℕ) : Type 0 where
  pub sets_stop : letter payload ≡ 90 → SetsStop (drop 1 payload) s.breaks t.breaks old new
  pub removes_stop : letter payload ≡ 122 → RemovesStop (drop 1 payload) s.breaks t.breaks old new
  pub stopped : payload ≡ codes "?" → new ≡ old ++ stop_text s.stop

-- what an answer leaves as it was, whether it is whole or not
pub record Leaves (payload : List ℕ) (s t : BoardSession) : Type 0 where
  pub asks : ChangesNone payload → RunsNone payload → SameBoard s.debugged.board t.debugged.board
  pub memory : ChangesMemory payload → SameButRam s.debugged.board t.debugged.board
  pub stays : letter payload ≡ 118 → ((actions : List ℕ) → payload ≢ codes "vCont;" ++ actions)
      → t.debugged ≡ s.debugged
  pub input : RunsNone payload → t.debugged.input ≡ s.debugged.input
  pub stop : RunsNone payload → t.stop ≡ s.stop
  pub limit : t.limit ≡ s.limit
  pub breaks : BreaksNone payload → t.breaks.stops.items ≡ s.breaks.stops.items

-- what a packet means that is answered
pub record Means (payload : List ℕ) (s t : BoardSession) (old new : List ℕ) : Type 0 where
  pub inspects : Inspects payload s.debugged.board t.debugged.board old new
  pub goes : IsGoing payload → GoesBy payload s t old new
  pub resumes : (actions : List ℕ) → payload ≡ codes "vCont;" ++ actions
      → GoesBy (before 58 (before 59 actions)) s t old new
  pub asks : Asks payload s t old new
  pub error : IsError old new → SameBoard s.debugged.board t.debugged.board
