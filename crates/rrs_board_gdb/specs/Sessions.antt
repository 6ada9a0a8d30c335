-- What gdb's packets mean for a board (gdb's manual, "Remote Serial Protocol", "Packets": p, P, c,
-- C, s, S and vCont; "Stop Reply Packets": S and W). `m` and `M` mean what they mean for a program,
-- with RAM as the memory.
use Rattle.std.specs.Prelude.{◌≡◌, ◌≢◌, ◌⊎◌, ℕ, ◌%◌, Bool, true, false, List, ◌∷◌, ◌++◌, length, Some, IsSome, Ok, codes}
use Rattle.hex.specs.Hex.{decode_sized}
use Rattle.rrs_board.specs.declared.board.Board.{Board}
use Rattle.rrs_gdb.specs.declared.breaks.Break.{Break}
use Rattle.rrs_gdb.specs.declared.breaks.Break.TheVariants as Place
use Rattle.rrs_gdb.specs.declared.breaks.Breaks.{Breaks}
use Rattle.rrs_gdb.specs.declared.breaks.Watch.{Watch}
use Rattle.rrs_gdb.specs.declared.session.Next.{Next}
use Rattle.rrs_gdb.specs.declared.session.Next.TheVariants.{Reply, ReplyAndEnd, End}
use Rattle.rrs_gdb.specs.Breaks.{WithBreak, WithoutBreak}
use Rattle.rrs_gdb.specs.Packets.{IsNumber, number, before, behind, digits_of}
use Rattle.rrs_gdb.specs.Sessions.{letter, IsBreak, IsError}
use Rattle.rrs_gdb.specs.Shown.{text_of, word_bytes, word_at}
use Rattle.rrs_board_gdb.specs.declared.going.GoReason.{GoReason}
use Rattle.rrs_board_gdb.specs.declared.going.GoReason.TheVariants as Reason
use Rattle.rrs_board_gdb.specs.declared.session.BoardSession.{BoardSession}
use Rattle.rrs_board_gdb.specs.declared.session.BoardStop.{BoardStop}
use Rattle.rrs_board_gdb.specs.declared.session.BoardStop.TheVariants.{Signal, Exited}
use Rattle.rrs_board_gdb.specs.Going.{Debugged, debugged, GoesTo}
use Rattle.rrs_board_gdb.specs.Shown.{shown_register, with_register}

-- ---- registers

-- `p n`: the register of this number is shown.
pub record ShowsRegister (digits : List ℕ) (b : Board) (old new : List ℕ) : Type 0 where
  pub shown : (value : ℕ) → IsNumber digits → shown_register b (number digits) ≡ Some value
      → new ≡ old ++ text_of (word_bytes value)
  pub refused : ¬ (IsNumber digits × IsSome (shown_register b (number digits))) → IsError old new

-- `P n=r` changes the register of this number to the word that has these four bytes, the lowest
-- first.
pub record Changes (text : List ℕ) (b b' : Board) : Type 0 where
  pub bytes : List ℕ
  pub is_number : IsNumber (before 61 text)
  pub is_word : decode_sized (behind 61 text) 4 ≡ Ok bytes
  pub changed : with_register b (number (before 61 text)) (word_at bytes 0) ≡ Some b'

-- `P n=r`: it is changed so, or none is, where there is none that can be.
pub data SetsRegister (text : List ℕ) (b b' : Board) (old new : List ℕ) : Type 0 where
  Changed : Changes text b b' → SetsRegister text b b' old new
  Refused : b' ≡ b → ((c : Board) → ¬ Changes text b c) → IsError old new
      → SetsRegister text b b' old new

-- ---- breakpoints, and what follows a packet

-- `Z type,addr,kind` sets a breakpoint. A watchpoint is not known: nothing is answered.
pub record SetsStop (text : List ℕ) (b b' : Breaks) (old new : List ℕ) : Type 0 where
  pub set : (address : ℕ) → IsBreak text (Place.Stop address)
      → IsError old new ⊎ (WithBreak (Place.Stop address) b b' × (new ≡ old ++ codes "OK"))
  pub unknown : (watch : Watch) → IsBreak text (Place.Watch watch) → (b' ≡ b) × (new ≡ old)
  pub refused : ((place : Break) → ¬ IsBreak text place) → IsError old new
  pub kept : IsError old new → b'.stops.items ≡ b.stops.items

-- `z type,addr,kind` removes one.
pub record RemovesStop (text : List ℕ) (b b' : Breaks) (old new : List ℕ) : Type 0 where
  pub removed : (address : ℕ) → IsBreak text (Place.Stop address)
      → WithoutBreak (Place.Stop address) b b' × (new ≡ old ++ codes "OK")
  pub unknown : (watch : Watch) → IsBreak text (Place.Watch watch) → (b' ≡ b) × (new ≡ old)
  pub refused : ((place : Break) → ¬ IsBreak text place) → IsError old new
  pub kept : IsError old new → b'.stops.items ≡ b.stops.items

-- `D` or `vKill`, by which gdb ends the session, and waits for an answer
abbrev pub IsEnding : List ℕ → Type 0
IsEnding payload =
    (letter payload ≡ 68) ⊎ ((rest : List ℕ) × (payload ≡ codes "vKill" ++ rest))

-- packets that are taken, whatever the state: `H`, `T`, that nothing is acknowledged, and an end
abbrev pub IsTaken : List ℕ → Type 0
IsTaken payload =
    (letter payload ≡ 72) ⊎ (letter payload ≡ 84) ⊎ (payload ≡ codes "QStartNoAckMode")
    ⊎ IsEnding payload

-- What is told of the session: the one thread, 1, that the board ran before gdb came, which actions
-- there are, and that a packet is taken.
pub record Tells (payload old new : List ℕ) : Type 0 where
  pub thread : before 58 payload ≡ codes "qC" → new ≡ old ++ codes "QC1"
  pub threads : before 58 payload ≡ codes "qfThreadInfo" → new ≡ old ++ codes "m1"
  pub no_more : before 58 payload ≡ codes "qsThreadInfo" → new ≡ old ++ codes "l"
  pub attached : before 58 payload ≡ codes "qAttached" → new ≡ old ++ codes "1"
  pub offers : payload ≡ codes "vCont?" → new ≡ old ++ codes "vCont;c;C;s;S"
  pub takes : IsTaken payload → new ≡ old ++ codes "OK"

-- `D` and `vKill` end the session once they are answered, and `k` ends it at once. Other packets
-- are answered, and the session goes on.
pub record EndsBy (payload : List ℕ) (next : Next) : Type 0 where
  pub detaches : letter payload ≡ 68 → next ≡ ReplyAndEnd
  pub kills : payload ≡ codes "k" → next ≡ End
  pub kills_named : (rest : List ℕ) → payload ≡ codes "vKill" ++ rest → next ≡ ReplyAndEnd
  pub goes_on : letter payload ≢ 68 → payload ≢ codes "k"
      → ((rest : List ℕ) → payload ≢ codes "vKill" ++ rest) → next ≡ Reply

-- ---- the program goes on

-- one of `c`, `C`, `s` and `S`
abbrev pub IsGoing : List ℕ → Type 0
IsGoing payload =
    (letter payload ≡ 99) ⊎ (letter payload ≡ 67) ⊎ (letter payload ≡ 115) ⊎ (letter payload ≡ 83)

-- `s` alone, or `S` with a signal, which a board has none of: a step
abbrev pub IsStep : List ℕ → Type 0
IsStep action = ((letter action ≡ 115) × (length action ≡ 1)) ⊎ (letter action ≡ 83)

-- `c` alone, or `C` with a signal: steps up to the limit
abbrev pub IsContinue : List ℕ → Type 0
IsContinue action = ((letter action ≡ 99) × (length action ≡ 1)) ⊎ (letter action ≡ 67)

-- Where a program stopped, by gdb's numbers of the signals: SIGTRAP is 5 and SIGINT 2. The limit of
-- a step is that it is one.
abbrev pub stop_of : Bool → GoReason → BoardStop
stop_of is_step Reason.AtStop = Signal 5
stop_of true Reason.Limit = Signal 5
stop_of false Reason.Limit = Signal 2
stop_of is_step (Reason.Finished status) = Exited (status % 256)
stop_of is_step (Reason.Stuck signal) = Signal signal

abbrev pub stop_text : BoardStop → List ℕ
stop_text (Signal signal) = codes "S" ++ digits_of signal
stop_text (Exited status) = codes "W" ++ digits_of status

-- A program that has ended stays where it is. Another goes on from there, as far as it goes.
abbrev pub GoesFrom : BoardStop → Bool → List ℕ → ℕ → Debugged → Debugged → BoardStop → Type 0
GoesFrom (Exited status) is_step stops limit d t stop = (t ≡ d) × (stop ≡ Exited status)
GoesFrom (Signal signal) is_step stops limit d t stop =
    (steps : ℕ) × (reason : GoReason) × (printed : List ℕ)
    × GoesTo stops limit d steps reason printed t × (stop ≡ stop_of is_step reason)

-- the program goes on by so many steps at most, and gdb is told where it stops
pub record GoesOn (is_step : Bool) (limit : ℕ) (s t : BoardSession) (old new : List ℕ)
    : Type 0 where
  pub goes : GoesFrom s.stop is_step s.breaks.stops.items limit (debugged s.debugged)
      (debugged t.debugged) t.stop
  pub told : new ≡ old ++ stop_text t.stop

-- what an action comes to
pub record GoesBy (action : List ℕ) (s t : BoardSession) (old new : List ℕ) : Type 0 where
  pub step : IsStep action → GoesOn true 1 s t old new
  pub proceed : IsContinue action → GoesOn false s.limit s t old new
  pub refused : ¬ (IsStep action ⊎ IsContinue action) → IsError old new
