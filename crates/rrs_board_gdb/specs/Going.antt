-- How a board goes on under gdb (gdb's manual, "Remote Serial Protocol", "Packets": c, s, Z): by
-- the board's own steps, so that traps and interrupts are taken, up to a breakpoint. What a step
-- tells is served: what the UART transmits is printed, and bytes of the input arrive at it.
use Rattle.std.specs.Prelude.{◌≡◌, ℕ, zero, suc, ◌≤◌, true, List, [], ◌∷◌, ◌++◌, Contains, Option, Some, None}
use Rattle.rrs_machine.specs.declared.machine.MachineAnswer.{MachineAnswer}
use Rattle.rrs_board.specs.declared.board.Board.{Board}
use Rattle.rrs_board.specs.declared.effects.BoardEvent.{BoardEvent}
use Rattle.rrs_board.specs.declared.effects.BoardEvent.TheVariants as Event
use Rattle.rrs_board.specs.Boards.{BoardStepped}
use Rattle.rrs_board.specs.Effects.{waits_for_input}
use Rattle.rrs_board.specs.Terminals.{with_input, AsksAt}
use Rattle.rrs_board_gdb.specs.declared.going.DebuggedBoard.{DebuggedBoard}
use Rattle.rrs_board_gdb.specs.declared.going.GoReason.{GoReason}
use Rattle.rrs_board_gdb.specs.declared.going.GoReason.TheVariants as Reason

-- a board, and what is left of the input of its UART
pub record Debugged : Type 0 where
  pub board : Board
  pub input : List ℕ

abbrev pub with_left : Board → List ℕ → Debugged
with_left b input = record { board = b; input = input }

abbrev pub debugged : DebuggedBoard → Debugged
debugged d = with_left d.board d.input.now

-- ---- what a step tells

-- the first byte that is left arrives at the UART, which holds none
pub record HandsIn (input : List ℕ) (b : Board) (t : Debugged) : Type 0 where
  pub byte : ℕ
  pub rest : List ℕ
  pub has_byte : input ≡ byte ∷ rest
  pub has_room : b.memory.devices.uart.received ≡ None
  pub handed : t ≡ with_left (with_input byte b) rest

-- a wait that no alarm can end is left to be told only where no byte can end it
abbrev pub EndsWait : Option BoardEvent → List ℕ → Board → Type 0
EndsWait (Some Event.NothingWakes) input b =
    waits_for_input b.memory.devices ≡ true → input ≡ []
EndsWait _ input b = Unit {0}

-- What a step tells is left to be told, or a byte arrives instead. When it does is no part of this.
pub data Serves (event : Option BoardEvent) (input : List ℕ) (b : Board)
    (left : Option BoardEvent) (t : Debugged) : Type 0 where
  Leaves : left ≡ event → t ≡ with_left b input → EndsWait event input b → Serves event input b left t
  Arrives : left ≡ None → AsksAt event → HandsIn input b t → Serves event input b left t

abbrev pub printed_by : Option BoardEvent → List ℕ
printed_by (Some (Event.Transmitted byte)) = byte ∷ []
printed_by _ = []

-- Why a program ends, if it does, or goes no further: by gdb's numbers of the signals, SIGSTOP is
-- 17, SIGTRAP 5 and SIGILL 4.
abbrev pub ending : Option BoardEvent → Option GoReason
ending (Some (Event.Finished status)) = Some (Reason.Finished status)
ending (Some Event.Restarts) = Some (Reason.Finished 0)
ending (Some Event.NothingWakes) = Some (Reason.Stuck 17)
ending (Some Event.Spins) = Some (Reason.Stuck 5)
ending (Some Event.LacksHandler) = Some (Reason.Stuck 4)
ending _ = None

-- ---- steps

-- a step of the board, which tells something, and what is left of that once it is served
pub record ServedStep (d : Debugged) (left : Option BoardEvent) (t : Debugged) : Type 0 where
  pub after : Board
  pub answer : MachineAnswer
  pub event : Option BoardEvent
  pub stepped : BoardStepped d.board after answer event
  pub serves : Serves event d.input after left t

-- so many steps, none of which leads to a stop or ends the program, and what they print
abbrev pub PassingSteps : List ℕ → ℕ → Debugged → List ℕ → Debugged → Type 0
PassingSteps stops zero d printed t = (t ≡ d) × (printed ≡ [])
PassingSteps stops (suc n) d printed t =
    (m : Debugged) × (before : List ℕ) × (event : Option BoardEvent)
    × PassingSteps stops n d before m × ServedStep m event t
    × (ending event ≡ None) × (Contains stops t.board.hart.pc → ⊥)
    × (printed ≡ before ++ printed_by event)

-- a step that told this leads to this end
abbrev pub EndsBy : List ℕ → Option BoardEvent → Debugged → GoReason → Type 0
EndsBy stops event t Reason.AtStop = (ending event ≡ None) × Contains stops t.board.hart.pc
EndsBy stops event t Reason.Limit = ⊥
EndsBy stops event t reason = ending event ≡ Some reason

-- of so many steps the last leads to an end, and none before it does
pub record EndsAtLast (stops : List ℕ) (limit : ℕ) (d : Debugged) (steps : ℕ) (reason : GoReason)
    (printed : List ℕ) (t : Debugged) : Type 0 where
  pub quiet : ℕ
  pub mid : Debugged
  pub before : List ℕ
  pub event : Option BoardEvent
  pub passing : PassingSteps stops quiet d before mid
  pub last : ServedStep mid event t
  pub ends : EndsBy stops event t reason
  pub counted : steps ≡ suc quiet
  pub within : steps ≤ limit
  pub prints : printed ≡ before ++ printed_by event

-- A board goes on from d to t by so many steps, up to the limit or to a step that leads to an end.
abbrev pub GoesTo : List ℕ → ℕ → Debugged → ℕ → GoReason → List ℕ → Debugged → Type 0
GoesTo stops limit d steps Reason.Limit printed t =
    (steps ≡ limit) × PassingSteps stops steps d printed t
GoesTo stops limit d steps reason printed t = EndsAtLast stops limit d steps reason printed t
