-- Runs of a board of which each step is shown: to a watcher, with what the step did, and with the
-- record of what it retired (rrs_machine).
use Rattle.std.specs.Prelude.{◌≡◌, ℕ, suc, ◌+◌, ◌≤◌, ◌||◌, not, Bool, true, Some, None}
use Rattle.rrs_machine.specs.declared.machine.MachineAnswer.{MachineAnswer}
use Rattle.rrs_machine.specs.MachineRecords.{is_instruction, is_raised, MachineRetires}
use Rattle.rrs_board.specs.declared.board.Board.{Board}
use Rattle.rrs_board.specs.declared.runs.RecordedStep.{RecordedStep}
use Rattle.rrs_board.specs.declared.runs.WatchedRuns.{WatchedRuns}
use Rattle.rrs_board.specs.Boards.{machine_with, BoardStepped}
use Rattle.rrs_board.specs.Effects.{inputs_of}
use Rattle.rrs_board.specs.Terminals.{Runner}

-- the step took a trap, so that the next instruction is the first one of a handler
abbrev pub takes_trap : MachineAnswer → Bool
takes_trap answer = is_raised answer || not (is_instruction answer)

-- What a step of a board did and retired, with this number, where first says that the step before
-- took a trap: the hart is the board's before the devices answer.
pub record IsRecorded (number : ℕ) (first : Bool) (old new : Board) (r : RecordedStep)
    : Type 0 where
  pub stepped : BoardStepped old new r.step.answer r.step.event
  pub retires : MachineRetires number first (inputs_of old.memory.devices)
      (machine_with old old.memory) (machine_with new stepped.between) r.step.answer r.retired

-- By what a step that is shown makes of a watcher:
module _ {V : Type 0} (sees : V → RecordedStep → V → Type 0) where
  -- The step of this number is made, and is shown. What is kept beside the watcher is whether it
  -- took a trap.
  pub record IsShown (number : ℕ) (v : WatchedRuns V) (old new : Board) (r : RecordedStep)
      (w : WatchedRuns V) : Type 0 where
    pub recorded : IsRecorded number v.is_first old new r
    pub seen : sees v.watcher r w.watcher
    pub first : w.is_first ≡ takes_trap r.step.answer

-- And by whether a watcher wants to see more:
module _ {V : Type 0} (sees : V → RecordedStep → V → Type 0) (wants : V → Bool) where
  -- From a board on so many steps were made, of which the caller is told nothing. Each was shown
  -- once, in order, with its number, to a watcher that wants to see it. So many as made were made
  -- before.
  pub data QuietlyShown (made : ℕ) (v : WatchedRuns V) (old : Board)
      : ℕ → Board → WatchedRuns V → Type 0 where
    NoStep : QuietlyShown made v old 0 old v
    OneMore : (n : ℕ) (mid new : Board) (u w : WatchedRuns V) (r : RecordedStep)
        → QuietlyShown made v old n mid u → wants u.watcher ≡ true
        → IsShown sees (made + n) u mid new r w → r.step.event ≡ None
        → QuietlyShown made v old (suc n) new w

  -- A run up to the limit, or, where the watcher wants no more, of fewer steps; or up to a step of
  -- which the caller is told. Each of its steps was shown.
  abbrev pub watched_runs : Runner (WatchedRuns V)
  watched_runs v made most old steps None new w =
      (steps ≤ most) × (wants w.watcher ≡ true → steps ≡ most)
      × QuietlyShown made v old steps new w
  watched_runs v made most old steps (Some event) new w =
      (mid : Board) × (u : WatchedRuns V) × (r : RecordedStep) × (quiet : ℕ)
      × (steps ≡ suc quiet) × (steps ≤ most)
      × QuietlyShown made v old quiet mid u × (wants u.watcher ≡ true)
      × IsShown sees (made + quiet) u mid new r w × (r.step.event ≡ Some event)
