-- The records of a board at a terminal: what each of its steps did and retired, in order.
use Rattle.std.specs.Prelude.{ℕ, Bool, false, List, [], Option}
use Rattle.rrs_board.specs.declared.board.Board.{Board}
use Rattle.rrs_board.specs.declared.effects.BoardEvent.{BoardEvent}
use Rattle.rrs_board.specs.declared.runs.RecordedStep.{RecordedStep}
use Rattle.rrs_board.specs.declared.runs.WatchedRuns.{WatchedRuns}
use Rattle.rrs_board.specs.WatchedBoards.{watched_runs}
use Rattle.rrs_board.specs.Inputs.{Listener}
use Rattle.rrs_board.specs.Terminals.{plain_runs, EndedSession}
use Rattle.rrs_reports.specs.Records.{keeps, wants_all}

-- a list to which each step is appended, and whether the latest one took a trap
abbrev pub listing : List RecordedStep → Bool → WatchedRuns (List RecordedStep)
listing records first = record { watcher = records; is_first = first }

-- A session ended so that is one of `rrs board`, and these are the records of its steps.
pub record BoardWithRecords {I : Type 0} (says : Listener I) (remaining : I → Option (List ℕ))
    (polled : Bool) (limit : ℕ) (start : Board) (input rest : I) (before after : Option (List ℕ))
    (steps : ℕ) (event : Option BoardEvent) (new : Board) (records : List RecordedStep)
    : Type 0 where
  pub plain : EndedSession (plain_runs {V = Unit {0}}) says remaining polled limit start tt input
      rest before after steps event new tt
  pub first : Bool
  pub recorded : EndedSession (watched_runs keeps wants_all) says remaining polled limit start
      (listing [] false) input rest before after steps event new (listing records first)
