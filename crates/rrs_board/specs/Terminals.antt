-- A board at a terminal. What the program transmits is printed, and what is typed arrives at its
-- UART. Between two runs of the board the input may be asked, and a byte of it arrives, where the
-- UART holds none. When the input is asked is said here; when a person types is no part of this.
-- Nor is what makes the runs: it makes steps of the board, and may keep what it has seen of them.
use Rattle.std.specs.Prelude.{◌≡◌, ◌≢◌, ℕ, ◌+◌, ◌-◌, ◌||◌, ◌⊎◌, not, Bool, true, false, List, [], ◌∷◌, ◌++◌, nat_lt, if◌then◌else◌, Option, Some, None, IfSome}
use Rattle.std.specs.Io.KnownBytes.{Appends, Consumes, Keeps}
use Rattle.rrs_board.specs.declared.asking.Asking.{Asking}
use Rattle.rrs_board.specs.declared.board.Board.{Board}
use Rattle.rrs_board.specs.declared.effects.BoardEvent.{BoardEvent}
use Rattle.rrs_board.specs.declared.effects.BoardEvent.TheVariants.{Transmitted, Looked, Finished, Waits, NothingWakes, Spins, LacksHandler, Restarts}
use Rattle.rrs_board.specs.declared.input.InputAnswer.{InputAnswer}
use Rattle.rrs_board.specs.declared.input.InputAnswer.TheVariants.{Nothing, Ended, Failed}
use Rattle.rrs_board.specs.declared.input.Patience.{Patience}
use Rattle.rrs_board.specs.declared.input.Patience.TheVariants.{AtOnce, Millisecond, Endless}
use Rattle.rrs_board.specs.declared.terminal.TerminalError.{TerminalError}
use Rattle.rrs_board.specs.declared.terminal.TerminalError.TheVariants.{Input, Output}
use Rattle.rrs_board.specs.Uart.{has_byte}
use Rattle.rrs_board.specs.Effects.{arrived, waits_for_input}
use Rattle.rrs_board.specs.Boards.{BoardRun}
use Rattle.rrs_board.specs.Inputs.{Listener, typed_by}

-- the board after a byte arrived at its UART
abbrev pub with_input : ℕ → Board → Board
with_input byte b =
    record b { memory = record b.memory { devices = arrived byte b.memory.devices } }

-- none or one byte arrives, where the UART holds none
abbrev pub Arrives : List ℕ → Board → Board → Type 0
Arrives [] old new = new ≡ old
Arrives (byte ∷ []) old new = (old.memory.devices.uart.received ≡ None) × (new ≡ with_input byte old)
Arrives (byte ∷ (other ∷ bytes)) old new = ⊥

abbrev pub printed_by : BoardEvent → List ℕ
printed_by (Transmitted byte) = byte ∷ []
printed_by _ = []

-- ---- when the input is asked

-- How many looks in a row found no byte, with none transmitted between them, after an event. The
-- thousandth asks for input, and they are counted anew.
abbrev pub looks_after : BoardEvent → ℕ → ℕ
looks_after (Transmitted byte) looks = 0
looks_after Looked looks = if nat_lt (looks + 1) 1000 then looks + 1 else 0
looks_after event looks = looks

-- The input is asked after the thousandth look, which does not wait; where it is polled at a wait
-- that an alarm can end, which waits a millisecond; and at a wait that only input can end, which
-- waits without limit.
abbrev pub patience_at : Asking → BoardEvent → Board → Option Patience
patience_at asking Looked b = if nat_lt (asking.looks + 1) 1000 then None else Some AtOnce
patience_at asking Waits b = if asking.is_polled then Some Millisecond else None
patience_at asking NothingWakes b = if waits_for_input b.memory.devices then Some Endless else None
patience_at asking event b = None

-- It is not asked once it is at its end, nor where the UART holds a byte.
abbrev pub asked_with : Asking → Board → Option Patience → Option Patience
asked_with asking b patience =
    if asking.has_ended || has_byte b.memory.devices.uart then None else patience

-- Of an input that is polled no answer is the end.
abbrev pub ended_after : Asking → InputAnswer → Bool
ended_after asking Ended = not asking.is_polled
ended_after asking answer = asking.has_ended

-- what is known of the looks and of the input after an event at which it gave this answer
abbrev pub asking_after : Asking → BoardEvent → InputAnswer → Asking
asking_after asking event answer =
    record asking { looks = looks_after event asking.looks; has_ended = ended_after asking answer }

-- Where the input is to be asked it is asked once, and answers. Else it stays as it is.
abbrev pub Hears : {I : Type 0} → Listener I → Option Patience → I → InputAnswer → I → Type 0
Hears says None input answer rest = (answer ≡ Nothing) × (rest ≡ input)
Hears says (Some patience) input answer rest = says input patience answer rest

abbrev pub HearsAt : {I : Type 0} → Listener I → Asking → BoardEvent → Board
    → I → InputAnswer → I → Type 0
HearsAt says asking event b input answer rest =
    Hears says (asked_with asking b (patience_at asking event b)) input answer rest

-- the same at the event of a last run, or at its limit
abbrev pub HearsLast : {I : Type 0} → Listener I → Asking → Option BoardEvent → Board
    → I → InputAnswer → I → Type 0
HearsLast says asking None b input answer rest = (answer ≡ Nothing) × (rest ≡ input)
HearsLast says asking (Some event) b input answer rest =
    HearsAt says asking event b input answer rest

-- ---- sessions

-- the events after which a board goes on: a wait that no alarm can end is one where input can end
-- it, and is not at its end
abbrev pub Goes : BoardEvent → Asking → Board → Type 0
Goes (Finished status) asking b = ⊥
Goes Spins asking b = ⊥
Goes LacksHandler asking b = ⊥
Goes Restarts asking b = ⊥
Goes NothingWakes asking b =
    (waits_for_input b.memory.devices ≡ true) × (asking.has_ended ≡ false)
Goes event asking b = Unit {0}

-- What runs boards, by what it keeps: after so many steps that were made before, at most so many
-- are made from a board on; how many were, the event of the last one, and the board after them.
abbrev pub Runner : Type 0 → Type 1
Runner V = V → ℕ → ℕ → Board → ℕ → Option BoardEvent → Board → V → Type 0

-- the runs of a board alone, of which nothing is kept
abbrev pub plain_runs : {V : Type 0} → Runner V
plain_runs v made most old steps event new w = BoardRun most old steps event new

-- By what runs the board, what is typed and whether that is polled, the limit, and what the board
-- and these were at the start:
module _ {V I : Type 0} (runs : Runner V) (says : Listener I) (polled : Bool) (limit : ℕ)
    (start : Board) (begun : V) (first : I) where
  -- So many steps were made, these bytes of the input were typed and these printed, and then the
  -- board is this one, and this is known of the looks and of the input.
  pub data Session : ℕ → List ℕ → List ℕ → Asking → Board → V → I → Type 0 where
    Starts : Session 0 [] [] (record { is_polled = polled; looks = 0; has_ended = false })
        start begun first
    -- a run of the board, what it transmits is printed, the input is asked where it is to be, and
    -- then a byte may arrive
    Runs : {steps more : ℕ} {typed printed : List ℕ} {asking : Asking} {event : BoardEvent}
        {old mid new : Board} {v w : V} {input rest : I}
        → (answer : InputAnswer) → Session steps typed printed asking old v input
        → runs v steps (limit - steps) old more (Some event) mid w
        → HearsAt says asking event mid input answer rest → answer ≢ Failed
        → Goes event (asking_after asking event answer) mid → Arrives (typed_by answer) mid new
        → Session (steps + more) (typed ++ typed_by answer) (printed ++ printed_by event)
        (asking_after asking event answer) new w rest

  -- A session so far, by the bytes of the input and of the output before and after it, where these
  -- are known: what was typed was read, what was transmitted was printed, and nothing else.
  pub record Served (remaining : I → Option (List ℕ)) (before after : Option (List ℕ))
      (steps : ℕ) (asking : Asking) (new : Board) (v : V) (rest : I) : Type 0 where
    pub typed : List ℕ
    pub printed : List ℕ
    pub session : Session steps typed printed asking new v rest
    pub consumed : Consumes (remaining first) (remaining rest) typed
    pub appended : Appends before after printed

  -- the session so far, and a further run of the board, after which nothing is typed or printed
  pub record ServedAndRun (remaining : I → Option (List ℕ)) (before after : Option (List ℕ))
      (steps : ℕ) (event : Option BoardEvent) (new : Board) (w : V) (rest : I) : Type 0 where
    pub earlier : ℕ
    pub more : ℕ
    pub asking : Asking
    pub mid : Board
    pub at : V
    pub input : I
    pub served : Served remaining before after earlier asking mid at input
    pub last : runs at earlier (limit - earlier) mid more event new w
    pub counted : steps ≡ earlier + more
    pub unread : Consumes (remaining input) (remaining rest) []

-- The events at which a session ends: at a wait that input can end the input is at its end, and all
-- of it was typed.
abbrev pub EndsSession : Option BoardEvent → Board → Bool → Option (List ℕ) → List ℕ → Type 0
EndsSession None b ended input typed = Unit {0}
EndsSession (Some (Finished status)) b ended input typed = Unit {0}
EndsSession (Some Spins) b ended input typed = Unit {0}
EndsSession (Some LacksHandler) b ended input typed = Unit {0}
EndsSession (Some Restarts) b ended input typed = Unit {0}
EndsSession (Some NothingWakes) b ended input typed =
    waits_for_input b.memory.devices ≡ true
    → (ended ≡ true) × IfSome input (λ all. all ≡ typed)
EndsSession (Some event) b ended input typed = ⊥

-- the events at which the input may be asked
abbrev pub Asks : BoardEvent → Type 0
Asks (Transmitted byte) = ⊥
Asks (Finished status) = ⊥
Asks Spins = ⊥
Asks LacksHandler = ⊥
Asks Restarts = ⊥
Asks event = Unit {0}

abbrev pub AsksAt : Option BoardEvent → Type 0
AsksAt None = ⊥
AsksAt (Some event) = Asks event

-- What was heard where the input can't be read, and where the output can't be written, which is
-- before the input is asked.
abbrev pub HearsUnread : {I : Type 0} → Listener I → TerminalError → Option Patience
    → I → I → Type 0
HearsUnread says Input patience input rest = Hears says patience input Failed rest
HearsUnread says Output patience input rest = rest ≡ input

-- What was heard at the event of a last run: that the input can't be read; or, where the output
-- can't be written, the input was asked before or it was not.
abbrev pub HearsStopped : {I : Type 0} → Listener I → TerminalError → Asking → Option BoardEvent
    → Board → I → I → Type 0
HearsStopped says Input asking event b input rest =
    AsksAt event × HearsLast says asking event b input Failed rest
HearsStopped says Output asking event b input rest =
    (rest ≡ input)
    ⊎ ((answer : InputAnswer) × HearsLast says asking event b input answer rest)

module _ {V I : Type 0} (runs : Runner V) (says : Listener I) (remaining : I → Option (List ℕ))
    (polled : Bool) (limit : ℕ) (start : Board) (begun : V) (first : I) where
  -- A session ends at the limit, with the program or at its restart, where the hart is dead, or at
  -- a wait that nothing ends.
  pub record EndedSession (rest : I) (before after : Option (List ℕ))
      (steps : ℕ) (event : Option BoardEvent) (new : Board) (w : V) : Type 0 where
    pub made : ServedAndRun runs says polled limit start begun first
        remaining before after steps event new w rest
    pub answer : InputAnswer
    pub heard : HearsLast says made.asking event new made.input answer rest
    pub ends : EndsSession event new (ended_after made.asking answer)
        (remaining first) made.served.typed

  -- A session is stopped where the input can't be read, or a write or a flush of the output fails:
  -- the event of the last run was not served.
  pub record StoppedSession (rest : I) (before after : Option (List ℕ))
      (error : TerminalError) (new : Board) (w : V) : Type 0 where
    pub steps : ℕ
    pub event : Option BoardEvent
    pub made : ServedAndRun runs says polled limit start begun first
        remaining before after steps event new w rest
    pub heard : HearsStopped says error made.asking event new made.input rest

-- ---- one event

-- the input is at its end at a wait that input can end
abbrev pub EndsBy : BoardEvent → Board → Bool → Type 0
EndsBy (Finished status) b ended = Unit {0}
EndsBy Spins b ended = Unit {0}
EndsBy LacksHandler b ended = Unit {0}
EndsBy Restarts b ended = Unit {0}
EndsBy NothingWakes b ended = waits_for_input b.memory.devices ≡ true → ended ≡ true
EndsBy event b ended = ⊥

-- nothing was read, and nothing written
pub record Untouched {I : Type 0} (remaining : I → Option (List ℕ)) (old new : Board)
    (input rest : I) (before after : Option (List ℕ)) : Type 0 where
  pub same : new ≡ old
  pub consumed : Consumes (remaining input) (remaining rest) []
  pub kept : Keeps before after

-- By what is typed, and what is still to come of it:
module _ {I : Type 0} (says : Listener I) (remaining : I → Option (List ℕ)) where
  -- The input was asked with this patience, where it is to be asked, and a byte that came arrives.
  pub record Asked (patience : Option Patience) (asking after : Asking) (old new : Board)
      (input rest : I) (before flushed : Option (List ℕ)) : Type 0 where
    pub answer : InputAnswer
    pub heard : Hears says (asked_with asking old patience) input answer rest
    pub succeeds : answer ≢ Failed
    pub noted : after ≡ record asking { has_ended = ended_after asking answer }
    pub arrives : Arrives (typed_by answer) old new
    pub consumed : Consumes (remaining input) (remaining rest) (typed_by answer)
    pub kept : Keeps before flushed

  -- An event was served, by the bytes of the output before and after it, and the board goes on.
  pub record GoesOn (asking after : Asking) (event : BoardEvent) (old new : Board)
      (input rest : I) (before printed : Option (List ℕ)) : Type 0 where
    pub answer : InputAnswer
    pub heard : HearsAt says asking event old input answer rest
    pub succeeds : answer ≢ Failed
    pub noted : after ≡ asking_after asking event answer
    pub goes : Goes event after old
    pub arrives : Arrives (typed_by answer) old new
    pub consumed : Consumes (remaining input) (remaining rest) (typed_by answer)
    pub appended : Appends before printed (printed_by event)

  -- an event at which the board does not go on
  pub record Ends (asking after : Asking) (event : BoardEvent) (old new : Board)
      (input rest : I) (before flushed : Option (List ℕ)) : Type 0 where
    pub answer : InputAnswer
    pub heard : HearsAt says asking event old input answer rest
    pub noted : after ≡ asking_after asking event answer
    pub ends : EndsBy event old after.has_ended
    pub untouched : Untouched remaining old new input rest before flushed

  -- the event can't be served
  pub record Fails (error : TerminalError) (asking : Asking) (event : BoardEvent)
      (old new : Board) (input rest : I) (before after : Option (List ℕ)) : Type 0 where
    pub heard : HearsStopped says error asking (Some event) old input rest
    pub untouched : Untouched remaining old new input rest before after
