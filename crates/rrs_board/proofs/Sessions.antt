-- A session at a terminal: where it starts, what one event more makes of it, and how it ends.
use Rattle.std.proofs.Common.{◌≡◌, ℕ, Bool, true, false, inr, Result, Ok, Err, IfOk, IfErr, ◌+◌, ◌-◌, List, [], ◌++◌, Option, Some, None, IfSome, refl, sym, subst, append-nil}
use Rattle.std.specs.Io.KnownBytes.{Consumes, Keeps, IsAtEnd}
use Rattle.std.proofs.KnownBytes.{Consumes-nil, Appends-nil, Appends-trans, Appends-kept, Consumes-trans, Consumes-whole, Keeps-refl}
use Rattle.rrs_board.specs.declared.asking.Asking.{Asking}
use Rattle.rrs_board.specs.declared.board.Board.{Board}
use Rattle.rrs_board.specs.declared.board.BoardEnd.{BoardEnd}
use Rattle.rrs_board.specs.declared.effects.BoardEvent.{BoardEvent}
use Rattle.rrs_board.specs.declared.effects.BoardEvent.TheVariants.{Transmitted, Looked, Finished, Waits, NothingWakes, Spins, LacksHandler, Restarts}
use Rattle.rrs_board.specs.declared.input.InputAnswer.{InputAnswer}
use Rattle.rrs_board.specs.declared.input.InputAnswer.TheVariants.{Nothing}
use Rattle.rrs_board.specs.declared.terminal.TerminalError.{TerminalError}
use Rattle.rrs_board.specs.declared.terminal.TerminalError.TheVariants.{Output}
use Rattle.rrs_board.specs.Effects.{waits_for_input}
use Rattle.rrs_board.specs.Inputs.{Listener, typed_by}
use Rattle.rrs_board.specs.Terminals.{Runner, printed_by, ended_after, asking_after, HearsAt, HearsLast, HearsStopped, Goes, Session, Served, ServedAndRun, EndsSession, EndedSession, StoppedSession, GoesOn, EndsBy, Untouched, Ends, Fails}

-- nothing was touched
pub untouched : {I : Type 0} (remaining : I → Option (List ℕ)) (b : Board) (input : I) (before : Option (List ℕ))
    → Untouched remaining b b input input before before
untouched remaining b input before = record {
  same = refl;
  consumed = Consumes-nil (remaining input);
  kept = Keeps-refl before;
}

is_false : (b : Bool) → (b ≡ true → ⊥) → b ≡ false
is_false true fails = absurd (fails refl)
is_false false fails = refl

pub never_both : (P : Type 0) (b : Bool) → b ≡ true → b ≡ false → P
never_both P b holds fails = absurd (cc (holds, fails))

-- where nothing more was read, and the input is at its end, all of it was typed
typed_all : (input rest : Option (List ℕ)) (typed : List ℕ)
    → Consumes input rest typed → IsAtEnd rest → IfSome input (λ all. all ≡ typed)
typed_all input rest typed given ended =
    Consumes-whole input rest typed (λ all. all ≡ typed) given ended refl

-- nothing more was read
pub consumed_none : (input between rest : Option (List ℕ)) (typed : List ℕ)
    → Consumes input between typed → Consumes between rest [] → Consumes input rest typed
consumed_none input between rest typed given none =
    subst (λ bs. Consumes input rest bs) (append-nil typed)
    (Consumes-trans input between rest typed [] given none)

ends_by : (input rest : Option (List ℕ)) (typed : List ℕ) (event : BoardEvent) (b : Board) (ended : Bool)
    → EndsBy event b ended → (ended ≡ true → IsAtEnd rest) → Consumes input rest typed
    → EndsSession (Some event) b ended input typed
ends_by input rest typed (Finished status) b ended ends at_end consumed = tt
ends_by input rest typed Spins b ended ends at_end consumed = tt
ends_by input rest typed LacksHandler b ended ends at_end consumed = tt
ends_by input rest typed Restarts b ended ends at_end consumed = tt
ends_by input rest typed NothingWakes b ended ends at_end consumed =
    λ waits. (ends waits, typed_all input rest typed consumed (at_end (ends waits)))
ends_by input rest typed (Transmitted byte) b ended ends at_end consumed = absurd ends
ends_by input rest typed Looked b ended ends at_end consumed = absurd ends
ends_by input rest typed Waits b ended ends at_end consumed = absurd ends

-- where the end of the input is not seen, no wait that input can end is the end
pub never_waits : (event : BoardEvent) (b : Board) (ended : Bool) (steps : ℕ) (r : Result BoardEnd TerminalError)
    → EndsBy event b ended → ended ≡ false
    → IfOk r (λ end. (end.steps ≡ steps) × (end.event ≡ Some event))
    → IfOk r (λ end. end.event ≡ Some NothingWakes → waits_for_input b.memory.devices ≡ false)
never_waits event b ended steps (Err error) ends unseen is = tt
never_waits (Finished status) b ended steps (Ok end) ends unseen is = λ at. absurd (cc (at, is.1))
never_waits Spins b ended steps (Ok end) ends unseen is = λ at. absurd (cc (at, is.1))
never_waits LacksHandler b ended steps (Ok end) ends unseen is = λ at. absurd (cc (at, is.1))
never_waits Restarts b ended steps (Ok end) ends unseen is = λ at. absurd (cc (at, is.1))
never_waits NothingWakes b ended steps (Ok end) ends unseen is =
    λ at. is_false (waits_for_input b.memory.devices) (λ waits. absurd (cc (ends waits, unseen)))
never_waits (Transmitted byte) b ended steps (Ok end) ends unseen is = absurd ends
never_waits Looked b ended steps (Ok end) ends unseen is = absurd ends
never_waits Waits b ended steps (Ok end) ends unseen is = absurd ends

-- the limit is no wait
pub none_waits : (b : Board) (steps : ℕ) (r : Result BoardEnd TerminalError)
    → IfOk r (λ end. (end.steps ≡ steps) × (end.event ≡ None))
    → IfOk r (λ end. end.event ≡ Some NothingWakes → waits_for_input b.memory.devices ≡ false)
none_waits b steps (Err error) is = tt
none_waits b steps (Ok end) is = λ at. absurd (cc (at, is.1))

-- an event that is named
pub run_is : {V : Type 0} (runs : Runner V) (v w : V) (made most more : ℕ) (old mid : Board) (e f : Option BoardEvent)
    → runs v made most old more e mid w → e ≡ f → runs v made most old more f mid w
run_is runs v w made most more old mid e f run is = subst (λ x. runs v made most old more x mid w) is run

-- ---- sessions

module _ {V I : Type 0} (runs : Runner V) (says : Listener I) (remaining : I → Option (List ℕ)) (polled : Bool) (limit : ℕ)
    (start : Board) (begun : V) (first : I) where
  pub session_starts : (asking : Asking) (before : Option (List ℕ))
      → asking ≡ record { is_polled = polled; looks = 0; has_ended = false }
      → Served runs says polled limit start begun first remaining before before 0 asking start begun first
  session_starts asking before is = record {
    typed = [];
    printed = [];
    session = subst (λ a. Session runs says polled limit start begun first 0 [] [] a start begun first) (sym is)
        Session.Starts;
    consumed = Consumes-nil (remaining first);
    appended = Appends-nil before;
  }

  -- a run of the board, whose event is served
  pub session_goes : (before between after : Option (List ℕ)) (steps more : ℕ) (asking noted : Asking) (event : BoardEvent)
      (old mid new : Board) (v w : V) (input rest : I)
      → Served runs says polled limit start begun first remaining before between steps asking old v input
      → runs v steps (limit - steps) old more (Some event) mid w
      → GoesOn says remaining asking noted event mid new input rest between after
      → Served runs says polled limit start begun first remaining before after (steps + more) noted new w rest
  session_goes before between after steps more asking noted event old mid new v w input rest so_far run served =
      let typed = so_far.typed ++ typed_by served.answer in
      let printed = so_far.printed ++ printed_by event in
      let goes : Goes event (asking_after asking event served.answer) mid =
      subst (λ a. Goes event a mid) served.noted served.goes in
      let all : Session runs says polled limit start begun first (steps + more) typed printed
      (asking_after asking event served.answer) new w rest =
      Session.Runs served.answer so_far.session run served.heard served.succeeds goes served.arrives in
      record {
        typed = typed;
        printed = printed;
        session = subst (λ a. Session runs says polled limit start begun first (steps + more) typed printed a new w rest)
            (sym served.noted) all;
        consumed = Consumes-trans (remaining first) (remaining input) (remaining rest) so_far.typed
            (typed_by served.answer) so_far.consumed served.consumed;
        appended = Appends-trans before between after so_far.printed (printed_by event) so_far.appended served.appended;
      }

  -- a run of the board, whose event is not served
  abbrev pub session_run : (before between after : Option (List ℕ)) (steps more : ℕ) (asking : Asking)
      (event : Option BoardEvent) (old mid new : Board) (v w : V) (input rest : I)
      → Served runs says polled limit start begun first remaining before between steps asking old v input
      → runs v steps (limit - steps) old more event mid w
      → Untouched remaining mid new input rest between after
      → ServedAndRun runs says polled limit start begun first remaining before after (steps + more) event new w rest
  session_run before between after steps more asking event old mid new v w input rest so_far run stays = record {
    earlier = steps;
    more = more;
    asking = asking;
    mid = old;
    at = v;
    input = input;
    served = record {
      typed = so_far.typed;
      printed = so_far.printed;
      session = so_far.session;
      consumed = so_far.consumed;
      appended = Appends-kept before between after so_far.printed so_far.appended stays.kept;
    };
    last = subst (λ b. runs v steps (limit - steps) old more event b w) (sym stays.same) run;
    counted = refl;
    unread = stays.consumed;
  }

  -- what is printed is flushed
  abbrev pub flushed : (before between after : Option (List ℕ)) (steps : ℕ) (event : Option BoardEvent) (new : Board) (w : V)
      (rest : I)
      → ServedAndRun runs says polled limit start begun first remaining before between steps event new w rest
      → Keeps between after
      → ServedAndRun runs says polled limit start begun first remaining before after steps event new w rest
  flushed before between after steps event new w rest made kept = record {
    earlier = made.earlier;
    more = made.more;
    asking = made.asking;
    mid = made.mid;
    at = made.at;
    input = made.input;
    served = record {
      typed = made.served.typed;
      printed = made.served.printed;
      session = made.served.session;
      consumed = made.served.consumed;
      appended = Appends-kept before between after made.served.printed made.served.appended kept;
    };
    last = made.last;
    counted = made.counted;
    unread = made.unread;
  }

  -- the output is flushed at the end
  pub session_finishes : (before between after : Option (List ℕ)) (steps : ℕ) (event : Option BoardEvent) (new : Board)
      (w : V) (rest : I) (answer : InputAnswer) (r : Result BoardEnd TerminalError)
      → (made : ServedAndRun runs says polled limit start begun first remaining before between steps event new w rest)
      → HearsLast says made.asking event new made.input answer rest
      → EndsSession event new (ended_after made.asking answer) (remaining first) made.served.typed
      → Keeps between after
      → IfOk r (λ end. (end.steps ≡ steps) × (end.event ≡ event))
      → IfErr r (λ error. error ≡ Output)
      → IfOk r (λ end. EndedSession runs says remaining polled limit start begun first rest before after
      end.steps end.event new w)
      × IfErr r (λ error. StoppedSession runs says remaining polled limit start begun first rest before after error new w)
  session_finishes before between after steps event new w rest answer (Ok end) made heard ends kept is fails =
      let all : EndedSession runs says remaining polled limit start begun first rest before after steps event new w =
      record {
        made = flushed before between after steps event new w rest made kept;
        answer = answer;
        heard = heard;
        ends = ends;
      } in
      (rw (is.0, is.1) all, tt)
  session_finishes before between after steps event new w rest answer (Err error) made heard ends kept is fails =
      let all : StoppedSession runs says remaining polled limit start begun first rest before after Output new w =
      record {
        steps = steps;
        event = event;
        made = flushed before between after steps event new w rest made kept;
        heard = inr (answer, heard);
      } in (
        tt,
        subst (λ e. StoppedSession runs says remaining polled limit start begun first rest before after e new w)
            (sym fails) all,
      )

  -- the board stays at the event of its last run
  pub session_ends : (before between flushed after : Option (List ℕ)) (steps more : ℕ) (asking noted : Asking)
      (event : BoardEvent) (old mid new : Board) (v w : V) (input rest : I) (r : Result BoardEnd TerminalError)
      → Served runs says polled limit start begun first remaining before between steps asking old v input
      → runs v steps (limit - steps) old more (Some event) mid w
      → Ends says remaining asking noted event mid new input rest between flushed
      → (noted.has_ended ≡ true → IsAtEnd (remaining rest))
      → Keeps flushed after
      → IfOk r (λ end. (end.steps ≡ steps + more) × (end.event ≡ Some event))
      → IfErr r (λ error. error ≡ Output)
      → IfOk r (λ end. EndedSession runs says remaining polled limit start begun first rest before after
      end.steps end.event new w)
      × IfErr r (λ error. StoppedSession runs says remaining polled limit start begun first rest before after error new w)
  session_ends before between flushed after steps more asking noted event old mid new v w input rest r so_far run ends at_end kept is fails =
      let stays = ends.untouched in
      let made = session_run before between flushed steps more asking (Some event) old mid new v w input rest so_far run stays in
      let heard : HearsAt says asking event new input ends.answer rest =
      subst (λ b. HearsAt says asking event b input ends.answer rest) (sym stays.same) ends.heard in
      let all : EndsSession (Some event) mid noted.has_ended (remaining first) so_far.typed =
      ends_by (remaining first) (remaining rest) so_far.typed event mid noted.has_ended ends.ends at_end
      (consumed_none (remaining first) (remaining input) (remaining rest) so_far.typed so_far.consumed stays.consumed) in
      let there : EndsSession (Some event) new noted.has_ended (remaining first) so_far.typed =
      subst (λ b. EndsSession (Some event) b noted.has_ended (remaining first) so_far.typed) (sym stays.same) all in
      let known : EndsSession (Some event) new (ended_after asking ends.answer) (remaining first) so_far.typed =
      subst (λ (a : Asking). EndsSession (Some event) new a.has_ended (remaining first) so_far.typed) ends.noted there in
      session_finishes before flushed after (steps + more) (Some event) new w rest ends.answer r made heard known kept is fails

  -- the limit
  pub session_limit : (before between after : Option (List ℕ)) (steps more : ℕ) (asking : Asking)
      (old new : Board) (v w : V) (input : I) (r : Result BoardEnd TerminalError)
      → Served runs says polled limit start begun first remaining before between steps asking old v input
      → runs v steps (limit - steps) old more None new w
      → Keeps between after
      → IfOk r (λ end. (end.steps ≡ steps + more) × (end.event ≡ None))
      → IfErr r (λ error. error ≡ Output)
      → IfOk r (λ end. EndedSession runs says remaining polled limit start begun first input before after
      end.steps end.event new w)
      × IfErr r (λ error. StoppedSession runs says remaining polled limit start begun first input before after error new w)
  session_limit before between after steps more asking old new v w input r so_far run kept is fails =
      let made = session_run before between between steps more asking None old new new v w input input so_far run
      (untouched remaining new input between) in
      session_finishes before between after (steps + more) None new w input Nothing r made (refl, refl) tt kept is fails

  -- an event that can't be served
  pub session_stops : (before between after : Option (List ℕ)) (steps more : ℕ) (asking : Asking) (event : BoardEvent)
      (old mid new : Board) (v w : V) (input rest : I) (error : TerminalError)
      → Served runs says polled limit start begun first remaining before between steps asking old v input
      → runs v steps (limit - steps) old more (Some event) mid w
      → Fails says remaining error asking event mid new input rest between after
      → StoppedSession runs says remaining polled limit start begun first rest before after error new w
  session_stops before between after steps more asking event old mid new v w input rest error so_far run failed = record {
    steps = steps + more;
    event = Some event;
    made = session_run before between after steps more asking (Some event) old mid new v w input rest so_far run
        failed.untouched;
    heard = subst (λ b. HearsStopped says error asking (Some event) b input rest) (sym failed.untouched.same) failed.heard;
  }
