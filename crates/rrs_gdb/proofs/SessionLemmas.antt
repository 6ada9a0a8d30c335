-- What packets leave as it was, and the calls between the runs of a program that goes on.
use Rattle.std.proofs.Common.{◌≡◌, ◌≢◌, ◌⊎◌, ℕ, zero, suc, List, [], ◌∷◌, ◌++◌, Bool, true, false, Contains, Option, Some, None, Result, Ok, Err, OnOk, IfOk, IfNone, MatchOption, ◌+◌, ◌-◌, ◌<◌, ◌≤◌, drop, length, take, take_all, slice_index, refl, sym, subst, ap, ◌∙◌, inl, inr, arith}
use Rattle.std.specs.Bool.{OnTrue, OnFalse}
use Rattle.std.proofs.lemmas.Bool.{OnTrue_from}
use Rattle.std.proofs.lemmas.List.{append_cancel_left, length-drop}
use Rattle.rrs_lib.specs.declared.instruction_executor.InstructionException.{InstructionException}
use Rattle.rrs_lib.specs.declared.instruction_executor.InstructionException.TheVariants.{IllegalInstruction, Breakpoint, AlignmentFault, FetchError, LoadAccessFault, StoreAccessFault, EnvironmentCall}
use Rattle.rrs_lib.specs.Accesses.{Access}
use Rattle.rrs_lib.specs.Machine.{State, with_pc}
use Rattle.rrs_linux.specs.Recording.{Recording, Records}
use Rattle.rrs_history.specs.declared.history.History.{History}
use Rattle.rrs_history.specs.Histories.{changes, past, room}
use Rattle.rrs_history.specs.Calls.{RemembersCall, ServesCall}
use Rattle.rrs_words.specs.declared.csrs.HartProfile.{HartProfile}
use Rattle.rrs_lib.specs.Steps.{StepAnswer}
use Rattle.rrs_hart.specs.Harts.{hart_with}
use Rattle.rrs_gdb.specs.declared.breaks.Watch.{Watch}
use Rattle.rrs_gdb.specs.declared.forward.ForwardReason.{ForwardReason}
use Rattle.rrs_gdb.specs.declared.forward.ForwardReason.TheVariants.{AtStop, Touches, Limit, Fault}
use Rattle.rrs_gdb.specs.declared.session.Going.{Going}
use Rattle.rrs_gdb.specs.declared.session.Going.TheVariants.{Step, Proceed, Killed}
use Rattle.rrs_gdb.specs.Shown.{stop_text}
use Rattle.rrs_gdb.specs.Sessions.{letter, IsError, PlacesKept, Asked, asked_by, Around, forgotten, stopped_at, is_call, signal_of, ends_by_fault, call_number, SteppedOn, Raises, FaultStops, Left, StopsAt, AtCall, AtHartsCall, AtFault, Passes, ByCall, ByHartsCall, OutputTaken, PassesBefore, StopsBehind, CallServed, CallMade, CallStops, Behind, Most, one_step, up_to, still, Ran, GoesOn, Runs, GoesBy, GoesOnOrStays, GoesOnFrom, GoesOnUnless, KilledUnless, HasAction, HasLetter, Resumes, Acts, first_action}
use Rattle.std.proofs.lemmas.List.Elements.{All-nil}
use Rattle.rrs_gdb.specs.declared.back.BackEnd.{BackEnd}
use Rattle.rrs_gdb.specs.declared.back.BackEnd.TheVariants as Back
use Rattle.rrs_gdb.specs.Breaks.{GoesForward, GoesBack, IsPassed, KeepsSteps}
use Rattle.rrs_gdb.specs.Harts.{may_differ, HartTouchesNone, HartTouchesOne, HartStepped}
use Rattle.rrs_gdb.specs.declared.state.SessionState.{SessionState}
use Rattle.rrs_gdb.specs.declared.state.Stop.{Stop}
use Rattle.rrs_gdb.specs.declared.state.Stop.TheVariants.{Signal, Touched}
use Rattle.rrs_gdb.specs.Sessions.{CallTakenBack, CallsBack, TouchesBack, NoneTouchedBehind, GoesOnBack, RunsBack, Signals, BySignal, HasNoSignal, IsSignal, signalled}
use Rattle.rrs_gdb.specs.Packets.{IsNumber, number, before, behind}
use Rattle.rrs_gdb.proofs.BreakLemmas.{none_stepped, none_kept, kept_whole}
use Rattle.rrs_gdb.proofs.WatchLemmas.{none_made}

-- ---- errors

-- what begins with another letter is no error
no_error : (old new rest : List ℕ) (c : ℕ) → c ≢ 69 → new ≡ old ++ c ∷ rest → IsError old new → ⊥
no_error old new rest c other is (rest', is') =
    let same : c ∷ rest ≡ 69 ∷ rest' = append_cancel_left old _ _ (sym is ∙ is') in
    other (cc)

-- one of two that do not hold
not_either : {A B C : Type 0} → A ⊎ B → (A → ⊥) → (B → ⊥) → C
not_either (inl x) none none' = absurd (none x)
not_either (inr y) none none' = absurd (none' y)

pub no_other : (b : Bool) (P : Type 0) → b ≡ false → (P → ⊥) → (b ≡ true) ⊎ P → ⊥
no_other b P fails none (inl holds) = absurd (cc)
no_other b P fails none (inr is) = none is

pub texted : {A E : Type 0} (r : Result A E) (old new : List ℕ) (c : ℕ) (rest : List ℕ) → c ≢ 69
    → OnOk r (new ≡ old ++ c ∷ rest) → OnOk r (IsError old new → ⊥)
texted (Ok x) old new c rest other is = no_error old new rest c other is
texted (Err e) old new c rest other is = tt

pub texted_if : {A E : Type 0} (r : Result A E) (old new : List ℕ) (c : ℕ) (rest : List ℕ) (is_done : Bool) → c ≢ 69
    → OnOk r (new ≡ old ++ c ∷ rest) → OnOk r (OnTrue is_done (IsError old new → ⊥))
texted_if (Ok x) old new c rest is_done other is = OnTrue_from _ _ (λ yes. no_error old new rest c other is)
texted_if (Err e) old new c rest is_done other is = tt

-- what begins with that letter is one
pub error_if : {A E : Type 0} (r : Result A E) (old new text : List ℕ) (is_done : Bool) → slice_index text 0 ≡ 69
    → OnOk r (new ≡ old ++ text) → OnOk r (OnFalse is_done (IsError old new))
error_if (Ok x) old new [] is_done is added = absurd (omega (arith, is))
error_if (Ok x) old new (c ∷ cs) true is added = tt
error_if (Ok x) old new (c ∷ cs) false is added = (cs, added ∙ ap (λ k. old ++ k ∷ cs) is)
error_if (Err e) old new text is_done is added = tt

-- an error begins with its letter
pub error_letter : (old new text : List ℕ) → new ≡ old ++ text → IsError old new → slice_index text 0 ≡ 69
error_letter old new text is (rest, is') =
    ap (λ (xs : List ℕ). slice_index xs 0) (append_cancel_left old _ _ (sym is ∙ is'))

-- ---- a program that goes on

pub asked_kept : (old new : SessionState) → PlacesKept old new → asked_by new ≡ asked_by old
asked_kept old new kept = λ i. record {
  stops = kept.stops_kept i;
  watches = kept.watches_kept i;
  all_calls = (kept.caught_kept i).are_all;
  calls = (kept.caught_kept i).numbers.items;
  stops_at_exit = (kept.settings_kept i).stops_at_exit;
  profile = kept.profile_kept i;
}

pub still_none : (steps : ℕ) (told : Bool) → steps ≡ 0 → still steps told ≡ told
still_none zero told none = refl
still_none (suc n) told none = absurd (omega (arith, none))

pub still_some : (steps : ℕ) (told : Bool) → steps ≢ 0 → still steps told ≡ false
still_some zero told some = absurd (some refl)
still_some (suc n) told some = refl

-- the steps of a run are counted, and where the program stops is set
pub ran : (steps : ℕ) (a : Around) (s : State) (mid b : Around) (t : State) (at : Stop)
    → mid.environment ≡ a.environment → mid.reserved ≡ a.reserved
    → mid.entered ≡ a.entered → mid.told_exit ≡ a.told_exit
    → (1 ≤ room a.history → KeepsSteps steps a.history s mid.history t)
    → b ≡ record mid { entered = still steps mid.entered; told_exit = still steps mid.told_exit }
    → Ran steps a s (stopped_at b at) t
ran steps a s mid b t at same reserved entered told kept is = record {
  environment_kept = ap (λ (x : Around). x.environment) is ∙ same;
  reserved_kept = ap (λ (x : Around). x.reserved) is ∙ reserved;
  kept = λ some. subst (λ (h : History). KeepsSteps steps a.history s h t) (sym (ap (λ (x : Around). x.history) is)) (kept some);
  entered_kept = ap (λ (x : Around). x.entered) is ∙ ap (still steps) entered;
  told_kept = ap (λ (x : Around). x.told_exit) is ∙ ap (still steps) told;
}

-- a run that ended by no exception
pub no_fault : (reason : ForwardReason) → ((fault : InstructionException) → reason ≡ Fault fault → ⊥)
    → ends_by_fault reason ≡ false
no_fault AtStop other = refl
no_fault (Touches watch) other = refl
no_fault Limit other = refl
no_fault (Fault fault) other = absurd (other fault refl)

-- nothing is left of a limit
pub at_limit : (asked : Asked) (at : Stop) (limit : ℕ) (a : Around) (s : State) → limit ≡ 0
    → GoesOn asked at (stopped_at a at) s limit a s
at_limit asked at limit a s none =
    Runs limit a s 0 Limit (((sym none, refl), none_stepped asked.stops s), none_made asked.watches s) refl
    (record {
      environment_kept = refl;
      reserved_kept = refl;
      kept = λ some. kept_whole 0 a.history a.history s s (none_kept a.history s);
      entered_kept = refl;
      told_kept = refl;
    }) refl

-- the same breakpoints and watchpoints
pub same_places : (stops stops' : List ℕ) (watches watches' : List Watch) (limit : ℕ) (s : State) (steps : ℕ)
    (reason : ForwardReason) (t : State) → stops' ≡ stops → watches' ≡ watches
    → GoesForward stops' watches' limit s steps reason t → GoesForward stops watches limit s steps reason t
same_places stops stops' watches watches' limit s steps reason t same same' run =
    subst (λ (ws : List Watch). GoesForward stops ws limit s steps reason t) same'
    (subst (λ (xs : List ℕ). GoesForward xs watches' limit s steps reason t) same run)

-- an exception that is a call
pub call_at : (fault : InstructionException) → is_call fault ≡ true → (pc : ℕ) × (fault ≡ EnvironmentCall pc)
call_at (EnvironmentCall pc) is = (pc, refl)
call_at (IllegalInstruction pc word) is = absurd (cc)
call_at (Breakpoint pc) is = absurd (cc)
call_at (AlignmentFault x) is = absurd (cc)
call_at (FetchError x) is = absurd (cc)
call_at (LoadAccessFault x) is = absurd (cc)
call_at (StoreAccessFault x) is = absurd (cc)

-- a run to an exception
pub to_fault : (stops stops' : List ℕ) (watches watches' : List Watch) (limit : ℕ) (s : State) (steps : ℕ)
    (reason : ForwardReason) (fault : InstructionException) (t : State) → stops' ≡ stops → watches' ≡ watches
    → reason ≡ Fault fault → GoesForward stops' watches' limit s steps reason t
    → GoesForward stops watches limit s steps (Fault fault) t
to_fault stops stops' watches watches' limit s steps reason fault t same same' is run =
    subst (λ (r : ForwardReason). GoesForward stops watches limit s steps r t) is
    (same_places stops stops' watches watches' limit s steps reason t same same' run)

-- a call is served
pub call_served : (a b : Around) (m t : State) (end : Option ℕ) (accesses : List Access)
    (after : Recording) (history : History) → ServesCall Records a.environment m end m.pc after t accesses
    → RemembersCall true a.history m history t (length accesses) → OutputTaken after b.environment
    → b.reserved ≡ a.reserved → b.history ≡ history → CallServed a m end b t
call_served a b m t end accesses after history served remembers taken reserved same = record {
  after = after;
  accesses = accesses;
  served = served;
  output_taken = taken;
  reserved_kept = reserved;
  remembered = subst (λ (h : History). RemembersCall true a.history m h t (length accesses)) (sym same) remembers;
}

-- the same breakpoints, and what was told before the call
pub behind_call : (answer : Option Stop) (entered entered' : Bool) (stops stops' : List ℕ) (number pc : ℕ)
    → entered' ≡ entered → stops' ≡ stops
    → MatchOption answer ((entered' ≡ false) × ¬ Contains stops' pc)
    (λ (at : Stop). StopsBehind entered' stops' number pc at)
    → MatchOption answer ((entered ≡ false) × ¬ Contains stops pc)
    (λ (at : Stop). StopsBehind entered stops number pc at)
behind_call answer entered entered' stops stops' number pc same same' holds =
    subst (λ (x : Bool). MatchOption answer ((x ≡ false) × ¬ Contains stops pc)
    (λ (at : Stop). StopsBehind x stops number pc at)) same
    (subst (λ (xs : List ℕ). MatchOption answer ((entered' ≡ false) × ¬ Contains xs pc)
    (λ (at : Stop). StopsBehind entered' xs number pc at)) same' holds)

-- a stop after a call, or none
pub call_made : (asked : Asked) (a b : Around) (m t : State) (end : Option ℕ) (number : ℕ) (answer : Option Stop) → end ≡ None
    → PassesBefore asked a (call_number m) → ((at : Stop) → CallServed a m end (stopped_at b at) t)
    → CallServed a m end b t → number ≡ call_number m
    → MatchOption answer ((a.entered ≡ false) × ¬ Contains asked.stops t.pc)
    (λ (at : Stop). StopsBehind a.entered asked.stops number t.pc at)
    → b.entered ≡ false → b.told_exit ≡ a.told_exit
    → MatchOption answer (CallMade asked a m b t) (λ (at : Stop). CallStops asked a m (stopped_at b at) t)
call_made asked a b m t end number None none passes served served' same behind entered told = record {
  passes = passes;
  served = subst (λ (o : Option ℕ). CallServed a m o b t) none served';
  not_entered = behind.0;
  no_stop = behind.1;
  entered_kept = entered;
  told_kept = told;
}
call_made asked a b m t end number (Some at) none passes served served' same behind entered told =
    Behind passes (subst (λ (o : Option ℕ). CallServed a m o (stopped_at b at) t) none (served at))
    (subst (λ (n : ℕ). StopsBehind a.entered asked.stops n t.pc at) same behind)

-- a step of the hart is made
pub stepped_on : (asked : Asked) (a mid b : Around) (m t : State) (at : Stop)
    → HartTouchesNone asked.watches asked.profile (hart_with m a.reserved)
    → HartStepped asked.profile a.reserved a.history m (Ok tt) mid.reserved mid.history t
    → mid.environment ≡ a.environment
    → b ≡ record mid { entered = still 1 mid.entered; told_exit = still 1 mid.told_exit }
    → SteppedOn asked a m (stopped_at b at) t
stepped_on asked a mid b m t at none stepped same is = record {
  touches_none = none;
  stepped = subst (λ (x : Around). HartStepped asked.profile a.reserved a.history m (Ok tt) x.reserved x.history t) (sym is) stepped;
  environment_kept = ap (λ (x : Around). x.environment) is ∙ same;
  not_entered = ap (λ (x : Around). x.entered) is;
  not_told = ap (λ (x : Around). x.told_exit) is;
}

-- a call passes, or stops
pub passes_call : {F : Type 0} (answer : Result (Option Stop) F) (asked : Asked) (fault : InstructionException)
    (a b : Around) (m t : State) (pc : ℕ) → fault ≡ EnvironmentCall pc
    → IfOk answer (λ (stop : Option Stop). MatchOption stop (CallMade asked a m b t)
    (λ (at : Stop). CallStops asked a m (stopped_at b at) t))
    → IfOk answer (λ (stop : Option Stop). MatchOption stop (Passes asked fault a m b t)
    (λ (at : Stop). StopsAt asked fault a m (stopped_at b at) t))
passes_call (Ok None) asked fault a b m t pc is made = ByCall pc is made
passes_call (Ok (Some at)) asked fault a b m t pc is made = AtCall pc is made
passes_call (Err f) asked fault a b m t pc is made = tt

-- and so does one that the hart's step raises alone
pub passes_harts_call : {F : Type 0} (answer : Result (Option Stop) F) (asked asked' : Asked) (fault left : InstructionException)
    (a c b : Around) (m u t : State) (pc : ℕ) → asked' ≡ asked → may_differ fault ≡ true → left ≡ EnvironmentCall pc
    → Raises asked left a m c u
    → IfOk answer (λ (stop : Option Stop). MatchOption stop (CallMade asked' c u b t)
    (λ (at : Stop). CallStops asked' c u (stopped_at b at) t))
    → IfOk answer (λ (stop : Option Stop). MatchOption stop (Passes asked fault a m b t)
    (λ (at : Stop). StopsAt asked fault a m (stopped_at b at) t))
passes_harts_call (Ok None) asked asked' fault left a c b m u t pc same differs is raises made =
    ByHartsCall pc c u differs (subst (λ (e : InstructionException). Raises asked e a m c u) is raises)
    (subst (λ (x : Asked). CallMade x c u b t) same made)
passes_harts_call (Ok (Some at)) asked asked' fault left a c b m u t pc same differs is raises made =
    AtHartsCall pc c u differs (subst (λ (e : InstructionException). Raises asked e a m c u) is raises)
    (subst (λ (x : Asked). CallStops x c u (stopped_at b at) t) same made)
passes_harts_call (Err f) asked asked' fault left a c b m u t pc same differs is raises made = tt

-- and so does another exception
pub passes_fault : (stop : Option Stop) (asked : Asked) (fault : InstructionException)
    (a b : Around) (m t : State) → is_call fault ≡ false
    → MatchOption stop (Passes asked fault a m b t) (λ (at : Stop). FaultStops asked fault a m (stopped_at b at) t)
    → MatchOption stop (Passes asked fault a m b t) (λ (at : Stop). StopsAt asked fault a m (stopped_at b at) t)
passes_fault None asked fault a b m t other holds = holds
passes_fault (Some at) asked fault a b m t other holds = AtFault other holds

-- an exception of the hart's step, at which the program stops
pub left_so : (asked : Asked) (fault left : InstructionException) (a b : Around) (m t : State) (at : Stop)
    → is_call fault ≡ false → may_differ fault ≡ true → is_call left ≡ false → Raises asked left a m b t → at ≡ Signal (signal_of left)
    → StopsAt asked fault a m (stopped_at b at) t
left_so asked fault left a b m t at other differs none raises is =
    AtFault other (Left left differs none (record {
      touches_none = raises.touches_none;
      stepped = raises.stepped;
      environment_kept = raises.environment_kept;
      entered_kept = raises.entered_kept;
      told_kept = raises.told_kept;
    }) is)

-- the same of what was asked for before
pub passes_same : (stop : Option Stop) (asked asked' : Asked) (fault : InstructionException)
    (a b : Around) (m t : State) → asked' ≡ asked
    → MatchOption stop (Passes asked' fault a m b t) (λ (at : Stop). StopsAt asked' fault a m (stopped_at b at) t)
    → MatchOption stop (Passes asked fault a m b t) (λ (at : Stop). StopsAt asked fault a m (stopped_at b at) t)
passes_same stop asked asked' fault a b m t same holds =
    subst (λ (x : Asked). MatchOption stop (Passes x fault a m b t)
    (λ (at : Stop). StopsAt x fault a m (stopped_at b at) t)) same holds

-- the pc may be another one, and then the history is forgotten
abbrev pub BeginsAt : Around → State → Around → State → Type 0
BeginsAt a s a' s' = ((a' ≡ a) × (s' ≡ s)) ⊎ ((pc : ℕ) × (a' ≡ forgotten a) × (s' ≡ with_pc s pc))

goes_at_same : (asked : Asked) (most : Most) (a a' b : Around) (s s' t : State) → a' ≡ a → s' ≡ s
    → GoesOnOrStays asked most a' s' b t → GoesOnOrStays asked most a s b t
goes_at_same asked most a a' b s s' t same same' goes =
    subst (λ (x : Around). GoesOnOrStays asked most x s b t) same
    (subst (λ (x : State). GoesOnOrStays asked most a' x b t) same' goes)

from_there : (asked : Asked) (most : Most) (a a' b : Around) (s s' t : State) → BeginsAt a s a' s'
    → GoesOnOrStays asked most a' s' b t → GoesOnFrom asked most a s b t
from_there asked most a a' b s s' t (inl (same, same')) goes =
    inl (goes_at_same asked most a a' b s s' t same same' goes)
from_there asked most a a' b s s' t (inr (pc, same, same')) goes =
    inr (pc, goes_at_same asked most (forgotten a) a' b (with_pc s pc) s' t same same' goes)

-- a program that has ended stays
unless : (ended : Bool) (asked : Asked) (most : Most) (a b : Around) (s t : State)
    → GoesOnUnless ended asked most a s b t → GoesOnOrStays asked most a s b t
unless true asked most a b s t goes = inl (ap (λ (x : Around). x.environment) goes.0, goes.1)
unless false asked most a b s t goes = inr goes

killed_stays : (ended : Bool) (signal : ℕ) (a b : Around) (s t : State) → KilledUnless ended signal a s b t
    → (b.environment ≡ a.environment) × (t ≡ s)
killed_stays true signal a b s t killed = (ap (λ (x : Around). x.environment) killed.0, killed.1)
killed_stays false signal a b s t killed = (ap (λ (x : Around). x.environment) killed.0, killed.1)

-- `s` and `S` are one step or call
only_step : (action : List ℕ) (going : Going) (ended : Bool) (asked : Asked) (limit : ℕ)
    (a b : Around) (s t : State) → (letter action ≡ 115) ⊎ (letter action ≡ 83) → HasLetter action going
    → GoesBy going ended asked limit a s b t → GoesOnOrStays asked one_step a s b t
only_step action Step ended asked limit a b s t is has goes = unless ended asked one_step a b s t goes
only_step action Proceed ended asked limit a b s t (inl is) (inl has) goes = absurd (omega (arith, is, has))
only_step action Proceed ended asked limit a b s t (inl is) (inr has) goes = absurd (omega (arith, is, has))
only_step action Proceed ended asked limit a b s t (inr is) (inl has) goes = absurd (omega (arith, is, has))
only_step action Proceed ended asked limit a b s t (inr is) (inr has) goes = absurd (omega (arith, is, has))
only_step action (Killed signal) ended asked limit a b s t is has goes = inl (killed_stays ended signal a b s t goes)

-- `c` and `C` are as many as the limit
up_to_limit : (action : List ℕ) (going : Going) (ended : Bool) (asked : Asked) (limit : ℕ)
    (a b : Around) (s t : State) → (letter action ≡ 99) ⊎ (letter action ≡ 67) → HasLetter action going
    → GoesBy going ended asked limit a s b t → GoesOnOrStays asked (up_to limit) a s b t
up_to_limit action Step ended asked limit a b s t (inl is) (inl has) goes = absurd (omega (arith, is, has))
up_to_limit action Step ended asked limit a b s t (inl is) (inr has) goes = absurd (omega (arith, is, has))
up_to_limit action Step ended asked limit a b s t (inr is) (inl has) goes = absurd (omega (arith, is, has))
up_to_limit action Step ended asked limit a b s t (inr is) (inr has) goes = absurd (omega (arith, is, has))
up_to_limit action Proceed ended asked limit a b s t is has goes = unless ended asked (up_to limit) a b s t goes
up_to_limit action (Killed signal) ended asked limit a b s t is has goes =
    inl (killed_stays ended signal a b s t goes)

pub goes_same : (going : Going) (ended ended' : Bool) (asked asked' : Asked) (limit limit' : ℕ)
    (a b : Around) (s t : State) → ended' ≡ ended → asked' ≡ asked → limit' ≡ limit
    → GoesBy going ended' asked' limit' a s b t → GoesBy going ended asked limit a s b t
goes_same going ended ended' asked asked' limit limit' a b s t same_end same same' goes =
    subst (λ (n : ℕ). GoesBy going ended asked n a s b t) same'
    (subst (λ (x : Asked). GoesBy going ended x limit' a s b t) same
    (subst (λ (e : Bool). GoesBy going e asked' limit' a s b t) same_end goes))

pub step_from : (action : List ℕ) (going : Going) (ended : Bool) (asked : Asked) (limit : ℕ)
    (a a' b : Around) (s s' t : State)
    → (letter action ≡ 115) ⊎ (letter action ≡ 83) → HasLetter action going → BeginsAt a s a' s'
    → GoesBy going ended asked limit a' s' b t → GoesOnFrom asked one_step a s b t
step_from action going ended asked limit a a' b s s' t is has begins goes =
    from_there asked one_step a a' b s s' t begins
    (only_step action going ended asked limit a' b s' t is has goes)

pub go_from : (action : List ℕ) (going : Going) (ended : Bool) (asked : Asked) (limit : ℕ)
    (a a' b : Around) (s s' t : State)
    → (letter action ≡ 99) ⊎ (letter action ≡ 67) → HasLetter action going → BeginsAt a s a' s'
    → GoesBy going ended asked limit a' s' b t → GoesOnFrom asked (up_to limit) a s b t
go_from action going ended asked limit a a' b s s' t is has begins goes =
    from_there asked (up_to limit) a a' b s s' t begins
    (up_to_limit action going ended asked limit a' b s' t is has goes)

-- within some limit
pub some_limit : {A F : Type 0} (r : Result A F) (going : Going) (ended : Bool) (asked : Asked)
    (limit : ℕ) (a b : Around) (s t : State) → OnOk r (GoesBy going ended asked limit a s b t)
    → OnOk r ((most : Most) × GoesOnOrStays asked most a s b t)
some_limit (Ok x) Step ended asked limit a b s t goes = (one_step, unless ended asked one_step a b s t goes)
some_limit (Ok x) Proceed ended asked limit a b s t goes = (up_to limit, unless ended asked (up_to limit) a b s t goes)
some_limit (Ok x) (Killed signal) ended asked limit a b s t goes =
    (one_step, inl (killed_stays ended signal a b s t goes))
some_limit (Err f) going ended asked limit a b s t goes = tt

-- after the letter stands nothing
pub resumes_here : (rest rest' : List ℕ) (ended : Bool) (asked : Asked) (most : Most)
    (a a' b : Around) (s s' t : State) (old new : List ℕ) → rest' ≡ rest
    → length rest' ≡ 0 → a' ≡ a → s' ≡ s → GoesOnUnless ended asked most a' s' b t → new ≡ old ++ stop_text b.stop
    → Resumes rest ended asked most a s b t old new
resumes_here rest [] ended asked most a a' b s s' t old new same empty around at goes told = record {
  here = λ is. subst (λ (x : Around). GoesOnUnless ended asked most x s b t) around
      (subst (λ (u : State). GoesOnUnless ended asked most a' u b t) at goes);
  from_address = λ is.
      let some : 0 < length {A = ℕ} [] = subst (λ (xs : List ℕ). 0 < length xs) (sym same) is.0.0 in
      absurd (omega (arith, some));
  told = λ _. told;
  refused = λ some. absurd (some (sym same));
}
resumes_here rest (x ∷ xs) ended asked most a a' b s s' t old new same empty around at goes told =
    absurd (omega (arith, empty))

-- an address
pub resumes_there : (rest rest' : List ℕ) (address : ℕ) (ended : Bool) (asked : Asked) (most : Most)
    (a a' b : Around) (s s' t : State) (old new : List ℕ)
    → rest' ≡ rest → IsNumber rest' → address ≡ number rest' → a' ≡ forgotten a → s' ≡ with_pc s address
    → GoesOnUnless ended asked most a' s' b t → new ≡ old ++ stop_text b.stop
    → Resumes rest ended asked most a s b t old new
resumes_there rest rest' address ended asked most a a' b s s' t old new same is value around at goes told =
    let some : 0 < length rest = subst (λ (xs : List ℕ). 0 < length xs) same is.0.0 in
    record {
      here = λ none. absurd (omega (arith, some, ap length none));
      from_address = λ is'.
          subst (λ (x : Around). GoesOnUnless ended asked most x (with_pc s (number rest)) b t) around
          (subst (λ (u : State). GoesOnUnless ended asked most a' u b t)
          (at ∙ ap (λ (n : ℕ). with_pc s n) (value ∙ ap number same)) goes);
      told = λ _. told;
      refused = λ some none. absurd (none (subst (λ (xs : List ℕ). IsNumber xs) same is));
    }

-- neither
pub resumes_not : (rest rest' : List ℕ) (ended : Bool) (asked : Asked) (most : Most)
    (a b : Around) (s t : State) (old new : List ℕ) → rest' ≡ rest
    → 0 < length rest' → ¬ IsNumber rest' → IsError old new
    → Resumes rest ended asked most a s b t old new
resumes_not rest rest' ended asked most a b s t old new same some other error =
    let other' : ¬ IsNumber rest = λ is. other (subst (λ (xs : List ℕ). IsNumber xs) (sym same) is) in
    let none : ¬ (rest ≡ []) = λ none. absurd (omega (arith, some, ap length (same ∙ none))) in
    record {
      here = λ is. absurd (none is);
      from_address = λ is. absurd (other' is);
      told = λ is. not_either is none other';
      refused = λ some none. error;
    }

-- ---- a program that goes on by a signal

-- by signal 0 it goes on as by none, and by another one it is killed
pub killed_by : (by : Going) (n : ℕ) → 1 ≤ n → signalled by n ≡ Killed n
killed_by by zero some = absurd (omega (arith, some))
killed_by by (suc n) some = refl

-- the text after the letter
pub rest_whole : (payload : List ℕ) → take (length payload - 1) (drop 1 payload) ≡ drop 1 payload
rest_whole payload = take_all (length payload - 1) (drop 1 payload) (omega (arith, length-drop 1 payload))

pub no_signal : {A : Type 0} (found : Option A) (action text : List ℕ) → text ≡ drop 1 action
    → IfNone found (¬ IsSignal (before 59 text)) → IfNone found (HasNoSignal action)
no_signal None action text same none =
    let not : ¬ IsSignal (before 59 (drop 1 action)) = subst (λ (xs : List ℕ). ¬ IsSignal (before 59 xs)) same none in
    (λ is. not, λ is. not)
no_signal (Some x) action text same none = tt

-- there is no signal
pub signals_not : (text : List ℕ) (ended : Bool) (asked : Asked) (most : Most)
    (a b : Around) (s t : State) (old new : List ℕ) → ¬ IsSignal (before 59 text) → IsError old new
    → Signals text ended asked most a s b t old new
signals_not text ended asked most a b s t old new not error = record {
  none = λ is_number nought. absurd (not (is_number, omega (arith, nought)));
  kills = λ is some nothing. absurd (not is);
  refused = λ none. error;
}

-- after the signal stands something that is no address
pub signals_nowhere : (text rest : List ℕ) (by going : Going) (ended : Bool) (asked : Asked) (most : Most)
    (a b : Around) (s t : State) (old new : List ℕ)
    → BySignal text by going rest → 0 < length rest → ¬ IsNumber rest → IsError old new
    → Signals text ended asked most a s b t old new
signals_nowhere text rest by going ended asked most a b s t old new is some other error = record {
  none = λ is_number nought.
      resumes_not (behind 59 text) rest ended asked most a b s t old new is.1 some other error;
  kills = λ signal one nothing. absurd (omega (arith, some, ap length (is.1 ∙ nothing)));
  refused = λ not. absurd (not is.0);
}

-- nothing stands after it
pub signals_here : (text rest : List ℕ) (by going : Going) (ended : Bool) (asked : Asked) (most : Most) (limit : ℕ)
    (a a' b : Around) (s s' t : State) (old new : List ℕ)
    → ((x : Around) (u : State) → GoesBy by ended asked limit x u b t → GoesOnUnless ended asked most x u b t)
    → BySignal text by going rest → length rest ≡ 0 → a' ≡ a → s' ≡ s → GoesBy going ended asked limit a' s' b t
    → new ≡ old ++ stop_text b.stop → Signals text ended asked most a s b t old new
signals_here text rest by going ended asked most limit a a' b s s' t old new same is empty around begins goes told = record {
  none = λ is_number nought.
      let so : going ≡ by = is.2 ∙ ap (λ (n : ℕ). signalled by n) nought in
      resumes_here (behind 59 text) rest ended asked most a a' b s s' t old new is.1 empty around begins
      (same a' s' (subst (λ (g : Going). GoesBy g ended asked limit a' s' b t) so goes)) told;
  kills = λ signal one nothing.
      let so = is.2 ∙ killed_by by (number (before 59 text)) one in
      let killed = subst (λ (g : Going). GoesBy g ended asked limit a' s' b t) so goes in (
        subst (λ (x : Around). KilledUnless ended (number (before 59 text)) x s b t) around
            (subst (λ (u : State). KilledUnless ended (number (before 59 text)) a' u b t) begins killed),
        told,
      );
  refused = λ not. absurd (not is.0);
}

-- an address stands after it
pub signals_there : (text rest : List ℕ) (address : ℕ) (by going : Going) (ended : Bool) (asked : Asked) (most : Most)
    (limit : ℕ) (a a' b : Around) (s s' t : State) (old new : List ℕ)
    → ((x : Around) (u : State) → GoesBy by ended asked limit x u b t → GoesOnUnless ended asked most x u b t)
    → BySignal text by going rest → IsNumber rest → address ≡ number rest → a' ≡ forgotten a → s' ≡ with_pc s address
    → GoesBy going ended asked limit a' s' b t → new ≡ old ++ stop_text b.stop
    → Signals text ended asked most a s b t old new
signals_there text rest address by going ended asked most limit a a' b s s' t old new same is there value around begins goes told = record {
  none = λ is_number nought.
      let so : going ≡ by = is.2 ∙ ap (λ (n : ℕ). signalled by n) nought in
      resumes_there (behind 59 text) rest address ended asked most a a' b s s' t old new is.1 there value around begins
      (same a' s' (subst (λ (g : Going). GoesBy g ended asked limit a' s' b t) so goes)) told;
  kills = λ signal one nothing. absurd (omega (arith, there.0.0, ap length (is.1 ∙ nothing)));
  refused = λ not. absurd (not is.0);
}

-- the first action is a step, or to go on
acts_so : (action actions : List ℕ) (going : Going) (rest : List ℕ) (ended : Bool) (asked : Asked) (limit : ℕ)
    (a b : Around) (s t : State) (old new : List ℕ) → action ≡ first_action actions
    → HasAction action going rest → GoesBy going ended asked limit a s b t → new ≡ old ++ stop_text b.stop
    → Acts actions ended asked limit a s b t old new
acts_so action actions going rest ended asked limit a b s t old new same has goes told = record {
  step = λ is.
      let stepped = has.0 (ap (λ (xs : List ℕ). slice_index xs 0) (same ∙ is)) in
      (subst (λ (g : Going). GoesBy g ended asked limit a s b t) stepped.0 goes, told);
  goes_on = λ is.
      let gone_on = has.1 (ap (λ (xs : List ℕ). slice_index xs 0) (same ∙ is)) in
      (subst (λ (g : Going). GoesBy g ended asked limit a s b t) gone_on.0 goes, told);
}

pub acts : {A F : Type 0} (r : Result A F) (action actions : List ℕ) (going : Going) (rest : List ℕ) (ended : Bool)
    (asked : Asked) (limit : ℕ) (a b : Around) (s t : State) (old new : List ℕ)
    → action ≡ first_action actions → HasAction action going rest
    → OnOk r (GoesBy going ended asked limit a s b t) → OnOk r (new ≡ old ++ stop_text b.stop)
    → OnOk r (Acts actions ended asked limit a s b t old new)
acts (Ok x) action actions going rest ended asked limit a b s t old new same has goes told =
    acts_so action actions going rest ended asked limit a b s t old new same has goes told
acts (Err f) action actions going rest ended asked limit a b s t old new same has goes told = tt

-- ---- a program that goes back

-- nothing is left of a limit
pub nothing_back : (stops : List ℕ) (watches : List Watch) (p : HartProfile) (limit : ℕ) (e : Recording) (s : State) (before : List State)
    → limit ≡ 0 → GoesOnBack (Signal 5) stops watches p e s before limit 0 e s before
nothing_back stops watches p limit e s before none =
    RunsBack limit 0 e s before Back.Limit ([], refl, All-nil (IsPassed stops watches), sym none, refl, sym none)
    (λ same. absurd (cc)) refl refl

-- the same breakpoints and watchpoints
pub same_back : (stops stops' : List ℕ) (watches watches' : List Watch) (limit : ℕ) (s : State) (before after : List State)
    (t : State) (steps : ℕ) (end : BackEnd) → stops' ≡ stops → watches' ≡ watches
    → GoesBack stops' watches' limit s before after t steps end
    → GoesBack stops watches limit s before after t steps end
same_back stops stops' watches watches' limit s before after t steps end same same' goes =
    subst (λ (ws : List Watch). GoesBack stops ws limit s before after t steps end) same'
    (subst (λ (xs : List ℕ). GoesBack xs watches' limit s before after t steps end) same goes)

-- a run back over a call
pub back_to_call : (stops stops' : List ℕ) (watches watches' : List Watch) (limit : ℕ) (s : State)
    (before after : List State) (t : State) (steps : ℕ) (end : BackEnd) → stops' ≡ stops → watches' ≡ watches
    → end ≡ Back.Call → GoesBack stops' watches' limit s before after t steps end
    → GoesBack stops watches limit s before after t steps Back.Call
back_to_call stops stops' watches watches' limit s before after t steps end same same' call goes =
    subst (λ (x : BackEnd). GoesBack stops watches limit s before after t steps x) call
    (same_back stops stops' watches watches' limit s before after t steps end same same' goes)

-- How far the program has gone back from the first of two places to the second, with what is left of
-- a limit and of the steps that are counted: what follows from the second follows from the first.
pub record BackSoFar (stops : List ℕ) (watches : List Watch) (p : HartProfile)
    (limit : ℕ) (e : Recording) (s : State) (before : List State) (steps : ℕ)
    (left : ℕ) (d : Recording) (u : State) (between : List State) (steps' : ℕ) : Type 0 where
  pub gone : ℕ
  pub counted : steps' ≡ steps - gone
  pub goes_back : (at : Stop) (e' : Recording) (t : State) (after : List State) (more : ℕ)
      → GoesOnBack at stops watches p e' t after left more d u between
      → GoesOnBack at stops watches p e' t after limit (gone + more) e s before

pub none_gone : (stops : List ℕ) (watches : List Watch) (p : HartProfile) (limit : ℕ) (e : Recording) (s : State) (before : List State)
    (steps : ℕ) → BackSoFar stops watches p limit e s before steps limit e s before steps
none_gone stops watches p limit e s before steps = record {
  gone = 0;
  counted = omega arith;
  goes_back = λ at e' t after more goes. subst (λ (n : ℕ). GoesOnBack at stops watches p e' t after limit n e s before)
      (omega arith) goes;
}

-- one run more, over a call
pub call_gone : (stops : List ℕ) (watches : List Watch) (p : HartProfile) (limit : ℕ) (e : Recording) (s : State) (before : List State)
    (steps left : ℕ) (d : Recording) (u : State) (between : List State) (steps' gone : ℕ) (d' : Recording) (u' : State)
    (between' : List State) → BackSoFar stops watches p limit e s before steps left d u between steps'
    → GoesBack stops watches left u between between' u' gone Back.Call → CallTakenBack d d'
    → NoneTouchedBehind watches p u' → ¬ Contains stops u'.pc
    → BackSoFar stops watches p limit e s before steps (left - 1) d' u' between' (steps' - gone)
call_gone stops watches p limit e s before steps left d u between steps' gone d' u' between' so_far back taken untouched none = record {
  gone = so_far.gone + gone;
  counted = omega (arith, so_far.counted);
  goes_back = λ at e' t after more goes. subst (λ (n : ℕ). GoesOnBack at stops watches p e' t after limit n e s before)
      (omega arith) (so_far.goes_back at e' t after (gone + more) (CallsBack left gone more d u between d' u' between' back taken untouched none goes));
}

-- the last run, and how many steps there were in all
pub all_gone : (stops : List ℕ) (watches : List Watch) (p : HartProfile) (limit : ℕ) (e : Recording) (s : State) (before : List State)
    (steps left : ℕ) (d : Recording) (u : State) (between : List State) (steps' more last : ℕ) (e' : Recording) (t : State)
    (after : List State) (at : Stop) → BackSoFar stops watches p limit e s before steps left d u between steps'
    → GoesOnBack at stops watches p e' t after left more d u between → last ≡ steps' - more
    → (gone : ℕ) × (last ≡ steps - gone) × GoesOnBack at stops watches p e' t after limit gone e s before
all_gone stops watches p limit e s before steps left d u between steps' more last e' t after at so_far goes counted =
    (so_far.gone + more, omega (arith, so_far.counted, counted), so_far.goes_back at e' t after more goes)

-- the last run, over an instruction that is made again
pub touch_gone : (stops : List ℕ) (watches : List Watch) (p : HartProfile) (limit : ℕ) (e : Recording) (s : State) (before : List State)
    (steps left : ℕ) (d : Recording) (u : State) (between : List State) (steps' gone last : ℕ) (e' : Recording) (v t : State)
    (watch : Watch) (reserved reserved' : Option ℕ) (old new : History) (answer : StepAnswer)
    → BackSoFar stops watches p limit e s before steps left d u between steps'
    → GoesBack stops watches left u between (past (changes old) v) v gone Back.Call → CallTakenBack d e'
    → HartTouchesOne watches p (hart_with v reserved) watch → HartStepped p reserved old v answer reserved' new t → last ≡ steps' - (gone - 1)
    → (more : ℕ) × (last ≡ steps - more)
    × GoesOnBack (Touched watch) stops watches p e' t (past (changes new) t) limit more e s before
touch_gone stops watches p limit e s before steps left d u between steps' gone last e' v t watch reserved reserved' old new answer so_far back taken touched again counted =
    let k = length back.passed in
    let one : gone ≡ suc k = back.counted in
    let less : last ≡ steps' - k = omega (arith, counted, one) in
    all_gone stops watches p limit e s before steps left d u between steps' k last e' t (past (changes new) t) (Touched watch) so_far
    (TouchesBack left k d u between v (past (changes old) v) watch reserved reserved' old new answer
    (subst (λ (n : ℕ). GoesBack stops watches left u between (past (changes old) v) v n Back.Call) one back)
    taken touched refl refl again refl) less

-- ---- a program that is to go on, and has ended or not

pub goes_by_step : (going : Going) (asked : Asked) (limit most : ℕ) (at : Stop) (a b : Around)
    (s t : State) → going ≡ Step → most ≡ 1 → at ≡ Signal 5 → GoesOn asked at b t most a s
    → GoesBy going false asked limit a s b t
goes_by_step going asked limit most at a b s t is one stops goes =
    subst (λ (g : Going). GoesBy g false asked limit a s b t) (sym is)
    (subst (λ (x : Stop). GoesOn asked x b t 1 a s) stops
    (subst (λ (n : ℕ). GoesOn asked at b t n a s) one goes))

pub goes_by_limit : (going : Going) (asked : Asked) (limit most : ℕ) (at : Stop) (a b : Around)
    (s t : State) → going ≡ Proceed → most ≡ limit → at ≡ Signal 2 → GoesOn asked at b t most a s
    → GoesBy going false asked limit a s b t
goes_by_limit going asked limit most at a b s t is all stops goes =
    subst (λ (g : Going). GoesBy g false asked limit a s b t) (sym is)
    (subst (λ (x : Stop). GoesOn asked x b t limit a s) stops
    (subst (λ (n : ℕ). GoesOn asked at b t n a s) all goes))

stays_so : (going : Going) (asked : Asked) (limit : ℕ) (a : Around) (s : State)
    → GoesBy going true asked limit a s a s
stays_so Step asked limit a s = (refl, refl)
stays_so Proceed asked limit a s = (refl, refl)
stays_so (Killed signal) asked limit a s = (refl, refl)

pub stays : {A F : Type 0} (r : Result A F) (going : Going) (ended : Bool) (asked : Asked)
    (limit : ℕ) (a : Around) (s : State) → ended ≡ true → OnOk r (GoesBy going ended asked limit a s a s)
stays (Ok x) going ended asked limit a s is =
    subst (λ (e : Bool). GoesBy going e asked limit a s a s) (sym is) (stays_so going asked limit a s)
stays (Err f) going ended asked limit a s is = tt

pub not_ended : {A F : Type 0} (r : Result A F) (P : Bool → Type 0) (ended : Bool) → ended ≡ false → P false
    → OnOk r (P ended)
not_ended (Ok x) P ended is holds = subst P (sym is) holds
not_ended (Err f) P ended is holds = tt
