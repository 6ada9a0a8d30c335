-- Steps that touch a watchpoint, and steps that touch none.
use Rattle.std.proofs.Common.{◌≡◌, ℕ, zero, suc, ◌+◌, ◌<◌, ◌≤◌, List, [], Contains, Option, Some, None, Ok, MatchOption, true, nat_lt, length, replicate, max, refl, sym, subst, below_more, arith}
use Rattle.std.specs.Bool.{OnTrue}
use Rattle.std.proofs.lemmas.Bool.{OnTrue_from, ltb-true}
use Rattle.std.proofs.lemmas.List.{append_cancel_left}
use Rattle.rrs_lib.specs.declared.MemAccessSize.TheVariants.{Word}
use Rattle.rrs_lib.specs.Machine.{State}
use Rattle.rrs_lib.specs.Steps.{RunsOk}
use Rattle.rrs_lib.specs.Accesses.{Access, read_if_aligned, read_in, write_in}
use Rattle.rrs_lib.proofs.Rows.{one_row_at_most}
use Rattle.rrs_lib.proofs.Stepping.{Run-unique}
use Rattle.rrs_lib.proofs.Making.{AccessesOf-unique}
use Rattle.rrs_trace.specs.declared.outside.DataRequest.{DataRequest}
use Rattle.rrs_trace.specs.Outside.{AccessesAfterFetch, requested}
use Rattle.rrs_gdb.specs.declared.breaks.Watch.{Watch}
use Rattle.rrs_gdb.specs.Breaks.{IsWatched, IsTouchedBy, IsAskedOf, StepTouches, TouchesNone, TouchesOne, NoneTouches}

-- ---- addresses

pub watched : (watch : Watch) (a n : ℕ) → 1 ≤ n → 0 < watch.length → a < watch.address + watch.length
    → watch.address < a + n → IsWatched watch a n
watched watch a n some length below above =
    (max watch.address a, omega arith, omega arith, omega arith, omega arith)

pub watched_if : (watch : Watch) (a n start from : ℕ) → start ≡ watch.address → from ≡ a → 1 ≤ n → 0 < watch.length
    → from < start + watch.length → OnTrue (nat_lt start (from + n)) (IsWatched watch a n)
watched_if watch a n start from is_start is_from some long below =
    OnTrue_from _ _ (λ (yes : nat_lt start (from + n) ≡ true).
    let above : start < from + n = ltb-true _ _ yes in
    watched watch a n some long (omega arith) (omega arith))

-- ---- one step

-- the access of a request touches what the request touches
pub access_asked : (watch : Watch) (s : State) (request : DataRequest) → IsAskedOf watch request
    → (access : Access) × Contains (requested s (Ok (Some request))) access × IsTouchedBy watch access
access_asked watch s (DataRequest.Load a size) asked = (read_in s a size, (0, omega arith, refl), asked)
access_asked watch s (DataRequest.Store a size value) asked = (write_in s a size value, (0, omega arith, refl), asked)

-- and nothing else touches it
pub asked_access : (watch : Watch) (s : State) (request : DataRequest) (access : Access)
    → Contains (requested s (Ok (Some request))) access → IsTouchedBy watch access → IsAskedOf watch request
asked_access watch s (DataRequest.Load a size) access (zero, below, same) touches =
    subst (λ (x : Access). IsTouchedBy watch x) (sym same) touches
asked_access watch s (DataRequest.Load a size) access (suc k, below, same) touches = absurd (omega (arith, below))
asked_access watch s (DataRequest.Store a size value) access (zero, below, same) touches =
    subst (λ (x : Access). IsTouchedBy watch x) (sym same) touches
asked_access watch s (DataRequest.Store a size value) access (suc k, below, same) touches = absurd (omega (arith, below))

pub touches_asked : (s : State) (watch : Watch) (request : DataRequest)
    → AccessesAfterFetch s (requested s (Ok (Some request))) → IsAskedOf watch request → StepTouches s watch
touches_asked s watch request are asked =
    let found = access_asked watch s request asked in
    record {
      accesses = requested s (Ok (Some request));
      are_its = are;
      access = found.0;
      is_one = found.1;
      touches = found.2;
    }

-- what is asked for is all that a step accesses
same_accesses : (s : State) (answer : Option DataRequest) (watch : Watch)
    → AccessesAfterFetch s (requested s (Ok answer)) → (touches : StepTouches s watch)
    → touches.accesses ≡ requested s (Ok answer)
same_accesses s answer watch are touches =
    append_cancel_left (read_if_aligned s s.pc Word) _ _ (AccessesOf-unique one_row_at_most s _ _ touches.are_its are)

pub untouched_asked : (s : State) (watch : Watch) (request : DataRequest)
    → AccessesAfterFetch s (requested s (Ok (Some request))) → ¬ IsAskedOf watch request → ¬ StepTouches s watch
untouched_asked s watch request are other touches =
    let one = subst (λ (xs : List Access). Contains xs touches.access) (same_accesses s (Some request) watch are touches)
    touches.is_one in
    other (asked_access watch s request touches.access one touches.touches)

pub untouched_none : (s : State) (watch : Watch) → AccessesAfterFetch s [] → ¬ StepTouches s watch
untouched_none s watch are touches =
    let one = subst (λ (xs : List Access). Contains xs touches.access) (same_accesses s None watch are touches)
    touches.is_one in
    absurd (omega (arith, one.1))

-- the watchpoint that is touched, or none
pub watch_found : (watches : List Watch) (s : State) (request : DataRequest) (answer : Option Watch)
    → AccessesAfterFetch s (requested s (Ok (Some request)))
    → MatchOption answer ((watch : Watch) → Contains watches watch → ¬ IsAskedOf watch request)
    (λ (watch : Watch). Contains watches watch × IsAskedOf watch request)
    → MatchOption answer (TouchesNone watches s) (λ (watch : Watch). TouchesOne watches s watch)
watch_found watches s request None are none = λ watch is_one. untouched_asked s watch request are (none watch is_one)
watch_found watches s request (Some watch) are found = (found.0, touches_asked s watch request are found.1)

-- ---- steps

pub none_watched : (s : State) → TouchesNone [] s
none_watched s = λ watch is_one touches. absurd (omega (arith, is_one.1))

pub none_touched : (n : ℕ) (s : State) → NoneTouches [] n s
none_touched n s = λ k below m runs. none_watched m

-- no step was made
pub none_made : (watches : List Watch) (s : State) → NoneTouches watches 0 s
none_made watches s = λ k below m runs. absurd (omega (arith, below))

pub one_more_untouched : (watches : List Watch) (n : ℕ) (s m : State) → NoneTouches watches n s → RunsOk n s m
    → TouchesNone watches m → NoneTouches watches (n + 1) s
one_more_untouched watches n s m before run none =
    below_more _ _ before (λ x run'.
    let same = Run-unique one_row_at_most s m x (replicate n (Ok tt)) (replicate n (Ok tt)) refl run run' in
    subst (λ (y : State). TouchesNone watches y) same.1 none)
