-- Where the machine stops (gdb's manual, "Remote Serial Protocol", "Packets": Z, c, bc), forward
-- and back: before the instruction at a breakpoint, and before one whose load or store touches a
-- watchpoint.
use Rattle.std.specs.Prelude.{◌≡◌, ◌≢◌, ◌≤◌, ℕ, suc, ◌+◌, ◌<◌, ◌⊎◌, ◌↔◌, List, [], ◌∷◌, ◌++◌, All, Contains, length, Ok}
use Rattle.rrs_lib.specs.Bytes.{width}
use Rattle.rrs_lib.specs.Machine.{State}
use Rattle.rrs_lib.specs.Accesses.{Access, Read, Write}
use Rattle.rrs_lib.specs.Steps.{Step, StepAnswer, RunsOk, cleared}
use Rattle.rrs_trace.specs.declared.outside.DataRequest.{DataRequest}
use Rattle.rrs_trace.specs.Outside.{AccessesAfterFetch}
use Rattle.rrs_trace.specs.Stops.{PassesNone, RunsToStop}
use Rattle.rrs_trace.specs.declared.stops.StopReason.{StopReason}
use Rattle.rrs_trace.specs.declared.stops.StopReason.TheVariants as Stop
use Rattle.rrs_history.specs.declared.history.History.{History}
use Rattle.rrs_history.specs.Histories.{changes, room, past}
use Rattle.rrs_gdb.specs.declared.breaks.Watch.{Watch}
use Rattle.rrs_gdb.specs.declared.breaks.Break.{Break}
use Rattle.rrs_gdb.specs.declared.breaks.Break.TheVariants as Place
use Rattle.rrs_gdb.specs.declared.breaks.Breaks.{Breaks}
use Rattle.rrs_gdb.specs.declared.breaks.WatchKind.TheVariants as Kind
use Rattle.rrs_gdb.specs.declared.forward.ForwardReason.{ForwardReason}
use Rattle.rrs_gdb.specs.declared.forward.ForwardReason.TheVariants.{AtStop, Touches, Limit, Fault}
use Rattle.rrs_gdb.specs.declared.back.BackEnd.{BackEnd}
use Rattle.rrs_gdb.specs.declared.back.BackEnd.TheVariants as Back

-- ---- breakpoints and watchpoints are set and removed

-- this one is set, if it was not, and the others are as they were
abbrev pub WithEntry : {X : Type 0} → List X → X → List X → Type 0
WithEntry {X} old entry new = (other : X) → Contains new other ↔ (Contains old other ⊎ (other ≡ entry))

-- this one is not set, and the others are as they were
abbrev pub WithoutEntry : {X : Type 0} → List X → X → List X → Type 0
WithoutEntry {X} old entry new = (other : X) → Contains new other ↔ (Contains old other × (other ≢ entry))

-- the same of a breakpoint among the breakpoints, or of a watchpoint among the watchpoints; the
-- others are as they were
abbrev pub WithBreak : Break → Breaks → Breaks → Type 0
WithBreak (Place.Stop address) b b' =
    WithEntry b.stops.items address b'.stops.items × (b'.watches.items ≡ b.watches.items)
WithBreak (Place.Watch watch) b b' =
    WithEntry b.watches.items watch b'.watches.items × (b'.stops.items ≡ b.stops.items)

abbrev pub WithoutBreak : Break → Breaks → Breaks → Type 0
WithoutBreak (Place.Stop address) b b' =
    WithoutEntry b.stops.items address b'.stops.items × (b'.watches.items ≡ b.watches.items)
WithoutBreak (Place.Watch watch) b b' =
    WithoutEntry b.watches.items watch b'.watches.items × (b'.stops.items ≡ b.stops.items)

-- ---- watchpoints

-- one of the n addresses from a on is watched
abbrev pub IsWatched : Watch → ℕ → ℕ → Type 0
IsWatched watch a n = (x : ℕ) × (a ≤ x) × (x < a + n)
    × (watch.address ≤ x) × (x < watch.address + watch.length)

-- An access touches a watchpoint: a load one that is not for stores alone, and a store one that is
-- not for loads alone, at an address that is watched.
abbrev pub IsTouchedBy : Watch → Access → Type 0
IsTouchedBy watch (Read a size answer) = (watch.kind ≢ Kind.Write) × IsWatched watch a (width size)
IsTouchedBy watch (Write a size value granted) =
    (watch.kind ≢ Kind.Read) × IsWatched watch a (width size)

-- an access of the step from s touches a watchpoint, that of its fetch aside
pub record StepTouches (s : State) (watch : Watch) : Type 0 where
  pub accesses : List Access
  pub are_its : AccessesAfterFetch s accesses
  pub access : Access
  pub is_one : Contains accesses access
  pub touches : IsTouchedBy watch access

-- the step from s touches none of the watchpoints
abbrev pub TouchesNone : List Watch → State → Type 0
TouchesNone watches s = (watch : Watch) → Contains watches watch → ¬ StepTouches s watch

-- the step from s touches this one of the watchpoints
abbrev pub TouchesOne : List Watch → State → Watch → Type 0
TouchesOne watches s watch = Contains watches watch × StepTouches s watch

-- none of the first n steps from s touches a watchpoint
abbrev pub NoneTouches : List Watch → ℕ → State → Type 0
NoneTouches watches n s = (k : ℕ) → k < n → (m : State) → RunsOk k s m → TouchesNone watches m

-- ---- forward

-- A run to a stop, a limit or an exception, of which no step touches a watchpoint, the one that
-- raises the exception neither; or the next step touches one, the first to do so, and the steps
-- before were Ok, and came to no stop.
abbrev pub GoesForward : List ℕ → List Watch → ℕ → State → ℕ → ForwardReason → State → Type 0
GoesForward stops watches limit s steps AtStop t =
    RunsToStop stops limit s steps Stop.AtStop t × NoneTouches watches steps s
GoesForward stops watches limit s steps Limit t =
    RunsToStop stops limit s steps Stop.Limit t × NoneTouches watches steps s
GoesForward stops watches limit s steps (Fault e) t =
    RunsToStop stops limit s steps (Stop.Fault e) t × NoneTouches watches (steps + 1) s
GoesForward stops watches limit s steps (Touches watch) t =
    (steps < limit) × RunsOk steps s t × PassesNone stops (steps + 1) s
    × NoneTouches watches steps s × TouchesOne watches t watch

-- why a run with stops alone ended
abbrev pub reason_of : StopReason → ForwardReason
reason_of Stop.AtStop = AtStop
reason_of Stop.Limit = Limit
reason_of (Stop.Fault e) = Fault e

-- the states of a run from s to t, but for t, newest first
abbrev pub IsTrail : List State → State → State → Type 0
IsTrail [] s t = t ≡ s
IsTrail (m ∷ ms) s t = Step m t (Ok tt) × IsTrail ms s m

-- So many steps were made from s, and the history keeps them: from t it leads back to each state on
-- the way, and then to where it led before. The oldest states may be forgotten, if the history is
-- full then. A step that raised an exception leaves t with no last written register, and is not
-- kept.
pub record KeepsSteps (steps : ℕ) (old : History) (s : State) (new : History) (t : State)
    : Type 0 where
  pub end : State
  pub trail : List State
  pub is_trail : IsTrail trail s end
  pub as_many : length trail ≡ steps
  pub ends : (t ≡ end) ⊎ (t ≡ cleared end)
  pub forgotten : List State
  pub leads_back : trail ++ past (changes old) s ≡ past (changes new) t ++ forgotten
  pub when_full : (forgotten ≡ []) ⊎ (room new ≤ length (changes new))
  pub room_kept : room new ≡ room old

-- ---- back

-- at no stop, and the step from here touches no watchpoint
abbrev pub IsPassed : List ℕ → List Watch → State → Type 0
IsPassed stops watches u = (¬ Contains stops u.pc) × TouchesNone watches u

-- Of the states before s, newest first, some are passed; then comes m, before the others. From s to
-- m these are so many steps back.
pub record ComesTo (stops : List ℕ) (watches : List Watch) (limit : ℕ) (before : List State)
    (m : State) (others : List State) (steps : ℕ) : Type 0 where
  pub passed : List State
  pub leads : before ≡ passed ++ m ∷ others
  pub are_passed : All (IsPassed stops watches) passed
  pub within : length passed < limit
  pub counted : steps ≡ suc (length passed)

-- where the machine is that went from s back over these states, newest first
abbrev pub back_over : List State → State → State
back_over [] s = s
back_over (m ∷ ms) s = back_over ms m

-- From s, with the states before it, the machine goes back to t, with those before that, by so many
-- steps.
abbrev pub GoesBack : List ℕ → List Watch → ℕ → State → List State → List State → State → ℕ
    → BackEnd → Type 0
-- to the first stop; the step from there touches no watchpoint
GoesBack stops watches limit s before after t steps Back.AtStop =
    ComesTo stops watches limit before t after steps × Contains stops t.pc × TouchesNone watches t
-- to the first state from which the step touches a watchpoint; that step is made again, and is not
-- counted
GoesBack stops watches limit s before after t steps (Back.Touched watch) =
    (m : State) × (others : List State) × (answer : StepAnswer)
    × ComesTo stops watches limit before m others (suc steps) × TouchesOne watches m watch
    × Step m t answer
-- to the first call, which is one step
GoesBack stops watches limit s before after t steps Back.Call =
    ComesTo stops watches limit before t after steps
-- to the begin: all are passed, and they are fewer than the limit
GoesBack stops watches limit s before after t steps Back.AtBegin =
    (after ≡ []) × All (IsPassed stops watches) before × (length before < limit)
    × (t ≡ back_over before s) × (steps ≡ length before)
-- as many as the limit are passed
GoesBack stops watches limit s before after t steps Back.Limit =
    (passed : List State) × (before ≡ passed ++ after)
    × All (IsPassed stops watches) passed × (length passed ≡ limit) × (t ≡ back_over passed s)
    × (steps ≡ limit)

-- ---- of the code

-- a load or a store that is asked for touches a watchpoint
abbrev pub IsAskedOf : Watch → DataRequest → Type 0
IsAskedOf watch (DataRequest.Load a size) =
    (watch.kind ≢ Kind.Write) × IsWatched watch a (width size)
IsAskedOf watch (DataRequest.Store a size value) =
    (watch.kind ≢ Kind.Read) × IsWatched watch a (width size)
