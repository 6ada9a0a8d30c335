-- Calls of the environment that can be taken back (RISC-V unprivileged specification, "Environment
-- Call and Breakpoints"): a step that is an ecall is served, and kept with what the call changed.
use Rattle.std.specs.Prelude.{◌≡◌, ℕ, ◌+◌, ◌≤◌, ◌⊎◌, List, [], ◌∷◌, ◌++◌, length, take, Bool, true, false, Option, Some, None, Result, Ok, Err, OnOk, OnErr}
use Rattle.std.specs.Bool.{OnTrue, OnFalse}
use Rattle.rrs_lib.specs.declared.MemAccessSize.{MemAccessSize}
use Rattle.rrs_lib.specs.declared.HartState.{HartState}
use Rattle.rrs_lib.specs.declared.instruction_executor.InstructionException.{InstructionException}
use Rattle.rrs_lib.specs.declared.instruction_executor.InstructionException.TheVariants.{EnvironmentCall}
use Rattle.rrs_lib.specs.Bytes.{ByteMap}
use Rattle.rrs_lib.specs.Machine.{State, state_of}
use Rattle.rrs_lib.specs.Steps.{Step, StepAnswer}
use Rattle.rrs_words.specs.declared.csrs.HartProfile.{HartProfile}
use Rattle.rrs_hart.specs.Harts.{Hart, hart_with, HartStep, AccessesOfHart}
use Rattle.rrs_lib.specs.Accesses.{Access, Read, Write, Makes}
use Rattle.rrs_fast.specs.Serving.{Relation, resumed}
use Rattle.rrs_history.specs.declared.change.Change.{Change}
use Rattle.rrs_history.specs.declared.history.History.{History}
use Rattle.rrs_history.specs.declared.calls.RecordedMemory.{RecordedMemory}
use Rattle.rrs_history.specs.Changes.{stored_back, NotedAccessesOf}
use Rattle.rrs_history.specs.Histories.{changes, room, past, of_calls, Tells}
use Rattle.rrs_history.specs.Noting.{ReadsAndWrites}

-- ---- a step that is served

-- the accesses of a call with a read before each write
abbrev pub WithReads : List Access → List Access → Type 0
WithReads [] noted = noted ≡ []
WithReads (Read a size answer ∷ accesses) noted =
    (later : List Access) × WithReads accesses later × (noted ≡ Read a size answer ∷ later)
WithReads (Write a size value granted ∷ accesses) noted =
    (before : Option ℕ) × (later : List Access) × WithReads accesses later
    × (noted ≡ Read a size before ∷ Write a size value granted ∷ later)

-- What a step or a call answers: None where the program goes on, the status with which a call ended
-- it, or the exception.
abbrev pub ServedAnswer : Type 0
ServedAnswer = Result (Option ℕ) InstructionException

-- By what an environment of type E says of a call:
module _ {E : Type 0} (serves : Relation E) where
  -- From s a step is made, and if it is an ecall, the call is served. The last place is what the
  -- call accesses, with a read before each write; the first, whether a call was served.
  pub data IsServedStep (is_call : Bool) (e : E) (s : State) (answer : ServedAnswer) (e' : E)
      (t : State) (accesses : List Access) : Type 0 where
    -- a step that is Ok
    Stepped :
        is_call ≡ false → Step s t (Ok tt) → answer ≡ Ok None → e' ≡ e
        → NotedAccessesOf s accesses
        → IsServedStep is_call e s answer e' t accesses
    -- an exception that is no ecall
    Faulted : (fault : InstructionException)
        → is_call ≡ false → Step s t (Err fault) → ((pc : ℕ) → fault ≡ EnvironmentCall pc → ⊥)
        → answer ≡ Err fault → e' ≡ e → NotedAccessesOf s accesses
        → IsServedStep is_call e s answer e' t accesses
    -- an ecall, and its call
    Called : (pc : ℕ) (end : Option ℕ) (m u : State) (of_step of_call noted : List Access)
        → is_call ≡ true → Step s m (Err (EnvironmentCall pc)) → NotedAccessesOf s of_step
        → serves e m e' u of_call end → WithReads of_call noted
        → t ≡ resumed end pc u → answer ≡ Ok end → accesses ≡ of_step ++ noted
        → IsServedStep is_call e s answer e' t accesses

-- A step or a call led from s to t, and the history keeps it: it leads back to s, and from there to
-- where it led before; and it tells whether it was a call. The oldest states may be forgotten, if
-- there was no room for its changes: 32 at the most, and one for each of so many accesses. The
-- history is full then.
pub record RemembersCall (is_call : Bool) (old : History) (s : State) (new : History) (t : State)
    (accesses : ℕ) : Type 0 where
  pub forgotten : List State
  pub leads_back : s ∷ past (changes old) s ≡ past (changes new) t ++ forgotten
  pub tells : Tells (is_call ∷ of_calls (changes old)) new
  pub none_with_room : length (changes old) + 32 + accesses ≤ room old → forgotten ≡ []
  pub when_full : (forgotten ≡ []) ⊎ (room new ≤ length (changes new))
  pub room_kept : room new ≡ room old

-- Nothing is kept: from s the history leads back to where it led before. The oldest states may be
-- forgotten, if there was no room for as many changes as a call of so many accesses has.
pub record StillLeads (old : History) (s : State) (new : History) (accesses : ℕ) : Type 0 where
  pub forgotten : List State
  pub leads_back : past (changes old) s ≡ past (changes new) s ++ forgotten
  pub none_with_room : length (changes old) + 32 + accesses ≤ room old → forgotten ≡ []
  pub room_kept : room new ≡ room old

-- A step of a hart led from s to t by these accesses, those of the step with a read before each
-- write. The history keeps it as a call, and where it raised an exception nothing.
pub record KeepsHartStep (p : HartProfile) (old : History) (s : Hart) (answer : StepAnswer)
    (new : History) (t : State) (accesses : List Access) : Type 0 where
  pub of_step : List Access
  pub are_its : AccessesOfHart p s of_step
  pub with_reads : WithReads of_step accesses
  pub kept : OnOk answer (RemembersCall true old s.state new t (length accesses))
  pub stays : OnErr answer (StillLeads old s.state new (length accesses))

-- ---- of the code

-- parts of a call: bytes that a write replaced, and a register with what it was
abbrev pub part_stored : ℕ → MemAccessSize → ℕ → Change
part_stored a size bytes = record {
  last = 0;
  pc = 0;
  value = 0;
  address = a;
  bytes = bytes;
  stored = Some size;
  register = 0;
  had_last = false;
  starts = false;
  of_call = true;
}

abbrev pub part_written : ℕ → ℕ → Change
part_written register value = record {
  last = 0;
  pc = 0;
  value = value;
  address = 0;
  bytes = 0;
  stored = None;
  register = register;
  had_last = false;
  starts = false;
  of_call = true;
}

-- the same memory and the same history are lent, and nothing is kept
pub record Leaves {M : Type 0} (bytes : M → ByteMap) (writable : M → ℕ → Bool)
    (old new : RecordedMemory M) : Type 0 where
  pub same_memory : new.memory.ghost_name ≡ old.memory.ghost_name
  pub same_history : new.history.ghost_name ≡ old.history.ghost_name
  pub bytes_kept : bytes new.memory.now ≡ bytes old.memory.now
  pub writable_kept : writable new.memory.now ≡ writable old.memory.now
  pub history_kept : new.history.now ≡ old.history.now

-- one change is kept, which takes the write back
pub record KeepsPart {M : Type 0} (bytes : M → ByteMap) (writable : M → ℕ → Bool)
    (old new : RecordedMemory M) : Type 0 where
  pub same_memory : new.memory.ghost_name ≡ old.memory.ghost_name
  pub same_history : new.history.ghost_name ≡ old.history.ghost_name
  pub writable_kept : writable new.memory.now ≡ writable old.memory.now
  pub address : ℕ
  pub size : MemAccessSize
  pub before : ℕ
  pub kept : changes new.history.now
      ≡ take (room old.history.now) (part_stored address size before ∷ changes old.history.now)
  pub room_kept : room new.history.now ≡ room old.history.now
  pub within : length (changes old.history.now) ≤ room old.history.now
  pub back : stored_back (Some size) address before (writable new.memory.now)
      (bytes new.memory.now) ≡ bytes old.memory.now

abbrev pub recorded_reads : {M : Type 0} → (M → ByteMap) → (M → ℕ → Bool)
    → (M → ℕ → MemAccessSize → M → Option ℕ → Type 0)
    → RecordedMemory M → ℕ → MemAccessSize → RecordedMemory M → Option ℕ → Type 0
recorded_reads bytes writable reads old address size new answer =
    reads old.memory.now address size new.memory.now answer × Leaves bytes writable old new

abbrev pub recorded_writes : {M : Type 0} → (M → ByteMap) → (M → ℕ → Bool)
    → (M → ℕ → MemAccessSize → M → Option ℕ → Type 0)
    → (M → ℕ → MemAccessSize → ℕ → M → Bool → Type 0)
    → RecordedMemory M → ℕ → MemAccessSize → ℕ → RecordedMemory M → Bool → Type 0
recorded_writes bytes writable reads writes old address size value new answer =
    ReadsAndWrites bytes reads writes old.memory.now address size value new.memory.now answer
    × OnTrue answer (KeepsPart bytes writable old new)
    × OnFalse answer (Leaves bytes writable old new)

-- Of some states a history leads to the newest ones. It leads to all of them, and keeps k changes
-- at the most, if there is room for k; and to all of them unless it is full.
pub record LeadsTo (states : List State) (k : ℕ) (h : History) (t : State) : Type 0 where
  pub forgotten : List State
  pub leads : states ≡ past (changes h) t ++ forgotten
  pub with_room : k ≤ room h → (forgotten ≡ []) × (length (changes h) ≤ k)
  pub when_full : (forgotten ≡ []) ⊎ (room h ≤ length (changes h))

-- A history that led from s to some states leads from t to them, after n more changes at the most.
pub record Carries (n : ℕ) (old : History) (s : State) (new : History) (t : State) : Type 0 where
  pub goes_on : (states : List State) (k : ℕ) → LeadsTo states k old s → LeadsTo states (k + n) new t
  pub tells : (are_calls : List Bool) → Tells are_calls old → Tells are_calls new
  pub room_kept : room new ≡ room old

-- the state of a hart with a recorded memory
abbrev pub recorded_state : {M : Type 0} → (M → ByteMap) → (M → ℕ → Bool)
    → HartState → RecordedMemory M → State
recorded_state bytes writable hart m =
    state_of hart (bytes m.memory.now) (writable m.memory.now)

-- a call at pc, made from e and m: what the environment says of it, and where the program goes on
pub record ServesCall {E : Type 0} (serves : Relation E) (e : E) (m : State) (end : Option ℕ) (pc : ℕ)
    (e' : E) (t : State) (noted : List Access) : Type 0 where
  pub of_call : List Access
  pub after_call : State
  pub served : serves e m e' after_call of_call end
  pub with_reads : WithReads of_call noted
  pub goes_on : t ≡ resumed end pc after_call

-- A call takes the environment and the machine from the first to the second, and the memory that is
-- lent makes its accesses with a read before each write. The history is carried on, but for the
-- registers that the call wrote.
pub record IsRecorded {M E : Type 0} (bytes : M → ByteMap) (writable : M → ℕ → Bool)
    (reads : M → ℕ → MemAccessSize → M → Option ℕ → Type 0)
    (writes : M → ℕ → MemAccessSize → ℕ → M → Bool → Type 0) (serves : Relation E)
    (e : E) (hart : HartState) (a : M) (h : History)
    (e' : E) (hart' : HartState) (a' : M) (h' : History) (end : Option ℕ) : Type 0 where
  pub of_call : List Access
  pub noted : List Access
  pub served : serves e (state_of hart (bytes a) (writable a))
      e' (state_of hart' (bytes a') (writable a')) of_call end
  pub with_reads : WithReads of_call noted
  pub made : Makes reads writes noted a a'
  pub carries : (x : HartState) → Carries (length noted) h (state_of x (bytes a) (writable a))
      h' (state_of x (bytes a') (writable a'))

-- A step takes a hart from the first to the second, and the memory that is lent makes its accesses
-- with a read before each write. The history is carried on, but for the registers that it wrote.
pub record IsStepRecorded {M : Type 0} (bytes : M → ByteMap) (writable : M → ℕ → Bool)
    (reads : M → ℕ → MemAccessSize → M → Option ℕ → Type 0)
    (writes : M → ℕ → MemAccessSize → ℕ → M → Bool → Type 0) (p : HartProfile)
    (r : Option ℕ) (hart : HartState) (a : M) (h : History)
    (r' : Option ℕ) (hart' : HartState) (a' : M) (h' : History) (answer : StepAnswer) : Type 0 where
  pub of_step : List Access
  pub noted : List Access
  pub step : HartStep p (hart_with (state_of hart (bytes a) (writable a)) r)
      (hart_with (state_of hart' (bytes a') (writable a')) r') answer
  pub are_its : AccessesOfHart p (hart_with (state_of hart (bytes a) (writable a)) r) of_step
  pub with_reads : WithReads of_step noted
  pub made : Makes reads writes noted a a'
  pub carries : (x : HartState) → Carries (length noted) h (state_of x (bytes a) (writable a))
      h' (state_of x (bytes a') (writable a'))
