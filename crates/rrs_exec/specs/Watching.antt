-- Runs of which each step is shown: to a watcher, with the record of what the step retired.
use Rattle.std.specs.Prelude.{◌≡◌, ℕ, ◌+◌, ◌≤◌, List, ◌++◌, Bool, true, Option, Some, None, Result, Ok, Err}
use Rattle.rrs_lib.specs.declared.instruction_executor.InstructionException.{InstructionException}
use Rattle.rrs_lib.specs.declared.instruction_executor.InstructionException.TheVariants.{EnvironmentCall}
use Rattle.rrs_lib.specs.Bytes.{ByteMap}
use Rattle.rrs_lib.specs.Accesses.{Access}
use Rattle.rrs_lib.specs.Machine.{State}
use Rattle.rrs_lib.specs.Steps.{StepAnswer}
use Rattle.rrs_words.specs.declared.csrs.HartProfile.{HartProfile}
use Rattle.rrs_hart.specs.Harts.{Hart, hart_with, HartStep, AccessesOfHart}
use Rattle.rrs_trace.specs.declared.retired.Retired.{Retired}
use Rattle.rrs_trace.specs.HartRecords.{HartRetires}
use Rattle.rrs_exec.specs.declared.image.Image.{Image}
use Rattle.rrs_exec.specs.Protection.{bytes_under, writable_under}
use Rattle.rrs_fast.specs.declared.serving.Ending.{Ending}
use Rattle.rrs_fast.specs.declared.serving.Ending.TheVariants.{Limit, Fault, Exit}
use Rattle.rrs_fast.specs.Serving.{Relation, resumed, HartServed}
use Rattle.rrs_linux.specs.declared.Process.{Process}
use Rattle.rrs_linux.specs.declared.host_writer.HostWriter.{HostWriter}
use Rattle.rrs_linux.specs.declared.host_side.HostSide.{HostSide}
use Rattle.rrs_linux.specs.SystemCalls.{Serves}
use Rattle.rrs_exec.specs.Processes.{unit_of, Executing, started, heap_of, RunsImage, RunsProcess}

-- What a step of a program answers: None where the program goes on, the status with which a call
-- ended it, or the exception.
abbrev pub TurnAnswer : Type 0
TurnAnswer = Result (Option ℕ) InstructionException

-- a call at pc: what the environment says of it, and where the program goes on
pub record ServesAt {E : Type 0} (serves : Relation E) (pc : ℕ) (e : E) (m : State)
    (answer : Option ℕ) (e' : E) (t : State) (accesses : List Access) : Type 0 where
  pub after_call : State
  pub served : serves e m e' after_call accesses answer
  pub goes_on : t ≡ resumed answer pc after_call

-- A watcher makes the step of number n from s, with this answer, and sees what it retired.
pub record SeesStep {V : Type 0} (p : HartProfile) (sees : V → Retired → V → Type 0) (n : ℕ)
    (v : V) (s : Hart) (answer : StepAnswer) (t : Hart) (v' : V) : Type 0 where
  pub retired : Retired
  pub step : HartStep p s t answer
  pub retires : HartRetires p n s t answer retired
  pub seen : sees v retired v'

-- By the profile of a hart, by what an environment says of a call, and by what a record that is
-- shown makes of a watcher:
module _ {E V : Type 0} (p : HartProfile) (serves : Relation E) (sees : V → Retired → V → Type 0)
  where
    -- The step of number n is made from s, and what it retired is shown. If it is an ecall, its call
    -- is served.
    pub data Turn (n : ℕ) (e : E) (s : Hart) (v : V) (answer : TurnAnswer)
        (e' : E) (t : Hart) (v' : V) (accesses : List Access) : Type 0 where
      -- a step that is Ok
      Stepped :
          SeesStep p sees n v s (Ok tt) t v' → AccessesOfHart p s accesses
          → answer ≡ Ok None → e' ≡ e
          → Turn n e s v answer e' t v' accesses
      -- an exception that is no ecall
      Faulted : (fault : InstructionException)
          → SeesStep p sees n v s (Err fault) t v' → AccessesOfHart p s accesses
          → ((pc : ℕ) → fault ≡ EnvironmentCall pc → ⊥)
          → answer ≡ Err fault → e' ≡ e
          → Turn n e s v answer e' t v' accesses
      -- an ecall, and its call
      Called : (pc : ℕ) (end : Option ℕ) (m : Hart) (u : State) (of_step of_call : List Access)
          → SeesStep p sees n v s (Err (EnvironmentCall pc)) m v' → AccessesOfHart p s of_step
          → ServesAt serves pc e m.state end e' u of_call → t ≡ hart_with u m.reserved
          → answer ≡ Ok end → accesses ≡ of_step ++ of_call
          → Turn n e s v answer e' t v' accesses

-- And by whether a watcher wants to see more:
module _ {E V : Type 0} (p : HartProfile) (serves : Relation E) (sees : V → Retired → V → Type 0)
    (wants : V → Bool) where
  -- From the first environment, hart and watcher a program makes so many steps, and goes on. Each is
  -- shown once, in order, with its number from 0 on, to a watcher that wants to see it.
  pub data Turns (e : E) (s : Hart) (v : V) : ℕ → E → Hart → V → Type 0 where
    NoTurn : Turns e s v 0 e s v
    OneMore : (n : ℕ) (d e' : E) (m t : Hart) (w v' : V) (accesses : List Access)
        → Turns e s v n d m w → wants w ≡ true
        → Turn p serves sees n d m w (Ok None) e' t v' accesses
        → Turns e s v (n + 1) e' t v'

  -- what is shown of a run that ends so after so many steps: these, and a fault after them
  pub data Shown (e : E) (s : Hart) (v : V) (ending : Ending) (steps : ℕ)
      (e' : E) (t : Hart) (v' : V) : Type 0 where
    ToLimit : Turns e s v steps e' t v' → ending ≡ Limit
        → Shown e s v ending steps e' t v'
    ToExit : (n status : ℕ) (d : E) (m : Hart) (w : V) (accesses : List Access)
        → Turns e s v n d m w → wants w ≡ true
        → Turn p serves sees n d m w (Ok (Some status)) e' t v' accesses
        → ending ≡ Exit status → steps ≡ n + 1
        → Shown e s v ending steps e' t v'
    ToFault : (fault : InstructionException) (d : E) (m : Hart) (w : V) (accesses : List Access)
        → Turns e s v steps d m w → wants w ≡ true
        → Turn p serves sees steps d m w (Err fault) e' t v' accesses
        → ending ≡ Fault fault
        → Shown e s v ending steps e' t v'

  -- The hart runs and is served within the limit, or, where the watcher wants no more, within fewer
  -- steps, and each of its steps is shown.
  pub record IsWatched (limit : ℕ) (e : E) (s : Hart) (v : V)
      (steps : ℕ) (ending : Ending) (e' : E) (t : Hart) (v' : V) : Type 0 where
    pub most : ℕ
    pub within : most ≤ limit
    pub all : wants v' ≡ true → most ≡ limit
    pub accesses : List Access
    pub served : HartServed p serves ending e' t most e s steps accesses
    pub shown : Shown e s v ending steps e' t v'

-- the machine at the entry of an image, in a memory of these bytes under its marks
abbrev pub start_in : Image → ByteMap → (ℕ → Bool) → State
start_in image bytes writable =
    started image.entry image.stack_pointer
    (bytes_under image.marks.items bytes) (writable_under image.marks.items writable)

-- By the profile of the hart, and by what is known of the environment's reader and writers, and of a
-- watcher:
module _ {R W E V : Type 0} (p : HartProfile) (remaining : R → Option (List ℕ))
    (contents : W → Option (List ℕ)) (errors_of : E → Option (List ℕ))
    (sees : V → Retired → V → Type 0) (wants : V → Bool) where
  -- A run from an image within the limit, or, where the watcher wants no more, within fewer steps.
  -- Each of its steps is shown.
  pub record WatchesImage (image : Image) (bytes : ByteMap) (writable : ℕ → Bool) (limit : ℕ)
      (old new : Process R (HostWriter W) (HostWriter E) HostSide) (v v' : V)
      (steps pc : ℕ) (ending : Ending) : Type 0 where
    pub most : ℕ
    pub within : most ≤ limit
    pub all : wants v' ≡ true → most ≡ limit
    pub runs : RunsImage (Executing (Serves remaining contents errors_of) p)
        image bytes writable most old new steps pc ending
    pub shown : Shown p (Serves remaining contents errors_of) sees wants
        (record old { heap = heap_of image }) (hart_with (start_in image bytes writable) None) v
        ending steps new (hart_with runs.end runs.served.0) v'

  -- A process is loaded and runs within the limit, or, where the watcher wants no more, within fewer
  -- steps. Each of its steps is shown.
  pub record WatchesProcess (file : List ℕ) (arguments variables : List (List ℕ)) (wanted limit : ℕ)
      (old new : Process R (HostWriter W) (HostWriter E) HostSide) (v v' : V)
      (steps pc : ℕ) (ending : Ending) : Type 0 where
    pub most : ℕ
    pub within : most ≤ limit
    pub all : wants v' ≡ true → most ≡ limit
    pub runs : RunsProcess (Executing (Serves remaining contents errors_of) p) (unit_of p)
        file arguments variables wanted most old new steps pc ending
    pub shown : Shown p (Serves remaining contents errors_of) sees wants
        (record old { heap = heap_of runs.image })
        (hart_with (start_in runs.image runs.bytes runs.writable) None) v
        ending steps new (hart_with runs.runs.end runs.runs.served.0) v'
