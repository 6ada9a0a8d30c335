-- Programs that call their environment: a run to an ecall, the call, a run from after it, and so
-- on (RISC-V unprivileged specification, "Environment Call and Breakpoints": ecall makes a service
-- request to the execution environment). The runs are those of a hart with a profile. A call sees
-- the state of the kit's machine, and the address that is reserved stays.
use Rattle.std.specs.Prelude.{◌≡◌, ℕ, ◌+◌, ◌-◌, List, ◌++◌, pos, Bool, Option, Some, None}
use Rattle.rrs_lib.specs.declared.MemAccessSize.{MemAccessSize}
use Rattle.rrs_lib.specs.declared.instruction_executor.InstructionException.{InstructionException}
use Rattle.rrs_lib.specs.declared.instruction_executor.InstructionException.TheVariants.{EnvironmentCall}
use Rattle.rrs_fast.specs.declared.serving.Ending.{Ending}
use Rattle.rrs_fast.specs.declared.serving.Ending.TheVariants.{Limit, Fault, Exit}
use Rattle.rrs_lib.specs.Machine.{State, with_pc}
use Rattle.rrs_lib.specs.Accesses.{Access, answers_of_run, Makes}
use Rattle.rrs_lib.specs.Words.{word}
use Rattle.rrs_words.specs.declared.csrs.HartProfile.{HartProfile}
use Rattle.rrs_hart.specs.Harts.{Hart, hart_with, no_layers, HartRun, AccessesOfHartRun}

-- What an environment says of a call: itself and the machine before, both after, the accesses that
-- the call makes, and its answer. That is None where the program goes on, or the status that it
-- ended with.
abbrev pub Relation : Type 0 → Type 1
Relation E = E → State → E → State → List Access → Option ℕ → Type 0

-- after a call from an ecall at pc: the program goes on after it, if it goes on
abbrev pub resumed : Option ℕ → ℕ → State → State
resumed None pc s = with_pc s (word (pos (pc + 4)))
resumed (Some status) pc s = s

-- how a run ends where no call follows it: at the limit, or by an exception that is no ecall
abbrev pub EndsBy : Option InstructionException → Ending → Type 0
EndsBy None ending = ending ≡ Limit
EndsBy (Some (EnvironmentCall pc)) ending = ⊥
EndsBy (Some fault) ending = ending ≡ Fault fault

-- By what an environment of type E says of a call:
module _ {E : Type 0} (serves : Relation E) where
  -- a call does one thing at most
  abbrev pub IsDetermined : Type 0
  IsDetermined =
      (e d d' : E) (s t t' : State) (a a' : List Access) (answer answer' : Option ℕ)
      → serves e s d t a answer → serves e s d' t' a' answer'
      → (d ≡ d') × (t ≡ t') × (a ≡ a') × (answer ≡ answer')

  -- A call does one thing at most, up to a likeness: in one state, environments that are alike
  -- make the same accesses, leave one state, give one answer, and are alike again.
  pub record IsDeterminedBy (alike : E → E → Type 0) : Type 0 where
    pub reflexive : (e : E) → alike e e
    pub determined :
        (e e' d d' : E) (s t t' : State) (a a' : List Access) (answer answer' : Option ℕ)
        → alike e e' → serves e s d t a answer → serves e' s d' t' a' answer'
        → alike d d' × (t ≡ t') × (a ≡ a') × (answer ≡ answer')

-- And by the profile of a hart:
module _ {E : Type 0} (p : HartProfile) (serves : Relation E) where
  -- From s a run comes to an ecall within the limit, and its call is served. The ecall counts as a
  -- step.
  pub record Called (limit : ℕ) (e : E) (s : Hart) (steps : ℕ) (answer : Option ℕ)
      (e' : E) (t : Hart) (accesses : List Access) : Type 0 where
    pub before : ℕ
    pub pc : ℕ
    pub at_call : Hart
    pub after_call : State
    pub of_run : List Access
    pub of_call : List Access
    pub run : HartRun p limit s before (Some (EnvironmentCall pc)) at_call
    pub accessed : AccessesOfHartRun p s
        (answers_of_run before (Some (EnvironmentCall pc))) of_run
    pub served : serves e at_call.state e' after_call of_call answer
    pub goes_on : t ≡ hart_with (resumed answer pc after_call) at_call.reserved
    pub counted : steps ≡ before + 1
    pub all : accesses ≡ of_run ++ of_call

  -- The hart runs and is served, and ends so, with the environment e' and at t. The places after
  -- the colon: within a limit, from an environment and a hart, after so many steps, with these
  -- accesses.
  pub data HartServed (ending : Ending) (e' : E) (t : Hart)
      : ℕ → E → Hart → ℕ → List Access → Type 0 where
    -- a run that no call follows
    Last : (limit : ℕ) (e : E) (s : Hart) (steps : ℕ) (accesses : List Access)
        → (end : Option InstructionException)
        → HartRun p limit s steps end t
        → AccessesOfHartRun p s (answers_of_run steps end) accesses
        → EndsBy end ending → e' ≡ e
        → HartServed ending e' t limit e s steps accesses
    -- a call that ends the program
    Exits : (limit : ℕ) (e : E) (s : Hart) (steps : ℕ) (accesses : List Access)
        → (status : ℕ)
        → Called limit e s steps (Some status) e' t accesses
        → ending ≡ Exit status
        → HartServed ending e' t limit e s steps accesses
    -- a call, and what follows it within what is left of the limit
    GoesOn : (limit : ℕ) (e : E) (s : Hart) (first later : ℕ) (of_first of_later : List Access)
        → (d : E) (m : Hart)
        → Called limit e s first None d m of_first
        → HartServed ending e' t (limit - first) d m later of_later
        → HartServed ending e' t limit e s (first + later) (of_first ++ of_later)

  -- no other chain leads from there, if a call does one thing at most
  abbrev pub IsOnlyServed : ℕ → E → Hart → ℕ → Ending → E → Hart → Type 0
  IsOnlyServed limit e s steps ending d t =
      IsDetermined serves
      → (steps' : ℕ) (ending' : Ending) (d' : E) (t' : Hart) (a' : List Access)
      → HartServed ending' d' t' limit e s steps' a'
      → (steps' ≡ steps) × (ending' ≡ ending) × (d' ≡ d) × (t' ≡ t)

  -- By which environments are alike: each chain that leads from there, from this environment or
  -- one that is alike, has as many steps, ends so, with an environment that is alike and in this
  -- state, and by accesses that are made.
  abbrev pub IsOnlyHartAlike : (E → E → Type 0) → (List Access → Type 0)
      → ℕ → E → Hart → ℕ → Ending → E → Hart → Type 0
  IsOnlyHartAlike alike IsMade limit e s steps ending d t =
      (e' d' : E) (t' : Hart) (steps' : ℕ) (ending' : Ending) (a' : List Access)
      → alike e e' → HartServed ending' d' t' limit e' s steps' a'
      → (steps' ≡ steps) × (ending' ≡ ending) × alike d d' × (t' ≡ t) × IsMade a'

-- For the kit's machine, which is a hart without layers, and no address is reserved:
module _ {E : Type 0} (serves : Relation E) where
  -- the machine runs and is served
  abbrev pub Served : Ending → E → State → ℕ → E → State → ℕ → List Access → Type 0
  Served ending e' t limit e s steps accesses =
      HartServed no_layers serves ending e' (hart_with t None) limit e (hart_with s None)
      steps accesses

  abbrev pub IsOnlyAlike : (E → E → Type 0) → (List Access → Type 0)
      → ℕ → E → State → ℕ → Ending → E → State → Type 0
  IsOnlyAlike alike IsMade limit e s steps ending d t =
      IsOnlyHartAlike no_layers serves alike IsMade limit e (hart_with s None)
      steps ending d (hart_with t None)

-- Exactly the accesses of some list that is meant take the memory from old to new. There may be
-- more than one such list, since an environment may leave open what a call accesses.
pub record MakesSome {M : Type 0}
    (reads : M → ℕ → MemAccessSize → M → Option ℕ → Type 0)
    (writes : M → ℕ → MemAccessSize → ℕ → M → Bool → Type 0)
    (IsMeant : List Access → Type 0) (old new : M) : Type 0 where
  pub accesses : List Access
  pub these : IsMeant accesses
  pub made : Makes reads writes accesses old new
