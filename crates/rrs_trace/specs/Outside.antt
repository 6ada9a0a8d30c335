-- An access that is made outside of the machine: what the instruction at the program counter asks
-- of a memory, and what a hart is left as once the answer is known (RISC-V unprivileged
-- specification, RV32I, "Load and Store Instructions").
use Rattle.std.specs.Prelude.{◌≡◌, ◌≢◌, ℕ, ◌%◌, ◌^◌, List, [], ◌∷◌, ◌++◌, ℤ, ◌==◌, Bool, true, false, if◌then◌else◌, Option, Some, None, is_some, option_map, slice_index, IfSome, IsSomeAnd, Result, Ok, Err}
use Rattle.rrs_lib.specs.declared.MemAccessSize.{MemAccessSize}
use Rattle.rrs_lib.specs.declared.MemAccessSize.TheVariants.{Word}
use Rattle.rrs_lib.specs.declared.HartState.{HartState}
use Rattle.rrs_lib.specs.declared.instruction_executor.StepEnd.{StepEnd}
use Rattle.rrs_lib.specs.declared.instruction_executor.InstructionException.{InstructionException}
use Rattle.rrs_lib.specs.declared.instruction_executor.InstructionException.TheVariants.{AlignmentFault, LoadAccessFault, StoreAccessFault, EnvironmentCall, Breakpoint}
use Rattle.rrs_instruction.specs.declared.instruction_formats.IType.{IType}
use Rattle.rrs_instruction.specs.declared.instruction_formats.SType.{SType}
use Rattle.rrs_lib.specs.declared.instruction.Instruction.{Instruction}
use Rattle.rrs_lib.specs.Encodings.{Fields, I, S}
use Rattle.rrs_lib.specs.Instructions.{row_of, fields_of, IsInstruction}
use Rattle.rrs_lib.specs.Table.{Row, table, Action, Load, Store, CallEnvironment, Break, Decodes}
use Rattle.rrs_lib.specs.Bytes.{ByteMap, width, little_endian, store}
use Rattle.rrs_lib.specs.Machine.{State, reg, put, state_of, hart_of, plus_immediate, Answer, Outcome, outcome, fault_outcome, outcome_by, Executes}
use Rattle.rrs_lib.specs.Steps.{Step, StepAnswer, next_word, cleared, advanced, answered}
use Rattle.rrs_lib.specs.Accesses.{Access, Read, Write, AccessesOf, read_in, write_in, read_if_aligned, size_of}
use Rattle.rrs_trace.specs.declared.outside.DataRequest.{DataRequest}
use Rattle.rrs_trace.specs.declared.outside.Answered.{Answered}

-- ---- what is asked

-- what `request` answers
abbrev pub RequestAnswer : Type 0
RequestAnswer = Result (Option DataRequest) InstructionException

-- the access of an answer, with what a state answers to it
abbrev pub requested : State → RequestAnswer → List Access
requested s (Ok None) = []
requested s (Ok (Some (DataRequest.Load a size))) = read_in s a size ∷ []
requested s (Ok (Some (DataRequest.Store a size value))) = write_in s a size value ∷ []
requested s (Err e) = []

-- the accesses of the step from s after its fetch
abbrev pub AccessesAfterFetch : State → List Access → Type 0
AccessesAfterFetch s accesses = AccessesOf s (read_if_aligned s s.pc Word ++ accesses)

-- what an answer says of the step: it is Ok, or it raises this exception, whatever the memory
-- answers
abbrev pub Foretells : State → RequestAnswer → Type 0
Foretells s (Ok None) = (t : State) × Step s t (Ok tt)
Foretells s (Ok (Some request)) = Unit {0}
Foretells s (Err e) = Step s (cleared s) (Err e)

-- w is the word at the program counter, if that is a multiple of 4
abbrev pub HasWord : State → ℕ → Type 0
HasWord s w = s.pc % 4 ≡ 0 → little_endian s.bytes s.pc 4 ≡ Some w

-- P holds of a hart with each memory that has the word w at the program counter
abbrev pub WithEachMemory : HartState → ℕ → (State → Type 0) → Type 0
WithEachMemory hart w P = (bytes : ByteMap) (writable : ℕ → Bool)
    → HasWord (state_of hart bytes writable) w → P (state_of hart bytes writable)

-- ---- what is answered

-- The access after the fetch is answered so: a read by the low bytes of what is given, or refused,
-- and a write is granted where something is given.
abbrev pub AnsweredBy : Option ℕ → List Access → Type 0
AnsweredBy given (Read a size answer ∷ []) = answer ≡ option_map (λ x. x % 256 ^ width size) given
AnsweredBy given (Write a size value granted ∷ []) = granted ≡ is_some given
AnsweredBy given _ = Unit {0}

-- the bytes after the accesses: those of a store that was granted are stored
abbrev pub bytes_after : List Access → ByteMap → ByteMap
bytes_after (Write a size value true ∷ []) bytes = store bytes a (width size) value
bytes_after _ bytes = bytes

-- With each memory that has the word w at the program counter, and answers the access after the
-- fetch by what is given, the hart goes from old to new by a step of the machine.
abbrev pub Completes : HartState → HartState → ℕ → Option ℕ → StepAnswer → Type 0
Completes old new w given answer = WithEachMemory old w (λ s.
    (accesses : List Access) → AccessesAfterFetch s accesses → AnsweredBy given accesses
    → Step s (state_of new (bytes_after accesses s.bytes) s.writable) answer)

-- ---- an instruction at the program counter

-- The word at the program counter is a load from an address that is a multiple of its size, and t
-- is what it leaves where the memory gives it the low bytes of this value.
pub record LoadsGiven (value : ℕ) (s t : State) : Type 0 where
  pub w : ℕ
  pub row : Row
  pub fields : IType
  pub n : ℕ
  pub extended : ℕ → ℤ
  pub fetched : next_word s ≡ Some w
  pub decoded : Decodes w row (I fields)
  pub is_load : (table row).action ≡ Load n extended
  pub aligned : plus_immediate (reg s fields.rs1) fields.imm % n ≡ 0
  pub after : t ≡ advanced (put (cleared s) fields.rd (extended (value % 256 ^ n))) (Ok false)

-- The word at the program counter is a store to an address that is a multiple of its size, and t is
-- what it leaves beside the bytes that it stores.
pub record StoresElsewhere (s t : State) : Type 0 where
  pub w : ℕ
  pub row : Row
  pub fields : SType
  pub n : ℕ
  pub fetched : next_word s ≡ Some w
  pub decoded : Decodes w row (S fields)
  pub is_store : (table row).action ≡ Store n
  pub aligned : plus_immediate (reg s fields.rs1) fields.imm % n ≡ 0
  pub after : t ≡ advanced (cleared s) (Ok false)

-- ---- of the code

-- an action with fields gives the register of a load this value, and leaves all else
abbrev pub loaded : Action → Fields → ℕ → State → State
loaded (Load n extended) (I f) value s = put s f.rd (extended (value % 256 ^ n))
loaded _ _ value s = s

-- what an action with fields asks, whether or not its address is aligned
abbrev pub request_by : Action → Fields → State → Option DataRequest
request_by (Load n extended) (I f) s =
    Some (DataRequest.Load (plus_immediate (reg s f.rs1) f.imm) (size_of n))
request_by (Store n) (S f) s =
    Some (DataRequest.Store (plus_immediate (reg s f.rs1) f.imm) (size_of n) (reg s f.rs2))
request_by _ _ s = None

-- the exception of an action that accesses nothing, if it raises one
abbrev pub call_fault : Action → ℕ → Option InstructionException
call_fault CallEnvironment pc = Some (EnvironmentCall pc)
call_fault Break pc = Some (Breakpoint pc)
call_fault _ pc = None

abbrev pub address_of : DataRequest → ℕ
address_of (DataRequest.Load a size) = a
address_of (DataRequest.Store a size value) = a

abbrev pub size_asked : DataRequest → MemAccessSize
size_asked (DataRequest.Load a size) = size
size_asked (DataRequest.Store a size value) = size

-- the answer of `request` for what an action asks, or for the exception of one that asks nothing
abbrev pub answer_to : Option DataRequest → Option InstructionException → RequestAnswer
answer_to None None = Ok None
answer_to None (Some e) = Err e
answer_to (Some request) e =
    if address_of request % width (size_asked request) == 0
    then Ok (Some request) else Err (AlignmentFault (address_of request))

abbrev pub answer_by : Action → Fields → State → RequestAnswer
answer_by action f s = answer_to (request_by action f s) (call_fault action s.pc)

-- the exception of an access that is refused
abbrev pub refusal : DataRequest → InstructionException
refusal (DataRequest.Load a size) = LoadAccessFault a
refusal (DataRequest.Store a size value) = StoreAccessFault a

abbrev pub is_load : DataRequest → Bool
is_load (DataRequest.Load a size) = true
is_load (DataRequest.Store a size value) = false

-- What an action with fields comes to, by what it asks and by what is given, in a state that has
-- the bytes after a store already.
abbrev pub outcome_given : Action → Fields → RequestAnswer → Option ℕ → State → Option Outcome
outcome_given action f (Err e) given s = Some (fault_outcome e s)
outcome_given action f (Ok None) given s = outcome_by action f s
outcome_given action f (Ok (Some request)) None s = Some (fault_outcome (refusal request) s)
outcome_given action f (Ok (Some request)) (Some value) s =
    Some (outcome (loaded action f value s) (Ok false))

-- a step that leaves t and has this answer is an outcome that was gone on from
abbrev pub GoesTo : State → StepAnswer → Option Outcome → Type 0
GoesTo t answer o = IfSome o (λ x. (t ≡ advanced x.after x.answer) × (answer ≡ answered x.answer))

-- a row with its fields is executed, and the hart goes on to the next instruction
pub record StepsAlone (row : Row) (f : Fields) (s t : State) (answer : StepAnswer) : Type 0 where
  pub after : State
  pub set : Answer
  pub executes : Executes row f s after set
  pub goes : t ≡ advanced after set
  pub answers : answer ≡ answered set

-- what an instruction at the program counter asks: the one that was found, with its request, or
-- none
pub record FindsAccess (s : State) (found : Option (Instruction × DataRequest)) : Type 0 where
  pub stands : IfSome found (λ x. IsSomeAnd (next_word s) (λ w. IsInstruction w x.0))
  pub asks : IfSome found (λ x.
      answer_by (table (row_of x.0)).action (fields_of x.0) s ≡ Ok (Some x.1))
  pub none : (w : ℕ) (row : Row) (f : Fields) (request : DataRequest)
      → found ≡ None → next_word s ≡ Some w → Decodes w row f
      → answer_by (table row).action f s ≢ Ok (Some request)

-- the load at the program counter was given a value, or the store there was carried out
abbrev pub GoesBehind : Bool → ℕ → State → State → Type 0
GoesBehind true value s t = LoadsGiven value s t
GoesBehind false value s t = StoresElsewhere s t

-- of a row with its fields a hart asks this, whatever the memory
pub record Asks (row : Row) (f : Fields) (hart : HartState) (answer : RequestAnswer) : Type 0 where
  pub asks : (bytes : ByteMap) (writable : ℕ → Bool)
      → answer ≡ answer_by (table row).action f (state_of hart bytes writable)

-- a hart goes from old to new by what a load that was given this value writes
pub record Loads (row : Row) (f : Fields) (value : ℕ) (old new : HartState) : Type 0 where
  pub loads : (bytes : ByteMap) (writable : ℕ → Bool) → state_of new bytes writable
      ≡ loaded (table row).action f value (state_of old bytes writable)

-- a hart goes on to the next instruction
pub record Advances (old new : HartState) : Type 0 where
  pub advances : (bytes : ByteMap) (writable : ℕ → Bool) → state_of new bytes writable
      ≡ advanced (state_of old bytes writable) (Ok false)

-- the one, and then the other
pub record Grants (row : Row) (f : Fields) (value : ℕ) (old new : HartState) : Type 0 where
  pub grants : (bytes : ByteMap) (writable : ℕ → Bool) → state_of new bytes writable
      ≡ advanced (loaded (table row).action f value (state_of old bytes writable)) (Ok false)

-- With each memory that answers the request of a row with its fields by what is given, the hart
-- goes from old to new by that row, and on to the next instruction.
pub record Performs (row : Row) (f : Fields) (given : Option ℕ) (old new : HartState)
    (answer : StepAnswer) : Type 0 where
  pub request : RequestAnswer
  pub asks : Asks row f old request
  pub performs : (bytes : ByteMap) (writable : ℕ → Bool) → GoesTo (state_of new bytes writable)
      answer (outcome_given (table row).action f request given (state_of old bytes writable))

-- a hart that is taken apart performs so, in the place where it was
pub record PerformsOn (row : Row) (f : Fields) (old new : Answered) (end : StepEnd) : Type 0 where
  pub performs : Performs row f old.given (hart_of old.registers.now old.pc None)
      (hart_of new.registers.now end.pc end.last_register_write) end.answer
  pub entry_zero : slice_index new.registers.now 0 ≡ slice_index old.registers.now 0
  pub same_registers : new.registers.ghost_name ≡ old.registers.ghost_name
