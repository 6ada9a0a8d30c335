-- A load or a store at any address, by accesses of single bytes (RISC-V unprivileged specification,
-- "Load and Store Instructions": an execution environment may support misaligned loads and stores
-- fully, and need not make each at once; Linux does so for a process).
use Rattle.std.specs.Prelude.{◌≡◌, ℕ, zero, suc, ◌+◌, ◌/◌, ◌^◌, ◌%◌, nat_lt, if◌then◌else◌, List, [], ◌∷◌, ◌++◌, ℤ, pos, Bool, true, false, Option, Some, None, Result, Ok, Err}
use Rattle.rrs_instruction.specs.Encodings.{Fields, I, S}
use Rattle.rrs_instruction.specs.Table.{Action, Load, Store}
use Rattle.rrs_instruction.specs.Results.{sign_extended}
use Rattle.rrs_memory.specs.declared.MemAccessSize.TheVariants.{Byte}
use Rattle.rrs_memory.specs.Bytes.{ByteMap, little_endian, all_writable}
use Rattle.rrs_lib.specs.declared.instruction_executor.InstructionException.{InstructionException}
use Rattle.rrs_lib.specs.declared.instruction_executor.InstructionException.TheVariants.{StoreAccessFault}
use Rattle.rrs_lib.specs.Machine.{State, reg, plus_immediate, Outcome, read_outcome, granted_outcome, fault_outcome}
use Rattle.rrs_lib.specs.Steps.{StepAnswer, answered}
use Rattle.rrs_lib.specs.Accesses.{Access, Read, Write}
use Rattle.rrs_hart.specs.declared.bytes.ByteAccess.{ByteAccess}

-- ---- a load or a store at any address

-- the low n bytes of a value are stored, or none of them
abbrev pub stored_anywhere : ℕ → ℕ → ℕ → State → Outcome
stored_anywhere n value a s =
    if all_writable s.writable a n then granted_outcome n value a s
    else fault_outcome (StoreAccessFault a) s

-- The outcome of a load or a store wherever its address is: the one that Machine.antt gives it, but
-- for the test of the address. Another action has none.
abbrev pub anywhere_by : Action → Fields → State → Option Outcome
anywhere_by (Load n extended) (I f) s =
    Some (read_outcome extended f.rd (plus_immediate (reg s f.rs1) f.imm) s
    (little_endian s.bytes (plus_immediate (reg s f.rs1) f.imm) n))
anywhere_by (Store n) (S f) s =
    Some (stored_anywhere n (reg s f.rs2) (plus_immediate (reg s f.rs1) f.imm) s)
anywhere_by _ _ s = None

-- ---- its accesses, each of a byte

-- A byte is read. No access reaches 2 ^ 32, where nothing is mapped.
abbrev pub byte_read : ByteMap → ℕ → List Access
byte_read bytes a = if nat_lt a (2 ^ 32) then Read a Byte (little_endian bytes a 1) ∷ [] else []

-- a byte is read behind others, where all of these are mapped
abbrev pub read_after : Option ℕ → ByteMap → ℕ → List Access
read_after None bytes a = []
read_after (Some value) bytes a = byte_read bytes a

-- the n bytes from a on are read, in order, up to one that is not mapped
abbrev pub byte_reads : ByteMap → ℕ → ℕ → List Access
byte_reads bytes a zero = []
byte_reads bytes a (suc n) =
    byte_reads bytes a n ++ read_after (little_endian bytes a n) bytes (a + n)

-- the byte that was read is written as it is, so that it stays
abbrev pub same_written : (ℕ → Bool) → ℕ → Option ℕ → List Access
same_written writable a None = []
same_written writable a (Some byte) = Write a Byte byte (writable a) ∷ []

-- whether a byte is writable, tried
abbrev pub byte_trial : ByteMap → (ℕ → Bool) → ℕ → List Access
byte_trial bytes writable a =
    byte_read bytes a ++ same_written writable a (little_endian bytes a 1)

-- the n bytes from a on are tried, in order, up to one that is not writable
abbrev pub byte_trials : ByteMap → (ℕ → Bool) → ℕ → ℕ → List Access
byte_trials bytes writable a zero = []
byte_trials bytes writable a (suc n) =
    byte_trials bytes writable a n
    ++ (if all_writable writable a n then byte_trial bytes writable (a + n) else [])

-- the low n bytes of a value are written, in order: byte i is the lowest of value / 256 ^ i
abbrev pub byte_writes : ℕ → ℕ → ℕ → List Access
byte_writes a value zero = []
byte_writes a value (suc n) =
    byte_writes a value n ++ Write (a + n) Byte (value / 256 ^ n) true ∷ []

-- a store tries its bytes first, and writes where all are writable
abbrev pub byte_stores : ℕ → ℕ → ℕ → State → List Access
byte_stores n value a s =
    byte_trials s.bytes s.writable a n
    ++ (if all_writable s.writable a n then byte_writes a value n else [])

abbrev pub accesses_anywhere : Action → Fields → State → List Access
accesses_anywhere (Load n extended) (I f) s =
    byte_reads s.bytes (plus_immediate (reg s f.rs1) f.imm) n
accesses_anywhere (Store n) (S f) s =
    byte_stores n (reg s f.rs2) (plus_immediate (reg s f.rs1) f.imm) s
accesses_anywhere _ _ s = []

-- ---- what is told of it

abbrev pub told_load : ℕ → ℕ → Option ℕ → Option ByteAccess
told_load n a None = None
told_load n a (Some x) = Some (record { address = a; size = n; value = x; is_store = false })

-- all its bytes as one access: the value that is read, which is not extended, or the low bytes that
-- are written; none where a byte can't be read, or where an action is neither
abbrev pub told_anywhere : Action → Fields → State → Option ByteAccess
told_anywhere (Load n extended) (I f) s =
    told_load n (plus_immediate (reg s f.rs1) f.imm)
    (little_endian s.bytes (plus_immediate (reg s f.rs1) f.imm) n)
told_anywhere (Store n) (S f) s =
    Some (record {
      address = plus_immediate (reg s f.rs1) f.imm;
      size = n;
      value = reg s f.rs2 % 256 ^ n;
      is_store = true;
    })
told_anywhere _ _ s = None

-- ---- how the functions of bytes.rt say it

-- the number that a value of so many bytes is, by its sign or without one
abbrev pub extended_by : Bool → ℕ → ℕ → ℤ
extended_by is_signed size = if is_signed then sign_extended size else pos

-- the answer of what tells something more where it is Ok
abbrev pub answer_of : {A : Type 0} → Result A InstructionException → StepAnswer
answer_of (Ok told) = Ok tt
answer_of (Err e) = Err e

abbrev pub answer_if : {A : Type 0} → Option (Result A InstructionException) → Option StepAnswer
answer_if None = None
answer_if (Some answer) = Some (answer_of answer)

-- an outcome, where there is one, is what became of the state, and the answer
abbrev pub Leaves : Outcome → State → StepAnswer → Type 0
Leaves o t answer = (t ≡ o.after) × (answer ≡ answered o.answer)

abbrev pub LeavesIf : Option Outcome → State → State → Option StepAnswer → Type 0
LeavesIf None s t None = t ≡ s
LeavesIf (Some o) s t (Some answer) = Leaves o t answer
LeavesIf None s t (Some answer) = ⊥
LeavesIf (Some o) s t None = ⊥
