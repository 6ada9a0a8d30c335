-- One step of a hart that has machine mode, alone or with user mode (RISC-V privileged
-- specification 1.12, "Machine-Level ISA"; unprivileged specification, "Zicsr": an instruction on a
-- CSR reads the old value and then writes). An instruction of the hart, with the layers of its
-- profile, does what its step does (rrs_hart), in both modes. Two things are decided here: a jump
-- or a taken branch to a misaligned address raises its exception at the jump, with no register
-- written, as the specification has it; and a wfi retires at once, with an answer that tells
-- whether the hart waits, so that an interrupt that comes meanwhile is taken after it.
use Rattle.std.specs.Prelude.{◌≡◌, ℕ, ◌+◌, ◌%◌, ◌^◌, ◌==◌, ◌&&◌, ◌||◌, List, [], Bool, pos, true, false, not, if◌then◌else◌, Option, Some, None, Result, Ok, Err}
use Rattle.rrs_lib.specs.declared.HartState.{HartState}
use Rattle.rrs_lib.specs.declared.instruction_executor.InstructionException.{InstructionException}
use Rattle.rrs_lib.specs.declared.instruction_executor.InstructionExecutor.{InstructionExecutor}
use Rattle.rrs_instruction.specs.declared.instruction_formats.IType.{IType}
use Rattle.rrs_machine.specs.declared.csrs.CsrFile.{CsrFile}
use Rattle.rrs_machine.specs.declared.csrs.Mode.{Mode}
use Rattle.rrs_machine.specs.declared.csrs.Mode.TheVariants.{User}
use Rattle.rrs_words.specs.declared.csrs.Csr.{Csr}
use Rattle.rrs_words.specs.declared.csrs.Csr.TheVariants.{Mepc}
use Rattle.rrs_machine.specs.declared.csrs.Inputs.{Inputs}
use Rattle.rrs_words.specs.declared.instructions.SystemRow.{SystemRow}
use Rattle.rrs_words.specs.declared.instructions.SystemRow.TheVariants.{Mret, Wfi, FenceI}
use Rattle.rrs_machine.specs.declared.traps.Exception.{Exception}
use Rattle.rrs_machine.specs.declared.traps.Exception.TheVariants.{InstructionMisaligned, IllegalInstruction}
use Rattle.rrs_machine.specs.declared.traps.AccessKind.{AccessKind}
use Rattle.rrs_machine.specs.declared.traps.Interrupt.{Interrupt}
use Rattle.rrs_machine.specs.declared.machine.MachineAnswer.{MachineAnswer}
use Rattle.rrs_machine.specs.declared.machine.MachineAnswer.TheVariants.{Retired, Waiting, Raised, Interrupted}
use Rattle.rrs_instruction.specs.Table.{IsIllegal}
use Rattle.rrs_instruction.specs.Words.{bit}
use Rattle.rrs_lib.specs.Bytes.{ByteMap}
use Rattle.rrs_lib.specs.Machine.{State, state_of, reg, put, with_pc}
use Rattle.rrs_lib.specs.Steps.{cleared, advanced}
use Rattle.rrs_lib.specs.Executor.{state_in}
use Rattle.rrs_lib.specs.Accesses.{Access}
use Rattle.rrs_words.specs.declared.csrs.HartProfile.{HartProfile}
use Rattle.rrs_hart.specs.declared.halves.Encoding.{Encoding}
use Rattle.rrs_hart.specs.declared.halves.Encoding.TheVariants.{Short, Long}
use Rattle.rrs_hart.specs.Halves.{bits_of}
use Rattle.rrs_hart.specs.Harts.{Hart, hart_with, fetched_in, HartStep, AccessesOfHart}
use Rattle.rrs_words.specs.CsrNumbers.{is_read_only}
use Rattle.rrs_machine.specs.Csrs.{mode_of, found_csr, csr_value, csr_written, cycle_counted, retired_file, counted_beside}
use Rattle.rrs_words.specs.SystemInstructions.{IsSystem, csr_number, writes_csr, has_immediate, updated}
use Rattle.rrs_machine.specs.Traps.{exception_code, exception_value, interrupt_code, ready_interrupt, interrupt_due, trap_file, return_file, base_of, vector_of, IsKind, exception_of}

-- ---- the state

-- the state of the kit's machine, and the CSRs
pub record MachineState : Type 0 where
  pub hart : State
  pub csrs : CsrFile

abbrev pub machine : State → CsrFile → MachineState
machine hart csrs = record { hart = hart; csrs = csrs }

-- the state of a hart with a memory and with CSRs
abbrev pub machine_of : HartState → CsrFile → ByteMap → (ℕ → Bool) → MachineState
machine_of hart csrs bytes writable = machine (state_of hart bytes writable) csrs

abbrev pub machine_in : {M : Type 0}
    → (M → ByteMap) → (M → ℕ → Bool) → InstructionExecutor M → CsrFile → MachineState
machine_in bytes writable e csrs = machine (state_in bytes writable e) csrs

-- what a step leaves, and its answer
pub record MachineOutcome : Type 0 where
  pub after : MachineState
  pub answer : MachineAnswer

abbrev pub ends : MachineState → MachineAnswer → MachineOutcome
ends s answer = record { after = s; answer = answer }

-- ---- traps

-- A trap with a cause, a value for mtval and a place to go to. It counts in mcycle, and not in
-- minstret. No register is written.
abbrev pub trapped : ℕ → ℕ → ℕ → MachineState → MachineState
trapped cause value target s = machine (with_pc (cleared s.hart) target)
    (cycle_counted (trap_file cause value s.hart.pc s.csrs))

abbrev pub raised : Exception → MachineState → MachineState
raised x s = trapped (exception_code x) (exception_value x) (base_of s.csrs) s

abbrev pub interrupted : Interrupt → MachineState → MachineState
interrupted x s =
    trapped (2 ^ 31 + interrupt_code x) 0 (vector_of (interrupt_code x) s.csrs) s

abbrev pub raises : Exception → MachineState → MachineOutcome
raises x s = ends (raised x s) (Raised x)

-- ---- the instructions that the 48 rows leave out

-- the hart goes on to the next instruction
abbrev pub gone_on : State → State
gone_on h = advanced h (Ok false)

-- the operand of an instruction on a CSR
abbrev pub operand_of : SystemRow → IType → State → ℕ
operand_of row f h = if has_immediate row then f.rs1 else reg h f.rs1

-- the CSRs after such an instruction that retires, by the old value of its CSR and the operand
abbrev pub file_updated : SystemRow → IType → Csr → ℕ → ℕ → CsrFile → CsrFile
file_updated row f csr old operand file =
    if writes_csr row f
    then csr_written csr (updated row old operand) (counted_beside csr file)
    else retired_file file

-- rd gets the old value of the CSR
abbrev pub accessed : SystemRow → IType → Csr → Inputs → MachineState → MachineState
accessed row f csr i s = machine
    (gone_on (put (cleared s.hart) f.rd (pos (csr_value csr s.csrs i))))
    (file_updated row f csr (csr_value csr s.csrs i) (operand_of row f s.hart) s.csrs)

-- A number that is no CSR of the mode, and a write to one that is read only, is an illegal
-- instruction.
abbrev pub csr_outcome : SystemRow → IType → ℕ → Option Csr → Inputs → MachineState
    → MachineOutcome
csr_outcome row f w None i s = raises (IllegalInstruction w) s
csr_outcome row f w (Some csr) i s =
    if writes_csr row f && is_read_only (csr_number f)
    then raises (IllegalInstruction w) s
    else ends (accessed row f csr i s) Retired

-- the hart goes back to where mepc says
abbrev pub returned : Inputs → MachineState → MachineState
returned i s = machine (with_pc (cleared s.hart) (csr_value Mepc s.csrs i))
    (retired_file (return_file s.csrs))

-- an instruction with no effect
abbrev pub passed : MachineState → MachineState
passed s = machine (gone_on (cleared s.hart)) (retired_file s.csrs)

-- A wfi retires, and the hart is after it. It answers that the hart waits, unless an interrupt is
-- pending and enabled by mie, whatever MIE is.
abbrev pub wait_answer : Option Interrupt → MachineAnswer
wait_answer (Some x) = Retired
wait_answer None = Waiting

-- User mode has no mret, and no wfi where TW is 1.
abbrev pub is_permitted : SystemRow → Mode → CsrFile → Bool
is_permitted Mret User file = false
is_permitted Wfi User file = not (bit file.mstatus 21 == 1)
is_permitted _ _ file = true

-- the outcome of the word w, which is this row with these fields, where the mode has it
abbrev pub permitted_outcome : SystemRow → IType → ℕ → Inputs → MachineState → MachineOutcome
permitted_outcome Mret f w i s = ends (returned i s) Retired
permitted_outcome Wfi f w i s = ends (passed s) (wait_answer (ready_interrupt s.csrs i))
permitted_outcome row f w i s = csr_outcome row f w (found_csr s.csrs (csr_number f)) i s

abbrev pub system_outcome : SystemRow → IType → ℕ → Inputs → MachineState → MachineOutcome
system_outcome row f w i s =
    if is_permitted row (mode_of s.csrs) s.csrs
    then permitted_outcome row f w i s
    else raises (IllegalInstruction w) s

-- ---- a step

-- the hart, whose reservation is kept among the CSRs
abbrev pub hart_in : MachineState → Hart
hart_in s = hart_with s.hart s.csrs.reservation

-- the machine whose hart has become this one
abbrev pub with_hart : Hart → MachineState → MachineState
with_hart h s = machine h.state (record s.csrs { reservation = h.reserved })

abbrev pub layers_of : MachineState → HartProfile
layers_of s = s.csrs.profile.hart

-- the instruction that is about to be executed, or the exception of its fetch
abbrev pub fetched_at : MachineState → Result Encoding InstructionException
fetched_at s = fetched_in (layers_of s) s.hart.bytes s.hart.pc

-- fence.i is a layer of the hart; machine mode has the instructions on CSRs, mret and wfi
abbrev pub is_own : SystemRow → Bool
is_own FenceI = false
is_own _ = true

-- the encoding is one of these
abbrev pub IsOwn : Encoding → SystemRow → IType → Type 0
IsOwn (Short h) row f = ⊥
IsOwn (Long w) row f = IsIllegal w × IsSystem w row f × (is_own row ≡ true)

-- none of them is about to be executed
abbrev pub IsNoSystem : MachineState → Type 0
IsNoSystem s = (x : Encoding) (row : SystemRow) (f : IType) → fetched_at s ≡ Ok x → ¬ IsOwn x row f

-- an instruction may lie there
abbrev pub may_lie : HartProfile → ℕ → Bool
may_lie p a = p.compressed || (a % 4 == 0)

-- the instruction retires
abbrev pub retired : MachineState → MachineState
retired s = machine s.hart (retired_file s.csrs)

-- the CSRs are those of a state before a step of its hart, which may have changed the reservation
abbrev pub IsBefore : CsrFile → MachineState → Type 0
IsBefore file s = s.csrs ≡ record file { reservation = s.csrs.reservation }

-- An instruction, in one of four cases.
pub data InstructionStep (i : Inputs) (s t : MachineState) (answer : MachineAnswer) : Type 0 where
  -- one of the hart retires
  Retires : (u : Hart)
      → HartStep (layers_of s) (hart_in s) u (Ok tt) → may_lie (layers_of s) u.state.pc ≡ true
      → t ≡ retired (with_hart u s) → answer ≡ Retired
      → InstructionStep i s t answer
  -- a jump or a taken branch to a misaligned address raises the exception
  Strays : (u : Hart)
      → HartStep (layers_of s) (hart_in s) u (Ok tt) → may_lie (layers_of s) u.state.pc ≡ false
      → t ≡ raised (InstructionMisaligned u.state.pc) s
      → answer ≡ Raised (InstructionMisaligned u.state.pc)
      → InstructionStep i s t answer
  -- the step of the hart ends with an exception, which is raised
  Faults : (u : Hart) (e : InstructionException) (kind : AccessKind)
      → HartStep (layers_of s) (hart_in s) u (Err e)
      → IsNoSystem s → IsKind (layers_of s) (fetched_at s) kind
      → t ≡ raised (exception_of (mode_of s.csrs) kind e) (with_hart u s)
      → answer ≡ Raised (exception_of (mode_of s.csrs) kind e)
      → InstructionStep i s t answer
  -- one that machine mode has
  Executes : (x : Encoding) (row : SystemRow) (f : IType)
      → fetched_at s ≡ Ok x → IsOwn x row f
      → ends t answer ≡ system_outcome row f (bits_of x) i s
      → InstructionStep i s t answer

-- One step takes s to t with this answer: an interrupt is taken, or else an instruction.
pub data MachineStep (i : Inputs) (s t : MachineState) (answer : MachineAnswer) : Type 0 where
  Interrupts : (x : Interrupt)
      → interrupt_due s.csrs i ≡ Some x
      → t ≡ interrupted x s → answer ≡ Interrupted x
      → MachineStep i s t answer
  Proceeds :
      interrupt_due s.csrs i ≡ None
      → InstructionStep i s t answer
      → MachineStep i s t answer

-- no other step leads from s
abbrev pub IsOnlyMachineStep : Inputs → MachineState → MachineState → MachineAnswer → Type 0
IsOnlyMachineStep i s t answer =
    (t' : MachineState) (answer' : MachineAnswer)
    → MachineStep i s t' answer' → (t' ≡ t) × (answer' ≡ answer)

-- The accesses of a step: none where an interrupt is taken, and else those of the step of the hart.
-- To the hart an instruction of machine mode is an illegal one, and makes the fetch alone.
pub data AccessesOfMachineStep (i : Inputs) (s : MachineState) (accesses : List Access)
    : Type 0 where
  OfInterrupt : (x : Interrupt)
      → interrupt_due s.csrs i ≡ Some x → accesses ≡ []
      → AccessesOfMachineStep i s accesses
  OfInstruction :
      interrupt_due s.csrs i ≡ None → AccessesOfHart (layers_of s) (hart_in s) accesses
      → AccessesOfMachineStep i s accesses
