-- Traps (RISC-V privileged specification 1.12, "Machine-Level CSRs": mstatus, mtvec, mepc, mcause,
-- mtval, mip and mie). An exception is raised by an instruction, and an interrupt is taken before
-- one. A trap goes to machine mode. It keeps MIE in MPIE and clears MIE, and keeps the mode in MPP;
-- mret puts MPIE back into MIE and sets MPIE, and goes to the mode in MPP.
use Rattle.std.specs.Prelude.{ℕ, ◌+◌, ◌*◌, ◌/◌, ◌^◌, ◌==◌, ◌&&◌, Bool, true, false, if◌then◌else◌, pos, ◌≡◌, Option, Some, None, Result, Ok, Err}
use Rattle.rrs_instruction.specs.Encodings.{Fields}
use Rattle.rrs_instruction.specs.Table.{Row, table, Action}
use Rattle.rrs_lib.specs.declared.instruction_executor.InstructionException.{InstructionException}
use Rattle.rrs_lib.specs.declared.instruction_executor.InstructionException.TheVariants.{AlignmentFault, FetchError, LoadAccessFault, StoreAccessFault}
use Rattle.rrs_machine.specs.declared.csrs.CsrFile.{CsrFile}
use Rattle.rrs_machine.specs.declared.csrs.Mode.{Mode}
use Rattle.rrs_machine.specs.declared.csrs.Mode.TheVariants.{User, Machine}
use Rattle.rrs_words.specs.declared.csrs.Profile.{Profile}
use Rattle.rrs_words.specs.declared.csrs.Csr.TheVariants.{Mepc}
use Rattle.rrs_machine.specs.declared.csrs.Inputs.{Inputs}
use Rattle.rrs_machine.specs.declared.traps.Exception.{Exception}
use Rattle.rrs_machine.specs.declared.traps.Exception.TheVariants.{InstructionMisaligned, InstructionFault, IllegalInstruction, Breakpoint, LoadMisaligned, LoadFault, StoreMisaligned, StoreFault, EnvironmentCall, UserEnvironmentCall}
use Rattle.rrs_machine.specs.declared.traps.AccessKind.{AccessKind}
use Rattle.rrs_machine.specs.declared.traps.AccessKind.TheVariants.{Fetch, Load, Store}
use Rattle.rrs_machine.specs.declared.traps.Interrupt.{Interrupt}
use Rattle.rrs_machine.specs.declared.traps.Interrupt.TheVariants.{External, Software, Timer}
use Rattle.rrs_instruction.specs.Words.{word, bit}
use Rattle.rrs_words.specs.declared.atomics.AtomicRow.{AtomicRow}
use Rattle.rrs_words.specs.declared.atomics.AtomicRow.TheVariants.{LrW}
use Rattle.rrs_words.specs.declared.csrs.HartProfile.{HartProfile}
use Rattle.rrs_words.specs.declared.layers.LayerInstruction.{LayerInstruction}
use Rattle.rrs_words.specs.declared.layers.LayerInstruction.TheVariants.{System, Atomic, Bits}
use Rattle.rrs_hart.specs.declared.halves.Encoding.{Encoding}
use Rattle.rrs_hart.specs.Halves.{StandsFor, IsNoRow, IsLayers}
use Rattle.rrs_words.specs.CsrNumbers.{both, written_bits, previous}
use Rattle.rrs_machine.specs.Csrs.{mode_number, mode_of}

-- ---- what they are called by

-- the code of an exception, as mcause has it
abbrev pub exception_code : Exception → ℕ
exception_code (InstructionMisaligned a) = 0
exception_code (InstructionFault a) = 1
exception_code (IllegalInstruction w) = 2
exception_code (Breakpoint a) = 3
exception_code (LoadMisaligned a) = 4
exception_code (LoadFault a) = 5
exception_code (StoreMisaligned a) = 6
exception_code (StoreFault a) = 7
exception_code UserEnvironmentCall = 8
exception_code EnvironmentCall = 11

-- What mtval is: the address of the jump's target, the fetch, the ebreak, the load or the store;
-- the word; 0.
abbrev pub exception_value : Exception → ℕ
exception_value (InstructionMisaligned a) = a
exception_value (InstructionFault a) = a
exception_value (IllegalInstruction w) = w
exception_value (Breakpoint a) = a
exception_value (LoadMisaligned a) = a
exception_value (LoadFault a) = a
exception_value (StoreMisaligned a) = a
exception_value (StoreFault a) = a
exception_value UserEnvironmentCall = 0
exception_value EnvironmentCall = 0

-- the code of an interrupt, which is also its bit in mie and mip
abbrev pub interrupt_code : Interrupt → ℕ
interrupt_code Software = 3
interrupt_code Timer = 7
interrupt_code External = 11

-- ---- which interrupt is taken

-- an interrupt is pending and enabled by mie
abbrev pub is_ready : CsrFile → Bool → Interrupt → Bool
is_ready f pending x = pending && (bit f.mie (interrupt_code x) == 1)

-- the first that is: external, software, timer
abbrev pub ready_interrupt : CsrFile → Inputs → Option Interrupt
ready_interrupt f i =
    if is_ready f i.external External then Some External
    else (if is_ready f i.software Software then Some Software
    else (if is_ready f i.timer Timer then Some Timer else None))

-- MIE masks the interrupts in machine mode, and none in user mode
abbrev pub is_enabled : Mode → ℕ → Bool
is_enabled Machine status = bit status 3 == 1
is_enabled User status = true

-- the one that is taken
abbrev pub interrupt_due : CsrFile → Inputs → Option Interrupt
interrupt_due f i = if is_enabled (mode_of f) f.mstatus then ready_interrupt f i else None

-- ---- the CSRs after a trap, and after an mret

-- an instruction lies at a multiple of this, IALIGN in bytes
abbrev pub alignment : Profile → ℕ
alignment p = if p.hart.compressed then 2 else 4

-- MPP, MPRV and TW of mstatus, which are there with user mode
abbrev pub mode_bits : Profile → ℕ → ℕ → ℕ → ℕ
mode_bits p mpp mprv tw =
    if p.user_mode then mpp * 2 ^ 11 + mprv * 2 ^ 17 + tw * 2 ^ 21 else 0

-- MPIE is MIE, MIE is 0, MPP is the mode, and MPRV and TW stay; mepc is the pc, in the bits that it
-- has
abbrev pub trap_file : ℕ → ℕ → ℕ → CsrFile → CsrFile
trap_file cause value pc f = record f {
  mode = Machine;
  mstatus = bit f.mstatus 3 * 2 ^ 7
      + mode_bits f.profile (mode_number f.mode) (bit f.mstatus 17) (bit f.mstatus 21);
  mepc = both pc (written_bits f.profile Mepc);
  mcause = cause;
  mtval = value;
}

-- the mode that an mret goes to
abbrev pub previous_mode : CsrFile → Mode
previous_mode f =
    if f.profile.user_mode then (if previous f.mstatus == 3 then Machine else User) else Machine

-- MPRV after an mret to a mode: it is cleared where that is user mode
abbrev pub returned_mprv : Mode → CsrFile → ℕ
returned_mprv Machine f = bit f.mstatus 17
returned_mprv User f = 0

-- MIE is MPIE, MPIE is 1, MPP is user mode, and TW stays
abbrev pub return_file : CsrFile → CsrFile
return_file f = record f {
  mode = previous_mode f;
  mstatus = 2 ^ 7 + bit f.mstatus 7 * 2 ^ 3
      + mode_bits f.profile (mode_number User) (returned_mprv (previous_mode f) f)
      (bit f.mstatus 21);
}

-- the base of the handlers, where an exception goes
abbrev pub base_of : CsrFile → ℕ
base_of f = f.mtvec / 4 * 4

-- where an interrupt goes: its own place in the vector, if interrupts are vectored
abbrev pub vector_of : ℕ → CsrFile → ℕ
vector_of code f =
    if bit f.mtvec 0 == 1 then word (pos (base_of f + 4 * code)) else base_of f

-- ---- exceptions of the hart

-- a row that stores
abbrev pub stores : Action → Bool
stores (Action.Store n) = true
stores _ = false

-- the instructions of extension A store, all but lr.w
abbrev pub atomic_stores : AtomicRow → Bool
atomic_stores LrW = false
atomic_stores _ = true

abbrev pub layer_stores : LayerInstruction → Bool
layer_stores (System i) = false
layer_stores (Atomic i) = atomic_stores i.row
layer_stores (Bits i) = false

-- the instruction is a store or an AMO
pub data IsStore (p : HartProfile) (x : Encoding) : Type 0 where
  RowStores : (row : Row) (f : Fields)
      → StandsFor x row f → stores (table row).action ≡ true → IsStore p x
  LayerStores : (i : LayerInstruction)
      → IsNoRow x → IsLayers p x i → layer_stores i ≡ true → IsStore p x

-- what accesses memory, by what was fetched: the fetch where nothing was
abbrev pub IsKind : HartProfile → Result Encoding InstructionException → AccessKind → Type 0
IsKind p (Err e) kind = kind ≡ Fetch
IsKind p (Ok x) Fetch = ⊥
IsKind p (Ok x) Load = ¬ IsStore p x
IsKind p (Ok x) Store = IsStore p x

-- a misaligned address: that of an instruction, of a load, or of a store or an AMO
abbrev pub misaligned : AccessKind → ℕ → Exception
misaligned Fetch a = InstructionMisaligned a
misaligned Load a = LoadMisaligned a
misaligned Store a = StoreMisaligned a

-- an ecall by the mode
abbrev pub call_from : Mode → Exception
call_from User = UserEnvironmentCall
call_from Machine = EnvironmentCall

-- the exception that a step of the hart ended with, in a mode, by what accesses memory
abbrev pub exception_of : Mode → AccessKind → InstructionException → Exception
exception_of m kind (AlignmentFault a) = misaligned kind a
exception_of m kind (LoadAccessFault a) = LoadFault a
exception_of m kind (StoreAccessFault a) = StoreFault a
exception_of m kind (FetchError a) = InstructionFault a
exception_of m kind (InstructionException.IllegalInstruction pc v) = IllegalInstruction v
exception_of m kind (InstructionException.EnvironmentCall pc) = call_from m
exception_of m kind (InstructionException.Breakpoint pc) = Breakpoint pc
