-- What a step of a hart with machine mode retires, in the shape of RVFI, the RISC-V Formal
-- Interface: beside what a step of the kit retires whether it is an instruction, whether it is the
-- first one of a handler, its mode, the cause of its trap, and the CSR that it read and wrote.
use Rattle.std.specs.Prelude.{◌≡◌, ◌≢◌, ℕ, ◌+◌, ◌-◌, ◌^◌, ◌==◌, ◌&&◌, Bool, true, false, not, if◌then◌else◌, Option, Some, None, Result, Ok, Err}
use Rattle.rrs_instruction.specs.declared.instruction_formats.IType.{IType}
use Rattle.rrs_instruction.specs.Encodings.{Fields}
use Rattle.rrs_instruction.specs.Table.{Row}
use Rattle.rrs_lib.specs.declared.instruction_executor.InstructionException.{InstructionException}
use Rattle.rrs_lib.specs.Machine.{reg}
use Rattle.rrs_lib.specs.Steps.{StepAnswer}
use Rattle.rrs_words.specs.declared.csrs.HartProfile.{HartProfile}
use Rattle.rrs_words.specs.declared.csrs.Profile.{Profile}
use Rattle.rrs_words.specs.declared.csrs.Csr.{Csr}
use Rattle.rrs_words.specs.declared.instructions.SystemRow.{SystemRow}
use Rattle.rrs_words.specs.declared.instructions.SystemRow.TheVariants.{Csrrw, Csrrs, Csrrc, Mret, Wfi}
use Rattle.rrs_words.specs.declared.layers.LayerInstruction.{LayerInstruction}
use Rattle.rrs_words.specs.CsrNumbers.{both, csr_at, written_bits, legal}
use Rattle.rrs_words.specs.SystemInstructions.{csr_number, always_writes, writes_csr, updated}
use Rattle.rrs_hart.specs.declared.halves.Encoding.{Encoding}
use Rattle.rrs_hart.specs.Halves.{bits_of, StandsFor, IsNoRow, IsLayers, IsIllegalIn}
use Rattle.rrs_hart.specs.Harts.{Hart, HartStep}
use Rattle.rrs_trace.specs.declared.traced.MemoryAccess.{MemoryAccess}
use Rattle.rrs_trace.specs.Retired.{no_access, first_source, second_source, last_of}
use Rattle.rrs_trace.specs.HartRecords.{first_of_layer, second_of_layer, HasAccess}
use Rattle.rrs_machine.specs.declared.csrs.Inputs.{Inputs}
use Rattle.rrs_machine.specs.declared.traps.Interrupt.{Interrupt}
use Rattle.rrs_machine.specs.declared.machine.MachineAnswer.{MachineAnswer}
use Rattle.rrs_machine.specs.declared.machine.MachineAnswer.TheVariants.{Retired, Raised, Interrupted}
use Rattle.rrs_machine.specs.declared.retired.CsrAccess.{CsrAccess}
use Rattle.rrs_machine.specs.declared.retired.MachineRetired.{MachineRetired}
use Rattle.rrs_machine.specs.Csrs.{mode_number, mode_of, csr_value}
use Rattle.rrs_machine.specs.Traps.{exception_code, interrupt_code, interrupt_due}
use Rattle.rrs_machine.specs.MachineSteps.{MachineState, operand_of, hart_in, layers_of, fetched_at, IsOwn}

-- ---- the instruction

-- the instruction that is fetched: none where the fetch raises an exception, or an
-- interrupt is taken
abbrev pub fetched_encoding : Result Encoding InstructionException → Option Encoding
fetched_encoding (Ok x) = Some x
fetched_encoding (Err e) = None

abbrev pub encoding_unless : Option Interrupt → MachineState → Option Encoding
encoding_unless None s = fetched_encoding (fetched_at s)
encoding_unless (Some x) s = None

abbrev pub encoding_of_step : Inputs → MachineState → Option Encoding
encoding_of_step i s = encoding_unless (interrupt_due s.csrs i) s

-- its 16 bits, or its 32
abbrev pub bits_if : Option Encoding → Option ℕ
bits_if None = None
bits_if (Some x) = Some (bits_of x)

-- ---- the registers

-- the source register of an instruction of machine mode, or 0
abbrev pub system_source : SystemRow → IType → ℕ
system_source Csrrw f = f.rs1
system_source Csrrs f = f.rs1
system_source Csrrc f = f.rs1
system_source _ f = 0

-- The source registers of what was fetched on a hart: 0 where nothing was, or it is no instruction.
pub record HasSourcesOf (p : HartProfile) (encoding : Option Encoding) (rs1 rs2 : ℕ) : Type 0 where
  pub of_row : (x : Encoding) (row : Row) (f : Fields) → encoding ≡ Some x → StandsFor x row f
      → (rs1 ≡ first_source f) × (rs2 ≡ second_source f)
  pub of_layer : (x : Encoding) (i : LayerInstruction)
      → encoding ≡ Some x → IsNoRow x → IsLayers p x i
      → (rs1 ≡ first_of_layer i) × (rs2 ≡ second_of_layer i)
  pub of_system : (x : Encoding) (row : SystemRow) (f : IType) → encoding ≡ Some x → IsOwn x row f
      → (rs1 ≡ system_source row f) × (rs2 ≡ 0)
  pub of_illegal : (x : Encoding) → encoding ≡ Some x → IsIllegalIn p x
      → ((row : SystemRow) (f : IType) → ¬ IsOwn x row f) → (rs1 ≡ 0) × (rs2 ≡ 0)
  pub of_none : encoding ≡ None → (rs1 ≡ 0) × (rs2 ≡ 0)

-- ---- the CSR

-- csrrw and csrrwi read no CSR where rd is x0; the others read it always
abbrev pub reads_csr : SystemRow → IType → Bool
reads_csr row f = if always_writes row then not (f.rd == 0) else true

-- the instructions on a CSR
abbrev pub is_on_csr : SystemRow → Bool
is_on_csr Mret = false
is_on_csr Wfi = false
is_on_csr _ = true

abbrev pub no_csr : CsrAccess
no_csr = record { addr = 0; rmask = 0; wmask = 0; rdata = 0; wdata = 0 }

-- What was read and what was written of a CSR, each with the bits that were: a read takes all bits,
-- and a write those that the CSR has written.
abbrev pub csr_access : Profile → SystemRow → IType → Csr → ℕ → ℕ → CsrAccess
csr_access p row f csr old operand = record {
  addr = csr_number f;
  rmask = if reads_csr row f then 2 ^ 32 - 1 else 0;
  wmask = if writes_csr row f then written_bits p csr else 0;
  rdata = if reads_csr row f then old else 0;
  wdata = if writes_csr row f
      then both (legal csr old (updated row old operand)) (written_bits p csr)
      else 0;
}

-- What a step from s accessed of a CSR that fetched this, or nothing: an instruction on a CSR that
-- retires accesses it, and no other one does.
pub record HasCsrAccess (encoding : Option Encoding) (answer : MachineAnswer) (i : Inputs)
    (s : MachineState) (r : CsrAccess) : Type 0 where
  pub of_csr : (x : Encoding) (row : SystemRow) (f : IType) (csr : Csr)
      → encoding ≡ Some x → IsOwn x row f → is_on_csr row ≡ true
      → csr_at s.csrs.profile (csr_number f) ≡ Some csr → answer ≡ Retired
      → r ≡ csr_access s.csrs.profile row f csr (csr_value csr s.csrs i) (operand_of row f s.hart)
  pub of_other : (x : Encoding)
      → encoding ≡ Some x
      → ((row : SystemRow) (f : IType) → IsOwn x row f → is_on_csr row ≡ false)
      → r ≡ no_csr
  pub of_none : encoding ≡ None → r ≡ no_csr
  pub of_no_retired : answer ≢ Retired → r ≡ no_csr

-- ---- the load or the store

-- that of the step of the hart, and none where an interrupt is taken
pub record HasAccessOf (i : Inputs) (s : MachineState) (mem : MemoryAccess) : Type 0 where
  pub of_hart : (u : Hart) (answer : StepAnswer)
      → interrupt_due s.csrs i ≡ None → HartStep (layers_of s) (hart_in s) u answer
      → HasAccess (layers_of s) (hart_in s) answer mem
  pub of_interrupt : (x : Interrupt) → interrupt_due s.csrs i ≡ Some x → mem ≡ no_access

-- ---- the step

-- an interrupt is no instruction
abbrev pub is_instruction : MachineAnswer → Bool
is_instruction (Interrupted x) = false
is_instruction _ = true

abbrev pub is_raised : MachineAnswer → Bool
is_raised (Raised x) = true
is_raised _ = false

-- what mcause has after a trap
abbrev pub cause_of : MachineAnswer → Option ℕ
cause_of (Raised x) = Some (exception_code x)
cause_of (Interrupted x) = Some (2 ^ 31 + interrupt_code x)
cause_of _ = None

-- What a step from s to t with this answer retires, where first says that the step before took a
-- trap, so that this instruction is the first one of a handler.
pub record MachineRetires (order : ℕ) (first : Bool) (i : Inputs) (s t : MachineState)
    (answer : MachineAnswer) (r : MachineRetired) : Type 0 where
  pub valid_is : r.valid ≡ is_instruction answer
  pub intr_is : r.intr ≡ (first && is_instruction answer)
  pub mode_is : r.mode ≡ mode_number (mode_of s.csrs)
  pub cause_is : r.cause ≡ cause_of answer
  pub order_is : r.retired.order ≡ order
  pub insn_is : r.retired.insn ≡ bits_if (encoding_of_step i s)
  pub trap_is : r.retired.trap ≡ is_raised answer
  pub pc_before : r.retired.pc_rdata ≡ s.hart.pc
  pub pc_after : r.retired.pc_wdata ≡ t.hart.pc
  pub sources : HasSourcesOf (layers_of s) (encoding_of_step i s)
      r.retired.rs1_addr r.retired.rs2_addr
  pub first_value : r.retired.rs1_rdata ≡ reg s.hart r.retired.rs1_addr
  pub second_value : r.retired.rs2_rdata ≡ reg s.hart r.retired.rs2_addr
  pub written : t.hart.last ≡ last_of r.retired.rd_addr
  pub written_value : r.retired.rd_wdata ≡ reg t.hart r.retired.rd_addr
  pub access : HasAccessOf i s r.retired.mem
  pub csr : HasCsrAccess (encoding_of_step i s) answer i s r.csr
