-- Laws of a step with machine mode, which follow from its definition (RISC-V privileged
-- specification 1.12, "Machine-Level CSRs": a trap changes no register; "Hardware Performance
-- Monitor": mcycle counts cycles, which are steps here, and minstret instructions that retire).
use Rattle.std.specs.Prelude.{◌≡◌, ◌≢◌, ℕ, ◌+◌, ◌%◌, ◌^◌, true, Some, Ok}
use Rattle.rrs_instruction.specs.declared.instruction_formats.IType.{IType}
use Rattle.rrs_words.specs.declared.csrs.Csr.{Csr}
use Rattle.rrs_words.specs.declared.instructions.SystemRow.{SystemRow}
use Rattle.rrs_machine.specs.declared.machine.MachineAnswer.{MachineAnswer}
use Rattle.rrs_machine.specs.declared.machine.MachineAnswer.TheVariants.{Retired, Waiting}
use Rattle.rrs_lib.specs.Machine.{State}
use Rattle.rrs_hart.specs.declared.halves.Encoding.{Encoding}
use Rattle.rrs_words.specs.SystemInstructions.{csr_number, writes_csr}
use Rattle.rrs_machine.specs.Csrs.{found_csr}
use Rattle.rrs_machine.specs.MachineSteps.{MachineState, fetched_at, IsOwn}

-- registers and memory stay
pub record KeepsValues (s t : State) : Type 0 where
  pub registers_kept : t.registers ≡ s.registers
  pub bytes_kept : t.bytes ≡ s.bytes
  pub writable_kept : t.writable ≡ s.writable

-- where no instruction retires, registers and memory stay
abbrev pub KeepsUnlessRetired : MachineAnswer → State → State → Type 0
KeepsUnlessRetired Retired s t = Unit {0}
KeepsUnlessRetired _ s t = KeepsValues s t

-- the instruction at the program counter writes neither of two CSRs
abbrev pub WritesNeither : Csr → Csr → MachineState → Type 0
WritesNeither low high s =
    (x : Encoding) (row : SystemRow) (f : IType) (csr : Csr)
    → fetched_at s ≡ Ok x → IsOwn x row f → writes_csr row f ≡ true
    → found_csr s.csrs (csr_number f) ≡ Some csr → (csr ≢ low) × (csr ≢ high)

-- a counter of instructions, and one of steps, after a step
abbrev pub instructions_after : MachineAnswer → ℕ → ℕ
instructions_after Retired n = (n + 1) % 2 ^ 64
instructions_after Waiting n = (n + 1) % 2 ^ 64
instructions_after _ n = n

abbrev pub cycles_after : MachineAnswer → ℕ → ℕ
cycles_after _ n = (n + 1) % 2 ^ 64
