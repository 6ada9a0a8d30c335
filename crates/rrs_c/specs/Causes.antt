-- The machine cause of an exception (RISC-V privileged specification, "Machine Cause Register
-- (mcause)": the exception codes).
use Rattle.std.specs.Prelude.{◌≡◌, ◌≢◌, ℕ, ◌%◌, ◌-◌, ◌^◌, Option, Some, None}
use Rattle.rrs_lib.specs.declared.instruction_executor.InstructionException.{InstructionException}
use Rattle.rrs_lib.specs.declared.instruction_executor.InstructionException.TheVariants.{IllegalInstruction, FetchError, LoadAccessFault, StoreAccessFault, AlignmentFault, EnvironmentCall, Breakpoint}
use Rattle.rrs_lib.specs.Encodings.{Fields}
use Rattle.rrs_lib.specs.Table.{Row, table, Action, Load, Store, Decodes, IsIllegal}

-- the code of a misaligned address, by what the instruction does: of a load, of a store, and else
-- that of an instruction, to which a jump or a branch goes
abbrev pub misaligned_code : Action → ℕ
misaligned_code (Load n extended) = 4
misaligned_code (Store n) = 6
misaligned_code _ = 0

-- The code of a misaligned address, where the program counter is this, with this word there: where
-- the program counter itself is misaligned it is that of an instruction.
pub record IsMisalignedCode (pc word code : ℕ) : Type 0 where
  pub fetch : pc % 4 ≢ 0 → code ≡ 0
  pub of_row : (row : Row) (f : Fields) → pc % 4 ≡ 0 → Decodes word row f
      → code ≡ misaligned_code (table row).action
  pub outside : IsIllegal word → code ≡ 0

-- no code
abbrev pub no_code : ℕ
no_code = 2 ^ 32 - 1

-- the code of an exception at a program counter and with the word there; mcause in machine mode
abbrev pub IsCode : Option InstructionException → ℕ → ℕ → ℕ → Type 0
IsCode None pc word code = code ≡ no_code
IsCode (Some (IllegalInstruction a w)) pc word code = code ≡ 2
IsCode (Some (FetchError a)) pc word code = code ≡ 1
IsCode (Some (LoadAccessFault a)) pc word code = code ≡ 5
IsCode (Some (StoreAccessFault a)) pc word code = code ≡ 7
IsCode (Some (AlignmentFault a)) pc word code = IsMisalignedCode pc word code
IsCode (Some (EnvironmentCall a)) pc word code = code ≡ 11
IsCode (Some (Breakpoint a)) pc word code = code ≡ 3
