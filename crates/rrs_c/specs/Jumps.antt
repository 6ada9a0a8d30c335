-- A step of a machine whose jumps raise the exception of a misaligned target themselves (RISC-V
-- unprivileged specification, RV32I, "Control Transfer Instructions": without an extension of
-- 16-bit instructions, IALIGN is 32, and a jump or a taken branch to an address that is no multiple
-- of 4 raises an instruction-address-misaligned exception; it is reported on the jump or the
-- branch, and not on the target). All other steps are those of Steps.antt of rrs_lib.
use Rattle.std.specs.Prelude.{◌≡◌, ◌≢◌, ℕ, ◌%◌, ◌==◌, Bool, false, not, Ok, Err}
use Rattle.rrs_lib.specs.declared.instruction_executor.InstructionException.TheVariants.{AlignmentFault}
use Rattle.rrs_lib.specs.Machine.{State}
use Rattle.rrs_lib.specs.Steps.{Step, StepAnswer, cleared}

-- One step takes s to t with this answer, in one of two cases.
pub data StepAtJump (s t : State) (answer : StepAnswer) : Type 0 where
  -- a step that is Ok would leave a misaligned program counter: nothing changes, and the exception
  -- has the address that the jump or the branch goes to
  JumpsAside : (u : State)
      → Step s u (Ok tt) → u.pc % 4 ≢ 0
      → t ≡ cleared s → answer ≡ Err (AlignmentFault u.pc)
      → StepAtJump s t answer
  -- any other step
  GoesOn :
      Step s t answer → (answer ≡ Ok tt → t.pc % 4 ≡ 0)
      → StepAtJump s t answer

-- no other such step leads from s
abbrev pub IsOnlyStepAtJump : State → State → StepAnswer → Type 0
IsOnlyStepAtJump s t answer =
    (t' : State) (answer' : StepAnswer)
    → StepAtJump s t' answer' → (t' ≡ t) × (answer' ≡ answer)

-- ---- of the code

-- whether a step with this answer is Ok and leaves this program counter misaligned
abbrev pub jumps_aside : StepAnswer → ℕ → Bool
jumps_aside (Ok u) pc = not (pc % 4 == 0)
jumps_aside (Err e) pc = false
