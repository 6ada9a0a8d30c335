-- What is printed of a run of which no instruction is shown: how it ended, and the registers.
use Rattle.std.specs.Prelude.{◌≡◌, ℕ, List, [], Option}
use Rattle.rrs_lib.specs.declared.instruction_executor.InstructionException.{InstructionException}
use Rattle.rrs_lib.specs.Machine.{State}
use Rattle.rrs_lib.specs.Steps.{RunUntil}
use Rattle.rrs_cli.specs.declared.fault.RunFault.{RunFault}
use Rattle.rrs_cli.specs.Faults.{StopsRunOf}
use Rattle.rrs_cli.specs.Printed.{PrintsOfRun}
use Rattle.rrs_cli.specs.Texts.{ending_lines}

-- a run from s is made up to its end, and nothing is printed
abbrev pub IsMadeQuietly : ℕ → State → List ℕ → Type 0
IsMadeQuietly limit s lines =
    (steps : ℕ) × (e : Option InstructionException) × (t : State)
    × RunUntil limit s steps e t × (lines ≡ [])

-- the account of a run from s: how it ended, and the registers
pub record QuietAccountOf (limit : ℕ) (s : State) (account : List ℕ) : Type 0 where
  pub steps : ℕ
  pub exception : Option InstructionException
  pub end : State
  pub made : RunUntil limit s steps exception end
  pub whole : account ≡ ending_lines steps exception end

-- what is printed is the whole account of the run of the reader's bytes
abbrev pub QuietAccount : ℕ → Option (List ℕ) → Option (List ℕ)
    → Option (List ℕ) → Option (List ℕ) → Type 0
QuietAccount limit input rest before after =
    PrintsOfRun (QuietAccountOf limit) input rest before after

-- what stops the run, by the bytes of the reader and of the output before and after it
abbrev pub StopsQuietRun : ℕ → Option (List ℕ) → Option (List ℕ)
    → Option (List ℕ) → Option (List ℕ) → RunFault → Type 0
StopsQuietRun limit = StopsRunOf (IsMadeQuietly limit) (QuietAccountOf limit)
