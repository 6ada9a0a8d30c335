-- What is printed of a run: a line for each instruction before its step, then how the run ended,
-- and then the registers. And what an error says of the reader and of the output.
use Rattle.std.specs.Prelude.{◌≡◌, ◌⊎◌, ℕ, zero, suc, ◌<◌, List, [], ◌++◌, Option, Some, None, Ok, Err}
use Rattle.rrs_lib.specs.declared.instruction_executor.InstructionException.{InstructionException}
use Rattle.rrs_lib.specs.Encodings.{Fields}
use Rattle.rrs_lib.specs.Table.{Row, Decodes, IsIllegal}
use Rattle.rrs_lib.specs.Machine.{State}
use Rattle.rrs_lib.specs.Texts.{text_of}
use Rattle.rrs_lib.specs.Steps.{Step, next_word}
use Rattle.rrs_cli.specs.declared.fault.RunFault.{RunFault}
use Rattle.rrs_cli.specs.Faults.{StopsRunOf}
use Rattle.rrs_cli.specs.Printed.{PrintsOfRun}
use Rattle.rrs_cli.specs.Texts.{instruction_line, ending_lines}

-- ---- the lines before the steps

-- What is printed of a word at an address: the line of its text where it is a row, and nothing
-- for an illegal instruction.
pub data LinesOfWord (pc w : ℕ) (lines : List ℕ) : Type 0 where
  Inside : (row : Row) (f : Fields) (text : List ℕ) → Decodes w row f → text_of row f pc ≡ Some text
      → lines ≡ instruction_line pc text → LinesOfWord pc w lines
  Outside : IsIllegal w → lines ≡ [] → LinesOfWord pc w lines

-- what is printed where there may be a word at the address
abbrev pub LinesOfAny : ℕ → Option ℕ → List ℕ → Type 0
LinesOfAny pc None lines = lines ≡ []
LinesOfAny pc (Some w) lines = LinesOfWord pc w lines

-- what is printed before the step from s
abbrev pub LinesBefore : State → List ℕ → Type 0
LinesBefore s lines = LinesOfAny s.pc (next_word s) lines

-- n steps from s to t are all Ok, and these lines are printed before them
abbrev pub PrintsOk : ℕ → State → State → List ℕ → Type 0
PrintsOk zero s t lines = (t ≡ s) × (lines ≡ [])
PrintsOk (suc n) s t lines =
    (m : State) × (first last : List ℕ) × PrintsOk n s m first × LinesBefore m last
    × Step m t (Ok tt) × (lines ≡ first ++ last)

-- From s the machine makes `steps` steps that are Ok, and then either these are as many as the
-- limit, or the next step raises an exception. These lines are printed before the steps.
abbrev pub PrintsUntil : ℕ → State → ℕ → Option InstructionException → State → List ℕ → Type 0
PrintsUntil limit s steps None t lines = (steps ≡ limit) × PrintsOk steps s t lines
PrintsUntil limit s steps (Some e) t lines =
    (steps < limit)
    × ((m : State) × (first last : List ℕ) × PrintsOk steps s m first × LinesBefore m last
    × Step m t (Err e) × (lines ≡ first ++ last))

-- what is printed while a run from s is made, up to its end
abbrev pub PrintsRun : ℕ → State → List ℕ → Type 0
PrintsRun limit s lines =
    (steps : ℕ) × (e : Option InstructionException) × (t : State)
    × PrintsUntil limit s steps e t lines

-- what is printed while the first steps of a run from s are made, which are Ok, and before the step
-- after them
abbrev pub PrintsToNext : ℕ → State → List ℕ → Type 0
PrintsToNext limit s lines =
    (n : ℕ) × (m : State) × (first last : List ℕ)
    × (n < limit) × PrintsOk n s m first × LinesBefore m last × (lines ≡ first ++ last)

-- ---- the whole account, and what is printed of it

-- the account of a run from s: what is printed while it is made, how it ended, and the registers
pub record AccountOf (limit : ℕ) (s : State) (account : List ℕ) : Type 0 where
  pub steps : ℕ
  pub exception : Option InstructionException
  pub end : State
  pub trace : List ℕ
  pub prints : PrintsUntil limit s steps exception end trace
  pub whole : account ≡ trace ++ ending_lines steps exception end

-- what is printed of a run from s up to one of its steps, or up to its end
abbrev pub PartOfAccount : ℕ → State → List ℕ → Type 0
PartOfAccount limit s lines = PrintsToNext limit s lines ⊎ AccountOf limit s lines

-- ---- the account of a reader's bytes

-- what is printed is the whole account of the run of the reader's bytes
abbrev pub Account : ℕ → Option (List ℕ) → Option (List ℕ)
    → Option (List ℕ) → Option (List ℕ) → Type 0
Account limit input rest before after = PrintsOfRun (AccountOf limit) input rest before after

-- what stops a run, by the bytes of the reader and of the output before and after it
abbrev pub StopsRun : ℕ → Option (List ℕ) → Option (List ℕ)
    → Option (List ℕ) → Option (List ℕ) → RunFault → Type 0
StopsRun limit = StopsRunOf (PrintsRun limit) (PartOfAccount limit)
