-- What a program says where it ends with another status than 0, and that status.
use Rattle.std.specs.Prelude.{ℕ, List, ◌++◌, codes, Result, Ok, Err}
use Rattle.rrs_cli.specs.declared.command.Failure.{Failure}
use Rattle.rrs_cli.specs.declared.command.Failure.TheVariants.{Usage, CannotOpen, CannotReadInput, Run}
use Rattle.rrs_cli.specs.Faults.{fault_text}

-- the line on standard error of the program with this name, which is called so
abbrev pub failure_text : List ℕ → List ℕ → Failure → List ℕ
failure_text name usage Usage = codes "usage: " ++ usage
failure_text name usage CannotOpen = name ++ codes ": cannot open file"
failure_text name usage CannotReadInput = name ++ codes ": cannot read input"
failure_text name usage (Run fault) = name ++ codes ": " ++ fault_text fault

abbrev pub status_of : Failure → ℕ
status_of Usage = 2
status_of CannotOpen = 1
status_of CannotReadInput = 1
status_of (Run fault) = 1

-- the status of a program that came to its end, or failed
abbrev pub ended_status : Result (Unit {0}) Failure → ℕ
ended_status (Ok done) = 0
ended_status (Err failure) = status_of failure
