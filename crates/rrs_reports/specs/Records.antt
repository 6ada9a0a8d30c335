-- The records of a run: what each of its steps retired, in order, and after them that of a fault.
use Rattle.std.specs.Prelude.{◌≡◌, ℕ, List, [], ◌∷◌, ◌++◌, Bool, true, Option, None}
use Rattle.rrs_trace.specs.declared.retired.Retired.{Retired}
use Rattle.rrs_fast.specs.declared.serving.Ending.{Ending}
use Rattle.rrs_linux.specs.declared.Process.{Process}
use Rattle.rrs_linux.specs.declared.host_writer.HostWriter.{HostWriter}
use Rattle.rrs_linux.specs.declared.host_side.HostSide.{HostSide}
use Rattle.rrs_linux.specs.SystemCalls.{Serves}
use Rattle.rrs_words.specs.declared.csrs.HartProfile.{HartProfile}
use Rattle.rrs_hart.specs.Harts.{hart_with}
use Rattle.rrs_exec.specs.Processes.{unit_of, Executing, heap_of, RunsProcess}
use Rattle.rrs_exec.specs.Watching.{Shown, start_in}

-- a list to which what is shown is appended, and which wants all of it
abbrev pub keeps : {R : Type 0} → List R → R → List R → Type 0
keeps records r all = all ≡ records ++ r ∷ []

abbrev pub wants_all : {R : Type 0} → List R → Bool
wants_all records = true

-- A process is loaded and runs on a hart with a profile for so many steps, and these are the
-- records of its run.
pub record RunsWithRecords {R W E : Type 0} (p : HartProfile) (remaining : R → Option (List ℕ))
    (contents : W → Option (List ℕ)) (errors_of : E → Option (List ℕ))
    (file : List ℕ) (arguments variables : List (List ℕ)) (wanted limit : ℕ)
    (old new : Process R (HostWriter W) (HostWriter E) HostSide)
    (steps pc : ℕ) (ending : Ending) (records : List Retired) : Type 0 where
  pub runs : RunsProcess (Executing (Serves remaining contents errors_of) p) (unit_of p)
      file arguments variables wanted limit old new steps pc ending
  pub shown : Shown p (Serves remaining contents errors_of) keeps wants_all
      (record old { heap = heap_of runs.image })
      (hart_with (start_in runs.image runs.bytes runs.writable) None) []
      ending steps new (hart_with runs.runs.end runs.runs.served.0) records
