-- What it is to run an executable as a process with files.
use Rattle.std.specs.Prelude.{◌≡◌, ℕ, Bool, List, Option}
use Rattle.rrs_lib.specs.Bytes.{ByteMap}
use Rattle.rrs_exec.specs.declared.image.Image.{Image}
use Rattle.rrs_exec.specs.Processes.{unit_of, Executing, IsLoaded, ServesImage, heap_of}
use Rattle.rrs_words.specs.declared.csrs.HartProfile.{HartProfile}
use Rattle.rrs_fast.specs.declared.serving.Ending.{Ending}
use Rattle.rrs_fast.specs.Serving.{Relation}
use Rattle.rrs_linux.specs.declared.Process.{Process}
use Rattle.rrs_linux.specs.declared.host_writer.HostWriter.{HostWriter}
use Rattle.rrs_linux.specs.declared.host_side.HostSide.{HostSide}
use Rattle.rrs_linux.specs.SystemCalls.{Serves}
use Rattle.rrs_files.specs.declared.files.Files.{Files}
use Rattle.rrs_files.specs.declared.serving.WithFiles.{WithFiles}
use Rattle.rrs_files.specs.Calls.{ServesFiles}
use Rattle.rrs_files.specs.Events.{Did}

-- From an image the machine runs with these files, and with what serves the other calls.
pub record RunsFilesBelow {P F : Type 0} (serves : Relation P) (did : Did F) (p : HartProfile)
    (image : Image) (bytes : ByteMap) (writable : ℕ → Bool) (limit : ℕ) (process : P)
    (files : Files F) (steps pc : ℕ) (ending : Ending) : Type 0 where
  pub first : WithFiles P F
  pub last : WithFiles P F
  pub begins : first.process.now ≡ process
  pub has : first.files ≡ files
  pub runs : ServesImage (Executing (ServesFiles serves did) p) image bytes writable limit
      first last steps pc ending

-- By what is known of the environment's reader and writers, by what a folder says of a call, and by
-- the profile of the hart:
module _ {R W E F : Type 0} (remaining : R → Option (List ℕ)) (contents : W → Option (List ℕ))
    (errors_of : E → Option (List ℕ)) (did : Did F) (p : HartProfile) where
  -- From an image the machine runs, as rrs_exec's `RunsImage` says, and its system calls are
  -- served: those for files by the files, and the others by the process.
  pub record RunsImageWithFiles (image : Image) (bytes : ByteMap) (writable : ℕ → Bool) (limit : ℕ)
      (old new : WithFiles (Process R (HostWriter W) (HostWriter E) HostSide) F)
      (steps pc : ℕ) (ending : Ending) : Type 0 where
    pub first : WithFiles (Process R (HostWriter W) (HostWriter E) HostSide) F
    pub begins : first.process.now ≡ record old.process.now { heap = heap_of image }
    pub has : first.files ≡ old.files
    pub runs : ServesImage (Executing (ServesFiles (Serves remaining contents errors_of) did) p)
        image bytes writable limit first new steps pc ending

  -- A process is loaded, and runs so from its entry.
  pub record RunsWithFiles (file : List ℕ) (arguments variables : List (List ℕ)) (wanted limit : ℕ)
      (old new : WithFiles (Process R (HostWriter W) (HostWriter E) HostSide) F)
      (steps pc : ℕ) (ending : Ending) : Type 0 where
    pub image : Image
    pub bytes : ByteMap
    pub writable : ℕ → Bool
    pub loaded : IsLoaded (unit_of p) file arguments variables wanted image bytes writable
    pub runs : RunsImageWithFiles image bytes writable limit old new steps pc ending

  -- It runs so from a process and these files.
  pub record RunsBelow (file : List ℕ) (arguments variables : List (List ℕ)) (wanted limit : ℕ)
      (process : Process R (HostWriter W) (HostWriter E) HostSide) (files : Files F)
      (steps pc : ℕ) (ending : Ending) : Type 0 where
    pub old : WithFiles (Process R (HostWriter W) (HostWriter E) HostSide) F
    pub new : WithFiles (Process R (HostWriter W) (HostWriter E) HostSide) F
    pub begins : old.process.now ≡ process
    pub has : old.files ≡ files
    pub runs : RunsWithFiles file arguments variables wanted limit old new steps pc ending
