-- What it is to run an executable as a process that makes system calls.
use Rattle.std.specs.Prelude.{◌≡◌, ℕ, Bool, true, false, not, if◌then◌else◌, List, ◌∷◌, replicate, Option, None}
use Rattle.rrs_lib.specs.Bytes.{ByteMap}
use Rattle.rrs_lib.specs.AccessLists.{Access}
use Rattle.rrs_lib.specs.Machine.{State}
use Rattle.rrs_elf.specs.Executables.{IsExecutableIn}
use Rattle.rrs_elf.specs.declared.code_units.CodeUnit.{CodeUnit}
use Rattle.rrs_elf.specs.declared.code_units.CodeUnit.TheVariants.{Word, HalfWord}
use Rattle.rrs_elf.specs.declared.program_headers.Addresses.TheVariants.{Virtual}
use Rattle.rrs_exec.specs.declared.image.Image.{Image}
use Rattle.rrs_exec.specs.Protection.{bytes_under, writable_under}
use Rattle.rrs_exec.specs.Images.{IsImage, Filled}
use Rattle.rrs_exec.specs.ProcessMemories.{lies_between, zeros_between}
use Rattle.rrs_fast.specs.declared.serving.Ending.{Ending}
use Rattle.rrs_fast.specs.Serving.{Relation, HartServed}
use Rattle.rrs_words.specs.declared.csrs.HartProfile.{HartProfile}
use Rattle.rrs_hart.specs.Harts.{hart_with}
use Rattle.rrs_linux.specs.declared.Heap.{Heap}
use Rattle.rrs_linux.specs.declared.Process.{Process}
use Rattle.rrs_linux.specs.declared.host_writer.HostWriter.{HostWriter}
use Rattle.rrs_linux.specs.declared.host_side.HostSide.{HostSide}

-- the layers of the hart of a process: misaligned loads and stores unless these are strict
abbrev pub process_profile : Bool → HartProfile
process_profile strict = record {
  atomics = true;
  fence_i = true;
  misaligned = not strict;
  compressed = false;
  zba = true;
  zbb = true;
  zbs = true;
  zbc = true;
  zbkb = true;
  zicond = true;
}

-- what the instructions of a hart lie in
abbrev pub unit_of : HartProfile → CodeUnit
unit_of p = if p.compressed then HalfWord else Word

-- What a run of a program does: how it ends, the environment and the state then, within a limit,
-- from an environment and a state, after so many steps, with these accesses.
abbrev pub Chain : Type 0 → Type 1
Chain E = Ending → E → State → ℕ → E → State → ℕ → List Access → Type 0

-- The hart of a process has this profile. It runs and is served, with no address reserved where it
-- begins.
abbrev pub Executing : {E : Type 0} → Relation E → HartProfile → Chain E
Executing serves p ending e' t limit e s steps accesses =
    (reserved : Option ℕ) × HartServed p serves ending e' (hart_with t reserved)
    limit e (hart_with s None) steps accesses

-- a hart at its entry, all of whose registers are 0 but x2, which is sp
abbrev pub started : ℕ → ℕ → ByteMap → (ℕ → Bool) → State
started entry sp bytes writable = record {
  registers = 0 ∷ sp ∷ replicate 29 0;
  pc = entry;
  last = None;
  bytes = bytes;
  writable = writable;
}

-- the heap is empty, and may grow up to its end
abbrev pub heap_of : Image → Heap
heap_of image = record {
  start = image.layout.heap_start;
  end = image.layout.heap_end;
  top = image.layout.heap_start;
}

-- A process is loaded and has made no step: a file is an executable for a machine whose instructions
-- lie in such units, an image is one of it, and its segments, at their virtual addresses, and its
-- stack stand in a memory that is writable from the first address to the end, and that is 0
-- elsewhere.
pub record IsLoaded (unit : CodeUnit) (file : List ℕ) (arguments variables : List (List ℕ))
    (wanted : ℕ) (image : Image) (bytes : ByteMap) (writable : ℕ → Bool) : Type 0 where
  pub executable : IsExecutableIn unit Virtual file
  pub is_image : IsImage file arguments variables wanted image
  pub long : writable ≡ lies_between image.layout.base image.layout.end
  pub filled : Filled Virtual file image.stack_pointer image.stack.items
      (zeros_between image.layout.base image.layout.end) bytes

-- By a chain of an environment of type E, from an image, in a memory of these bytes under its
-- marks, the machine runs and its calls are served, and this is how that ends: after so many steps,
-- at this pc.
pub record ServesImage {E : Type 0} (Runs : Chain E) (image : Image) (bytes : ByteMap)
    (writable : ℕ → Bool) (limit : ℕ) (first last : E) (steps pc : ℕ) (ending : Ending)
    : Type 0 where
  pub end : State
  pub stands : end.pc ≡ pc
  pub accesses : List Access
  pub served : Runs ending last end limit first (started image.entry image.stack_pointer
      (bytes_under image.marks.items bytes) (writable_under image.marks.items writable))
      steps accesses

-- By a chain of a process of Linux:
module _ {R W E : Type 0} (Runs : Chain (Process R (HostWriter W) (HostWriter E) HostSide)) where
  -- the heap of the process is the image's, and the machine runs so
  abbrev pub RunsImage : Image → ByteMap → (ℕ → Bool) → ℕ
      → (old new : Process R (HostWriter W) (HostWriter E) HostSide)
      → (steps pc : ℕ) → Ending → Type 0
  RunsImage image bytes writable limit old new steps pc ending =
      ServesImage Runs image bytes writable limit (record old { heap = heap_of image }) new
      steps pc ending

  -- A process is loaded, and from its entry, with sp at its stack, the machine runs under the marks
  -- of its pages and its system calls are served, and this is how that ends: after so many steps,
  -- at this pc. So what the environment's writers hold then is what they held, and what each write
  -- wrote, in order; and what its reader gave, the calls that read gave to the program.
  pub record RunsProcess (unit : CodeUnit) (file : List ℕ) (arguments variables : List (List ℕ))
      (wanted limit : ℕ)
      (old new : Process R (HostWriter W) (HostWriter E) HostSide)
      (steps pc : ℕ) (ending : Ending) : Type 0 where
    pub image : Image
    pub bytes : ByteMap
    pub writable : ℕ → Bool
    pub loaded : IsLoaded unit file arguments variables wanted image bytes writable
    pub runs : RunsImage image bytes writable limit old new steps pc ending
