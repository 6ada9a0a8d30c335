-- What it is to run a reader's bytes as a program that makes system calls, and which faults are
-- those of a stack.
use Rattle.std.specs.Prelude.{ℕ, ◌+◌, ◌^◌, ◌≡◌, ◌&&◌, nat_le, nat_lt, Bool, false, List, ◌∷◌, replicate, Option, Ok}
use Rattle.rrs_lib.specs.declared.instruction_executor.InstructionException.{InstructionException}
use Rattle.rrs_lib.specs.declared.instruction_executor.InstructionException.TheVariants.{LoadAccessFault, StoreAccessFault}
use Rattle.rrs_lib.specs.Bytes.{ByteMap}
use Rattle.rrs_lib.specs.AccessLists.{Access}
use Rattle.rrs_lib.specs.Machine.{State}
use Rattle.rrs_lib.specs.VecBytes.{bytes_of_words, lies_in_words}
use Rattle.rrs_lib.specs.Loading.{Loads}
use Rattle.rrs_cli.specs.Printed.{zero_words, start_of}
use Rattle.rrs_fast.specs.declared.serving.Ending.{Ending}
use Rattle.rrs_exec.specs.Processes.{Chain}
use Rattle.rrs_linux.specs.declared.Heap.{Heap}
use Rattle.rrs_linux.specs.declared.Process.{Process}
use Rattle.rrs_linux.specs.declared.host_writer.HostWriter.{HostWriter}
use Rattle.rrs_linux.specs.declared.host_side.HostSide.{HostSide}

-- The machine that a program starts in: 1 MiB with these bytes, and a hart all of whose registers
-- are 0 but x2, which is sp and has the address after the memory.
abbrev pub program_start : ByteMap → State
program_start bytes = start_of 262144 (0 ∷ 2 ^ 20 ∷ replicate 29 0) bytes

-- The bytes of a reader are loaded at address 0, and from there the machine runs by a chain and its
-- system calls are served, and this is how that ends: after so many steps, at this pc. So what the
-- environment's writers hold then is what they held, and what each write wrote, in order; and what
-- its reader gave, the calls that read gave to the program.
pub record ExecutesProgram {R W E : Type 0}
    (Runs : Chain (Process R (HostWriter W) (HostWriter E) HostSide)) (limit : ℕ)
    (input rest : Option (List ℕ))
    (old new : Process R (HostWriter W) (HostWriter E) HostSide)
    (steps pc : ℕ) (ending : Ending) : Type 0 where
  pub bytes : ByteMap
  pub loaded : Loads input rest (bytes_of_words (zero_words 262144)) bytes
      (lies_in_words (zero_words 262144)) 0 (Ok tt)
  pub end : State
  pub stands : end.pc ≡ pc
  pub accesses : List Access
  pub served : Runs ending new end limit old (program_start bytes) steps accesses

-- The fault of a load or a store in the 64 KiB between the highest break and the stack, which are
-- not mapped: the stack ran over.
abbrev pub is_overrun : Heap → InstructionException → Bool
is_overrun heap (LoadAccessFault a) = nat_le heap.end a && nat_lt a (heap.end + 65536)
is_overrun heap (StoreAccessFault a) = nat_le heap.end a && nat_lt a (heap.end + 65536)
is_overrun heap _ = false
