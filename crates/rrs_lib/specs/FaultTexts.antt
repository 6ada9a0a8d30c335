-- The texts of exceptions: the name, and then the pc or the data address, and the word if there is
-- one, as 8 hexadecimal digits each.
use Rattle.std.specs.Prelude.{ℕ, List, ◌++◌, codes}
use Rattle.rrs_lib.specs.declared.instruction_executor.InstructionException.{InstructionException}
use Rattle.rrs_lib.specs.declared.instruction_executor.InstructionException.TheVariants.{IllegalInstruction, FetchError, LoadAccessFault, StoreAccessFault, AlignmentFault, EnvironmentCall, Breakpoint}
use Rattle.rrs_memory.specs.Hexadecimal.{hexadecimal}

abbrev pub exception_text : InstructionException → List ℕ
exception_text (IllegalInstruction pc word) =
    (codes "IllegalInstruction pc=0x" ++ hexadecimal 8 pc)
    ++ (codes " word=0x" ++ hexadecimal 8 word)
exception_text (FetchError pc) = codes "FetchError pc=0x" ++ hexadecimal 8 pc
exception_text (LoadAccessFault addr) = codes "LoadAccessFault addr=0x" ++ hexadecimal 8 addr
exception_text (StoreAccessFault addr) = codes "StoreAccessFault addr=0x" ++ hexadecimal 8 addr
exception_text (AlignmentFault addr) = codes "AlignmentFault addr=0x" ++ hexadecimal 8 addr
exception_text (EnvironmentCall pc) = codes "EnvironmentCall pc=0x" ++ hexadecimal 8 pc
exception_text (Breakpoint pc) = codes "Breakpoint pc=0x" ++ hexadecimal 8 pc
