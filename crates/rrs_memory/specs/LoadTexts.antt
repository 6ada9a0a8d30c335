-- The texts of a loader's errors.
use Rattle.std.specs.Prelude.{ℕ, List, ◌++◌, codes}
use Rattle.rrs_memory.specs.Hexadecimal.{hexadecimal}
use Rattle.rrs_memory.specs.declared.memories.load.LoadFault.{LoadFault}
use Rattle.rrs_memory.specs.declared.memories.load.LoadFault.TheVariants.{Reader, Refused, EndOfAddresses}

abbrev pub load_text : LoadFault → List ℕ
load_text (Reader error) = codes "Could not read byte"
load_text (Refused a) = codes "Could not write byte at address 0x" ++ hexadecimal 8 a
load_text EndOfAddresses = codes "Could not write byte past address 0xffffffff"
