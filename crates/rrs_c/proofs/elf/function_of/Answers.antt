-- What is found is told.
use Rattle.std.proofs.Common.{refl}
use Rattle.rrs_c.specs.Elf.{IsFound, IsNotFound}
use Rattle.rrs_c.proofs.elf.function_of.Goals as goal

pub returns-in-Some : goal.returns-in-Some
returns-in-Some c = IsFound c.in-Some.location c.in-Some.name.now c.in-Some.ensures c.place_of.ensures c.put_text.ensures

pub returns-in-None : goal.returns-in-None
returns-in-None c = IsNotFound c.in-None.ensures refl refl
