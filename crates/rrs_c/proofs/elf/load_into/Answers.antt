-- A refusal is told by its number.
use Rattle.std.proofs.Common.{refl, ap}
use Rattle.rrs_c.specs.declared.elf.RrsElf.{RrsElf}
use Rattle.rrs_c.specs.declared.elf.RrsLoaded.{RrsLoaded}
use Rattle.rrs_c.specs.Elf.{IsRefused}
use Rattle.rrs_c.proofs.elf.load_into.Goals as goal

pub returns-in-Err : goal.returns-in-Err
returns-in-Err c =
    let told : RrsElf → RrsLoaded = λ r. record { refusal = r.refusal; address = 0 } in
    IsRefused c.in-Err.error c.in-Err.ensures.refused refl (ap told c.refusal_of.ensures.same)
