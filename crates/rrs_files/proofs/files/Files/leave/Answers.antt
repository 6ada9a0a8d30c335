use Rattle.std.proofs.Common.{refl, sym, ◌∙◌}
use Rattle.rrs_files.specs.Acts.{IsLeft}
use Rattle.rrs_files.proofs.files.Files.leave.Goals as goal

pub returns : goal.returns
returns g c =
    IsLeft c.close.new.self (λ used. absurd (cc (sym c.if-has.false ∙ c.has.ensures.1 used))) c.close.ensures refl
