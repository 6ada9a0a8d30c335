use Rattle.std.proofs.Common.{refl, ap, ◌∙◌, unwrap_or}
use Rattle.rrs_files.specs.Acts.{IsTested}
use Rattle.rrs_files.proofs.files.Files.test.Goals as goal

pub returns : goal.returns
returns g c =
    IsTested c.walk-named.result c.walk-named.new.folder c.walk-named.ensures refl
    (c.unwrap_or.ensures ∙ ap (λ failed. unwrap_or failed 0) c.denying.ensures)
