use Rattle.rrs_files.specs.Paths.{IsSlash}
use Rattle.rrs_files.proofs.paths.enter.Goals as goal

pub returns-then-path-at-eq-SLASH : goal.returns-then-path-at-eq-SLASH
returns-then-path-at-eq-SLASH g c =
    IsSlash c.look-seen.result c.if-path-at-eq-SLASH.true c.look-seen.ensures c.stop_at.ensures
