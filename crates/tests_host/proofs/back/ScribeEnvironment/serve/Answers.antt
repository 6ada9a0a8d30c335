-- Two writes.
use Rattle.std.proofs.Common.{refl, [], ◌∷◌}
use Rattle.rrs_lib.specs.Accesses.{Write}
use Rattle.tests_host.proofs.back.ScribeEnvironment.serve.Goals as goal

pub returns-clause-served : goal.returns-clause-served
returns-clause-served g c = record {
  accesses = Write _ _ _ _ ∷ Write _ _ _ _ ∷ [];
  these = tt;
  made = (_, c.write_mem-first.ensures.did, (_, c.write_mem-second.ensures.did, refl));
}
