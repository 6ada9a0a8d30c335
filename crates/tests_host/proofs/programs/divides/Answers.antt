use Rattle.std.proofs.Common.{ap, refl}
use Rattle.rrs_lib.specs.VecBytes.{bytes_of_words}
use Rattle.rrs_extra.proofs.Words.{holds_by_test}
use Rattle.tests_host.proofs.programs.divides.Goals as goal

pub divide-end-requires-clause-program : goal.divide-end-requires-clause-program
divide-end-requires-clause-program g c = holds_by_test (ap bytes_of_words c.in_ok-memory.ensures) refl
