use Rattle.std.proofs.Common.{ap, refl}
use Rattle.rrs_lib.specs.VecBytes.{bytes_of_words}
use Rattle.rrs_extra.proofs.Words.{holds_by_test}
use Rattle.tests_host.proofs.programs.copies_words.Goals as goal

pub copy-end-requires-clause-program : goal.copy-end-requires-clause-program
copy-end-requires-clause-program g c = holds_by_test (ap bytes_of_words c.in_ok-memory.ensures) refl
