use Rattle.std.proofs.Common.{ap, refl}
use Rattle.rrs_lib.specs.VecBytes.{bytes_of_words}
use Rattle.rrs_extra.proofs.Words.{holds_by_test}
use Rattle.tests_kit.proofs.summing.adds_up_words.Goals as goal

pub add_up-end-requires-clause-program : goal.add_up-end-requires-clause-program
add_up-end-requires-clause-program g c = holds_by_test (ap bytes_of_words c.in_ok-memory.ensures) refl
