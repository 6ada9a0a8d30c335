use Rattle.std.proofs.Common.{ap, refl}
use Rattle.rrs_lib.specs.VecBytes.{bytes_of_words}
use Rattle.rrs_extra.proofs.Words.{holds_by_test}
use Rattle.rrs_programs.proofs.PutString.{string_by_test}
use Rattle.tests_host.proofs.printing.prints_a_string.Goals as goal

pub print-end-requires-clause-program : goal.print-end-requires-clause-program
print-end-requires-clause-program g c = holds_by_test (ap bytes_of_words c.in_ok-memory.ensures) refl

pub print-end-requires-clause-string : goal.print-end-requires-clause-string
print-end-requires-clause-string g c = string_by_test (ap bytes_of_words c.in_ok-memory.ensures) refl
