use Rattle.std.proofs.Common.{ap, refl}
use Rattle.rrs_lib.specs.VecBytes.{bytes_of_words}
use Rattle.rrs_extra.proofs.Words.{holds_by_test}
use Rattle.tests_host.proofs.served_programs.echoes_its_input.Goals as goal

pub echo_by-end-requires-clause-program : goal.echo_by-end-requires-clause-program
echo_by-end-requires-clause-program g c = holds_by_test (ap bytes_of_words c.in_ok-memory.ensures) refl
