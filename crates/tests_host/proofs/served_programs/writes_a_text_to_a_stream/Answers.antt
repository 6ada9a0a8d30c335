use Rattle.std.specs.Prelude.{codes}
use Rattle.std.proofs.Common.{ap, refl}
use Rattle.rrs_lib.specs.VecBytes.{bytes_of_words}
use Rattle.rrs_extra.proofs.Words.{holds_by_test}
use Rattle.rrs_programs.proofs.PutString.{string_by_test}
use Rattle.tests_host.proofs.served_programs.writes_a_text_to_a_stream.Goals as goal

pub write_over-end-requires-clause-program : goal.write_over-end-requires-clause-program
write_over-end-requires-clause-program g c = holds_by_test (ap bytes_of_words c.in_ok-memory.ensures) refl

pub write_over-end-requires-clause-there : goal.write_over-end-requires-clause-there
write_over-end-requires-clause-there g c =
    (string_by_test {a = 52} {text = codes "Hello, RISC-V!"} (ap bytes_of_words c.in_ok-memory.ensures) refl).each
