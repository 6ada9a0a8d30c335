use Rattle.std.proofs.Common.{refl, arith}
use Rattle.rrs_extra.proofs.Words.{holds_by_test}
use Rattle.rrs_programs.proofs.PutString.{string_by_test}
use Rattle.tests_host.proofs.GreetingMachine.{machine_bytes, has_room}
use Rattle.tests_host.proofs.greeting.print_greeting.Goals as goal

pub run-requires-clause-program : goal.run-requires-clause-program
run-requires-clause-program g c =
    holds_by_test (machine_bytes _ _ _ c.in_ok-space.ensures.regions c.in_ok-ram.ensures.words) refl

pub run-requires-clause-string : goal.run-requires-clause-string
run-requires-clause-string g c =
    string_by_test (machine_bytes _ _ _ c.in_ok-space.ensures.regions c.in_ok-ram.ensures.words) refl

pub run-requires-clause-room : goal.run-requires-clause-room
run-requires-clause-room g c =
    has_room _ _ _ c.in_ok-space.ensures.regions c.in-Ok.ensures.log (omega (arith, c.in-Ok.ensures.room))
