-- What the port took is what it has logged, since there was room for it.
use Rattle.std.proofs.Common.{refl}
use Rattle.tests_host.proofs.GreetingMachine.{logs_greeting}
use Rattle.tests_host.proofs.greeting.run.Goals as goal

pub write_log-requires : goal.write_log-requires
write_log-requires g c =
    logs_greeting c.args.space.now.regions c.print_string.new.executor.mem.now.regions _ c.requires.room (c.print_string.ensures.taken 1) (c.print_string.ensures.log 1) (rw c.new-hart.ensures.registers refl)
