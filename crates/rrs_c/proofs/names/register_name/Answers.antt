-- There are 32 registers.
use Rattle.std.proofs.Common.{sym, arith}
use Rattle.rrs_c.specs.Names.{register_names}
use Rattle.rrs_c.proofs.Naming.{named_past}
use Rattle.rrs_c.proofs.names.register_name.Goals as goal

pub returns-then-register-gt31 : goal.returns-then-register-gt31
returns-then-register-gt31 c = sym (named_past register_names c.args.register (omega arith))
