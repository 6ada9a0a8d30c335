use Rattle.std.proofs.Common.{rules}
use Rattle.rrs_lib.specs.Engines.{gone_on}
use Rattle.rrs_lib.proofs.instruction_executor.engine.Engine.store.Goals as goal

pub returns-then-not-is_aligned-clause-fault : goal.returns-then-not-is_aligned-clause-fault
unfolding gone_on
returns-then-not-is_aligned-clause-fault g c = search rules

pub returns-else-write_mem-clause-fault : goal.returns-else-write_mem-clause-fault
unfolding gone_on
returns-else-write_mem-clause-fault g c = search rules
