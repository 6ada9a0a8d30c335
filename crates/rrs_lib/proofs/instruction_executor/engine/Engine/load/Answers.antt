use Rattle.std.proofs.Common.{refl, rules}
use Rattle.rrs_lib.specs.Engines.{gone_on}
use Rattle.rrs_lib.proofs.instruction_executor.engine.Engine.load.Goals as goal

pub returns-then-not-is_aligned-clause-fault : goal.returns-then-not-is_aligned-clause-fault
unfolding gone_on
returns-then-not-is_aligned-clause-fault g c = search rules

pub returns-in-None-clause-fault : goal.returns-in-None-clause-fault
unfolding gone_on
returns-in-None-clause-fault g c = search rules

pub returns-in-None-clause-kept : goal.returns-in-None-clause-kept
returns-in-None-clause-kept g c =
    rw (c.read_mem.ensures.laws.bytes_kept, c.read_mem.ensures.laws.writable_kept) refl
