use Rattle.std.proofs.Common.{refl, arith}
use Rattle.std.proofs.lemmas.Grind.{get_or-set_at}
use Rattle.rrs_lib.proofs.instruction_executor.engine.Engine.put_together.Goals as goal

pub returns-clause-entry : goal.returns-clause-entry
returns-clause-entry g c =
    get_or-set_at c.args.self.now.registers.now 0 0 c.args.self.now.entry_zero 0 refl (omega arith)
