use Rattle.rrs_lent.proofs.More.{as-long-pushed}
use Rattle.std.proofs.Common.{arith, refl}
use Rattle.rrs_lent.proofs.statements.push_statements.Goals as goal

-- one statement more is told
pub loop-statement-preserved : goal.loop-statement-preserved
loop-statement-preserved g c =
    as-long-pushed c.args.numbers.now c.args.placed.now c.loop-statement.statement-index c.loop-statement.told.items c.args.told.now.items c.push.new.self.items _ _ c.statement_of.result
    (omega arith) refl c.statement_of.ensures c.in_ok-push.ensures.items c.loop-statement.invariant
