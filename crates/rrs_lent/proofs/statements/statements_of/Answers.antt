use Rattle.std.proofs.Common.{arith}
use Rattle.rrs_lent.proofs.More.{all-as-long-pushed}
use Rattle.rrs_lent.proofs.statements.statements_of.Goals as goal

-- the statements of one section more are told
pub loop-section-preserved : goal.loop-section-preserved
loop-section-preserved g c =
    all-as-long-pushed c.args.numbers.now c.args.sections.now c.loop-section.section-index c.loop-section.told.items c.push_statements.new.told.items c.section-item.result c.deref.result.now (omega arith)
    c.section-item.is c.deref.ensures.value c.in_ok-push_statements.ensures c.loop-section.invariant
