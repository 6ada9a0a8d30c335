use Rattle.rrs_asm.proofs.Made.{Kinds-more}
use Rattle.rrs_asm.proofs.sections.has_wrong_kind.Goals as goal

-- one more holds what its name says
pub loop-section-preserved : goal.loop-section-preserved
loop-section-preserved g c =
    Kinds-more c.loop-section.section-index c.args.sections.now c.section-item.result (c.has_its_kind.ensures c.if-not-has_its_kind.false) c.section-item.is c.loop-section-test.true c.loop-section.invariant
