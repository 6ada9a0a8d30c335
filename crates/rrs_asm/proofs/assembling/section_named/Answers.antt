use Rattle.std.proofs.Common.{sym, ◌∙◌, arith}
use Rattle.rrs_asm.proofs.Finding.{found, further}
use Rattle.rrs_asm.proofs.assembling.section_named.Goals as goal

pub loop-index-preserved : goal.loop-index-preserved
loop-index-preserved g c = omega (arith, c.loop-index.invariant, further c.args.name.now c.args.sections.now c.loop-index.index c.index-sections-index.result c.loop-index-test.true c.index-sections-index.is (sym c.eq.ensures ∙ c.if-eq.false))

pub returns-then-eq : goal.returns-then-eq
returns-then-eq g c = omega (arith, c.loop-index.invariant, found c.args.name.now c.args.sections.now c.loop-index.index c.index-sections-index.result c.loop-index-test.true c.index-sections-index.is (sym c.eq.ensures ∙ c.if-eq.true))
