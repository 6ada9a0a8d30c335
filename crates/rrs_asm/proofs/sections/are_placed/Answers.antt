use Rattle.std.proofs.Common.{arith}
use Rattle.rrs_asm.proofs.Made.{are-placed}
use Rattle.rrs_asm.proofs.sections.are_placed.Goals as goal

-- the first one lies at its place, and the others after it
pub returns-then-first-layout : goal.returns-then-first-layout
returns-then-first-layout g c = λ all.
    are-placed c.args.layout c.first-item.result c.args.sections.now _ (omega arith) c.first-item.is c.if-first-layout.true (c.are_behind.ensures all)
