use Rattle.std.proofs.Common.{arith}
use Rattle.rrs_asm.proofs.Made.{are-behind}
use Rattle.rrs_asm.proofs.sections.+are_behind.Goals as goal

-- the next one lies after, and the others after it
pub returns-then-is_behind : goal.returns-then-is_behind
returns-then-is_behind g t c = λ all.
    are-behind c.args.layout c.args.first.now c.section-item.result c.args.others.now _ (omega arith) c.section-item.is (c.is_behind.ensures c.if-is_behind.true) (c.are_behind.ensures all)
