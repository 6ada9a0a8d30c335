use Rattle.std.proofs.Common.{arith}
use Rattle.rrs_memory.proofs.SearchOrder.{field_at}
use Rattle.rrs_memory.proofs.memories.space.is_served_by.Goals as goal

pub returns-then-index-regions : goal.returns-then-index-regions
returns-then-index-regions g c lies =
    let inside = c.contains.ensures.0 lies in
    field_at c.args.regions.now c.args.index c.args.addr _ c.if-index-regions.true c.index-regions-index.is inside.0 inside.1 (omega arith)
