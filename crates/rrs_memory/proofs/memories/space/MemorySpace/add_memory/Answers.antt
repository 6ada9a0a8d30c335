use Rattle.rrs_memory.proofs.Regions.{all_apart}
use Rattle.rrs_memory.proofs.RegionFields.{refuted}
use Rattle.rrs_memory.proofs.memories.space.MemorySpace.add_memory.Goals as goal

pub append-requires-clause-apart : goal.append-requires-clause-apart
append-requires-clause-apart g c = rw c.new.ensures (refuted _ c.if-overlaps.false c.overlaps.ensures)

pub returns-in-Ok-clause-accepted : goal.returns-in-Ok-clause-accepted
returns-in-Ok-clause-accepted g c = (
  (c.if-base-ne0.false, c.if-size-ne0.false),
  all_apart c.args.self.now.regions c.args.base c.args.size (refuted _ c.if-overlaps.false c.overlaps.ensures),
)
