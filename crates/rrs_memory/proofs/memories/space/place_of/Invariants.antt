use Rattle.std.proofs.Common.{ℕ, ◌-◌, ◌<◌, ◌≤◌, length}
use Rattle.rrs_memory.proofs.SearchOrder.{begins}
use Rattle.rrs_memory.proofs.memories.space.place_of.Given as goal

abbrev pub invariant-loop-low : goal.invariant-loop-low
invariant-loop-low g l = record {
  order : l.low ≤ l.high;
  room : l.high ≤ length l.by_base;
  before : (j : ℕ) → j < l.low → begins l.regions l.by_base j ≤ l.base;
  after : (j : ℕ) → l.high ≤ j → j < length l.by_base → l.base < begins l.regions l.by_base j;
}

abbrev pub decreases-loop-low : goal.decreases-loop-low
decreases-loop-low g l = l.high - l.low
