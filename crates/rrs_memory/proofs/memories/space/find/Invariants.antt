use Rattle.std.proofs.Common.{◌≡◌, ℕ, ◌+◌, ◌-◌, ◌*◌, ◌^◌, ◌<◌, ◌≤◌, length}
use Rattle.rrs_memory.specs.Spaces.{binary_digits}
use Rattle.rrs_memory.proofs.SearchOrder.{begins, ends}
use Rattle.rrs_memory.proofs.memories.space.find.Given as goal

abbrev pub invariant-loop-low : goal.invariant-loop-low
invariant-loop-low g l = record {
  room : l.high ≤ length l.by_base;
  before : (j : ℕ) → j < l.low → j < length l.by_base → ends l.regions l.by_base j ≤ l.addr;
  after : (j : ℕ) → l.high ≤ j → j < length l.by_base → l.addr < begins l.regions l.by_base j;
  digits : l.compared ≤ binary_digits (length l.regions);
  left : l.high - l.low < 2 ^ (binary_digits (length l.regions) - l.compared);
  fewer : l.compared + (l.high - l.low) ≤ length l.by_base;
  ruled_out : length l.by_base + 2 ≤ (l.high - l.low + 2) * 2 ^ l.compared;
  some : l.compared ≡ 0 → l.high - l.low ≡ length l.by_base;
}

abbrev pub decreases-loop-low : goal.decreases-loop-low
decreases-loop-low g l = l.high - l.low
