use Rattle.std.proofs.Common.{◌≡◌, ℕ, ◌<◌, ◌≤◌, slice_index_or}
use Rattle.rrs_exec.specs.Protection.{touches}
use Rattle.rrs_exec.proofs.marks.next_change.Given as goal

-- up to the page that is next, those ranges so far have an address of each page or of none
abbrev pub invariant-loop-range : goal.invariant-loop-range
invariant-loop-range l = record {
  later : l.page < l.next;
  same : (p : ℕ) → l.page ≤ p → p < l.next → (k : ℕ) (d : _) → k < l.range-index
      → touches (slice_index_or l.ranges k d) p ≡ touches (slice_index_or l.ranges k d) l.page;
}
