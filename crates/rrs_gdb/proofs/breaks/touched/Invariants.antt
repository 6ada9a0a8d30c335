use Rattle.std.proofs.Common.{◌≡◌, ℕ, ◌<◌, slice_index_or}
use Rattle.rrs_gdb.specs.declared.breaks.Watch.{Watch}
use Rattle.rrs_gdb.specs.Breaks.{IsAskedOf}
use Rattle.rrs_gdb.proofs.breaks.touched.Given as goal

-- the access touches none of those so far
abbrev pub invariant-loop-watch : goal.invariant-loop-watch
invariant-loop-watch l = (k : ℕ) → k < l.watch-index → (watch : Watch) → slice_index_or l.watches k watch ≡ watch
    → ¬ IsAskedOf watch l.access
