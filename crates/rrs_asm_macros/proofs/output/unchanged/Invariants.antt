use Rattle.std.proofs.Common.{◌≡◌, ℕ, ◌+◌, ◌<◌, length, get_or}
use Rattle.rrs_asm_macros.proofs.output.unchanged.Given as goal

-- the number of each line before
abbrev pub invariant-loop-index : goal.invariant-loop-index
invariant-loop-index g l = record {
  length : length l.lines.items ≡ l.index;
  each : (k : ℕ) → k < l.index → get_or l.lines.items k 0 ≡ k + 1;
}
