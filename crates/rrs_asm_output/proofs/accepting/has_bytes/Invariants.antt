use Rattle.std.proofs.Common.{◌≡◌, ℕ, ◌+◌, ◌<◌, nat_lt, slice_index}
use Rattle.std.specs.Prelude.{if◌then◌else◌}
use Rattle.rrs_asm_output.proofs.accepting.has_bytes.Given as goal

-- the bytes before are the same
abbrev pub invariant-loop-index : goal.invariant-loop-index
invariant-loop-index l = (i : ℕ) → i < l.index → (if nat_lt i l.size then slice_index l.file (l.offset + i) else 0) ≡ slice_index l.bytes i
