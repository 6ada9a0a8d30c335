use Rattle.std.proofs.Common.{ℕ}
use Rattle.rrs_lib.specs.Bytes.{ByteMap}
use Rattle.rrs_linux.specs.Transfers.{Stands}
use Rattle.rrs_linux.specs.Vectors.{HasNoNegative}
use Rattle.rrs_linux.proofs.pieces.has_negative.Given as goal

-- no piece so far has a negative length
abbrev pub invariant-loop-index : goal.invariant-loop-index
invariant-loop-index l = (bytes : ByteMap) (a : ℕ) → Stands bytes a l.vector → HasNoNegative bytes a l.index
