use Rattle.std.proofs.Common.{◌≡◌, ℕ, ◌*◌, ◌≤◌, length}
use Rattle.rrs_linux.specs.Transfers.{Stands, most_bytes}
use Rattle.rrs_linux.proofs.Vectored.{PiecesSoFar}
use Rattle.rrs_linux.proofs.pieces.write_each.Given as goal

-- the pieces so far are written
abbrev pub invariant-loop-index : goal.invariant-loop-index
invariant-loop-index g l =
    let memory = g.M.Memory in
    record {
      within : l.done ≤ most_bytes;
      so_far : (a n : ℕ) → Stands (memory.bytes l.fn.memory) a l.vector → length l.vector ≡ 8 * n
          → PiecesSoFar memory.reads memory.writes g.W.Output.takes (memory.bytes l.fn.memory) a n l.index l.done
          l.fn.out l.out l.fn.memory l.memory;
      bytes_kept : memory.bytes l.memory ≡ memory.bytes l.fn.memory;
      writable_kept : memory.writable l.memory ≡ memory.writable l.fn.memory;
      layout_kept : memory.layout l.memory ≡ memory.layout l.fn.memory;
    }
