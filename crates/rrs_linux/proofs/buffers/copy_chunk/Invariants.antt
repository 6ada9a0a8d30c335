use Rattle.std.proofs.Common.{◌≡◌, ℕ, ◌+◌, ◌<◌, get_or, Some}
use Rattle.rrs_lib.specs.AccessLists.{Makes}
use Rattle.rrs_linux.specs.Transfers.{byte_reads}
use Rattle.rrs_linux.proofs.buffers.copy_chunk.Given as goal

-- what was read so far stands in the chunk
abbrev pub invariant-loop-index : goal.invariant-loop-index
invariant-loop-index g l =
    let memory = g.M.Memory in
    record {
      stands : (i : ℕ) → i < l.index → memory.bytes l.fn.memory (l.address + i) ≡ Some (get_or l.chunk i 0);
      made : Makes memory.reads memory.writes (byte_reads (memory.bytes l.fn.memory) l.address l.index) l.fn.memory
          l.memory;
      bytes_kept : memory.bytes l.memory ≡ memory.bytes l.fn.memory;
      writable_kept : memory.writable l.memory ≡ memory.writable l.fn.memory;
      layout_kept : memory.layout l.memory ≡ memory.layout l.fn.memory;
    }
