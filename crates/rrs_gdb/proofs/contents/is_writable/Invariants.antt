use Rattle.std.proofs.Common.{◌≡◌, ℕ, ◌+◌, ◌<◌, true}
use Rattle.rrs_gdb.proofs.contents.is_writable.Given as goal

-- the bytes so far are writable
abbrev pub invariant-loop-index : goal.invariant-loop-index
invariant-loop-index g l =
    let memory = g.M.Memory in
    record {
      yes : (i : ℕ) → i < l.index → memory.writable l.fn.memory (l.address + i) ≡ true;
      bytes_kept : memory.bytes l.memory ≡ memory.bytes l.fn.memory;
      writable_kept : memory.writable l.memory ≡ memory.writable l.fn.memory;
      layout_kept : memory.layout l.memory ≡ memory.layout l.fn.memory;
    }
