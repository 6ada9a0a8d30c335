use Rattle.std.proofs.Common.{◌≡◌, length}
use Rattle.rrs_gdb.specs.Shown.{HasBytes}
use Rattle.rrs_gdb.proofs.contents.read_memory.Given as goal

-- what was read so far
abbrev pub invariant-loop-index : goal.invariant-loop-index
invariant-loop-index g l =
    let memory = g.M.Memory in
    record {
      read : HasBytes (memory.bytes l.fn.memory) l.address l.values.items;
      long : length l.values.items ≡ l.index;
      bytes_kept : memory.bytes l.memory ≡ memory.bytes l.fn.memory;
      writable_kept : memory.writable l.memory ≡ memory.writable l.fn.memory;
      layout_kept : memory.layout l.memory ≡ memory.layout l.fn.memory;
    }
