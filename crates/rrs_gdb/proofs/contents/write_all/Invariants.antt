use Rattle.std.proofs.Common.{◌≡◌, take}
use Rattle.rrs_lib.specs.Loading.{Loaded}
use Rattle.rrs_gdb.proofs.contents.write_all.Given as goal

-- the bytes so far are written
abbrev pub invariant-loop-index : goal.invariant-loop-index
invariant-loop-index g l =
    let memory = g.M.Memory in
    record {
      written : Loaded (memory.bytes l.fn.memory) (memory.bytes l.memory) (memory.writable l.fn.memory) l.address
          (take l.index l.values);
      writable_kept : memory.writable l.memory ≡ memory.writable l.fn.memory;
      layout_kept : memory.layout l.memory ≡ memory.layout l.fn.memory;
    }
