use Rattle.std.proofs.Common.{◌≡◌, take}
use Rattle.rrs_lib.specs.AccessLists.{Makes}
use Rattle.rrs_lib.specs.Loading.{Loaded, byte_writes}
use Rattle.rrs_linux.proofs.buffers.give_bytes.Given as goal

-- what was given so far stands in the buffer
abbrev pub invariant-loop-done : goal.invariant-loop-done
invariant-loop-done g l =
    let memory = g.M.Memory in
    record {
      loaded : Loaded (memory.bytes l.fn.memory) (memory.bytes l.memory) (memory.writable l.fn.memory) l.address
          (take l.done l.input);
      made : Makes memory.reads memory.writes (byte_writes (memory.writable l.fn.memory) l.address
          (take l.done l.input)) l.fn.memory l.memory;
      writable_kept : memory.writable l.memory ≡ memory.writable l.fn.memory;
      layout_kept : memory.layout l.memory ≡ memory.layout l.fn.memory;
    }
