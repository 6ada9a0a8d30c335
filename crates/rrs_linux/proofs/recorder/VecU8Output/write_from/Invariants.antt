use Rattle.std.proofs.Common.{◌≡◌, ℕ, List, ◌++◌, length, vec_capacity}
use Rattle.rrs_lib.specs.AccessLists.{Makes}
use Rattle.rrs_linux.specs.Transfers.{Stands, byte_reads}
use Rattle.rrs_linux.proofs.recorder.VecU8Output.write_from.Given as goal

-- what was read so far is taken
abbrev pub invariant-loop-done : goal.invariant-loop-done
invariant-loop-done g l =
    let memory = g.M.Memory in
    record {
      text : List ℕ;
      so_far : length text ≡ l.done;
      stands : Stands (memory.bytes l.fn.memory) l.address text;
      appended : l.self.items ≡ l.fn.self.items ++ text;
      room_kept : vec_capacity l.self ≡ vec_capacity l.fn.self;
      made : Makes memory.reads memory.writes (byte_reads (memory.bytes l.fn.memory) l.address l.done) l.fn.memory
          l.memory;
      bytes_kept : memory.bytes l.memory ≡ memory.bytes l.fn.memory;
      writable_kept : memory.writable l.memory ≡ memory.writable l.fn.memory;
      layout_kept : memory.layout l.memory ≡ memory.layout l.fn.memory;
    }
