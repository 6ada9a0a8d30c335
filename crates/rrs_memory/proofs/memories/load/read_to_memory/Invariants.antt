use Rattle.std.proofs.Common.{◌≡◌, List, ℕ, ◌+◌, length}
use Rattle.std.specs.Io.KnownBytes.{Consumes}
use Rattle.rrs_memory.specs.AccessLists.{Makes}
use Rattle.rrs_memory.specs.Loading.{Loaded, byte_writes}
use Rattle.rrs_memory.proofs.memories.load.read_to_memory.Given as goal

-- what was read so far is written, one write a byte
abbrev pub invariant-loop-addr : goal.invariant-loop-addr
invariant-loop-addr g l = record {
  input : List ℕ;
  placed : l.fn.start_addr + length input ≡ l.addr;
  loaded : Loaded (g.M.Memory.bytes l.fn.memory) (g.M.Memory.bytes l.memory) (g.M.Memory.writable l.fn.memory) l.fn.start_addr input;
  consumed : Consumes (g.R.Read.remaining l.fn.reader) (g.R.Read.remaining l.reader) input;
  made : Makes g.M.Memory.reads g.M.Memory.writes (byte_writes (g.M.Memory.writable l.fn.memory) l.fn.start_addr input) l.fn.memory l.memory;
  writable_kept : g.M.Memory.writable l.memory ≡ g.M.Memory.writable l.fn.memory;
  layout_kept : g.M.Memory.layout l.memory ≡ g.M.Memory.layout l.fn.memory;
}
