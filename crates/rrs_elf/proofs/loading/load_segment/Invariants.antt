use Rattle.std.proofs.Common.{◌≡◌}
use Rattle.rrs_memory.specs.AccessLists.{Makes}
use Rattle.rrs_memory.specs.Loading.{Loaded, byte_writes}
use Rattle.rrs_elf.specs.Headers.{segment_start}
use Rattle.rrs_elf.specs.Loading.{segment_bytes}
use Rattle.rrs_elf.proofs.loading.load_segment.Given as goal

-- what was written so far
abbrev pub invariant-loop-place : goal.invariant-loop-place
invariant-loop-place g l = record {
  loaded : Loaded (g.M.Memory.bytes l.fn.memory) (g.M.Memory.bytes l.memory) (g.M.Memory.writable l.fn.memory) (segment_start l.fn.addresses l.file l.index) (segment_bytes l.file l.index l.place);
  made : Makes g.M.Memory.reads g.M.Memory.writes (byte_writes (g.M.Memory.writable l.fn.memory) (segment_start l.fn.addresses l.file l.index) (segment_bytes l.file l.index l.place)) l.fn.memory l.memory;
  writable_kept : g.M.Memory.writable l.memory ≡ g.M.Memory.writable l.fn.memory;
  layout_kept : g.M.Memory.layout l.memory ≡ g.M.Memory.layout l.fn.memory;
}
