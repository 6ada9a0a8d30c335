use Rattle.std.proofs.Common.{◌≡◌}
use Rattle.rrs_elf.specs.Headers.{e_phnum}
use Rattle.rrs_elf.specs.Loading.{Stands}
use Rattle.rrs_elf.proofs.accepting.Executable.load_over_zeros.Given as goal

-- the segments before this one stand
abbrev pub invariant-loop-index : goal.invariant-loop-index
invariant-loop-index g l = record {
  counted : l.index-end ≡ e_phnum l.self.file.now;
  stands : Stands l.self.addresses l.self.file.now (g.M.Memory.bytes l.fn.memory) (g.M.Memory.bytes l.memory) (g.M.Memory.writable l.fn.memory) l.index 0;
  writable_kept : g.M.Memory.writable l.memory ≡ g.M.Memory.writable l.fn.memory;
  layout_kept : g.M.Memory.layout l.memory ≡ g.M.Memory.layout l.fn.memory;
}
