use Rattle.std.proofs.Common.{◌≡◌, ℕ, ◌-◌, ◌≤◌, List, length}
use Rattle.rrs_linux.proofs.Written.{Written}
use Rattle.rrs_linux.proofs.host.write_by.Given as goal

-- what was read so far is written
abbrev pub invariant-chunks : goal.invariant-chunks
invariant-chunks g l =
    let memory = g.M.Memory in
    let contents = g.W.Write.contents in
    record {
      text : List ℕ;
      so_far : length text ≡ l.done;
      within : l.done ≤ l.count;
      written : Written memory.reads memory.writes (memory.bytes l.fn.memory) l.address (contents l.fn.out.stream)
          (contents l.out.stream) text l.done l.fn.memory l.memory;
      none_short : l.out.short_writes ≡ l.fn.out.short_writes;
      bytes_kept : memory.bytes l.memory ≡ memory.bytes l.fn.memory;
      writable_kept : memory.writable l.memory ≡ memory.writable l.fn.memory;
      layout_kept : memory.layout l.memory ≡ memory.layout l.fn.memory;
    }

abbrev pub decreases-chunks : goal.decreases-chunks
decreases-chunks g l = l.count - l.done
