use Rattle.std.proofs.Common.{◌≡◌, ◌≢◌, ℕ, ◌+◌, ◌<◌, ◌≤◌, ◌^◌, get_or, length, Some}
use Rattle.rrs_lib.specs.AccessLists.{Makes}
use Rattle.rrs_linux.specs.Transfers.{byte_reads}
use Rattle.rrs_files.proofs.paths.read_path.Given as goal

-- what was read so far stands in the text
abbrev pub invariant-loop-size : goal.invariant-loop-size
invariant-loop-size g l =
    let memory = g.M.Memory in
    record {
      long : length l.text ≡ 4096;
      stands : (i : ℕ) → i < l.size → memory.bytes l.fn.memory (l.address + i) ≡ Some (get_or l.text i 0);
      some : (i : ℕ) → i < l.size → get_or l.text i 0 ≢ 0;
      within : l.address + l.size ≤ 2 ^ 32;
      made : Makes memory.reads memory.writes (byte_reads (memory.bytes l.fn.memory) l.address l.size) l.fn.memory
          l.memory;
      bytes_kept : memory.bytes l.memory ≡ memory.bytes l.fn.memory;
      writable_kept : memory.writable l.memory ≡ memory.writable l.fn.memory;
      layout_kept : memory.layout l.memory ≡ memory.layout l.fn.memory;
    }
