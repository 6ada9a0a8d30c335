-- What a step changed, as C has it, and taking it back (RISC-V unprivileged specification, RV32I,
-- "Programmers' Model"): the change is one of Changes.antt of rrs_history, which begins a step.
use Rattle.std.specs.Prelude.{◌≡◌, ◌<◌, ℕ, ◌==◌, ◌&&◌, nat_lt, true, false, if◌then◌else◌, Option, Some, None}
use Rattle.rrs_lib.specs.declared.MemAccessSize.{MemAccessSize}
use Rattle.rrs_lib.specs.Bytes.{width}
use Rattle.rrs_lib.specs.Accesses.{size_of}
use Rattle.rrs_history.specs.declared.change.Change.{Change}
use Rattle.rrs_c.specs.declared.undoing.RrsChange.{RrsChange}

-- the size of a store by its number of bytes; 0 is no store
abbrev pub size_in : ℕ → Option MemAccessSize
size_in n = if n == 0 then None else Some (size_of n)

-- the number of bytes of a store, or 0
abbrev pub bytes_stored : Option MemAccessSize → ℕ
bytes_stored None = 0
bytes_stored (Some size) = width size

-- The change that one of C is. A number past 31 is no register.
abbrev pub change_in : RrsChange → Change
change_in c = record {
  last = c.last;
  pc = c.pc;
  value = c.value;
  address = c.address;
  bytes = c.bytes;
  stored = size_in c.size;
  register = if nat_lt c.rd 32 then c.rd else 0;
  had_last = nat_lt 0 c.last && nat_lt c.last 32;
  starts = true;
  of_call = false;
}

-- How a change is written: registers up to 31, and the number of bytes that are stored, or 0.
pub record IsChange (c : RrsChange) : Type 0 where
  pub last : c.last < 32
  pub rd : c.rd < 32
  pub size : c.size ≡ bytes_stored (size_in c.size)
