-- What a step changed, and taking it back: the registers, the program counter, the last written
-- register and the bytes are as they were before (RISC-V unprivileged specification, RV32I,
-- "Programmers' Model" and "Load and Store Instructions").
use Rattle.std.specs.Prelude.{◌≡◌, ℕ, zero, suc, ◌%◌, ◌==◌, ◌&&◌, if◌then◌else◌, List, [], ◌∷◌, slice_index, slice_set, Bool, Option, Some, None}
use Rattle.rrs_lib.specs.declared.MemAccessSize.{MemAccessSize}
use Rattle.rrs_lib.specs.Bytes.{ByteMap, width, all_writable, store}
use Rattle.rrs_lib.specs.Machine.{State}
use Rattle.rrs_lib.specs.Accesses.{Access, Read, Write, AccessesOf, read_in, write_if_aligned}
use Rattle.rrs_history.specs.declared.change.Change.{Change}

-- ---- taking a change back

-- the registers 1 to 31 with one of them as it was; x0 is none of them
abbrev pub put_back : ℕ → ℕ → List ℕ → List ℕ
put_back zero value registers = registers
put_back (suc r) value registers = slice_set registers r value

-- the bytes with those that were stored as they were, where they may be written
abbrev pub stored_back : Option MemAccessSize → ℕ → ℕ → (ℕ → Bool) → ByteMap → ByteMap
stored_back None a value writable bytes = bytes
stored_back (Some size) a value writable bytes =
    if a % width size == 0 && all_writable writable a (width size)
    then store bytes a (width size) value else bytes

abbrev pub last_before : Change → Option ℕ
last_before c = if c.had_last then Some c.last else None

-- The state before a change, from the state after it. A change with which no step begins leaves the
-- program counter and the last written register.
abbrev pub undone : Change → State → State
undone c t = record {
  registers = put_back c.register c.value t.registers;
  pc = if c.starts then c.pc else t.pc;
  last = if c.starts then last_before c else t.last;
  bytes = stored_back c.stored c.address c.bytes t.writable t.bytes;
  writable = t.writable;
}

-- the one write that takes the bytes of a change back, if it stored some
abbrev pub write_back : Option MemAccessSize → ℕ → ℕ → State → List Access
write_back None a value t = []
write_back (Some size) a value t = write_if_aligned t a size value

abbrev pub accesses_back : Change → State → List Access
accesses_back c t = write_back c.stored c.address c.bytes t

-- ---- the accesses of a step that is noted

-- before each write the bytes that it is to replace are read
abbrev pub with_reads : State → List Access → List Access
with_reads s [] = []
with_reads s (Read a size answer ∷ accesses) = Read a size answer ∷ with_reads s accesses
with_reads s (Write a size value granted ∷ accesses) =
    read_in s a size ∷ Write a size value granted ∷ with_reads s accesses

-- the accesses of the step from s, with the read before its store
pub record NotedAccessesOf (s : State) (accesses : List Access) : Type 0 where
  pub of_step : List Access
  pub are_its : AccessesOf s of_step
  pub with_read : accesses ≡ with_reads s of_step

-- ---- of the code

-- the register of a change, 0 where none was written, and what it was
abbrev pub number_in : Option ℕ → ℕ
number_in None = 0
number_in (Some r) = r

abbrev pub value_in : List ℕ → ℕ → ℕ
value_in registers zero = 0
value_in registers (suc r) = slice_index registers (suc r)
