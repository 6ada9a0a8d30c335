-- What a port that prints means: one byte, which a program in the simulated machine writes to,
-- and a log of the bytes that it wrote (RISC-V unprivileged specification, RV32I, "Load and Store
-- Instructions": a device is reached as memory is).
use Rattle.std.specs.Prelude.{◌≡◌, ℕ, ◌+◌, ◌-◌, ◌%◌, ◌^◌, ◌<◌, min, ◌==◌, nat_lt, Bool, if◌then◌else◌, List, [], ◌∷◌, ◌++◌, Option, Some, None, length, slice_get, vec_capacity}
use Rattle.std.specs.Bool.{OnTrue, OnFalse}
use Rattle.rrs_lib.specs.declared.MemAccessSize.{MemAccessSize}
use Rattle.rrs_lib.specs.Bytes.{ByteMap}
use Rattle.rrs_lib.specs.Spaces.{Region, Space, space_bytes, space_writable, space_layout}
use Rattle.rrs_lib.specs.VecBytes.{vec_bytes, vec_writable, vec_layout, VecWrites}
use Rattle.rrs_programs.specs.declared.print_port.PrintPort.{PrintPort}
use Rattle.rrs_programs.specs.declared.print_port.RamOrPort.{RamOrPort}
use Rattle.rrs_programs.specs.declared.print_port.RamOrPort.TheVariants.{Ram, Port}

-- ---- as a memory

-- its byte is at 0, and has the value that was written last
abbrev pub port_bytes : PrintPort → ByteMap
port_bytes port a = if a == 0 then Some port.last else None

abbrev pub port_writable : PrintPort → ℕ → Bool
port_writable port a = a == 0

-- no access changes how many bytes the log has room for
abbrev pub port_layout : PrintPort → List ℕ
port_layout port = vec_capacity port.log ∷ []

-- ---- as a device

-- whether the log has room for one byte more
abbrev pub has_room : PrintPort → Bool
has_room port = nat_lt (length port.log.items) (vec_capacity port.log)

-- The port took a byte. It goes to the end of the log while there is room, and is counted as lost
-- else. The count stays at 2 ^ 64 - 1 once it is there.
pub record Takes (old : PrintPort) (byte : ℕ) (new : PrintPort) : Type 0 where
  pub last : new.last ≡ byte
  pub log : new.log.items
      ≡ (if has_room old then old.log.items ++ byte ∷ [] else old.log.items)
  pub lost : new.lost ≡ (if has_room old then old.lost else min (old.lost + 1) (2 ^ 64 - 1))
  pub room_kept : vec_capacity new.log ≡ vec_capacity old.log

-- a read leaves the whole port
abbrev pub port_reads : PrintPort → ℕ → MemAccessSize → PrintPort → Option ℕ → Type 0
port_reads old address size new answer = new ≡ old

-- by a write that is granted it takes the low byte; one that is refused leaves the whole port
pub record PortWrites (old : PrintPort) (address : ℕ) (size : MemAccessSize) (value : ℕ)
    (new : PrintPort) (answer : Bool) : Type 0 where
  pub taken : OnTrue answer (Takes old (value % 256) new)
  pub refused : OnFalse answer (new ≡ old)

-- ---- words or a port

-- each kind has its own bytes, writable addresses and layout
abbrev pub part_bytes : RamOrPort → ByteMap
part_bytes (Ram words) = vec_bytes words
part_bytes (Port port) = port_bytes port

abbrev pub part_writable : RamOrPort → ℕ → Bool
part_writable (Ram words) = vec_writable words
part_writable (Port port) = port_writable port

abbrev pub part_layout : RamOrPort → List ℕ
part_layout (Ram words) = vec_layout words
part_layout (Port port) = port_layout port

-- a read leaves the whole memory
abbrev pub part_reads : RamOrPort → ℕ → MemAccessSize → RamOrPort → Option ℕ → Type 0
part_reads old address size new answer = new ≡ old

-- a memory stays of its kind, and is written to as one of that kind
abbrev pub part_writes : RamOrPort → ℕ → MemAccessSize → ℕ → RamOrPort → Bool → Type 0
part_writes (Ram old) address size value (Ram new) answer =
    VecWrites old address size value new answer
part_writes (Port old) address size value (Port new) answer =
    PortWrites old address size value new answer
part_writes (Ram old) address size value (Port new) answer = ⊥
part_writes (Port old) address size value (Ram new) answer = ⊥

-- ---- a port in a space

-- the bytes, the writable addresses and the layout of a space of such memories
abbrev pub parts_bytes : Space RamOrPort → ByteMap
parts_bytes space = space_bytes part_bytes space.regions

abbrev pub parts_writable : Space RamOrPort → ℕ → Bool
parts_writable space = space_writable part_writable space.regions

abbrev pub parts_layout : Space RamOrPort → List ℕ
parts_layout space = space_layout part_layout space.regions

-- region i is a port, whose byte is at the address
pub record IsPortAt (regions : List (Region RamOrPort)) (i address : ℕ) (port : PrintPort)
    : Type 0 where
  pub region : Region RamOrPort
  pub stands : slice_get regions i ≡ Some region
  pub is_port : region.memory ≡ Port port
  pub begins_there : region.base ≡ address
  pub has_addresses : 0 < region.size

-- the port took the bytes of a text, one after the other
abbrev pub TakesText : PrintPort → List ℕ → PrintPort → Type 0
TakesText old [] new = new ≡ old
TakesText old (byte ∷ text) new = (mid : PrintPort) × Takes old byte mid × TakesText mid text new
