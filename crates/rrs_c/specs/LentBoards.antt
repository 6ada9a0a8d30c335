-- Of the code of a board over words that are lent: its memory, and when its devices have nothing to
-- answer. That the same words stay lent is said beside what a board is.
use Rattle.std.specs.Prelude.{◌≡◌, ℕ, Bool, List, [], ◌∷◌, length, Option, None}
use Rattle.rrs_lib.specs.declared.HartState.{HartState}
use Rattle.rrs_lib.specs.declared.MemAccessSize.{MemAccessSize}
use Rattle.rrs_lib.specs.Bytes.{ByteMap}
use Rattle.rrs_machine.specs.declared.csrs.CsrFile.{CsrFile}
use Rattle.rrs_machine.specs.MachineSteps.{MachineState, machine_of}
use Rattle.rrs_board.specs.declared.devices.Devices.{Devices}
use Rattle.rrs_board.specs.Effects.{shown_word}
use Rattle.rrs_c.specs.declared.lent_board.LentMemory.{LentMemory}
use Rattle.rrs_c.specs.declared.lent_board.BoardHart.{BoardHart}
use Rattle.rrs_c.specs.Boards.{LentRam, LentState, lent_bytes, lent_writable, LentReads, LentWrites}

-- ---- the memory

-- the words and the devices
abbrev pub seen_ram : LentMemory → LentRam
seen_ram m = record { words = m.words.now; devices = m.devices }

abbrev pub memory_bytes : LentMemory → ByteMap
memory_bytes m = lent_bytes (seen_ram m)

abbrev pub memory_writable : LentMemory → ℕ → Bool
memory_writable m = lent_writable (seen_ram m)

abbrev pub memory_layout : LentMemory → List ℕ
memory_layout m = length m.words.now ∷ []

-- a read, after which the same words are lent
pub record MemoryReads (old : LentMemory) (address : ℕ) (size : MemAccessSize)
    (new : LentMemory) (answer : Option ℕ) : Type 0 where
  pub did : LentReads (seen_ram old) address size (seen_ram new) answer
  pub lent : new.words.ghost_name ≡ old.words.ghost_name

-- a write, after which the same words are lent; devices with no access to answer afterwards are as
-- they were
pub record MemoryWrites (old : LentMemory) (address : ℕ) (size : MemAccessSize) (value : ℕ)
    (new : LentMemory) (answer : Bool) : Type 0 where
  pub did : LentWrites (seen_ram old) address size value (seen_ram new) answer
  pub lent : new.words.ghost_name ≡ old.words.ghost_name
  pub heard : new.devices.access ≡ None → new.devices ≡ old.devices

-- the machine that a hart with its CSRs is over this memory
abbrev pub machine_over : HartState → CsrFile → LentMemory → MachineState
machine_over hart csrs m = machine_of hart csrs (memory_bytes m) (memory_writable m)

-- ---- the board

-- what a hart and the memory are
abbrev pub seen_with : BoardHart → LentRam → LentState
seen_with h ram = record { hart = h.state; csrs = h.csrs; trapped = h.trapped; memory = ram }

abbrev pub seen : BoardHart → LentMemory → LentState
seen h m = seen_with h (seen_ram m)

-- the devices have answered to each access: what their registers show is what they are
pub record AreSettled (d : Devices) : Type 0 where
  pub no_word : d.finisher ≡ 0
  pub answered : d.access ≡ None
  pub low : d.uart_low ≡ shown_word d.uart 0
  pub high : d.uart_high ≡ shown_word d.uart 4
