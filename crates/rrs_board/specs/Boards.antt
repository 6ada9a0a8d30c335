-- A board, its steps and runs. A step of the hart is that of machine mode (rrs_machine) over the
-- memory of the board. Then the devices answer to its access, and time goes on.
use Rattle.std.specs.Prelude.{◌≡◌, ℕ, zero, suc, ◌+◌, ◌*◌, ◌^◌, ◌<◌, ◌≤◌, ◌&&◌, nat_le, nat_lt, Bool, true, List, length, replicate, slice_set, Option, Some, None}
use Rattle.rrs_lib.specs.Accesses.{MakesExactly}
use Rattle.rrs_machine.specs.declared.machine.MachineAnswer.{MachineAnswer}
use Rattle.rrs_machine.specs.Traps.{interrupt_due}
use Rattle.rrs_machine.specs.MachineSteps.{MachineState, machine_of, MachineStep, AccessesOfMachineStep}
use Rattle.rrs_board.specs.declared.board.Board.{Board}
use Rattle.rrs_board.specs.declared.effects.BoardEvent.{BoardEvent}
use Rattle.rrs_board.specs.declared.memory.BoardMemory.{BoardMemory}
use Rattle.rrs_board.specs.Registers.{board_bytes, board_writable, ram_start, BoardReads, BoardWrites}
use Rattle.rrs_board.specs.Effects.{inputs_of, settled, event_after, Tells, StandsInVain, reset_devices}
use Rattle.rrs_elf.specs.Headers.{e_entry, e_phnum, p_paddr}
use Rattle.rrs_elf.specs.declared.program_headers.Addresses.TheVariants.{Physical}
use Rattle.rrs_elf.specs.Loading.{Stands, loaded_size}
use Rattle.rrs_memory.specs.SliceBytes.{bytes_from, lies_from}
use Rattle.rrs_memory.specs.Loading.{Loaded}
use Rattle.rrs_memory.specs.declared.memories.VecMemory.{VecMemory}
use Rattle.rrs_words.specs.CsrNumbers.{no_layers, machine_alone}
use Rattle.rrs_words.specs.declared.csrs.HartProfile.{HartProfile}
use Rattle.rrs_machine.specs.Csrs.{reset_file}

-- the machine that a board is, with this memory
abbrev pub machine_with : Board → BoardMemory → MachineState
machine_with b memory =
    machine_of b.hart b.csrs (board_bytes memory) (board_writable memory)

-- One step of a board, with the answer of the hart, and what the caller is told: the hart makes its
-- step over the memory, by exactly its accesses, and then the devices do what they do.
pub record BoardStepped (old new : Board) (answer : MachineAnswer) (event : Option BoardEvent)
    : Type 0 where
  pub between : BoardMemory
  pub step : MachineStep (inputs_of old.memory.devices)
      (machine_with old old.memory) (machine_with new between) answer
  pub accesses : MakesExactly BoardReads BoardWrites
      (AccessesOfMachineStep (inputs_of old.memory.devices) (machine_with old old.memory))
      old.memory between
  pub ram : new.memory.ram ≡ between.ram
  pub devices : new.memory.devices ≡ settled answer new.csrs between.devices
  pub told : Tells (event_after answer new.csrs between.devices) event
      (machine_with new new.memory)

-- The last step of some, if there was one, did not leave a board whose hart stands still where it
-- stood before.
abbrev pub WentOn : ℕ → Board → Type 0
WentOn zero new = Unit {0}
WentOn (suc n) new =
    (mid : Board) × (answer : MachineAnswer) × BoardStepped mid new answer None
    × (new.hart.pc ≡ mid.hart.pc → ¬ StandsInVain (machine_with new new.memory))

-- so many steps, of which the caller is told nothing
abbrev pub QuietSteps : ℕ → Board → Board → Type 0
QuietSteps zero old new = new ≡ old
QuietSteps (suc n) old new =
    (mid : Board) × (answer : MachineAnswer)
    × QuietSteps n old mid × BoardStepped mid new answer None

-- A run makes quiet steps up to the limit, or up to a step of which the caller is told.
abbrev pub BoardRun : ℕ → Board → ℕ → Option BoardEvent → Board → Type 0
BoardRun limit old steps None new = (steps ≡ limit) × QuietSteps steps old new
BoardRun limit old steps (Some event) new =
    (mid : Board) × (answer : MachineAnswer) × (quiet : ℕ)
    × (steps ≡ suc quiet) × (steps ≤ limit)
    × QuietSteps quiet old mid × BoardStepped mid new answer (Some event)

-- ---- steps that the devices have no part in

-- The devices are heard of in none of so many steps, where these access no register of theirs:
-- none has an access to answer to, no interrupt is due, the alarm does not come meanwhile, and time
-- does not start again from 0.
pub record IsQuiet (steps : ℕ) (b : Board) : Type 0 where
  pub answered : b.memory.devices.access ≡ None
  pub none_due : interrupt_due b.csrs (inputs_of b.memory.devices) ≡ None
  pub no_alarm : b.memory.devices.time < b.memory.devices.alarm
      → b.memory.devices.time + steps ≤ b.memory.devices.alarm
  pub goes_on : b.memory.devices.time + steps < 2 ^ 64

-- the 48 rows and their compressed forms, which a leg of a hart that fetches half-words makes
abbrev pub short_rows : HartProfile
short_rows = record no_layers { compressed = true }

-- the board with no register as the one written last, which no step asks for
abbrev pub forgetful : Board → Board
forgetful b = record b { hart = record b.hart { last_register_write = None } }

-- A leg makes so many quiet steps, and may forget which register was written last.
abbrev pub BoardLeg : ℕ → Board → Board → Type 0
BoardLeg steps old new =
    (mid : Board) × QuietSteps steps old mid × (forgetful new ≡ forgetful mid)

-- ---- where a board starts

-- a hart with machine mode alone, all of whose registers are 0, at an address, CSRs and devices at
-- reset, and this RAM
pub record IsReset (ram : VecMemory) (pc : ℕ) (b : Board) : Type 0 where
  pub registers : b.hart.registers ≡ replicate 32 0
  pub at : b.hart.pc ≡ pc
  pub csrs : b.csrs ≡ reset_file machine_alone
  pub ram_is : b.memory.ram ≡ ram
  pub devices : b.memory.devices ≡ reset_devices

-- The board starts with an executable: it is at reset, at the entry, with so many words of RAM,
-- which are 0 but for the bytes of the segments, each at its physical address. All of these are in
-- RAM.
pub record StartsWith (file : List ℕ) (words : ℕ) (b : Board) : Type 0 where
  pub reset : IsReset b.memory.ram (e_entry file) b
  pub size : length b.memory.ram.mem.items ≡ words
  pub loaded : Stands Physical file (bytes_from ram_start (replicate words 0))
      (bytes_from ram_start b.memory.ram.mem.items)
      (lies_from ram_start b.memory.ram.mem.items) (e_phnum file) 0
  pub in_ram : (i j : ℕ) → i < e_phnum file → j < loaded_size file i
      → ram_start ≤ p_paddr file i + j

-- The board starts with an image: it is at reset, at the start of RAM, with so many words of RAM,
-- which are 0 but for the bytes of the image, which stand from there on.
pub record StartsWithImage (image : List ℕ) (words : ℕ) (b : Board) : Type 0 where
  pub reset : IsReset b.memory.ram ram_start b
  pub size : length b.memory.ram.mem.items ≡ words
  pub loaded : Loaded (bytes_from ram_start (replicate words 0))
      (bytes_from ram_start b.memory.ram.mem.items)
      (lies_from ram_start b.memory.ram.mem.items) ram_start image

-- Bytes are handed over to the hart: they stand in RAM from an address on, which is in a1. All else
-- stays, but for the register that was written last.
pub record HandsOver (handed : List ℕ) (address : ℕ) (old new : Board) : Type 0 where
  pub registers : new.hart.registers ≡ slice_set old.hart.registers 11 address
  pub pc : new.hart.pc ≡ old.hart.pc
  pub csrs : new.csrs ≡ old.csrs
  pub devices : new.memory.devices ≡ old.memory.devices
  pub size : length new.memory.ram.mem.items ≡ length old.memory.ram.mem.items
  pub loaded : Loaded (bytes_from ram_start old.memory.ram.mem.items)
      (bytes_from ram_start new.memory.ram.mem.items)
      (lies_from ram_start old.memory.ram.mem.items) address handed

-- an address of RAM of so many words
abbrev pub is_in_ram : ℕ → ℕ → Bool
is_in_ram words address = nat_le ram_start address
    && (nat_lt address (ram_start + 4 * words) && nat_lt address (2 ^ 32))
