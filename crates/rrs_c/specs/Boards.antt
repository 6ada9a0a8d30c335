-- A board, as C has it: what the devices keep lies in C's struct, and the words of RAM are lent for
-- a call. What a step of a board is says rrs_board (Boards.antt; Effects.antt, what the devices do
-- between two steps). Here it is over words in place of memory that a board owns.
use Rattle.std.specs.Prelude.{◌≡◌, ◌≢◌, ℕ, zero, suc, ◌%◌, ◌<◌, ◌≤◌, ◌==◌, nat_lt, Bool, if◌then◌else◌, List, length, replicate, Option, Some, None}
use Rattle.std.specs.Bool.{OnTrue, OnFalse}
use Rattle.rrs_lib.specs.declared.HartState.{HartState}
use Rattle.rrs_lib.specs.declared.MemAccessSize.{MemAccessSize}
use Rattle.rrs_lib.specs.Bytes.{ByteMap, width, store}
use Rattle.rrs_lib.specs.SliceBytes.{bytes_from, lies_from}
use Rattle.rrs_lib.specs.Accesses.{MakesExactly}
use Rattle.rrs_machine.specs.declared.csrs.CsrFile.{CsrFile}
use Rattle.rrs_machine.specs.declared.machine.MachineAnswer.{MachineAnswer}
use Rattle.rrs_machine.specs.Csrs.{reset_file}
use Rattle.rrs_machine.specs.MachineSteps.{MachineState, machine_of, MachineStep, AccessesOfMachineStep}
use Rattle.rrs_board.specs.declared.uart.Uart.{Uart}
use Rattle.rrs_board.specs.declared.devices.Devices.{Devices}
use Rattle.rrs_board.specs.declared.effects.BoardEvent.{BoardEvent}
use Rattle.rrs_board.specs.declared.effects.BoardEvent.TheVariants.{Transmitted, Looked, Finished, Waits, NothingWakes, Spins, LacksHandler, Restarts}
use Rattle.rrs_board.specs.Registers.{device_bytes, device_writable, device_reads, DeviceWrites, ram_start}
use Rattle.rrs_board.specs.Effects.{inputs_of, settled, event_after, Tells, reset_devices, showing}
use Rattle.rrs_board.specs.WatchedBoards.{takes_trap}
use Rattle.rrs_c.specs.declared.board.RrsUart.{RrsUart}
use Rattle.rrs_c.specs.declared.board.RrsBoard.{RrsBoard}
use Rattle.rrs_c.specs.declared.board.RrsBoardEnd.{RrsBoardEnd}
use Rattle.rrs_c.specs.Harts.{hart_in}
use Rattle.rrs_c.specs.Machines.{profile_in, csrs_in}

-- ---- the devices

-- the UART that one of C is: the lowest byte of each register counts
abbrev pub uart_in : RrsUart → Uart
uart_in u = record {
  received = if u.holds == 1 then Some (u.received % 256) else None;
  interrupt_enable = u.interrupt_enable % 256;
  has_fifos = u.has_fifos == 1;
  line_control = u.line_control % 256;
  modem_control = u.modem_control % 256;
  scratch = u.scratch % 256;
  divisor_low = u.divisor_low % 256;
  divisor_high = u.divisor_high % 256;
  is_emptied = u.is_emptied == 1;
}

-- the devices that those of C are: they answered to each access, and have none left to answer
abbrev pub devices_in : RrsBoard → Devices
devices_in b = showing (uart_in b.uart) (record reset_devices {
  software = b.software;
  alarm = b.alarm;
  time = b.time;
})

-- ---- the state of a board

-- words of RAM from 0x80000000 on, and the devices below them
pub record LentRam : Type 0 where
  pub words : List ℕ
  pub devices : Devices

-- a hart, its CSRs, whether its latest step took a trap, RAM and the devices
pub record LentState : Type 0 where
  pub hart : HartState
  pub csrs : CsrFile
  pub trapped : Bool
  pub memory : LentRam

-- the state of a board of C with these words
abbrev pub board_in_c : RrsBoard → List ℕ → LentState
board_in_c b words = record {
  hart = hart_in b.hart;
  csrs = csrs_in b.csrs;
  trapped = b.csrs.trapped == 1;
  memory = record { words = words; devices = devices_in b };
}

-- ---- RAM and the devices as a memory

abbrev pub lent_bytes : LentRam → ByteMap
lent_bytes m a =
    if nat_lt a ram_start then device_bytes m.devices a else bytes_from ram_start m.words a

abbrev pub lent_writable : LentRam → ℕ → Bool
lent_writable m a =
    if nat_lt a ram_start then device_writable m.devices a else lies_from ram_start m.words a

-- a read below RAM is one of the devices, and another leaves them; the words stay
pub record LentReads (old : LentRam) (address : ℕ) (size : MemAccessSize)
    (new : LentRam) (answer : Option ℕ) : Type 0 where
  pub words_kept : new.words ≡ old.words
  pub of_device : address < ram_start → device_reads old.devices address size new.devices answer
  pub of_ram : ram_start ≤ address → new.devices ≡ old.devices

-- a write to the words that is granted stores its bytes, and one that is refused leaves them
pub record WritesWords (old : List ℕ) (address : ℕ) (size : MemAccessSize) (value : ℕ)
    (new : List ℕ) (answer : Bool) : Type 0 where
  pub written : OnTrue answer (bytes_from ram_start new
      ≡ store (bytes_from ram_start old) address (width size) value)
  pub refused : OnFalse answer (new ≡ old)
  pub length_kept : length new ≡ length old

-- a write below RAM is one of the devices, and leaves the words; another is one of the words, and
-- leaves the devices
pub record LentWrites (old : LentRam) (address : ℕ) (size : MemAccessSize) (value : ℕ)
    (new : LentRam) (answer : Bool) : Type 0 where
  pub of_device : address < ram_start → (new.words ≡ old.words)
      × DeviceWrites old.devices address size value new.devices answer
  pub of_ram : ram_start ≤ address → (new.devices ≡ old.devices)
      × WritesWords old.words address size value new.words answer

-- ---- steps

-- the machine that a board is, with this memory
abbrev pub lent_machine : LentState → LentRam → MachineState
lent_machine s memory = machine_of s.hart s.csrs (lent_bytes memory) (lent_writable memory)

-- One step of a board, with the answer of the hart, and what the caller is told: the hart makes its
-- step over the memory, by exactly its accesses, and then the devices do what they do.
pub record LentStepped (old new : LentState) (answer : MachineAnswer) (event : Option BoardEvent)
    : Type 0 where
  pub between : LentRam
  pub step : MachineStep (inputs_of old.memory.devices)
      (lent_machine old old.memory) (lent_machine new between) answer
  pub accesses : MakesExactly LentReads LentWrites
      (AccessesOfMachineStep (inputs_of old.memory.devices) (lent_machine old old.memory))
      old.memory between
  pub words : new.memory.words ≡ between.words
  pub devices : new.memory.devices ≡ settled answer new.csrs between.devices
  pub told : Tells (event_after answer new.csrs between.devices) event (lent_machine new new.memory)
  pub trapped : new.trapped ≡ takes_trap answer

-- so many steps, of which the caller is told nothing
abbrev pub LentQuietSteps : ℕ → LentState → LentState → Type 0
LentQuietSteps zero old new = new ≡ old
LentQuietSteps (suc n) old new =
    (mid : LentState) × (answer : MachineAnswer)
    × LentQuietSteps n old mid × LentStepped mid new answer None

-- A run makes quiet steps up to the limit, or up to a step of which the caller is told.
abbrev pub LentRun : ℕ → LentState → ℕ → Option BoardEvent → LentState → Type 0
LentRun limit old steps None new = (steps ≡ limit) × LentQuietSteps steps old new
LentRun limit old steps (Some event) new =
    (mid : LentState) × (answer : MachineAnswer) × (quiet : ℕ)
    × (steps ≡ suc quiet) × (steps ≤ limit)
    × LentQuietSteps quiet old mid × LentStepped mid new answer (Some event)

-- ---- what C is told

-- the event of a number, with its value; 0 and every other number is none
abbrev pub event_at : ℕ → ℕ → Option BoardEvent
event_at event value =
    if event == 1 then Some (Transmitted value) else
    (if event == 2 then Some Looked else
    (if event == 3 then Some (Finished value) else
    (if event == 4 then Some Waits else
    (if event == 5 then Some NothingWakes else
    (if event == 6 then Some Spins else
    (if event == 7 then Some LacksHandler else
    (if event == 8 then Some Restarts else None)))))))

abbrev pub event_in : RrsBoardEnd → Option BoardEvent
event_in e = event_at e.event e.value

-- How an end is written: events go up to 8, the value of a byte is one, and the value is 0 where
-- none is told.
pub record IsBoardEnd (e : RrsBoardEnd) : Type 0 where
  pub event : e.event < 9
  pub byte : e.event ≡ 1 → e.value < 256
  pub value : e.event ≢ 1 → e.event ≢ 3 → e.value ≡ 0

-- 1 for yes, and 0 for no
abbrev pub as_number : Bool → ℕ
as_number b = if b then 1 else 0

-- ---- where a board starts

-- the board with its hart at an address
abbrev pub with_pc : ℕ → RrsBoard → RrsBoard
with_pc pc b = record b { hart = record b.hart { pc = pc } }

-- a hart with these extensions, all of whose registers are 0, at an address, CSRs and devices at
-- reset
pub record IsResetInC (profile pc : ℕ) (b : RrsBoard) : Type 0 where
  pub registers : b.hart.x ≡ replicate 32 0
  pub at : b.hart.pc ≡ pc
  pub none_written : b.hart.last ≡ 0
  pub csrs : csrs_in b.csrs ≡ reset_file (profile_in profile)
  pub no_trap : b.csrs.trapped ≡ 0
  pub devices : devices_in b ≡ reset_devices
