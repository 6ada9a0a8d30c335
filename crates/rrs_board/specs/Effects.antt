-- What the devices do between two steps: they answer to the access that the step made, and time
-- goes on. What each of them is, is in Uart, Clint and Finisher.
use Rattle.std.specs.Prelude.{ℕ, ◌+◌, ◌-◌, ◌*◌, ◌/◌, ◌%◌, ◌^◌, ◌≡◌, ◌⊎◌, ◌≤◌, ◌&&◌, ◌||◌, nat_lt, not, Bool, false, if◌then◌else◌, Option, Some, None, Ok, Err}
use Rattle.rrs_machine.specs.declared.csrs.CsrFile.{CsrFile}
use Rattle.rrs_machine.specs.declared.csrs.Inputs.{Inputs}
use Rattle.rrs_machine.specs.declared.machine.MachineAnswer.{MachineAnswer}
use Rattle.rrs_machine.specs.declared.machine.MachineAnswer.TheVariants.{Waiting}
use Rattle.rrs_lib.specs.declared.instruction_executor.InstructionException.{InstructionException}
use Rattle.rrs_hart.specs.declared.halves.Encoding.{Encoding}
use Rattle.rrs_machine.specs.Traps.{base_of}
use Rattle.rrs_machine.specs.MachineSteps.{MachineState, fetched_at}
use Rattle.rrs_machine.specs.Runs.{IsDead, TakesNone, StandsStill}
use Rattle.rrs_board.specs.declared.devices.Devices.{Devices}
use Rattle.rrs_board.specs.declared.devices.DeviceAccess.{DeviceAccess}
use Rattle.rrs_board.specs.declared.uart.Uart.{Uart}
use Rattle.rrs_board.specs.declared.effects.BoardEvent.{BoardEvent}
use Rattle.rrs_board.specs.declared.effects.BoardEvent.TheVariants.{Transmitted, Looked, Finished, Waits, NothingWakes, Spins, LacksHandler, Restarts}
use Rattle.rrs_board.specs.Registers.{wrote, looked_at, ram_start}
use Rattle.rrs_board.specs.Uart.{reset_uart, has_divisor, has_byte, asks_for_data, shown, after_look, after_write, after_arrival}
use Rattle.rrs_board.specs.Clint.{no_alarm, has_software_interrupt, has_timer_interrupt, time_after, can_wake, later}
use Rattle.rrs_board.specs.Finisher.{status_of, restarts}

-- ---- what the hart is told

-- no external interrupt: there is no PLIC
abbrev pub inputs_of : Devices → Inputs
inputs_of d = record {
  external = false;
  software = has_software_interrupt d.software;
  timer = has_timer_interrupt d.alarm d.time;
  time = d.time;
}

-- ---- what the registers of the UART show

-- four bytes from an offset on, the first in the lowest place
abbrev pub shown_word : Uart → ℕ → ℕ
shown_word u offset = shown u offset + shown u (offset + 1) * 2 ^ 8
    + shown u (offset + 2) * 2 ^ 16 + shown u (offset + 3) * 2 ^ 24

-- the devices with this UART
abbrev pub showing : Uart → Devices → Devices
showing u d = record d {
  uart = u;
  uart_low = shown_word u 0;
  uart_high = shown_word u 4;
}

-- nothing is pending, and there is no alarm
abbrev pub reset_devices : Devices
reset_devices = record {
  finisher = 0;
  software = 0;
  alarm = no_alarm;
  time = 0;
  uart = reset_uart;
  uart_low = shown_word reset_uart 0;
  uart_high = shown_word reset_uart 4;
  access = None;
}

-- ---- the access that they answer to

abbrev pub finisher_start : ℕ
finisher_start = 0x100000

abbrev pub uart_start : ℕ
uart_start = 0x10000000

-- the program transmitted a byte
abbrev pub transmits : Devices → Bool
transmits d = wrote uart_start d.access && not (has_divisor d.uart)

-- the program looked at LSR or IIR, and no byte was there
abbrev pub finds_none : Devices → Bool
finds_none d =
    (looked_at (uart_start + 5) d.access || looked_at (uart_start + 2) d.access)
    && not (has_byte d.uart)

-- the byte that a register of the UART has after a write
abbrev pub byte_at : ℕ → Devices → ℕ
byte_at offset d =
    (if nat_lt offset 4 then d.uart_low else d.uart_high) / 256 ^ (offset % 4) % 256

-- the UART after the look at an offset that an access is, or after none
abbrev pub looked : Bool → ℕ → Uart → Uart
looked is_read offset u = if is_read then after_look offset u else u

-- The UART after an access. An AMO on a device's register is a read and then a write, and the
-- devices answer each. An access of several bytes is one to the register at its address alone.
abbrev pub uart_after : DeviceAccess → Devices → Uart
uart_after a d =
    if nat_lt a.address uart_start then d.uart
    else (let offset = a.address - uart_start in
    if a.is_write then after_write offset (byte_at offset d) (looked a.is_read offset d.uart)
    else looked a.is_read offset d.uart)

-- the devices after they answered to an access: the finisher reads 0, and msip has one bit
abbrev pub answered_access : DeviceAccess → Devices → Devices
answered_access a d = showing (uart_after a d) (record d {
  finisher = 0;
  software = d.software % 2;
  access = None;
})

-- nothing changes where there was none
abbrev pub answered_by : Option DeviceAccess → Devices → Devices
answered_by None d = d
answered_by (Some a) d = answered_access a d

abbrev pub answered : Devices → Devices
answered d = answered_by d.access d

abbrev pub ended_with : Option ℕ → Option BoardEvent
ended_with None = None
ended_with (Some status) = Some (Finished status)

abbrev pub finisher_event : ℕ → Option BoardEvent
finisher_event word = if restarts word then Some Restarts else ended_with (status_of word)

-- what the caller is told of the access
abbrev pub access_event : Devices → Option BoardEvent
access_event d =
    if wrote finisher_start d.access then finisher_event d.finisher
    else (if transmits d then Some (Transmitted (byte_at 0 d))
    else (if finds_none d then Some Looked else None))

-- ---- time

abbrev pub ticked : MachineAnswer → Devices → Devices
ticked answer d = record d { time = time_after answer d.time }

-- a hart that waits goes forward to the alarm, if an alarm can end the wait
abbrev pub waited : MachineAnswer → CsrFile → Devices → Devices
waited Waiting file d =
    if can_wake file d.alarm then record d { time = later d.alarm d.time } else d
waited answer file d = d

-- ---- between two steps

abbrev pub settled : MachineAnswer → CsrFile → Devices → Devices
settled answer file d = waited answer file (ticked answer (answered d))

abbrev pub event_after : MachineAnswer → CsrFile → Devices → Option BoardEvent
event_after Waiting file d = if can_wake file d.alarm then Some Waits else Some NothingWakes
event_after answer file d = access_event d

-- ---- a hart that is dead

-- What the caller is told of a hart that is dead: that it jumps to itself in RAM, or that a trap
-- went to a handler that is not there.
abbrev pub IsToldDead : Option BoardEvent → MachineState → Type 0
IsToldDead (Some Spins) s =
    IsDead s × (ram_start ≤ s.hart.pc) × ((x : Encoding) × (fetched_at s ≡ Ok x))
IsToldDead (Some LacksHandler) s =
    IsDead s × (s.hart.pc ≡ base_of s.csrs)
    × ((e : InstructionException) × (fetched_at s ≡ Err e))
IsToldDead event s = ⊥

-- what the caller is told: what a device has for him, or else, it may be, that the hart is dead
abbrev pub Tells : Option BoardEvent → Option BoardEvent → MachineState → Type 0
Tells of_device event s = (event ≡ of_device) ⊎ ((of_device ≡ None) × IsToldDead event s)

-- A hart stands still, and no device has its instruction. Such a hart is dead.
pub record StandsInVain (s : MachineState) : Type 0 where
  pub takes_none : TakesNone s.csrs
  pub stands : StandsStill s.hart.pc (fetched_at s) s.csrs
  pub in_ram : (x : Encoding) → fetched_at s ≡ Ok x → ram_start ≤ s.hart.pc

-- ---- what comes from outside

-- a byte arrives at the UART
abbrev pub arrived : ℕ → Devices → Devices
arrived byte d = showing (after_arrival byte d.uart) d

-- the UART asks for received data, and holds none
abbrev pub waits_for_input : Devices → Bool
waits_for_input d = asks_for_data d.uart && not (has_byte d.uart)
