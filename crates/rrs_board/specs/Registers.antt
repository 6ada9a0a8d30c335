-- The registers of the devices, and the memory of the board (QEMU's board `virt`: a finisher at
-- 0x100000, a CLINT at 0x2000000 with msip, mtimecmp and mtime, a UART 16550 at 0x10000000, RAM
-- from 0x80000000 on). During a step a register is a word of memory: what is written reads back. An
-- access to one is noted, and between two steps the devices answer to it.
use Rattle.std.specs.Prelude.{◌≡◌, ℕ, ◌+◌, ◌-◌, ◌*◌, ◌/◌, ◌%◌, ◌^◌, ◌<◌, ◌≤◌, ◌==◌, ◌&&◌, ◌||◌, nat_lt, not, Bool, true, false, if◌then◌else◌, List, [], Option, Some, None}
use Rattle.std.specs.Bool.{OnTrue, OnFalse}
use Rattle.rrs_memory.specs.declared.MemAccessSize.{MemAccessSize}
use Rattle.rrs_memory.specs.Bytes.{ByteMap, width}
use Rattle.rrs_memory.specs.declared.memories.VecMemory.{VecMemory}
use Rattle.rrs_memory.specs.VecBytes.{vec_layout, VecWrites}
use Rattle.rrs_memory.specs.SliceBytes.{bytes_from, lies_from}
use Rattle.rrs_board.specs.declared.devices.DeviceAccess.{DeviceAccess}
use Rattle.rrs_board.specs.declared.devices.Devices.{Devices}
use Rattle.rrs_board.specs.declared.memory.BoardMemory.{BoardMemory}

-- ---- words of registers

-- the word at each address that is a multiple of 4, where there is a register
abbrev pub register : Devices → ℕ → Option ℕ
register d address =
    if address == 0x100000 then Some d.finisher
    else (if address == 0x2000000 then Some d.software
    else (if address == 0x2004000 then Some (d.alarm % 2 ^ 32)
    else (if address == 0x2004004 then Some (d.alarm / 2 ^ 32)
    else (if address == 0x200bff8 then Some (d.time % 2 ^ 32)
    else (if address == 0x200bffc then Some (d.time / 2 ^ 32)
    else (if address == 0x10000000 then Some d.uart_low
    else (if address == 0x10000004 then Some d.uart_high else None)))))))

-- the devices after the word at such an address was replaced
abbrev pub with_register : Devices → ℕ → ℕ → Devices
with_register d address value =
    if address == 0x100000 then record d { finisher = value }
    else (if address == 0x2000000 then record d { software = value }
    else (if address == 0x2004000 then record d { alarm = d.alarm / 2 ^ 32 * 2 ^ 32 + value }
    else (if address == 0x2004004 then record d { alarm = value * 2 ^ 32 + d.alarm % 2 ^ 32 }
    else (if address == 0x200bff8 then record d { time = d.time / 2 ^ 32 * 2 ^ 32 + value }
    else (if address == 0x200bffc then record d { time = value * 2 ^ 32 + d.time % 2 ^ 32 }
    else (if address == 0x10000000 then record d { uart_low = value }
    else (if address == 0x10000004 then record d { uart_high = value } else d)))))))

-- the word of an address
abbrev pub start_of : ℕ → ℕ
start_of a = a - a % 4

abbrev pub byte_of : ℕ → Option ℕ → Option ℕ
byte_of place None = None
byte_of place (Some word) = Some (word / 256 ^ place % 256)

abbrev pub is_word : Option ℕ → Bool
is_word None = false
is_word (Some word) = true

-- bytes of words, lowest first
abbrev pub word_bytes : (ℕ → Option ℕ) → ByteMap
word_bytes words a = byte_of (a % 4) (words (start_of a))

-- the word with the n bytes from byte p on replaced by the lowest n bytes of a value
abbrev pub with_bytes : ℕ → ℕ → ℕ → ℕ → ℕ
with_bytes word value n p =
    (word / 256 ^ (n + p) * 256 ^ n + value % 256 ^ n) * 256 ^ p + word % 256 ^ p

-- ---- the devices as a memory

abbrev pub device_bytes : Devices → ByteMap
device_bytes d = word_bytes (register d)

abbrev pub device_writable : Devices → ℕ → Bool
device_writable d a = is_word (register d (start_of a))

abbrev pub device_layout : Devices → List ℕ
device_layout d = []

-- the program wrote to this address, or read from it
abbrev pub wrote : ℕ → Option DeviceAccess → Bool
wrote address None = false
wrote address (Some a) = a.is_write && (a.address == address)

abbrev pub looked_at : ℕ → Option DeviceAccess → Bool
looked_at address None = false
looked_at address (Some a) = a.is_read && (a.address == address)

-- The devices with an access noted. A write goes with a read of its address before it in the step,
-- as that of an AMO does, and of others the last is kept.
abbrev pub noted : Devices → ℕ → Bool → Devices
noted d address is_write = record d {
  access = Some (record {
    address = address;
    is_read = not is_write || looked_at address d.access;
    is_write = is_write;
  });
}

-- a read that is answered is noted, and changes nothing else
abbrev pub after_read : Devices → ℕ → Option ℕ → Devices
after_read d address None = d
after_read d address (Some value) = noted d address false

abbrev pub device_reads : Devices → ℕ → MemAccessSize → Devices → Option ℕ → Type 0
device_reads old address size new answer = new ≡ after_read old address answer

-- a write that is granted replaces bytes of one register, and is noted; another changes nothing
pub record DeviceWrites (old : Devices) (address : ℕ) (size : MemAccessSize) (value : ℕ)
    (new : Devices) (answer : Bool) : Type 0 where
  pub written : OnTrue answer ((word : ℕ) → register old (start_of address) ≡ Some word
      → new ≡ noted (with_register old (start_of address)
      (with_bytes word value (width size) (address % 4))) address true)
  pub refused : OnFalse answer (new ≡ old)

-- ---- RAM as a memory of its own

-- where RAM begins
abbrev pub ram_start : ℕ
ram_start = 0x80000000

-- below that it has no byte
abbrev pub ram_bytes : VecMemory → ByteMap
ram_bytes m = bytes_from ram_start m.mem.items

abbrev pub ram_writable : VecMemory → ℕ → Bool
ram_writable m = lies_from ram_start m.mem.items

-- a write that is granted is one of its words, and another changes nothing
pub record RamWrites (old : VecMemory) (address : ℕ) (size : MemAccessSize) (value : ℕ)
    (new : VecMemory) (answer : Bool) : Type 0 where
  pub of_words : OnTrue answer ((ram_start ≤ address)
      × VecWrites old (address - ram_start) size value new true)
  pub refused : OnFalse answer (new ≡ old)

-- ---- the memory of the board

abbrev pub board_bytes : BoardMemory → ByteMap
board_bytes m a =
    if nat_lt a ram_start then device_bytes m.devices a
    else bytes_from ram_start m.ram.mem.items a

abbrev pub board_writable : BoardMemory → ℕ → Bool
board_writable m a =
    if nat_lt a ram_start then device_writable m.devices a
    else lies_from ram_start m.ram.mem.items a

abbrev pub board_layout : BoardMemory → List ℕ
board_layout m = vec_layout m.ram

-- a read below RAM is one of the devices, and another leaves them; RAM stays
pub record BoardReads (old : BoardMemory) (address : ℕ) (size : MemAccessSize)
    (new : BoardMemory) (answer : Option ℕ) : Type 0 where
  pub ram_kept : new.ram ≡ old.ram
  pub of_device : address < ram_start → device_reads old.devices address size new.devices answer
  pub of_ram : ram_start ≤ address → new.devices ≡ old.devices

-- a write below RAM is one of the devices, and leaves RAM; another is one of RAM, and leaves them
pub record BoardWrites (old : BoardMemory) (address : ℕ) (size : MemAccessSize) (value : ℕ)
    (new : BoardMemory) (answer : Bool) : Type 0 where
  pub of_device : address < ram_start
      → (new.ram ≡ old.ram) × DeviceWrites old.devices address size value new.devices answer
  pub of_ram : ram_start ≤ address → (new.devices ≡ old.devices)
      × VecWrites old.ram (address - ram_start) size value new.ram answer
