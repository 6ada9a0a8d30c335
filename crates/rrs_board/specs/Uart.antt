-- The UART, a 16550 (data sheet of the PC16550D, tables 1 to 4; DLAB is bit 7 of LCR):
--
--   offset  DLAB  read                         write
--   0       0     RBR, the byte received       THR, the byte to transmit
--   0       1     DLL, the divisor's low byte  DLL
--   1       0     IER, bits 0 to 3             IER: bit 0 enables the interrupt of received data,
--                                              bit 1 that of an empty THR, 2 and 3 line and modem
--   1       1     DLM, its high byte           DLM
--   2       any   IIR: 4 received data, 2 THR  FCR: bit 0 enables the FIFOs, bits 1 and 2 clear the
--                 empty, 1 no interrupt; bits  receiver's and the transmitter's
--                 6 and 7 with FIFOs
--   3       any   LCR                          LCR
--   4       any   MCR, bits 0 to 4             MCR
--   5       any   LSR: bit 0 data ready, 5 THR empty, 6 transmitter empty
--   6       any   MSR: bits 4, 5, 7 CTS, DSR, DCD
--   7       any   SCR                          SCR
--
-- A byte that is written to THR is transmitted at once, so THR is empty at each look. The line has
-- no errors, and a modem that is connected and never changes, so the interrupts of line and modem
-- status do not come. One byte is held at most. The bit for loopback in MCR is kept, and does
-- nothing.
use Rattle.std.specs.Prelude.{ℕ, ◌+◌, ◌%◌, ◌^◌, ◌==◌, ◌&&◌, ◌||◌, not, Bool, true, false, if◌then◌else◌, Option, Some, None}
use Rattle.rrs_instruction.specs.Words.{bit}
use Rattle.rrs_board.specs.declared.uart.Uart.{Uart}

-- after a master reset (table 3); the divisor is that of 9600 baud
abbrev pub reset_uart : Uart
reset_uart = record {
  received = None;
  interrupt_enable = 0;
  has_fifos = false;
  line_control = 0;
  modem_control = 0;
  scratch = 0;
  divisor_low = 12;
  divisor_high = 0;
  is_emptied = false;
}

-- ---- bits that say what others mean

-- DLAB
abbrev pub has_divisor : Uart → Bool
has_divisor u = bit u.line_control 7 == 1

-- the interrupts of received data and of an empty THR are enabled
abbrev pub asks_for_data : Uart → Bool
asks_for_data u = bit u.interrupt_enable 0 == 1

abbrev pub asks_for_room : Uart → Bool
asks_for_room u = bit u.interrupt_enable 1 == 1

-- a byte was received, and is not read
abbrev pub has_byte : Uart → Bool
has_byte u = is_byte u.received
  where
    is_byte : Option ℕ → Bool
    is_byte None = false
    is_byte (Some byte) = true

-- ---- what a program reads

-- RBR; the data sheet leaves open what is read where no byte is held
abbrev pub receiver_buffer : Option ℕ → ℕ
receiver_buffer None = 0
receiver_buffer (Some byte) = byte

abbrev pub line_status : Uart → ℕ
line_status u = 2 ^ 6 + 2 ^ 5 + (if has_byte u then 1 else 0)

-- the pending interrupt of the highest priority (table 4), or 1 where there is none
abbrev pub interrupt_of : Uart → ℕ
interrupt_of u =
    if asks_for_data u && has_byte u then 4
    else (if asks_for_room u && u.is_emptied then 2 else 1)

abbrev pub identification : Uart → ℕ
identification u = (if u.has_fifos then 2 ^ 7 + 2 ^ 6 else 0) + interrupt_of u

abbrev pub modem_status : ℕ
modem_status = 2 ^ 7 + 2 ^ 5 + 2 ^ 4

-- the register that is read at an offset
abbrev pub shown : Uart → ℕ → ℕ
shown u offset =
    if offset == 0 then (if has_divisor u then u.divisor_low else receiver_buffer u.received)
    else (if offset == 1 then (if has_divisor u then u.divisor_high else u.interrupt_enable)
    else (if offset == 2 then identification u
    else (if offset == 3 then u.line_control
    else (if offset == 4 then u.modem_control
    else (if offset == 5 then line_status u
    else (if offset == 6 then modem_status
    else u.scratch))))))

-- ---- what an access does

-- a read of RBR takes the byte; one of IIR that tells of an empty THR ends that interrupt
abbrev pub after_look : ℕ → Uart → Uart
after_look offset u =
    if offset == 0 then (if has_divisor u then u else record u { received = None })
    else (if (offset == 2) && (interrupt_of u == 2) then record u { is_emptied = false } else u)

-- THR: the byte leaves at once, and THR is empty again
abbrev pub written_at_0 : ℕ → Uart → Uart
written_at_0 byte u =
    if has_divisor u then record u { divisor_low = byte } else record u { is_emptied = true }

-- IER: THR is empty where its interrupt becomes enabled, so that interrupt is pending
abbrev pub written_at_1 : ℕ → Uart → Uart
written_at_1 byte u =
    if has_divisor u then record u { divisor_high = byte }
    else record u {
      interrupt_enable = byte % 2 ^ 4;
      is_emptied = if asks_for_room u then u.is_emptied else true;
    }

-- FCR: bits 1 and 2 count where bit 0 is 1, and a change of bit 0 clears both FIFOs. The interrupt
-- of an empty THR comes then.
abbrev pub changes_fifos : ℕ → Uart → Bool
changes_fifos byte u = if bit byte 0 == 1 then not u.has_fifos else u.has_fifos

abbrev pub clears : ℕ → ℕ → Uart → Bool
clears place byte u = changes_fifos byte u || ((bit byte 0 == 1) && (bit byte place == 1))

abbrev pub written_at_2 : ℕ → Uart → Uart
written_at_2 byte u = record u {
  has_fifos = bit byte 0 == 1;
  received = if clears 1 byte u then None else u.received;
  is_emptied = if clears 2 byte u then true else u.is_emptied;
}

-- LSR and MSR are not written
abbrev pub after_write : ℕ → ℕ → Uart → Uart
after_write offset byte u =
    if offset == 0 then written_at_0 byte u
    else (if offset == 1 then written_at_1 byte u
    else (if offset == 2 then written_at_2 byte u
    else (if offset == 3 then record u { line_control = byte }
    else (if offset == 4 then record u { modem_control = byte % 2 ^ 5 }
    else (if offset == 7 then record u { scratch = byte } else u)))))

-- ---- what comes from outside

-- a byte arrives, where none is held; another would be lost
abbrev pub after_arrival : ℕ → Uart → Uart
after_arrival byte u = if has_byte u then u else record u { received = Some byte }
