-- What the control and status registers of a hart that has machine mode, alone or with user mode,
-- keep, read and count, and which of them an instruction may access (RISC-V privileged specification
-- 1.12, "CSR Address Mapping Conventions" and "Machine-Level CSRs"; unprivileged specification,
-- "Zicntr"). Their numbers, and the bits that are written, are in rrs_words.
use Rattle.std.specs.Prelude.{ℕ, zero, suc, ◌+◌, ◌*◌, ◌/◌, ◌%◌, ◌^◌, ◌==◌, ◌&&◌, Bool, true, false, if◌then◌else◌, Option, None}
use Rattle.rrs_machine.specs.declared.csrs.CsrFile.{CsrFile}
use Rattle.rrs_machine.specs.declared.csrs.Mode.{Mode}
use Rattle.rrs_machine.specs.declared.csrs.Mode.TheVariants.{User, Machine}
use Rattle.rrs_words.specs.declared.csrs.Profile.{Profile}
use Rattle.rrs_words.specs.declared.csrs.Csr.{Csr}
use Rattle.rrs_words.specs.declared.csrs.Csr.TheVariants.{Mstatus, Misa, Mie, Mtvec, Mcounteren, Mscratch, Mepc, Mcause, Mtval, Mcountinhibit, Mcycle, Mcycleh, Minstret, Minstreth, Mip, Time, Timeh, Constant}
use Rattle.rrs_machine.specs.declared.csrs.Inputs.{Inputs}
use Rattle.rrs_instruction.specs.Words.{bit}
use Rattle.rrs_words.specs.CsrNumbers.{both, either, csr_at, misa_value, written_bits, fixed_bits, legal}

-- ---- the modes

-- a mode as MPP has it
abbrev pub mode_number : Mode → ℕ
mode_number User = 0
mode_number Machine = 3

-- the mode of a hart, which is machine mode where there is no other
abbrev pub mode_of : CsrFile → Mode
mode_of f = if f.profile.user_mode then f.mode else Machine

-- ---- what is read and written

-- the low and the high half of a counter
abbrev pub low_half : ℕ → ℕ
low_half n = n % 2 ^ 32

abbrev pub high_half : ℕ → ℕ
high_half n = n / 2 ^ 32

-- the interrupts that are pending, as mip has them: MSIP, MTIP and MEIP
abbrev pub bit_of : Bool → ℕ
bit_of true = 1
bit_of false = 0

abbrev pub pending_bits : Inputs → ℕ
pending_bits i = bit_of i.software * 2 ^ 3 + bit_of i.timer * 2 ^ 7 + bit_of i.external * 2 ^ 11

-- what is kept of a register: in MPP what stands there and is neither 0 nor 3 is 0
abbrev pub kept : Csr → CsrFile → ℕ
kept Mstatus f = legal Mstatus 0 f.mstatus
kept Mie f = f.mie
kept Mtvec f = f.mtvec
kept Mcounteren f = f.mcounteren
kept Mscratch f = f.mscratch
kept Mepc f = f.mepc
kept Mcause f = f.mcause
kept Mtval f = f.mtval
kept Mcountinhibit f = f.mcountinhibit
kept Mcycle f = low_half f.mcycle
kept Mcycleh f = high_half f.mcycle
kept Minstret f = low_half f.minstret
kept Minstreth f = high_half f.minstret
kept _ f = 0

-- what is read: what is kept of the bits that are written, and the others as they always are
abbrev pub csr_value : Csr → CsrFile → Inputs → ℕ
csr_value Misa f i = misa_value f.profile
csr_value Mip f i = pending_bits i
csr_value Time f i = low_half i.time
csr_value Timeh f i = high_half i.time
csr_value (Constant value) f i = value
csr_value csr f i =
    either (fixed_bits f.profile csr) (both (kept csr f) (written_bits f.profile csr))

-- a register that keeps this word, and all others as they were
abbrev pub keeping : Csr → ℕ → CsrFile → CsrFile
keeping Mstatus v f = record f { mstatus = v }
keeping Mie v f = record f { mie = v }
keeping Mtvec v f = record f { mtvec = v }
keeping Mcounteren v f = record f { mcounteren = v }
keeping Mscratch v f = record f { mscratch = v }
keeping Mepc v f = record f { mepc = v }
keeping Mcause v f = record f { mcause = v }
keeping Mtval v f = record f { mtval = v }
keeping Mcountinhibit v f = record f { mcountinhibit = v }
keeping Mcycle v f = record f { mcycle = high_half f.mcycle * 2 ^ 32 + v }
keeping Mcycleh v f = record f { mcycle = v * 2 ^ 32 + low_half f.mcycle }
keeping Minstret v f = record f { minstret = high_half f.minstret * 2 ^ 32 + v }
keeping Minstreth v f = record f { minstret = v * 2 ^ 32 + low_half f.minstret }
keeping _ v f = f

-- a word is written: the bits that are not written are dropped, and MPP holds 0 and 3 alone
abbrev pub csr_written : Csr → ℕ → CsrFile → CsrFile
csr_written csr v f =
    keeping csr (both (legal csr (kept csr f) v) (written_bits f.profile csr)) f

-- the registers at reset, where the mode is machine mode
abbrev pub reset_file : Profile → CsrFile
reset_file p = record {
  profile = p;
  mode = Machine;
  mstatus = 0;
  mie = 0;
  mtvec = 0;
  mcounteren = 0;
  mscratch = 0;
  mepc = 0;
  mcause = 0;
  mtval = 0;
  mcountinhibit = 0;
  mcycle = 0;
  minstret = 0;
  reservation = None;
}

-- ---- what an instruction may access

-- Bits 9 and 8 of the number are the lowest mode that may access a CSR. Those of user mode are
-- cycle, time, instret and their high halves, and mcounteren shows each by the bit that the five
-- lowest bits of its number tell.
abbrev pub is_open : Mode → CsrFile → ℕ → Bool
is_open Machine f n = true
is_open User f n = (n / 2 ^ 8 % 2 ^ 2 == 0) && (bit f.mcounteren (n % 2 ^ 5) == 1)

-- the register that an instruction finds by its number, in the mode of the hart
abbrev pub found_csr : CsrFile → ℕ → Option Csr
found_csr f n = if is_open (mode_of f) f n then csr_at f.profile n else None

-- ---- the counters

-- CY and IR of mcountinhibit stop mcycle and minstret
abbrev pub cycle_counted : CsrFile → CsrFile
cycle_counted f =
    if bit f.mcountinhibit 0 == 1 then f else record f { mcycle = (f.mcycle + 1) % 2 ^ 64 }

abbrev pub instruction_counted : CsrFile → CsrFile
instruction_counted f =
    if bit f.mcountinhibit 2 == 1 then f else record f { minstret = (f.minstret + 1) % 2 ^ 64 }

-- an instruction that retires counts in both
abbrev pub retired_file : CsrFile → CsrFile
retired_file f = instruction_counted (cycle_counted f)

-- a counter after so many more, unless it is stopped
abbrev pub counter_after : Bool → ℕ → ℕ → ℕ
counter_after true count more = count
counter_after false count more = (count + more) % 2 ^ 64

-- so many instructions that retire, one after the other
abbrev pub retired_times : ℕ → CsrFile → CsrFile
retired_times zero f = f
retired_times (suc n) f = retired_times n (retired_file f)

-- an instruction that writes a counter, or a half of it, does not count in it
abbrev pub counted_beside : Csr → CsrFile → CsrFile
counted_beside Mcycle f = instruction_counted f
counted_beside Mcycleh f = instruction_counted f
counted_beside Minstret f = cycle_counted f
counted_beside Minstreth f = cycle_counted f
counted_beside _ f = retired_file f
