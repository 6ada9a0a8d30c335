-- The numbers and names of the CSRs of a hart that has machine mode, alone or with user mode
-- (RISC-V privileged specification 1.12, "Control and Status Registers (CSRs)" and "Machine-Level
-- CSRs"; unprivileged specification, "Zicntr"), and the bits that a write of each changes. A bit
-- that is not written reads as at reset, whatever was written: these fields are WARL. Without user
-- mode MPP is 3, since there is no other mode.
use Rattle.std.specs.Prelude.{ℕ, ◌*◌, ◌-◌, ◌+◌, ◌/◌, ◌%◌, ◌^◌, ◌==◌, ◌&&◌, nat_le, Bool, true, false, if◌then◌else◌, List, [], ◌∷◌, Option, Some, None, is_some, codes}
use Rattle.rrs_words.specs.declared.csrs.HartProfile.{HartProfile}
use Rattle.rrs_words.specs.declared.csrs.Profile.{Profile}
use Rattle.rrs_words.specs.declared.csrs.Csr.{Csr}
use Rattle.rrs_words.specs.declared.csrs.Csr.TheVariants.{Mstatus, Misa, Mie, Mtvec, Mcounteren, Mscratch, Mepc, Mcause, Mtval, Mcountinhibit, Mcycle, Mcycleh, Minstret, Minstreth, Mip, Time, Timeh, Constant}
use Rattle.rrs_instruction.specs.Words.{word}
use Rattle.rrs_instruction.specs.Results.{and, or}

-- the bits of two words that both have, and those that one has at least
abbrev pub both : ℕ → ℕ → ℕ
both a b = word (and a b)

abbrev pub either : ℕ → ℕ → ℕ
either a b = word (or a b)

-- ---- the profiles

-- the 48 rows alone
abbrev pub no_layers : HartProfile
no_layers = record {
  atomics = false;
  fence_i = false;
  misaligned = false;
  compressed = false;
  zba = false;
  zbb = false;
  zbs = false;
  zbc = false;
  zbkb = false;
  zicond = false;
}

-- the layers of a hart that has fence.i, and extension A or not
abbrev pub machine_layers : Bool → HartProfile
machine_layers atomics = record no_layers { atomics = atomics; fence_i = true }

abbrev pub machine_alone : Profile
machine_alone = record { hart = machine_layers false; user_mode = false }

abbrev pub with_atomics_and_user_mode : Profile
with_atomics_and_user_mode = record { hart = machine_layers true; user_mode = true }

-- ---- the numbers

-- a number, the name, and the register that it is
pub record CsrRow : Type 0 where
  pub number : ℕ
  pub name : List ℕ
  pub csr : Csr

abbrev pub row : ℕ → List ℕ → Csr → CsrRow
row number name csr = record { number = number; name = name; csr = csr }

-- "Machine Information Registers"
abbrev pub information_csrs : List CsrRow
information_csrs =
    row 0xf11 (codes "mvendorid") (Constant 0)
    ∷ row 0xf12 (codes "marchid") (Constant 0)
    ∷ row 0xf13 (codes "mimpid") (Constant 0)
    ∷ row 0xf14 (codes "mhartid") (Constant 0)
    ∷ row 0xf15 (codes "mconfigptr") (Constant 0)
    ∷ []

-- "Machine Trap Setup"
abbrev pub setup_csrs : List CsrRow
setup_csrs =
    row 0x300 (codes "mstatus") Mstatus
    ∷ row 0x301 (codes "misa") Misa
    ∷ row 0x304 (codes "mie") Mie
    ∷ row 0x305 (codes "mtvec") Mtvec
    ∷ row 0x310 (codes "mstatush") (Constant 0)
    ∷ row 0x320 (codes "mcountinhibit") Mcountinhibit
    ∷ []

-- those that are there where user mode is
abbrev pub user_mode_csrs : List CsrRow
user_mode_csrs =
    row 0x306 (codes "mcounteren") Mcounteren
    ∷ row 0x30a (codes "menvcfg") (Constant 0)
    ∷ row 0x31a (codes "menvcfgh") (Constant 0)
    ∷ []

-- "Machine Trap Handling"
abbrev pub handling_csrs : List CsrRow
handling_csrs =
    row 0x340 (codes "mscratch") Mscratch
    ∷ row 0x341 (codes "mepc") Mepc
    ∷ row 0x342 (codes "mcause") Mcause
    ∷ row 0x343 (codes "mtval") Mtval
    ∷ row 0x344 (codes "mip") Mip
    ∷ []

-- "Machine Counter/Timers"
abbrev pub counter_csrs : List CsrRow
counter_csrs =
    row 0xb00 (codes "mcycle") Mcycle
    ∷ row 0xb02 (codes "minstret") Minstret
    ∷ row 0xb80 (codes "mcycleh") Mcycleh
    ∷ row 0xb82 (codes "minstreth") Minstreth
    ∷ []

-- "Zicntr": what a program reads of the counters, and the time
abbrev pub reading_csrs : List CsrRow
reading_csrs =
    row 0xc00 (codes "cycle") Mcycle
    ∷ row 0xc01 (codes "time") Time
    ∷ row 0xc02 (codes "instret") Minstret
    ∷ row 0xc80 (codes "cycleh") Mcycleh
    ∷ row 0xc81 (codes "timeh") Timeh
    ∷ row 0xc82 (codes "instreth") Minstreth
    ∷ []

-- the register with a number, among some
abbrev pub csr_among : List CsrRow → ℕ → Option Csr
csr_among [] n = None
csr_among (r ∷ rows) n = if n == r.number then Some r.csr else csr_among rows n

-- a number from one to another
abbrev pub is_from_to : ℕ → ℕ → ℕ → Bool
is_from_to first last n = nat_le first n && nat_le n last

-- mhpmcounter3 to 31, their high halves, and mhpmevent3 to 31, which count nothing
abbrev pub monitor_csr : ℕ → Option Csr
monitor_csr n =
    if is_from_to 0x323 0x33f n then Some (Constant 0)
    else (if is_from_to 0xb03 0xb1f n then Some (Constant 0)
    else (if is_from_to 0xb83 0xb9f n then Some (Constant 0) else None))

-- the first that there is
abbrev pub or_else : Option Csr → Option Csr → Option Csr
or_else None other = other
or_else (Some csr) other = Some csr

-- one of those that are there where user mode is
abbrev pub user_mode_csr : Profile → ℕ → Option Csr
user_mode_csr p n = if p.user_mode then csr_among user_mode_csrs n else None

-- the register with a number: any other number is none
abbrev pub csr_at : Profile → ℕ → Option Csr
csr_at p n =
    or_else (csr_among setup_csrs n) (or_else (user_mode_csr p n)
    (or_else (csr_among handling_csrs n) (or_else (csr_among counter_csrs n)
    (or_else (csr_among reading_csrs n) (or_else (csr_among information_csrs n)
    (monitor_csr n))))))

-- a number that is a CSR of some hart
abbrev pub is_csr : ℕ → Bool
is_csr n = is_some (csr_at with_atomics_and_user_mode n)

-- a number whose two highest bits are 1 is read only
abbrev pub is_read_only : ℕ → Bool
is_read_only n = n / 2 ^ 10 == 3

-- ---- the bits

-- misa: MXL is 1, for 32 bits, and then the extensions, each at the place of its letter: I and M, A
-- where there are atomics, C where there are compressed instructions, and U where there is user mode
abbrev pub misa_value : Profile → ℕ
misa_value p =
    2 ^ 30 + 2 ^ 8 + 2 ^ 12
    + (if p.hart.atomics then 2 ^ 0 else 0) + (if p.hart.compressed then 2 ^ 2 else 0)
    + (if p.user_mode then 2 ^ 20 else 0)

-- of mstatus: MIE and MPIE, and with user mode MPP, MPRV and TW
abbrev pub status_bits : Profile → ℕ
status_bits p =
    2 ^ 3 + 2 ^ 7 + (if p.user_mode then 3 * 2 ^ 11 + 2 ^ 17 + 2 ^ 21 else 0)

-- of mepc: all but the lowest, or the two lowest where instructions are aligned to words
abbrev pub return_bits : Profile → ℕ
return_bits p = 2 ^ 32 - 1 - 2 ^ 0 - (if p.hart.compressed then 0 else 2 ^ 1)

-- The bits that are written, by their places. Of a counter or a cause all are.
abbrev pub written_bits : Profile → Csr → ℕ
written_bits p Mstatus = status_bits p
-- MSIE, MTIE and MEIE
written_bits p Mie = 2 ^ 3 + 2 ^ 7 + 2 ^ 11
-- BASE and, of MODE, the lower bit
written_bits p Mtvec = 2 ^ 32 - 1 - 2 ^ 1
-- CY, TM and IR
written_bits p Mcounteren = 2 ^ 0 + 2 ^ 1 + 2 ^ 2
written_bits p Mepc = return_bits p
-- CY and IR
written_bits p Mcountinhibit = 2 ^ 0 + 2 ^ 2
written_bits p Mscratch = 2 ^ 32 - 1
written_bits p Mcause = 2 ^ 32 - 1
written_bits p Mtval = 2 ^ 32 - 1
written_bits p Mcycle = 2 ^ 32 - 1
written_bits p Mcycleh = 2 ^ 32 - 1
written_bits p Minstret = 2 ^ 32 - 1
written_bits p Minstreth = 2 ^ 32 - 1
written_bits p Misa = 0
written_bits p Mip = 0
written_bits p Time = 0
written_bits p Timeh = 0
written_bits p (Constant value) = 0

-- the bits that are always 1: without user mode MPP is 3
abbrev pub fixed_bits : Profile → Csr → ℕ
fixed_bits p Mstatus = if p.user_mode then 0 else 3 * 2 ^ 11
fixed_bits p _ = 0

-- ---- MPP

-- MPP of mstatus is bits 12 and 11
abbrev pub previous : ℕ → ℕ
previous status = status / 2 ^ 11 % 2 ^ 2

-- mstatus with another MPP
abbrev pub with_previous : ℕ → ℕ → ℕ
with_previous mpp status = status / 2 ^ 13 * 2 ^ 13 + mpp * 2 ^ 11 + status % 2 ^ 11

-- MPP holds 0 and 3, for user and for machine mode. A write of 1 or 2 leaves the old one.
abbrev pub legal_previous : ℕ → ℕ → ℕ
legal_previous old new = if new == 0 then 0 else (if new == 3 then 3 else old)

-- the value that a register holds after a write of another, in the bits that are written
abbrev pub legal : Csr → ℕ → ℕ → ℕ
legal Mstatus old new = with_previous (legal_previous (previous old) (previous new)) new
legal _ old new = new
