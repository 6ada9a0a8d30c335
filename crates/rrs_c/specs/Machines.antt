-- Machine mode, as C has it (RISC-V privileged specification 1.12, "Machine-Level CSRs": mcause has
-- bit 31 and the code of an interrupt, or the code of an exception, whose value is what mtval gets;
-- mip has a bit for each interrupt that is pending). A step is that of MachineSteps.antt of
-- rrs_machine, and its record that of MachineRecords.antt there.
use Rattle.std.specs.Prelude.{◌≡◌, ◌<◌, ℕ, ◌+◌, ◌^◌, ◌==◌, if◌then◌else◌, List, Option, Some, None}
use Rattle.rrs_lib.specs.Words.{bit}
use Rattle.rrs_machine.specs.declared.csrs.CsrFile.{CsrFile}
use Rattle.rrs_words.specs.declared.csrs.Csr.{Csr}
use Rattle.rrs_words.specs.declared.csrs.Profile.{Profile}
use Rattle.rrs_machine.specs.declared.csrs.Mode.{Mode}
use Rattle.rrs_machine.specs.declared.csrs.Mode.TheVariants.{User, Machine}
use Rattle.rrs_machine.specs.declared.csrs.Inputs.{Inputs}
use Rattle.rrs_machine.specs.declared.traps.Exception.{Exception}
use Rattle.rrs_machine.specs.declared.traps.Exception.TheVariants.{InstructionMisaligned, InstructionFault, IllegalInstruction, Breakpoint, LoadMisaligned, LoadFault, StoreMisaligned, StoreFault, UserEnvironmentCall, EnvironmentCall}
use Rattle.rrs_machine.specs.declared.traps.Interrupt.{Interrupt}
use Rattle.rrs_machine.specs.declared.traps.Interrupt.TheVariants.{External, Software, Timer}
use Rattle.rrs_machine.specs.declared.machine.MachineAnswer.{MachineAnswer}
use Rattle.rrs_machine.specs.declared.machine.MachineAnswer.TheVariants.{Retired, Waiting, Raised, Interrupted}
use Rattle.rrs_words.specs.CsrNumbers.{csr_at, is_read_only}
use Rattle.rrs_machine.specs.Csrs.{csr_value, csr_written}
use Rattle.rrs_machine.specs.Traps.{exception_value}
use Rattle.rrs_machine.specs.MachineSteps.{MachineState, machine}
use Rattle.rrs_machine.specs.declared.retired.MachineRetired.{MachineRetired}
use Rattle.rrs_machine.specs.MachineRecords.{cause_of}
use Rattle.rrs_c.specs.declared.hart.RrsHart.{RrsHart}
use Rattle.rrs_c.specs.declared.machine.RrsCsrs.{RrsCsrs}
use Rattle.rrs_c.specs.declared.machine.RrsCsr.{RrsCsr}
use Rattle.rrs_c.specs.declared.machine.RrsOutcome.{RrsOutcome}
use Rattle.rrs_c.specs.declared.machine.RrsMachineRetired.{RrsMachineRetired}
use Rattle.rrs_c.specs.Harts.{state_in_c}
use Rattle.rrs_c.specs.Records.{retired_in, IsRecord}

-- ---- the machine

-- bit 0 of a profile is extension A, bit 1 user mode, bit 2 the compressed instructions, bit 3
-- misaligned loads and stores, bit 4 says that there is no fence.i, and bits 5 to 10 are Zba, Zbb,
-- Zbs, Zbc, Zbkb and Zicond; no other bit is looked at
abbrev pub profile_in : ℕ → Profile
profile_in bits = record {
  hart = record {
    atomics = bit bits 0 == 1;
    fence_i = bit bits 4 == 0;
    misaligned = bit bits 3 == 1;
    compressed = bit bits 2 == 1;
    zba = bit bits 5 == 1;
    zbb = bit bits 6 == 1;
    zbs = bit bits 7 == 1;
    zbc = bit bits 8 == 1;
    zbkb = bit bits 9 == 1;
    zicond = bit bits 10 == 1;
  };
  user_mode = bit bits 1 == 1;
}

abbrev pub mode_in : ℕ → Mode
mode_in user = if user == 1 then User else Machine

abbrev pub reservation_in : ℕ → ℕ → Option ℕ
reservation_in reserved address = if reserved == 1 then Some address else None

-- the CSRs that those of C are
abbrev pub csrs_in : RrsCsrs → CsrFile
csrs_in c = record {
  profile = profile_in c.profile;
  mode = mode_in c.user;
  mstatus = c.mstatus;
  mie = c.mie;
  mtvec = c.mtvec;
  mcounteren = c.mcounteren;
  mscratch = c.mscratch;
  mepc = c.mepc;
  mcause = c.mcause;
  mtval = c.mtval;
  mcountinhibit = c.mcountinhibit;
  mcycle = c.mcycle;
  minstret = c.minstret;
  reservation = reservation_in c.reserved c.reservation;
}

-- the state of a C hart with its CSRs, and words from a base on
abbrev pub machine_in_c : RrsHart → RrsCsrs → ℕ → List ℕ → MachineState
machine_in_c h c base words = machine (state_in_c h base words) (csrs_in c)

-- the interrupts that are pending, by the bits of mip, and the time
abbrev pub inputs_in : ℕ → ℕ → Inputs
inputs_in mip time = record {
  external = bit mip 11 == 1;
  software = bit mip 3 == 1;
  timer = bit mip 7 == 1;
  time = time;
}

-- ---- how a step ended

-- the exception of a code, with its value
abbrev pub exception_at : ℕ → ℕ → Exception
exception_at code value =
    if code == 0 then InstructionMisaligned value else
    (if code == 1 then InstructionFault value else
    (if code == 2 then IllegalInstruction value else
    (if code == 3 then Breakpoint value else
    (if code == 4 then LoadMisaligned value else
    (if code == 5 then LoadFault value else
    (if code == 6 then StoreMisaligned value else
    (if code == 7 then StoreFault value else
    (if code == 8 then UserEnvironmentCall else EnvironmentCall))))))))

-- the interrupt of a cause
abbrev pub interrupt_at : ℕ → Interrupt
interrupt_at cause =
    if cause == 2 ^ 31 + 11 then External else
    (if cause == 2 ^ 31 + 3 then Software else Timer)

abbrev pub machine_answer : RrsOutcome → MachineAnswer
machine_answer o =
    if o.kind == 1 then Waiting else
    (if o.kind == 2 then Raised (exception_at o.cause o.value) else
    (if o.kind == 3 then Interrupted (interrupt_at o.cause) else Retired))

-- a number, or 0
abbrev pub or_zero : Option ℕ → ℕ
or_zero None = 0
or_zero (Some n) = n

-- what mtval has after an exception
abbrev pub value_of : MachineAnswer → ℕ
value_of (Raised x) = exception_value x
value_of _ = 0

-- How an outcome is written: kinds go up to 3, the cause is what mcause has after the trap, the
-- value what mtval has after an exception, and each is 0 where there is none.
pub record IsOutcome (o : RrsOutcome) : Type 0 where
  pub kind : o.kind < 4
  pub cause : o.cause ≡ or_zero (cause_of (machine_answer o))
  pub value : o.value ≡ value_of (machine_answer o)

-- ---- what a step retired

-- the kit's record that a record of C is
abbrev pub machine_retired_in : RrsMachineRetired → MachineRetired
machine_retired_in r = record {
  retired = retired_in r.retired;
  valid = r.valid == 1;
  intr = r.intr == 1;
  mode = r.mode;
  cause = if r.trapped == 1 then Some r.cause else None;
  csr = record {
    addr = r.csr_addr;
    rmask = r.csr_rmask;
    wmask = r.csr_wmask;
    rdata = r.csr_rdata;
    wdata = r.csr_wdata;
  };
}

-- How a record is written: flags of 0 or 1, and no cause where no trap was taken.
pub record IsMachineRecord (r : RrsMachineRetired) : Type 0 where
  pub retired : IsRecord r.retired
  pub valid : r.valid < 2
  pub intr : r.intr < 2
  pub trapped : r.trapped < 2
  pub cause : r.trapped ≡ 0 → r.cause ≡ 0

-- ---- a CSR by its number

-- what is told of a CSR, which is read as an instruction reads it
abbrev pub csr_told : Option Csr → CsrFile → Inputs → RrsCsr
csr_told None f i = record { found = 0; value = 0 }
csr_told (Some csr) f i = record { found = 1; value = csr_value csr f i }

-- the CSR that a number writes: none where there is none, or it is read only
abbrev pub csr_to_write : Profile → ℕ → Option Csr
csr_to_write p number = if is_read_only number then None else csr_at p number

-- the CSRs after a write, which changes the bits that are written, as that of an instruction
abbrev pub file_after : Option Csr → ℕ → CsrFile → CsrFile
file_after None value f = f
file_after (Some csr) value f = csr_written csr value f

abbrev pub was_written : Option Csr → ℕ
was_written None = 0
was_written (Some csr) = 1
