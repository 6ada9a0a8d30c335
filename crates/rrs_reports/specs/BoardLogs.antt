-- The commit log of a board, as Spike writes it where it is called with -l --log-commits, but for
-- the texts of instructions: beside what the log of a process has, the privilege mode of each
-- instruction, the CSR that it wrote, and exceptions and interrupts. An instruction that raises an
-- exception has no line of its own.
use Rattle.std.specs.Prelude.{ℕ, ◌==◌, if◌then◌else◌, Bool, true, false, List, [], ◌∷◌, ◌++◌, map, codes, Option, Some, None}
use Rattle.std.specs.Fmt.{decimal}
use Rattle.std.specs.Io.KnownBytes.{Appends}
use Rattle.rrs_lib.specs.Texts.{hexadecimal}
use Rattle.rrs_words.specs.SystemTexts.{csr_name}
use Rattle.rrs_machine.specs.declared.machine.MachineAnswer.{MachineAnswer}
use Rattle.rrs_machine.specs.declared.machine.MachineAnswer.TheVariants.{Raised, Interrupted}
use Rattle.rrs_machine.specs.declared.retired.CsrAccess.{CsrAccess}
use Rattle.rrs_machine.specs.declared.retired.MachineRetired.{MachineRetired}
use Rattle.rrs_machine.specs.declared.traps.Exception.{Exception}
use Rattle.rrs_machine.specs.declared.traps.Exception.TheVariants.{InstructionMisaligned, InstructionFault, IllegalInstruction, Breakpoint, LoadMisaligned, LoadFault, StoreMisaligned, StoreFault, EnvironmentCall, UserEnvironmentCall}
use Rattle.rrs_machine.specs.declared.traps.Interrupt.{Interrupt}
use Rattle.rrs_machine.specs.declared.traps.Interrupt.TheVariants.{External, Software, Timer}
use Rattle.rrs_machine.specs.Traps.{exception_value}
use Rattle.rrs_board.specs.declared.board.Board.{Board}
use Rattle.rrs_board.specs.declared.effects.BoardEvent.{BoardEvent}
use Rattle.rrs_board.specs.declared.runs.RecordedStep.{RecordedStep}
use Rattle.rrs_board.specs.Inputs.{Listener}
use Rattle.rrs_reports.specs.CommitLogs.{committed_text, access_text, Entry, log_text}
use Rattle.rrs_reports.specs.BoardRecords.{BoardWithRecords}
use Rattle.rrs_reports.specs.declared.commit_log.LogWindow.{LogWindow}

-- ---- an instruction that retired

-- the CSR that was written: its number, its name, and the value of the bits that a write changes
abbrev pub csr_text : CsrAccess → List ℕ
csr_text a =
    if a.wmask == 0 then []
    else codes " c" ++ decimal a.addr ++ codes "_" ++ csr_name a.addr
    ++ codes " 0x" ++ hexadecimal 8 a.wdata

abbrev pub retired_text : Option ℕ → MachineRetired → List ℕ
retired_text None r = []
retired_text (Some word) r =
    committed_text r.mode word r.retired ++ csr_text r.csr ++ access_text r.retired.mem

-- ---- an exception or an interrupt

-- Spike's names
abbrev pub exception_name : Exception → List ℕ
exception_name (InstructionMisaligned a) = codes "trap_instruction_address_misaligned"
exception_name (InstructionFault a) = codes "trap_instruction_access_fault"
exception_name (IllegalInstruction w) = codes "trap_illegal_instruction"
exception_name (Breakpoint a) = codes "trap_breakpoint"
exception_name (LoadMisaligned a) = codes "trap_load_address_misaligned"
exception_name (LoadFault a) = codes "trap_load_access_fault"
exception_name (StoreMisaligned a) = codes "trap_store_address_misaligned"
exception_name (StoreFault a) = codes "trap_store_access_fault"
exception_name UserEnvironmentCall = codes "trap_user_ecall"
exception_name EnvironmentCall = codes "trap_machine_ecall"

abbrev pub interrupt_name : Interrupt → List ℕ
interrupt_name Software = codes "interrupt #3"
interrupt_name Timer = codes "interrupt #7"
interrupt_name External = codes "interrupt #11"

-- the name, and the pc, which mepc has
abbrev pub trap_text : List ℕ → ℕ → List ℕ
trap_text name pc =
    codes "core   0: exception " ++ name ++ codes ", epc 0x" ++ hexadecimal 8 pc ++ 10 ∷ []

-- an ecall has no value
abbrev pub has_value : Exception → Bool
has_value UserEnvironmentCall = false
has_value EnvironmentCall = false
has_value _ = true

-- the line of what mtval has
abbrev pub value_line : ℕ → List ℕ
value_line value = codes "core   0:           tval 0x" ++ hexadecimal 8 value ++ 10 ∷ []

abbrev pub value_text : Exception → List ℕ
value_text x = if has_value x then value_line (exception_value x) else []

-- ---- a step

abbrev pub step_text : MachineAnswer → MachineRetired → List ℕ
step_text (Raised x) r = trap_text (exception_name x) r.retired.pc_rdata ++ value_text x
step_text (Interrupted x) r = trap_text (interrupt_name x) r.retired.pc_rdata
step_text answer r = retired_text r.retired.insn r

abbrev pub board_entry : RecordedStep → Entry
board_entry s = record {
  pc = s.retired.retired.pc_rdata;
  number = s.retired.retired.order;
  lines = step_text s.step.answer s.retired;
}

-- ---- the log of a run

-- A session at a terminal that ended so, and the log of its steps is what was written.
pub record TracesBoard {I : Type 0} (says : Listener I) (remaining : I → Option (List ℕ))
    (polled : Bool) (limit : ℕ) (start : Board) (input rest : I) (before after : Option (List ℕ))
    (steps : ℕ) (event : Option BoardEvent) (new : Board)
    (window : LogWindow) (empty log : Option (List ℕ)) : Type 0 where
  pub records : List RecordedStep
  pub runs : BoardWithRecords says remaining polled limit start input rest before after
      steps event new records
  pub written : Appends empty log (log_text window (map board_entry records))
