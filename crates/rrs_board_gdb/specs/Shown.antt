-- How gdb is shown a board (gdb's manual, "RISC-V Features": org.gnu.gdb.riscv.csr and
-- org.gnu.gdb.riscv.virtual, and "Remote Serial Protocol", "Packets": p, P, m, M, X), and what it can
-- change. The registers are x0 to x31, the pc, from 65 on the CSRs by their numbers, and behind these
-- `priv`, the privilege mode. Of memory RAM is shown, and no device.
use Rattle.std.specs.Prelude.{◌≡◌, ℕ, zero, suc, pos, ◌+◌, ◌-◌, ◌==◌, ◌&&◌, ◌++◌, nat_lt, Bool, if◌then◌else◌, List, [], drop, is_some, slice_set, codes, Option, Some, None}
use Rattle.std.specs.Fmt.{decimal}
use Rattle.rrs_lib.specs.declared.HartState.{HartState}
use Rattle.rrs_lib.specs.Machine.{State, state_of}
use Rattle.rrs_memory.specs.Bytes.{ByteMap}
use Rattle.rrs_words.specs.declared.csrs.Csr.{Csr}
use Rattle.rrs_words.specs.declared.csrs.Profile.{Profile}
use Rattle.rrs_words.specs.CsrNumbers.{csr_at, is_read_only}
use Rattle.rrs_machine.specs.declared.csrs.Mode.TheVariants.{User, Machine}
use Rattle.rrs_machine.specs.Csrs.{mode_number, mode_of, csr_value, csr_written}
use Rattle.rrs_board.specs.declared.board.Board.{Board}
use Rattle.rrs_board.specs.Registers.{ram_bytes, ram_writable, board_bytes, board_writable}
use Rattle.rrs_board.specs.Effects.{inputs_of}
use Rattle.rrs_gdb.specs.Packets.{before, behind}
use Rattle.rrs_gdb.specs.Shown.{register}
use Rattle.rrs_lib.specs.declared.instruction_formats.IType.{IType}
use Rattle.rrs_words.specs.declared.instructions.SystemRow.TheVariants.{Csrrs}
use Rattle.rrs_words.specs.SystemTexts.{system_text}

-- ---- registers

-- a CSR as an instruction reads it
abbrev pub csr_shown : Board → Option Csr → Option ℕ
csr_shown b None = None
csr_shown b (Some csr) = Some (csr_value csr b.csrs (inputs_of b.memory.devices))

-- gdb's number of the privilege mode, behind those of the CSRs
abbrev pub priv : ℕ
priv = 4161

-- the register of a number
abbrev pub shown_register : Board → ℕ → Option ℕ
shown_register b n =
    if nat_lt n 33
    then Some (register (state_of b.hart (board_bytes b.memory) (board_writable b.memory)) n)
    else (if nat_lt n 65 then None
    else (if n == priv then Some (mode_number (mode_of b.csrs))
    else csr_shown b (csr_at b.csrs.profile (n - 65))))

-- a CSR is written as an instruction writes it, unless it is read only
abbrev pub csr_changed : ℕ → Option Csr → ℕ → Board → Option Board
csr_changed number None value b = None
csr_changed number (Some csr) value b =
    if is_read_only number then None
    else Some (record b { csrs = csr_written csr value b.csrs })

-- the privilege mode becomes the one of a number, where the hart has one of this number
abbrev pub mode_changed : ℕ → Board → Option Board
mode_changed value b =
    if value == 3 then Some (record b { csrs = record b.csrs { mode = Machine } })
    else (if (value == 0) && b.csrs.profile.user_mode
    then Some (record b { csrs = record b.csrs { mode = User } }) else None)

abbrev pub hart_changed : HartState → ℕ → ℕ → HartState
hart_changed h n value =
    if n == 32 then record h { pc = value }
    else record h { registers = slice_set h.registers n value }

-- The board with one register changed, where there is one that can be. x0 is none.
abbrev pub with_register : Board → ℕ → ℕ → Option Board
with_register b n value =
    if n == 0 then None
    else (if nat_lt n 33 then Some (record b { hart = hart_changed b.hart n value })
    else (if nat_lt n 65 then None
    else (if n == priv then mode_changed value b
    else csr_changed (n - 65) (csr_at b.csrs.profile (n - 65)) value b)))

-- ---- RAM

-- each byte of RAM by its address
abbrev pub byte_at : Board → ByteMap
byte_at b = ram_bytes b.memory.ram

abbrev pub is_writable_at : Board → ℕ → Bool
is_writable_at b = ram_writable b.memory.ram

-- the hart, its CSRs and the devices are as they were, and RAM begins and ends where it did
pub record SameButRam (old new : Board) : Type 0 where
  pub hart_kept : new.hart ≡ old.hart
  pub csrs_kept : new.csrs ≡ old.csrs
  pub devices_kept : new.memory.devices ≡ old.memory.devices
  pub writable_kept : is_writable_at new ≡ is_writable_at old

-- and each byte of RAM is as it was
pub record SameBoard (old new : Board) : Type 0 where
  pub rest_kept : SameButRam old new
  pub bytes_kept : byte_at new ≡ byte_at old

-- the hart, with RAM as its memory and nothing else
abbrev pub ram_state : Board → State
ram_state b = state_of b.hart (byte_at b) (is_writable_at b)

-- ---- the description of the target

-- the CSR in the text of an instruction on it: what stands between its two commas, after a blank
abbrev pub csr_in : List ℕ → List ℕ
csr_in text = before 44 (drop 1 (behind 44 text))

-- The line of a CSR: its name as the texts of instructions have it, and gdb's number for it.
unfoldable pub csr_line : ℕ → List ℕ
csr_line number =
    let read : IType = record { imm = pos number; rs1 = 0; funct3 = 2; rd = 0 } in
    codes "<reg name=\"" ++ csr_in (system_text Csrrs read)
    ++ codes "\" bitsize=\"32\" type=\"uint32\" regnum=\"" ++ decimal (number + 65)
    ++ codes "\"/>\n"

-- the lines of the CSRs of a profile with numbers below this
unfoldable pub csr_lines : Profile → ℕ → List ℕ
csr_lines p zero = []
csr_lines p (suc n) = csr_lines p n ++ (if is_some (csr_at p n) then csr_line n else [])

-- what follows them: the line of the privilege mode, and the end
abbrev pub mode_line_and_end : List ℕ
mode_line_and_end = codes "</feature>\n<feature name=\"org.gnu.gdb.riscv.virtual\">\n"
    ++ codes "<reg name=\"priv\" bitsize=\"32\" regnum=\"4161\"/>\n"
    ++ codes "</feature>\n</target>\n"
