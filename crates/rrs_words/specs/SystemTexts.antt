-- The texts of the instructions that the 48 rows leave out (RISC-V unprivileged specification,
-- "Zicsr" and "Zifencei"; privileged specification 1.12, "Control and Status Registers (CSRs)":
-- the names). A register is x and its number, as in the texts of the 48 rows. A CSR has its name,
-- and a number that is no CSR of any profile is written in hexadecimal. There is one text for each
-- instruction: `csrr` and its like are not written.
use Rattle.std.specs.Prelude.{ℕ, ◌-◌, ◌==◌, ◌++◌, List, [], ◌∷◌, if◌then◌else◌, codes}
use Rattle.std.specs.Fmt.{decimal}
use Rattle.rrs_instruction.specs.declared.instruction_formats.IType.{IType}
use Rattle.rrs_words.specs.declared.instructions.SystemRow.{SystemRow}
use Rattle.rrs_words.specs.declared.instructions.SystemRow.TheVariants.{Mret, Wfi, FenceI}
use Rattle.rrs_words.specs.CsrNumbers.{CsrRow, setup_csrs, user_mode_csrs, handling_csrs, counter_csrs, reading_csrs, information_csrs, is_from_to}
use Rattle.rrs_words.specs.SystemInstructions.{system_table, csr_number, has_immediate}
use Rattle.rrs_lib.specs.Texts.{hexadecimal, register}

-- ---- the names of CSRs

-- the name of a number, among some: empty where none has it
abbrev pub name_among : List CsrRow → ℕ → List ℕ
name_among [] n = []
name_among (r ∷ rows) n = if n == r.number then r.name else name_among rows n

-- the first that is not empty
abbrev pub or_else : List ℕ → List ℕ → List ℕ
or_else [] other = other
or_else (c ∷ name) other = c ∷ name

-- the name in the tables, whatever the profile
abbrev pub table_name : ℕ → List ℕ
table_name n =
    or_else (name_among setup_csrs n) (or_else (name_among user_mode_csrs n)
    (or_else (name_among handling_csrs n) (or_else (name_among counter_csrs n)
    (or_else (name_among reading_csrs n) (name_among information_csrs n)))))

-- mhpmevent3 to 31, mhpmcounter3 to 31, mhpmcounter3h to 31h, or else the number itself
abbrev pub monitor_name : ℕ → List ℕ
monitor_name n =
    if is_from_to 0x323 0x33f n then codes "mhpmevent" ++ decimal (n - 0x320)
    else (if is_from_to 0xb03 0xb1f n then codes "mhpmcounter" ++ decimal (n - 0xb00)
    else (if is_from_to 0xb83 0xb9f n then codes "mhpmcounter" ++ decimal (n - 0xb80) ++ codes "h"
    else codes "0x" ++ hexadecimal 1 n))

-- its name, or else the number
unfoldable pub csr_name : ℕ → List ℕ
csr_name n = or_else (table_name n) (monitor_name n)

-- ---- the texts

-- the operand: a register, or the number in its place
abbrev pub operand_text : SystemRow → ℕ → List ℕ
operand_text row rs1 = if has_immediate row then decimal rs1 else register rs1

-- name xD, CSR, operand
abbrev pub csr_text : SystemRow → IType → List ℕ
csr_text row f =
    (system_table row).name ++ codes " " ++ register f.rd ++ codes ", "
    ++ csr_name (csr_number f) ++ codes ", " ++ operand_text row f.rs1

abbrev pub system_text : SystemRow → IType → List ℕ
system_text Mret f = (system_table Mret).name
system_text Wfi f = (system_table Wfi).name
system_text FenceI f = (system_table FenceI).name
system_text row f = csr_text row f
