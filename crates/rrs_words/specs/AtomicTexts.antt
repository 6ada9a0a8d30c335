-- The texts of the instructions of extension A (RISC-V unprivileged specification, "Zalrsc" and
-- "Zaamo"; GNU binutils: the letters of aq and rl behind the name). An address is its register in
-- parentheses, and a register is x and its number, as in the texts of the 48 rows.
use Rattle.std.specs.Prelude.{ℕ, ◌/◌, ◌%◌, ◌==◌, ◌++◌, List, [], if◌then◌else◌, codes}
use Rattle.rrs_instruction.specs.declared.instruction_formats.RType.{RType}
use Rattle.rrs_words.specs.declared.atomics.AtomicRow.{AtomicRow}
use Rattle.rrs_words.specs.declared.atomics.AtomicRow.TheVariants.{LrW}
use Rattle.rrs_words.specs.AtomicInstructions.{atomic_table}
use Rattle.rrs_lib.specs.Texts.{register}

-- what stands behind the name: bit 1 of funct7 is aq, and bit 0 rl
abbrev pub acquire_letters : ℕ → List ℕ
acquire_letters funct7 = if funct7 / 2 % 2 == 1 then codes "aq" else []

abbrev pub release_letters : ℕ → List ℕ
release_letters funct7 = if funct7 % 2 == 1 then codes "rl" else []

abbrev pub order_letters : ℕ → List ℕ
order_letters funct7 =
    if funct7 % 4 == 0 then [] else codes "." ++ acquire_letters funct7 ++ release_letters funct7

-- amoadd.w.aqrl
abbrev pub atomic_name : AtomicRow → ℕ → List ℕ
atomic_name row funct7 = (atomic_table row).name ++ order_letters funct7

-- the operand, and a comma: lr.w has none
abbrev pub atomic_operand : AtomicRow → ℕ → List ℕ
atomic_operand LrW rs2 = []
atomic_operand row rs2 = register rs2 ++ codes ", "

-- name xD, xS, (xA)
abbrev pub atomic_text : AtomicRow → RType → List ℕ
atomic_text row f =
    atomic_name row f.funct7 ++ codes " " ++ register f.rd ++ codes ", "
    ++ atomic_operand row f.rs2 ++ codes "(" ++ register f.rs1 ++ codes ")"
