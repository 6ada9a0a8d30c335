-- The texts of instructions, close to the assembly syntax of the RISC-V unprivileged specification,
-- with x and a number for a register. `lui` shows its whole value, and `auipc`, the branches and
-- `jal` the sum with the address of the instruction, as 8 hexadecimal digits; `jalr` shows its
-- immediate modulo 2 ^ 32 in at least 3; `fence`, `ecall` and `ebreak` show no operands.
use Rattle.std.specs.Prelude.{ℕ, List, ◌++◌, ℤ, Option, Some, None, codes}
use Rattle.std.specs.Fmt.{decimal, signed_decimal}
use Rattle.rrs_instruction.specs.declared.instruction_formats.RType.{RType}
use Rattle.rrs_instruction.specs.declared.instruction_formats.IType.{IType}
use Rattle.rrs_instruction.specs.declared.instruction_formats.ITypeShamt.{ITypeShamt}
use Rattle.rrs_instruction.specs.declared.instruction_formats.BType.{BType}
use Rattle.rrs_instruction.specs.Words.{word}
use Rattle.rrs_instruction.specs.Encodings.{Fields, R, I, IShamt, S, B, U, J}
use Rattle.rrs_instruction.specs.Table.{Row, table, Action, OnRegisters, OnImmediate, OnShamt, LoadUpper, AddUpperToPc, BranchIf, BranchUnless, Load, Store, JumpAndLink, JumpAndLinkRegister, NoEffect, CallEnvironment, Break}
pub use Rattle.rrs_memory.specs.Hexadecimal.{hexadecimal}
use Rattle.rrs_instruction.specs.Results.{plus_immediate}

-- the mnemonic of a row
abbrev pub name_of : Row → List ℕ
name_of row = (table row).name

abbrev pub register : ℕ → List ℕ
register r = codes "x" ++ decimal r

-- name xD, xA, xB
abbrev pub three_registers : Row → RType → List ℕ
three_registers row f =
    name_of row ++ codes " " ++ register f.rd
    ++ codes ", " ++ register f.rs1 ++ codes ", " ++ register f.rs2

-- name xD, xA, immediate
abbrev pub two_registers : Row → IType → List ℕ
two_registers row f =
    name_of row ++ codes " " ++ register f.rd
    ++ codes ", " ++ register f.rs1 ++ codes ", " ++ signed_decimal f.imm

-- name xD, xA, shift amount
abbrev pub shifted_register : Row → ITypeShamt → List ℕ
shifted_register row f =
    name_of row ++ codes " " ++ register f.rd
    ++ codes ", " ++ register f.rs1 ++ codes ", " ++ decimal f.shamt

-- name xD, and the word in hexadecimal
abbrev pub register_and_word : Row → ℕ → ℕ → List ℕ
register_and_word row rd x =
    name_of row ++ codes " " ++ register rd ++ codes ", 0x" ++ hexadecimal 8 x

-- name xA, xB, and the target in hexadecimal
abbrev pub branch_to : Row → BType → ℕ → List ℕ
branch_to row f pc =
    name_of row ++ codes " " ++ register f.rs1 ++ codes ", " ++ register f.rs2
    ++ codes ", 0x" ++ hexadecimal 8 (plus_immediate pc f.imm)

-- name xR, immediate(xA)
abbrev pub register_and_place : Row → ℕ → ℤ → ℕ → List ℕ
register_and_place row r imm base =
    name_of row ++ codes " " ++ register r
    ++ codes ", " ++ signed_decimal imm ++ codes "(" ++ register base ++ codes ")"

-- name xD, and immediate(xA) in hexadecimal: the immediate modulo 2 ^ 32, in at least 3 digits
abbrev pub jump_to_place : Row → IType → List ℕ
jump_to_place row f =
    name_of row ++ codes " " ++ register f.rd
    ++ codes ", 0x" ++ hexadecimal 3 (word f.imm) ++ codes "(" ++ register f.rs1 ++ codes ")"

-- The text of a row that does this with its fields, at an address. There is none where the fields
-- are of another format than the action's.
abbrev pub text_by : Action → Row → Fields → ℕ → Option (List ℕ)
text_by (OnRegisters op) row (R f) pc = Some (three_registers row f)
text_by (OnImmediate op) row (I f) pc = Some (two_registers row f)
text_by (OnShamt op) row (IShamt f) pc = Some (shifted_register row f)
text_by LoadUpper row (U f) pc = Some (register_and_word row f.rd (word f.imm))
text_by AddUpperToPc row (U f) pc = Some (register_and_word row f.rd (plus_immediate pc f.imm))
text_by (BranchIf test) row (B f) pc = Some (branch_to row f pc)
text_by (BranchUnless test) row (B f) pc = Some (branch_to row f pc)
text_by (Load n extended) row (I f) pc = Some (register_and_place row f.rd f.imm f.rs1)
text_by (Store n) row (S f) pc = Some (register_and_place row f.rs2 f.imm f.rs1)
text_by JumpAndLink row (J f) pc = Some (register_and_word row f.rd (plus_immediate pc f.imm))
text_by JumpAndLinkRegister row (I f) pc = Some (jump_to_place row f)
text_by NoEffect row (I f) pc = Some (name_of row)
text_by CallEnvironment row (I f) pc = Some (name_of row)
text_by Break row (I f) pc = Some (name_of row)
text_by _ row _ pc = None

-- the text of a row with its fields at an address
abbrev pub text_of : Row → Fields → ℕ → Option (List ℕ)
text_of row f pc = text_by (table row).action row f pc
