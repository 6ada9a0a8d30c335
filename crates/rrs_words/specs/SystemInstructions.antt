-- The instructions that the 48 rows of rrs_instruction leave out (RISC-V unprivileged
-- specification, "Zicsr" and "Zifencei"; privileged specification 1.12, "Trap-Return Instructions"
-- and "Wait for Interrupt"). All are of format I, where the immediate's bits are the number of a
-- CSR. fence.i takes all other fields as they are, as the specification asks.
use Rattle.std.specs.Prelude.{◌≡◌, ℕ, ◌-◌, ◌/◌, ◌%◌, ◌^◌, ◌==◌, List, pos, Bool, true, false, not, if◌then◌else◌, codes}
use Rattle.rrs_instruction.specs.declared.instruction_formats.IType.{IType}
use Rattle.rrs_words.specs.declared.instructions.SystemRow.{SystemRow}
use Rattle.rrs_words.specs.declared.instructions.SystemRow.TheVariants.{Csrrw, Csrrs, Csrrc, Csrrwi, Csrrsi, Csrrci, Mret, Wfi, FenceI}
use Rattle.rrs_instruction.specs.Words.{floor_mod}
use Rattle.rrs_instruction.specs.Encodings.{I, encode, IsInRange}
use Rattle.rrs_instruction.specs.Table.{Operands, Free, Fixed, MeetsOperands}
use Rattle.rrs_words.specs.CsrNumbers.{both, either}

-- ---- the table

pub record SystemEntry : Type 0 where
  pub name : List ℕ
  pub opcode : ℕ
  pub funct3 : ℕ
  pub operands : Operands

abbrev pub system_entry : List ℕ → ℕ → ℕ → Operands → SystemEntry
system_entry name opcode funct3 operands =
    record { name = name; opcode = opcode; funct3 = funct3; operands = operands }

-- name, opcode, funct3, the other fields: any, or x0 as rd and rs1 and this immediate alone
abbrev pub system_table : SystemRow → SystemEntry
system_table Csrrw = system_entry (codes "csrrw") 0x73 1 Free
system_table Csrrs = system_entry (codes "csrrs") 0x73 2 Free
system_table Csrrc = system_entry (codes "csrrc") 0x73 3 Free
system_table Csrrwi = system_entry (codes "csrrwi") 0x73 5 Free
system_table Csrrsi = system_entry (codes "csrrsi") 0x73 6 Free
system_table Csrrci = system_entry (codes "csrrci") 0x73 7 Free
system_table Mret = system_entry (codes "mret") 0x73 0 (Fixed (pos 0x302))
system_table Wfi = system_entry (codes "wfi") 0x73 0 (Fixed (pos 0x105))
system_table FenceI = system_entry (codes "fence.i") 0x0f 1 Free

-- the bits in the place of a CSR's number where there is one word alone
abbrev pub alone_number : SystemRow → ℕ
alone_number Mret = 0x302
alone_number Wfi = 0x105
alone_number _ = 0

-- the word w is this row with these fields
pub record IsSystem (w : ℕ) (row : SystemRow) (f : IType) : Type 0 where
  pub in_range : IsInRange (I f)
  pub funct3 : f.funct3 ≡ (system_table row).funct3
  pub operands : MeetsOperands (system_table row).operands (I f)
  pub encoded : w ≡ encode (system_table row).opcode (I f)

-- ---- the instructions on CSRs

-- the number of the CSR
abbrev pub csr_number : IType → ℕ
csr_number f = floor_mod f.imm (2 ^ 12)

-- the forms that write in any case: the others write where rs1 is not x0, or the immediate not 0
abbrev pub always_writes : SystemRow → Bool
always_writes Csrrw = true
always_writes Csrrwi = true
always_writes _ = false

abbrev pub writes_csr : SystemRow → IType → Bool
writes_csr row f = if always_writes row then true else not (f.rs1 == 0)

-- the forms whose operand is the number in the place of rs1, and not the value of that register
abbrev pub has_immediate : SystemRow → Bool
has_immediate Csrrwi = true
has_immediate Csrrsi = true
has_immediate Csrrci = true
has_immediate _ = false

-- what the CSR gets, from its old value and the operand: the operand, with the bits of the operand
-- set, and with them cleared
abbrev pub updated : SystemRow → ℕ → ℕ → ℕ
updated Csrrw old x = x
updated Csrrwi old x = x
updated Csrrs old x = either old x
updated Csrrsi old x = either old x
updated Csrrc old x = both old (2 ^ 32 - 1 - x)
updated Csrrci old x = both old (2 ^ 32 - 1 - x)
updated _ old x = old

-- ---- what tells the row

-- The places of a word that is this row: the opcode and funct3, and the whole word where all fields
-- are fixed. No word has the places of two rows.
abbrev pub HasPlaces : ℕ → SystemRow → Type 0
HasPlaces w Mret = w ≡ 0x30200073
HasPlaces w Wfi = w ≡ 0x10500073
HasPlaces w row =
    (w % 2 ^ 7 ≡ (system_table row).opcode) × (w / 2 ^ 12 % 2 ^ 3 ≡ (system_table row).funct3)
