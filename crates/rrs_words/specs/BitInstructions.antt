-- The instructions of Zba, Zbb, Zbs, Zbc and Zbkb (RISC-V unprivileged specification, "B" Extension
-- for Bit Manipulation and its scalar cryptography, "Instructions (in alphabetical order)"), and of
-- Zicond ("Integer Conditional Operations"), as RV32 has them. All are of format R: what stands in
-- the place of rs2 is a register, a shift amount, or a number that tells the instruction. With x0,
-- pack is zext.h.
use Rattle.std.specs.Prelude.{◌≡◌, ◌≢◌, ℕ, List, codes}
use Rattle.rrs_instruction.specs.declared.instruction_formats.RType.{RType}
use Rattle.rrs_words.specs.declared.bits.BitExtension.{BitExtension}
use Rattle.rrs_words.specs.declared.bits.BitExtension.TheVariants.{Zba, Zbb, Zbs, Zbc, Zbkb, ZbbZbkb, Zicond}
use Rattle.rrs_words.specs.declared.bits.BitOperand.{BitOperand}
use Rattle.rrs_words.specs.declared.bits.BitOperand.TheVariants.{Register, NotX0, Amount, Fixed}
use Rattle.rrs_words.specs.declared.bits.BitRow.{BitRow}
use Rattle.rrs_words.specs.declared.bits.BitRow.TheVariants.{Sh1add, Sh2add, Sh3add, Andn, Orn, Xnor, Clz, Ctz, Cpop, Max, Maxu, Min, Minu, SextB, SextH, ZextH, Rol, Ror, Rori, OrcB, Rev8, Bclr, Bclri, Bext, Bexti, Binv, Binvi, Bset, Bseti, Clmul, Clmulh, Clmulr, Pack, Packh, Brev8, Zip, Unzip, CzeroEqz, CzeroNez}
use Rattle.rrs_instruction.specs.Encodings.{R, encode, IsInRange}

-- ---- the table

pub record BitEntry : Type 0 where
  pub name : List ℕ
  pub extension : BitExtension
  pub opcode : ℕ
  pub funct7 : ℕ
  pub funct3 : ℕ
  pub operand : BitOperand

abbrev pub bit_entry : List ℕ → BitExtension → ℕ → ℕ → ℕ → BitOperand → BitEntry
bit_entry name extension opcode funct7 funct3 operand = record {
  name = name;
  extension = extension;
  opcode = opcode;
  funct7 = funct7;
  funct3 = funct3;
  operand = operand;
}

-- name, extension, opcode, funct7, funct3, what stands in the place of rs2
abbrev pub bit_table : BitRow → BitEntry
bit_table Sh1add = bit_entry (codes "sh1add") Zba 0x33 0x10 2 Register
bit_table Sh2add = bit_entry (codes "sh2add") Zba 0x33 0x10 4 Register
bit_table Sh3add = bit_entry (codes "sh3add") Zba 0x33 0x10 6 Register
bit_table Andn = bit_entry (codes "andn") ZbbZbkb 0x33 0x20 7 Register
bit_table Orn = bit_entry (codes "orn") ZbbZbkb 0x33 0x20 6 Register
bit_table Xnor = bit_entry (codes "xnor") ZbbZbkb 0x33 0x20 4 Register
bit_table Clz = bit_entry (codes "clz") Zbb 0x13 0x30 1 (Fixed 0)
bit_table Ctz = bit_entry (codes "ctz") Zbb 0x13 0x30 1 (Fixed 1)
bit_table Cpop = bit_entry (codes "cpop") Zbb 0x13 0x30 1 (Fixed 2)
bit_table Max = bit_entry (codes "max") Zbb 0x33 0x05 6 Register
bit_table Maxu = bit_entry (codes "maxu") Zbb 0x33 0x05 7 Register
bit_table Min = bit_entry (codes "min") Zbb 0x33 0x05 4 Register
bit_table Minu = bit_entry (codes "minu") Zbb 0x33 0x05 5 Register
bit_table SextB = bit_entry (codes "sext.b") Zbb 0x13 0x30 1 (Fixed 4)
bit_table SextH = bit_entry (codes "sext.h") Zbb 0x13 0x30 1 (Fixed 5)
bit_table ZextH = bit_entry (codes "zext.h") ZbbZbkb 0x33 0x04 4 (Fixed 0)
bit_table Rol = bit_entry (codes "rol") ZbbZbkb 0x33 0x30 1 Register
bit_table Ror = bit_entry (codes "ror") ZbbZbkb 0x33 0x30 5 Register
bit_table Rori = bit_entry (codes "rori") ZbbZbkb 0x13 0x30 5 Amount
bit_table OrcB = bit_entry (codes "orc.b") Zbb 0x13 0x14 5 (Fixed 7)
bit_table Rev8 = bit_entry (codes "rev8") ZbbZbkb 0x13 0x34 5 (Fixed 24)
bit_table Bclr = bit_entry (codes "bclr") Zbs 0x33 0x24 1 Register
bit_table Bclri = bit_entry (codes "bclri") Zbs 0x13 0x24 1 Amount
bit_table Bext = bit_entry (codes "bext") Zbs 0x33 0x24 5 Register
bit_table Bexti = bit_entry (codes "bexti") Zbs 0x13 0x24 5 Amount
bit_table Binv = bit_entry (codes "binv") Zbs 0x33 0x34 1 Register
bit_table Binvi = bit_entry (codes "binvi") Zbs 0x13 0x34 1 Amount
bit_table Bset = bit_entry (codes "bset") Zbs 0x33 0x14 1 Register
bit_table Bseti = bit_entry (codes "bseti") Zbs 0x13 0x14 1 Amount
bit_table Clmul = bit_entry (codes "clmul") Zbc 0x33 0x05 1 Register
bit_table Clmulh = bit_entry (codes "clmulh") Zbc 0x33 0x05 3 Register
bit_table Clmulr = bit_entry (codes "clmulr") Zbc 0x33 0x05 2 Register
bit_table Pack = bit_entry (codes "pack") Zbkb 0x33 0x04 4 NotX0
bit_table Packh = bit_entry (codes "packh") Zbkb 0x33 0x04 7 Register
bit_table Brev8 = bit_entry (codes "brev8") Zbkb 0x13 0x34 5 (Fixed 7)
bit_table Zip = bit_entry (codes "zip") Zbkb 0x13 0x04 1 (Fixed 15)
bit_table Unzip = bit_entry (codes "unzip") Zbkb 0x13 0x04 5 (Fixed 15)
bit_table CzeroEqz = bit_entry (codes "czero.eqz") Zicond 0x33 0x07 5 Register
bit_table CzeroNez = bit_entry (codes "czero.nez") Zicond 0x33 0x07 7 Register

-- a number in the place of rs2 is that of the table, or not 0
abbrev pub IsOperand : BitOperand → ℕ → Type 0
IsOperand (Fixed n) rs2 = rs2 ≡ n
IsOperand NotX0 rs2 = rs2 ≢ 0
IsOperand _ rs2 = Unit {0}

-- what the fields of a row are, but for the opcode
pub record HasBits (row : BitRow) (f : RType) : Type 0 where
  pub funct7 : f.funct7 ≡ (bit_table row).funct7
  pub funct3 : f.funct3 ≡ (bit_table row).funct3
  pub operand : IsOperand (bit_table row).operand f.rs2

-- the word w is this row with these fields
pub record IsBits (w : ℕ) (row : BitRow) (f : RType) : Type 0 where
  pub in_range : IsInRange (R f)
  pub has : HasBits row f
  pub encoded : w ≡ encode (bit_table row).opcode (R f)
