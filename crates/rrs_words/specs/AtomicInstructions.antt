-- The instructions of extension A on words (RISC-V unprivileged specification, "Zalrsc" and
-- "Zaamo"): lr.w, sc.w and the nine AMOs. All are of format R with the opcode AMO, 0x2f, and the
-- width .w in funct3. Bits 31 to 27, funct5, tell which it is; the two bits below are aq and rl. They
-- order the accesses of several harts, and each of the four combinations is an instruction.
use Rattle.std.specs.Prelude.{◌≡◌, ℕ, ◌/◌, ◌^◌, List, codes}
use Rattle.rrs_instruction.specs.declared.instruction_formats.RType.{RType}
use Rattle.rrs_words.specs.declared.atomics.AtomicRow.{AtomicRow}
use Rattle.rrs_words.specs.declared.atomics.AtomicRow.TheVariants.{LrW, ScW, AmoSwap, AmoAdd, AmoXor, AmoAnd, AmoOr, AmoMin, AmoMax, AmoMinu, AmoMaxu}
use Rattle.rrs_instruction.specs.Encodings.{R, encode, IsInRange}

-- ---- the table

pub record AtomicEntry : Type 0 where
  pub name : List ℕ
  pub funct5 : ℕ

abbrev pub atomic_entry : List ℕ → ℕ → AtomicEntry
atomic_entry name funct5 = record { name = name; funct5 = funct5 }

-- name, funct5
abbrev pub atomic_table : AtomicRow → AtomicEntry
atomic_table LrW = atomic_entry (codes "lr.w") 2
atomic_table ScW = atomic_entry (codes "sc.w") 3
atomic_table AmoSwap = atomic_entry (codes "amoswap.w") 1
atomic_table AmoAdd = atomic_entry (codes "amoadd.w") 0
atomic_table AmoXor = atomic_entry (codes "amoxor.w") 4
atomic_table AmoAnd = atomic_entry (codes "amoand.w") 12
atomic_table AmoOr = atomic_entry (codes "amoor.w") 8
atomic_table AmoMin = atomic_entry (codes "amomin.w") 16
atomic_table AmoMax = atomic_entry (codes "amomax.w") 20
atomic_table AmoMinu = atomic_entry (codes "amominu.w") 24
atomic_table AmoMaxu = atomic_entry (codes "amomaxu.w") 28

-- the word w is this row with these fields: aq and rl are any, and lr.w has 0 in the place of rs2
pub record IsAtomic (w : ℕ) (row : AtomicRow) (f : RType) : Type 0 where
  pub in_range : IsInRange (R f)
  pub width : f.funct3 ≡ 2
  pub funct5 : f.funct7 / 2 ^ 2 ≡ (atomic_table row).funct5
  pub no_operand : row ≡ LrW → f.rs2 ≡ 0
  pub encoded : w ≡ encode 0x2f (R f)
