-- The names that C is given: those of the rows of the table and of the instructions of the layers, the
-- kinds of exceptions, the registers in the ABI (RISC-V ELF psABI specification, "Integer Register Convention"), and the fields of a
-- record (RVFI, the RISC-V Formal Interface).
use Rattle.std.specs.Prelude.{◌≡◌, ◌<◌, ℕ, zero, suc, List, [], ◌∷◌, length, Option, Some, None, codes}
use Rattle.std.specs.Borrow.{Bor}
use Rattle.rrs_lib.specs.Table.{Row, table}
use Rattle.rrs_words.specs.declared.atomics.AtomicRow.{AtomicRow}
use Rattle.rrs_words.specs.declared.instructions.SystemRow.{SystemRow}
use Rattle.rrs_words.specs.AtomicInstructions.{atomic_table}
use Rattle.rrs_words.specs.declared.bits.BitRow.{BitRow}
use Rattle.rrs_words.specs.BitInstructions.{bit_table}
use Rattle.rrs_words.specs.SystemInstructions.{system_table}
use Rattle.rrs_words.specs.Layers.{system_number, atomic_number, bit_number}
use Rattle.rrs_c.specs.Buffers.{with_text}

-- a name is put at the front of a buffer, with a 0 after it, where it has room for both, and its
-- length is told; where there is no name the length is 0 and the buffer stays
abbrev pub PutsName : Option (List ℕ) → List ℕ → List ℕ → ℕ → Type 0
PutsName (Some name) old new told = (told ≡ length name) × (new ≡ with_text name old)
PutsName None old new told = (told ≡ 0) × (new ≡ old)

-- the name of the row, or of the instruction of a layer, that has this number; other numbers have none
pub record NamesRow (number : ℕ) (name : Option (List ℕ)) : Type 0 where
  pub of_row : (row : Row) → number ≡ (table row).number → name ≡ Some (table row).name
  pub of_system : (row : SystemRow) → number ≡ system_number row
      → name ≡ Some (system_table row).name
  pub of_atomic : (row : AtomicRow) → number ≡ atomic_number row
      → name ≡ Some (atomic_table row).name
  pub of_bits : (row : BitRow) → number ≡ bit_number row → name ≡ Some (bit_table row).name
  pub zero : number ≡ 0 → name ≡ None
  pub above : 107 < number → name ≡ None

-- the name of a row is put into a buffer
pub record PutsRowName (number : ℕ) (old new : List ℕ) (told : ℕ) : Type 0 where
  pub name : Option (List ℕ)
  pub names : NamesRow number name
  pub puts : PutsName name old new told

-- the name of this number in a list
abbrev pub named : List (List ℕ) → ℕ → Option (List ℕ)
named [] n = None
named (name ∷ rest) zero = Some name
named (name ∷ rest) (suc n) = named rest n

-- the kinds of exceptions, from 0 on
abbrev pub fault_names : List (List ℕ)
fault_names =
    codes "no exception" ∷ codes "illegal instruction" ∷ codes "fetch access fault"
    ∷ codes "load access fault" ∷ codes "store access fault" ∷ codes "misaligned address"
    ∷ codes "environment call" ∷ codes "breakpoint" ∷ []

-- the registers, from x0 on
abbrev pub register_names : List (List ℕ)
register_names =
    codes "zero" ∷ codes "ra" ∷ codes "sp" ∷ codes "gp" ∷ codes "tp" ∷ codes "t0" ∷ codes "t1"
    ∷ codes "t2" ∷ codes "s0" ∷ codes "s1" ∷ codes "a0" ∷ codes "a1" ∷ codes "a2" ∷ codes "a3"
    ∷ codes "a4" ∷ codes "a5" ∷ codes "a6" ∷ codes "a7" ∷ codes "s2" ∷ codes "s3" ∷ codes "s4"
    ∷ codes "s5" ∷ codes "s6" ∷ codes "s7" ∷ codes "s8" ∷ codes "s9" ∷ codes "s10"
    ∷ codes "s11" ∷ codes "t3" ∷ codes "t4" ∷ codes "t5" ∷ codes "t6" ∷ []

-- the fields of a record, in the order of rrs.h, from 1 on; 0 is that no field differs
abbrev pub field_names : List (List ℕ)
field_names =
    codes "same" ∷ codes "order" ∷ codes "insn" ∷ codes "trap" ∷ codes "pc_rdata"
    ∷ codes "pc_wdata" ∷ codes "rs1_addr" ∷ codes "rs1_rdata" ∷ codes "rs2_addr"
    ∷ codes "rs2_rdata" ∷ codes "rd_addr" ∷ codes "rd_wdata" ∷ codes "mem_addr"
    ∷ codes "mem_rmask" ∷ codes "mem_wmask" ∷ codes "mem_rdata" ∷ codes "mem_wdata" ∷ []

-- ---- of the code

-- the bytes of a text that was found, if one was
abbrev pub bytes_of : Option (Bor (List ℕ)) → Option (List ℕ)
bytes_of None = None
bytes_of (Some text) = Some text.now
