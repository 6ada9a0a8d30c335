-- What a step retires, in the shape of RVFI, the RISC-V Formal Interface: the word, the pc before
-- and after, the source registers with what they had, the register that was written with what it
-- has, and the load or the store.
use Rattle.std.specs.Prelude.{◌≡◌, ℕ, zero, suc, ◌-◌, ◌%◌, ◌^◌, ◌<◌, List, [], ◌∷◌, Bool, true, false, Option, Some, None, Ok, Err, IfSome}
use Rattle.rrs_lib.specs.declared.MemAccessSize.{MemAccessSize}
use Rattle.rrs_lib.specs.Encodings.{Fields, R, I, IShamt, S, B, U, J}
use Rattle.rrs_lib.specs.Table.{Row, Decodes, IsIllegal}
use Rattle.rrs_lib.specs.Bytes.{width}
use Rattle.rrs_lib.specs.Machine.{State, reg}
use Rattle.rrs_lib.specs.Steps.{StepAnswer, next_word}
use Rattle.rrs_lib.specs.Accesses.{Access, Read, Write, AccessesOf}
use Rattle.rrs_trace.specs.declared.traced.MemoryAccess.{MemoryAccess}
use Rattle.rrs_trace.specs.declared.retired.Retired.{Retired}
use Rattle.rrs_trace.specs.declared.retired.Sources.{Sources}

-- ---- the load or the store

abbrev pub no_access : MemoryAccess
no_access = record { addr = 0; rmask = 0; wmask = 0; rdata = 0; wdata = 0 }

-- a bit for each byte, the lowest ones
abbrev pub mask : MemAccessSize → ℕ
mask size = 2 ^ width size - 1

-- an access that was granted; one that was refused is none
abbrev pub log_of : Access → MemoryAccess
log_of (Read a size None) = no_access
log_of (Read a size (Some v)) =
    record { addr = a; rmask = mask size; wmask = 0; rdata = v; wdata = 0 }
log_of (Write a size v false) = no_access
log_of (Write a size v true) =
    record { addr = a; rmask = 0; wmask = mask size; rdata = 0; wdata = v % 256 ^ width size }

-- An access that follows another: a write that was granted goes with the read before it, as that of
-- an AMO does, and of others the last is kept.
abbrev pub followed : MemoryAccess → Access → MemoryAccess
followed before (Write a size v true) =
    record (log_of (Write a size v true)) { rmask = before.rmask; rdata = before.rdata }
followed before access = log_of access

-- Of the accesses of a step those that are no fetch: one in a step of the kit, and a read and then
-- a write in an AMO.
abbrev pub later_access : List Access → MemoryAccess
later_access (access ∷ []) = log_of access
later_access (first ∷ second ∷ []) = followed (log_of first) second
later_access _ = no_access

-- where the first access is the fetch
abbrev pub after_fetch : List Access → MemoryAccess
after_fetch [] = no_access
after_fetch (fetched ∷ later) = later_access later

-- ---- the registers

-- the source registers of the fields, by their format: 0 where it has none
abbrev pub first_source : Fields → ℕ
first_source (R f) = f.rs1
first_source (I f) = f.rs1
first_source (IShamt f) = f.rs1
first_source (S f) = f.rs1
first_source (B f) = f.rs1
first_source (U f) = 0
first_source (J f) = 0

abbrev pub second_source : Fields → ℕ
second_source (R f) = f.rs2
second_source (S f) = f.rs2
second_source (B f) = f.rs2
second_source _ = 0

-- the source registers of a word: 0 where there is no word, or it is no row
pub record HasSources (word : Option ℕ) (rs1 rs2 : ℕ) : Type 0 where
  pub of_row : (w : ℕ) (row : Row) (f : Fields) → word ≡ Some w → Decodes w row f
      → (rs1 ≡ first_source f) × (rs2 ≡ second_source f)
  pub of_none : IfSome word IsIllegal → (rs1 ≡ 0) × (rs2 ≡ 0)

-- they are registers, with the values that these have in a state
pub record HasValues (s : State) (sources : Sources) : Type 0 where
  pub first : sources.rs1_rdata ≡ reg s sources.rs1_addr
  pub second : sources.rs2_rdata ≡ reg s sources.rs2_addr
  pub first_low : sources.rs1_addr < 32
  pub second_low : sources.rs2_addr < 32

-- the register that was written last, where 0 says that none was
abbrev pub last_of : ℕ → Option ℕ
last_of zero = None
last_of (suc r) = Some (suc r)

-- ---- the step

abbrev pub is_fault : StepAnswer → Bool
is_fault (Ok u) = false
is_fault (Err e) = true

-- the register numbers are those of registers
abbrev pub HasRegisterNumbers : Retired → Type 0
HasRegisterNumbers r = (r.rs1_addr < 32) × (r.rs2_addr < 32) × (r.rd_addr < 32)

-- what a step from s to t with this answer retires
pub record Retires (order : ℕ) (s t : State) (answer : StepAnswer) (r : Retired) : Type 0 where
  pub order_is : r.order ≡ order
  pub insn_is : r.insn ≡ next_word s
  pub trap_is : r.trap ≡ is_fault answer
  pub pc_before : r.pc_rdata ≡ s.pc
  pub pc_after : r.pc_wdata ≡ t.pc
  pub sources : HasSources (next_word s) r.rs1_addr r.rs2_addr
  pub first_value : r.rs1_rdata ≡ reg s r.rs1_addr
  pub second_value : r.rs2_rdata ≡ reg s r.rs2_addr
  pub written : t.last ≡ last_of r.rd_addr
  pub written_value : r.rd_wdata ≡ reg t r.rd_addr
  pub access : (accesses : List Access) → AccessesOf s accesses → r.mem ≡ after_fetch accesses
