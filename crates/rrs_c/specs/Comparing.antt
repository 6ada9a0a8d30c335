-- When a record of a core is the kit's (RVFI, the RISC-V Formal Interface): which fields are
-- compared, and how the kit's are told where a core tells the address of a word.
use Rattle.std.specs.Prelude.{ℕ, ◌-◌, ◌*◌, ◌/◌, ◌%◌, ◌^◌, List, [], ◌∷◌, ◌++◌, Bool, true, not, ◌==◌, ◌&&◌, ◌||◌, if◌then◌else◌}
use Rattle.rrs_c.specs.declared.retired.RrsRetired.{RrsRetired}
use Rattle.rrs_c.specs.declared.comparison.RrsDifference.{RrsDifference}

-- a field: its number, whether it is compared, and what the model and the core have
pub record Field : Type 0 where
  pub number : ℕ
  pub is_compared : Bool
  pub model : ℕ
  pub core : ℕ

abbrev pub field : ℕ → Bool → ℕ → ℕ → Field
field number is_compared model core =
    record { number = number; is_compared = is_compared; model = model; core = core }

-- a field where it is compared and differs, and else what comes after it
abbrev pub or_behind : Field → RrsDifference → RrsDifference
or_behind f behind =
    if f.is_compared && not (f.model == f.core)
    then record { model = f.model; core = f.core; field = f.number } else behind

-- the first of some fields that is compared and differs; number 0 where there is none
abbrev pub first_different : List Field → RrsDifference
first_different [] = record { model = 0; core = 0; field = 0 }
first_different (f ∷ rest) = or_behind f (first_different rest)

-- ---- which fields are compared, and as what

-- A register that is read is compared, but in a step that traps and in fence (opcode 0x0f), where
-- either record may leave it out by 0.
abbrev pub tells_source : RrsRetired → ℕ → ℕ → Bool
tells_source model own other =
    not ((model.trap == 1 || model.insn % 128 == 0x0f) && (own == 0 || other == 0))

-- whether the model loads or stores
abbrev pub accesses : RrsRetired → Bool
accesses model = not (model.mem_rmask == 0 && model.mem_wmask == 0)

-- Where in its word the first byte stands that is accessed, if the core tells the address of the
-- word: then its masks and data are shifted by so many bytes. Else 0.
abbrev pub place_in_word : Bool → RrsRetired → ℕ
place_in_word by_words model = if by_words then model.mem_addr % 4 else 0

-- the bytes of a mask of the model, of data that a core shifts by so many bytes
abbrev pub bytes_told : ℕ → ℕ → ℕ → ℕ
bytes_told mask place value =
    if mask == 1 then value / 256 ^ place % 256 else
    (if mask == 3 then value / 256 ^ place % 65536 else value / 256 ^ place)

-- ---- the fields, in the order of rrs.h

abbrev pub step_fields : RrsRetired → RrsRetired → List Field
step_fields model core =
    field 1 true model.order core.order
    ∷ field 2 (model.fetched == 1) model.insn core.insn
    ∷ field 3 true model.trap core.trap
    ∷ field 4 true model.pc_rdata core.pc_rdata
    ∷ field 5 true model.pc_wdata core.pc_wdata
    ∷ []

abbrev pub source_fields : RrsRetired → RrsRetired → List Field
source_fields model core =
    field 6 (tells_source model model.rs1_addr core.rs1_addr) model.rs1_addr core.rs1_addr
    ∷ field 7 (tells_source model model.rs1_addr core.rs1_addr) model.rs1_rdata core.rs1_rdata
    ∷ field 8 (tells_source model model.rs2_addr core.rs2_addr) model.rs2_addr core.rs2_addr
    ∷ field 9 (tells_source model model.rs2_addr core.rs2_addr) model.rs2_rdata core.rs2_rdata
    ∷ []

abbrev pub written_fields : RrsRetired → RrsRetired → List Field
written_fields model core =
    field 10 true model.rd_addr core.rd_addr ∷ field 11 true model.rd_wdata core.rd_wdata ∷ []

abbrev pub memory_fields : Bool → RrsRetired → RrsRetired → List Field
memory_fields by_words model core =
    field 12 (accesses model) (model.mem_addr - place_in_word by_words model) core.mem_addr
    ∷ field 13 true (model.mem_rmask * 2 ^ place_in_word by_words model) core.mem_rmask
    ∷ field 14 true (model.mem_wmask * 2 ^ place_in_word by_words model) core.mem_wmask
    ∷ field 15 (not (model.mem_rmask == 0)) model.mem_rdata
    (bytes_told model.mem_rmask (place_in_word by_words model) core.mem_rdata)
    ∷ field 16 (not (model.mem_wmask == 0)) model.mem_wdata
    (bytes_told model.mem_wmask (place_in_word by_words model) core.mem_wdata)
    ∷ []

-- the fields of a record, where the core tells the addresses of words or those of first bytes
abbrev pub record_fields : Bool → RrsRetired → RrsRetired → List Field
record_fields by_words model core =
    step_fields model core ++ source_fields model core ++ written_fields model core
    ++ memory_fields by_words model core
