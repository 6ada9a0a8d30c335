-- What a step of a hart with a profile retires, in the shape of RVFI, the RISC-V Formal Interface.
-- An instruction of a layer has the registers of its word and the accesses that it makes. A load or
-- a store at any address is one access of all its bytes, as it is in the commit log of Spike. Of a
-- hart that has the compressed instructions an instruction is its 16 bits, or its 32, and one of 16
-- has the registers of the row that it stands for.
use Rattle.std.specs.Prelude.{◌≡◌, ℕ, ◌-◌, ◌^◌, if◌then◌else◌, ◌∷◌, ◌++◌, List, true, false, Option, Some, None, Result, Ok, Err, IfErr}
use Rattle.rrs_instruction.specs.Encodings.{Fields}
use Rattle.rrs_instruction.specs.Table.{Row, table, Decodes, IsIllegal}
use Rattle.rrs_lib.specs.declared.instruction_executor.InstructionException.{InstructionException}
use Rattle.rrs_lib.specs.Machine.{State, Outcome, reg}
use Rattle.rrs_lib.specs.Steps.{StepAnswer, next_word, cleared}
use Rattle.rrs_lib.specs.Accesses.{Access, AccessesOf, fetch}
use Rattle.rrs_words.specs.declared.bits.BitOperand.{BitOperand}
use Rattle.rrs_words.specs.declared.bits.BitOperand.TheVariants.{Register, NotX0}
use Rattle.rrs_words.specs.BitInstructions.{bit_table}
use Rattle.rrs_words.specs.declared.layers.LayerInstruction.{LayerInstruction}
use Rattle.rrs_words.specs.declared.layers.LayerInstruction.TheVariants.{System, Atomic, Bits}
use Rattle.rrs_hart.specs.declared.bytes.ByteAccess.{ByteAccess}
use Rattle.rrs_words.specs.declared.csrs.HartProfile.{HartProfile}
use Rattle.rrs_hart.specs.declared.halves.Encoding.{Encoding}
use Rattle.rrs_hart.specs.Anywhere.{told_anywhere}
use Rattle.rrs_hart.specs.Harts.{Hart, layer_accesses, IsOfProfile, LayerAt, BytesAt, IsKits, TellsBytes, AccessesOfHart}
use Rattle.rrs_hart.specs.Halves.{bits_of, fetched, fetch_reads, StandsFor, IsNoRow, IsLayers, IsIllegalIn, IsCarriedOut, IsNotCarriedOut, AccessesOfHalves, TellsHalves}
use Rattle.rrs_trace.specs.declared.traced.MemoryAccess.{MemoryAccess}
use Rattle.rrs_trace.specs.declared.retired.Retired.{Retired}
use Rattle.rrs_trace.specs.Retired.{no_access, later_access, after_fetch, first_source, second_source, last_of, is_fault}

-- ---- the access

-- a bit for each of n bytes, the lowest ones
abbrev pub byte_mask : ℕ → ℕ
byte_mask n = 2 ^ n - 1

-- a load or a store by bytes as one access of all its bytes
abbrev pub whole_of : ByteAccess → MemoryAccess
whole_of x =
    if x.is_store
    then record {
      addr = x.address;
      rmask = 0;
      wmask = byte_mask x.size;
      rdata = 0;
      wdata = x.value;
    }
    else record {
      addr = x.address;
      rmask = byte_mask x.size;
      wmask = 0;
      rdata = x.value;
      wdata = 0;
    }

-- no load and no store by bytes is at the program counter
abbrev pub IsWhole : HartProfile → State → Type 0
IsWhole p s = (w : ℕ) (row : Row) (f : Fields) (a : ℕ) (o : Outcome) → ¬ BytesAt p s w row f a o

-- and so in a hart that fetches half-words
abbrev pub IsWholeByHalves : HartProfile → State → Type 0
IsWholeByHalves p s = (x : Encoding) (row : Row) (f : Fields)
    → fetched s.bytes s.pc ≡ Ok x → StandsFor x row f → IsNotCarriedOut p row f (cleared s)

-- what is told of a step from s that is Ok: of a load or a store by bytes its access
pub record Tells (p : HartProfile) (s : State) (told : Option ByteAccess) : Type 0 where
  pub by_words : p.compressed ≡ false → TellsBytes p s told
  pub by_halves : p.compressed ≡ true → TellsHalves p s told

-- what is seen of a step from s where it makes none by bytes
pub record Sees (p : HartProfile) (s : Hart) (mem : MemoryAccess) : Type 0 where
  pub by_words : (accesses : List Access) → p.compressed ≡ false
      → AccessesOfHart p s accesses → IsWhole p s.state → mem ≡ after_fetch accesses
  pub by_halves : (later : List Access) → p.compressed ≡ true
      → AccessesOfHalves p s (fetch_reads s.state.bytes s.state.pc ++ later)
      → IsWholeByHalves p s.state → mem ≡ later_access later

-- The load or the store of a step from s: none of a step that raises an exception.
pub record HasAccess (p : HartProfile) (s : Hart) (answer : StepAnswer) (mem : MemoryAccess)
    : Type 0 where
  pub of_fault : IfErr answer (λ e. mem ≡ no_access)
  pub of_kit : (accesses : List Access) → answer ≡ Ok tt
      → IsKits p s.state → AccessesOf s.state accesses → mem ≡ after_fetch accesses
  pub of_layer : (w : ℕ) (i : LayerInstruction) → answer ≡ Ok tt → LayerAt p s.state w i
      → mem ≡ after_fetch (fetch s.state ∷ layer_accesses i (cleared s.state) s.reserved)
  pub by_bytes : (w : ℕ) (row : Row) (f : Fields) (a : ℕ) (o : Outcome) → answer ≡ Ok tt
      → BytesAt p s.state w row f a o
      → (x : ByteAccess) × (told_anywhere (table row).action f (cleared s.state) ≡ Some x)
      × (mem ≡ whole_of x)
  -- in a hart that fetches half-words
  pub of_halves : (later : List Access) → answer ≡ Ok tt → p.compressed ≡ true
      → IsWholeByHalves p s.state
      → AccessesOfHalves p s (fetch_reads s.state.bytes s.state.pc ++ later)
      → mem ≡ later_access later
  pub halves_by_bytes : (x : Encoding) (row : Row) (f : Fields) (a : ℕ) (o : Outcome)
      → answer ≡ Ok tt → p.compressed ≡ true
      → fetched s.state.bytes s.state.pc ≡ Ok x → StandsFor x row f
      → IsCarriedOut p row f (cleared s.state) a o
      → (y : ByteAccess) × (told_anywhere (table row).action f (cleared s.state) ≡ Some y)
      × (mem ≡ whole_of y)

-- ---- the registers

-- the source registers of an instruction of a layer: 0 where it has none
abbrev pub first_of_layer : LayerInstruction → ℕ
first_of_layer (System i) = 0
first_of_layer (Atomic i) = i.fields.rs1
first_of_layer (Bits i) = i.fields.rs1

-- the number in the place of rs2, where it is that of a register
abbrev pub second_of_bits : BitOperand → ℕ → ℕ
second_of_bits Register n = n
second_of_bits NotX0 n = n
second_of_bits _ n = 0

abbrev pub second_of_layer : LayerInstruction → ℕ
second_of_layer (System i) = 0
second_of_layer (Atomic i) = i.fields.rs2
second_of_layer (Bits i) = second_of_bits (bit_table i.row).operand i.fields.rs2

-- the source registers of a word: 0 where there is none, or it is no instruction of the hart
pub record HasSourcesIn (p : HartProfile) (word : Option ℕ) (rs1 rs2 : ℕ) : Type 0 where
  pub of_row : (w : ℕ) (row : Row) (f : Fields) → word ≡ Some w → Decodes w row f
      → (rs1 ≡ first_source f) × (rs2 ≡ second_source f)
  pub of_layer : (w : ℕ) (i : LayerInstruction) → word ≡ Some w → IsIllegal w → IsOfProfile p w i
      → (rs1 ≡ first_of_layer i) × (rs2 ≡ second_of_layer i)
  pub of_illegal : (w : ℕ) → word ≡ Some w → IsIllegal w
      → ((i : LayerInstruction) → ¬ IsOfProfile p w i) → (rs1 ≡ 0) × (rs2 ≡ 0)
  pub of_none : word ≡ None → (rs1 ≡ 0) × (rs2 ≡ 0)

-- those of the row that an encoding is or stands for, or of the instruction of a layer that it is
pub record HasSourcesByHalves (p : HartProfile) (encoding : Result Encoding InstructionException)
    (rs1 rs2 : ℕ) : Type 0 where
  pub of_row : (x : Encoding) (row : Row) (f : Fields) → encoding ≡ Ok x → StandsFor x row f
      → (rs1 ≡ first_source f) × (rs2 ≡ second_source f)
  pub of_layer : (x : Encoding) (i : LayerInstruction)
      → encoding ≡ Ok x → IsNoRow x → IsLayers p x i
      → (rs1 ≡ first_of_layer i) × (rs2 ≡ second_of_layer i)
  pub of_illegal : (x : Encoding) → encoding ≡ Ok x → IsIllegalIn p x → (rs1 ≡ 0) × (rs2 ≡ 0)
  pub of_none : (e : InstructionException) → encoding ≡ Err e → (rs1 ≡ 0) × (rs2 ≡ 0)

-- ---- the instruction

-- the bits of the encoding that was fetched
abbrev pub bits_fetched : Result Encoding InstructionException → Option ℕ
bits_fetched (Ok x) = Some (bits_of x)
bits_fetched (Err e) = None

-- the bits of the instruction at the program counter: of a hart that fetches words the next word
abbrev pub bits_at : HartProfile → State → Option ℕ
bits_at p s = if p.compressed then bits_fetched (fetched s.bytes s.pc) else next_word s

-- ---- the step

-- what a step of the hart from s to t with this answer retires
pub record HartRetires (p : HartProfile) (order : ℕ) (s t : Hart) (answer : StepAnswer)
    (r : Retired) : Type 0 where
  pub order_is : r.order ≡ order
  pub insn_is : r.insn ≡ bits_at p s.state
  pub trap_is : r.trap ≡ is_fault answer
  pub pc_before : r.pc_rdata ≡ s.state.pc
  pub pc_after : r.pc_wdata ≡ t.state.pc
  pub sources : p.compressed ≡ false
      → HasSourcesIn p (next_word s.state) r.rs1_addr r.rs2_addr
  pub halves_sources : p.compressed ≡ true
      → HasSourcesByHalves p (fetched s.state.bytes s.state.pc) r.rs1_addr r.rs2_addr
  pub first_value : r.rs1_rdata ≡ reg s.state r.rs1_addr
  pub second_value : r.rs2_rdata ≡ reg s.state r.rs2_addr
  pub written : t.state.last ≡ last_of r.rd_addr
  pub written_value : r.rd_wdata ≡ reg t.state r.rd_addr
  pub access : HasAccess p s answer r.mem

-- what a step retires that fetches no instruction
abbrev pub unfetched : ℕ → ℕ → Retired
unfetched order pc = record {
  order = order;
  insn = None;
  trap = true;
  pc_rdata = pc;
  pc_wdata = pc;
  rs1_addr = 0;
  rs1_rdata = 0;
  rs2_addr = 0;
  rs2_rdata = 0;
  rd_addr = 0;
  rd_wdata = 0;
  mem = no_access;
}
