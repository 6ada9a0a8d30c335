-- What a traced memory says of an access: that the memory that is lent did it, that the same memory
-- is lent still, and what it keeps of the access.
use Rattle.std.specs.Prelude.{◌≡◌, ℕ, Bool, false, if◌then◌else◌, Option, None}
use Rattle.rrs_lib.specs.declared.MemAccessSize.{MemAccessSize}
use Rattle.rrs_lib.specs.Accesses.{Access, Read, Write}
use Rattle.rrs_lib.specs.declared.HartState.{HartState}
use Rattle.rrs_lib.specs.Bytes.{ByteMap}
use Rattle.rrs_lib.specs.Machine.{State, state_of}
use Rattle.rrs_trace.specs.declared.traced.TracedMemory.{TracedMemory}
use Rattle.rrs_trace.specs.Retired.{followed}

-- what an access read, if it is a read
abbrev pub read_by : Access → Option ℕ
read_by (Read address size answer) = answer
read_by (Write address size value answer) = None

-- the first access is the fetch, and the others follow one another
pub record Traces {M : Type 0} (access : Access) (old new : TracedMemory M) : Type 0 where
  pub same_memory : new.memory.ghost_name ≡ old.memory.ghost_name
  pub past_fetch : new.is_fetch ≡ false
  pub insn : new.insn ≡ (if old.is_fetch then read_by access else old.insn)
  pub latest : new.access ≡ (if old.is_fetch then old.access else followed old.access access)

abbrev pub traced_reads : {M : Type 0} → (M → ℕ → MemAccessSize → M → Option ℕ → Type 0)
    → TracedMemory M → ℕ → MemAccessSize → TracedMemory M → Option ℕ → Type 0
traced_reads reads old address size new answer =
    reads old.memory.now address size new.memory.now answer
    × Traces (Read address size answer) old new

abbrev pub traced_writes : {M : Type 0} → (M → ℕ → MemAccessSize → ℕ → M → Bool → Type 0)
    → TracedMemory M → ℕ → MemAccessSize → ℕ → TracedMemory M → Bool → Type 0
traced_writes writes old address size value new answer =
    writes old.memory.now address size value new.memory.now answer
    × Traces (Write address size value answer) old new

-- the state of a hart with a traced memory, whose bytes are those of the memory that is lent
abbrev pub traced_state : {M : Type 0} → (M → ByteMap) → (M → ℕ → Bool)
    → HartState → TracedMemory M → State
traced_state bytes writable hart m =
    state_of hart (bytes m.memory.now) (writable m.memory.now)
