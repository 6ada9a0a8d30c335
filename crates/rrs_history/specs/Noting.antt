-- What a memory that notes says of an access: which accesses the memory that is lent made, and that
-- the bytes that are noted take a write back.
use Rattle.std.specs.Prelude.{◌≡◌, ℕ, Bool, Option}
use Rattle.std.specs.Bool.{OnTrue, OnFalse}
use Rattle.rrs_lib.specs.declared.MemAccessSize.{MemAccessSize}
use Rattle.rrs_lib.specs.declared.HartState.{HartState}
use Rattle.rrs_lib.specs.Bytes.{ByteMap, width, little_endian}
use Rattle.rrs_lib.specs.Machine.{State, state_of}
use Rattle.rrs_history.specs.Changes.{stored_back}
use Rattle.rrs_history.specs.declared.noting.NotingMemory.{NotingMemory}
use Rattle.rrs_history.specs.declared.noting.Replaced.{Replaced}

-- a read of the bytes that are there, and the write
pub record ReadsAndWrites {M : Type 0} (bytes : M → ByteMap)
    (reads : M → ℕ → MemAccessSize → M → Option ℕ → Type 0)
    (writes : M → ℕ → MemAccessSize → ℕ → M → Bool → Type 0)
    (old : M) (address : ℕ) (size : MemAccessSize) (value : ℕ) (new : M) (answer : Bool)
    : Type 0 where
  pub between : M
  pub read : reads old address size between (little_endian (bytes old) address (width size))
  pub written : writes between address size value new answer

-- the same memory is lent, with the same bytes, and the same is noted
pub record Stays {M : Type 0} (bytes : M → ByteMap) (writable : M → ℕ → Bool)
    (old new : NotingMemory M) : Type 0 where
  pub same_memory : new.memory.ghost_name ≡ old.memory.ghost_name
  pub bytes_kept : bytes new.memory.now ≡ bytes old.memory.now
  pub writable_kept : writable new.memory.now ≡ writable old.memory.now
  pub replaced_kept : new.replaced ≡ old.replaced

-- Of two maps: what is replaced, written back where that is allowed, leads from the new one to the
-- old one.
abbrev pub AreReplaced : Replaced → (ℕ → Bool) → ByteMap → ByteMap → Type 0
AreReplaced replaced writable old new =
    stored_back replaced.size replaced.address replaced.bytes writable new ≡ old

-- the same memory is lent, and what is noted takes the write back
pub record TakesBack {M : Type 0} (bytes : M → ByteMap) (writable : M → ℕ → Bool)
    (old new : NotingMemory M) : Type 0 where
  pub same_memory : new.memory.ghost_name ≡ old.memory.ghost_name
  pub replaced : AreReplaced new.replaced
      (writable new.memory.now) (bytes old.memory.now) (bytes new.memory.now)

abbrev pub noting_reads : {M : Type 0} → (M → ByteMap) → (M → ℕ → Bool)
    → (M → ℕ → MemAccessSize → M → Option ℕ → Type 0)
    → NotingMemory M → ℕ → MemAccessSize → NotingMemory M → Option ℕ → Type 0
noting_reads bytes writable reads old address size new answer =
    reads old.memory.now address size new.memory.now answer × Stays bytes writable old new

abbrev pub noting_writes : {M : Type 0} → (M → ByteMap) → (M → ℕ → Bool)
    → (M → ℕ → MemAccessSize → M → Option ℕ → Type 0)
    → (M → ℕ → MemAccessSize → ℕ → M → Bool → Type 0)
    → NotingMemory M → ℕ → MemAccessSize → ℕ → NotingMemory M → Bool → Type 0
noting_writes bytes writable reads writes old address size value new answer =
    ReadsAndWrites bytes reads writes old.memory.now address size value new.memory.now answer
    × OnTrue answer (TakesBack bytes writable old new)
    × OnFalse answer (Stays bytes writable old new)

-- the state of a hart with a memory that notes, whose bytes are those of the memory that is lent
abbrev pub noting_state : {M : Type 0} → (M → ByteMap) → (M → ℕ → Bool)
    → HartState → NotingMemory M → State
noting_state bytes writable hart m =
    state_of hart (bytes m.memory.now) (writable m.memory.now)
