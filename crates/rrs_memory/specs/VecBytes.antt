-- What a VecMemory means: its words one after another from address 0 on, each as four bytes, lowest
-- first.
use Rattle.std.specs.Prelude.{◌≡◌, ◌≢◌, ℕ, ◌*◌, ◌/◌, ◌%◌, ◌^◌, Bool, ◌&&◌, nat_lt, if◌then◌else◌, List, length, slice_index, Option, Some, None, [], ◌∷◌, vec_len, vec_capacity}
use Rattle.std.specs.Bool.{OnTrue, OnFalse}
use Rattle.rrs_memory.specs.declared.MemAccessSize.{MemAccessSize}
use Rattle.rrs_memory.specs.declared.memories.VecMemory.{VecMemory}
use Rattle.rrs_memory.specs.Bytes.{ByteMap, width, store}

-- an address below 2 ^ 32 that lies in the words
abbrev pub lies_in_words : List ℕ → ℕ → Bool
lies_in_words words a = nat_lt a (4 * length words) && nat_lt a (2 ^ 32)

-- byte a is byte a % 4 of word a / 4
abbrev pub bytes_of_words : List ℕ → ByteMap
bytes_of_words words a =
    if lies_in_words words a
    then Some (slice_index words (a / 4) / 256 ^ (a % 4) % 256) else None

-- the bytes of a VecMemory; all of them are writable; its layout is the number of its words
abbrev pub vec_bytes : VecMemory → ByteMap
vec_bytes m = bytes_of_words m.mem.items

abbrev pub vec_writable : VecMemory → ℕ → Bool
vec_writable m = lies_in_words m.mem.items

abbrev pub vec_layout : VecMemory → List ℕ
vec_layout m = vec_len m.mem ∷ []

-- a read leaves the words
abbrev pub vec_reads : VecMemory → ℕ → MemAccessSize → VecMemory → Option ℕ → Type 0
vec_reads old address size new answer = new ≡ old

-- a write that is granted stores its bytes, in one word; one that is refused leaves the words; and
-- the number of words stays, with the room for them
pub record VecWrites (old : VecMemory) (address : ℕ) (size : MemAccessSize) (value : ℕ)
    (new : VecMemory) (answer : Bool) : Type 0 where
  pub written : OnTrue answer (vec_bytes new ≡ store (vec_bytes old) address (width size) value)
  pub refused : OnFalse answer (new.mem.items ≡ old.mem.items)
  pub length_kept : length new.mem.items ≡ length old.mem.items
  pub room_kept : vec_capacity new.mem ≡ vec_capacity old.mem
  pub others_kept : (i : ℕ) → i ≢ address / 4
      → slice_index new.mem.items i ≡ slice_index old.mem.items i
