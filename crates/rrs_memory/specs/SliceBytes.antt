-- What a SliceMemory means: words that are lent, one after another from a base on, each as four
-- bytes, lowest first. Addresses end at 2 ^ 32.
use Rattle.std.specs.Prelude.{◌≡◌, ℕ, ◌-◌, ◌%◌, ◌^◌, Bool, false, ◌&&◌, nat_le, nat_lt, if◌then◌else◌, List, [], ◌∷◌, length, Option, None}
use Rattle.std.specs.Bool.{OnTrue, OnFalse}
use Rattle.rrs_memory.specs.declared.MemAccessSize.{MemAccessSize}
use Rattle.rrs_memory.specs.declared.memories.slice.SliceMemory.{SliceMemory}
use Rattle.rrs_memory.specs.Bytes.{ByteMap, width, store}
use Rattle.rrs_memory.specs.VecBytes.{bytes_of_words, lies_in_words}

-- the address of the word in which an address lies
abbrev pub word_start : ℕ → ℕ
word_start address = address - address % 4

-- an address at the word of the base or past it
abbrev pub is_from : ℕ → ℕ → Bool
is_from base a = nat_le (word_start base) a && nat_lt a (2 ^ 32)

-- the words have there the byte that they would have at the distance from the base, if they began
-- at 0
abbrev pub bytes_from : ℕ → List ℕ → ByteMap
bytes_from base words a =
    if is_from base a then bytes_of_words words (a - word_start base) else None

abbrev pub lies_from : ℕ → List ℕ → ℕ → Bool
lies_from base words a =
    if is_from base a then lies_in_words words (a - word_start base) else false

-- the bytes of a SliceMemory; all of them are writable; its layout is the base and the number of
-- its words
abbrev pub slice_bytes : SliceMemory → ByteMap
slice_bytes m = bytes_from m.base m.words.now

abbrev pub slice_writable : SliceMemory → ℕ → Bool
slice_writable m = lies_from m.base m.words.now

abbrev pub slice_layout : SliceMemory → List ℕ
slice_layout m = m.base ∷ length m.words.now ∷ []

-- the same words are lent still, as many, from the same base
pub record StaysLent (old new : SliceMemory) : Type 0 where
  pub same_words : new.words.ghost_name ≡ old.words.ghost_name
  pub same_base : new.base ≡ old.base
  pub length_kept : length new.words.now ≡ length old.words.now

-- a read leaves the whole value
abbrev pub slice_reads : SliceMemory → ℕ → MemAccessSize → SliceMemory → Option ℕ → Type 0
slice_reads old address size new answer = new ≡ old

-- a write that is granted stores its bytes, and one that is refused leaves the whole value
pub record SliceWrites (old : SliceMemory) (address : ℕ) (size : MemAccessSize) (value : ℕ)
    (new : SliceMemory) (answer : Bool) : Type 0 where
  pub written : OnTrue answer (slice_bytes new ≡ store (slice_bytes old) address (width size) value)
  pub refused : OnFalse answer (new ≡ old)
  pub lent : StaysLent old new
