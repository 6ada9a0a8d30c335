-- What the memory of a process means: bytes from its first address to its end, which are 0 until
-- they are written. Below the split they are those of words that go upward from the first address,
-- and from there on those of words that go downward from the end.
use Rattle.std.specs.Prelude.{◌≡◌, ℕ, ◌-◌, ◌+◌, ◌*◌, ◌/◌, ◌%◌, Bool, nat_lt, if◌then◌else◌, List, [], ◌∷◌, Option, Some, None}
use Rattle.std.specs.Bool.{OnTrue, OnFalse}
use Rattle.rrs_memory.specs.declared.MemAccessSize.{MemAccessSize}
use Rattle.rrs_memory.specs.Bytes.{ByteMap, width, store}
pub use Rattle.rrs_elf.specs.Loading.{lies_between}
use Rattle.rrs_fast.specs.ZeroWords.{bytes_or_zero}
use Rattle.rrs_exec.specs.declared.process_memory.ProcessMemory.{ProcessMemory}

-- zeros from the first address to the end
abbrev pub zeros_between : ℕ → ℕ → ByteMap
zeros_between base end a = if lies_between base end a then Some 0 else None

-- byte a % 4 of the word of an address, which is the first where the address lies in the four
-- before the end
abbrev pub place_below : ℕ → ℕ → ℕ
place_below end a = 4 * ((end - 1 - a) / 4) + a % 4

-- the byte at an address of words that go upward from a base to a split, and of words that go
-- downward to there from an end
abbrev pub bytes_of_parts : ℕ → ℕ → ℕ → List ℕ → List ℕ → ByteMap
bytes_of_parts base split end low high a =
    if nat_lt a split then bytes_or_zero low (a - base)
    else bytes_or_zero high (place_below end a)

abbrev pub process_writable : ProcessMemory → ℕ → Bool
process_writable m = lies_between m.base m.end

abbrev pub process_bytes : ProcessMemory → ByteMap
process_bytes m a =
    if lies_between m.base m.end a
    then bytes_of_parts m.base m.split m.end m.low.words.mem.items m.high.words.mem.items a
    else None

-- the bounds
abbrev pub process_layout : ProcessMemory → List ℕ
process_layout m = m.base ∷ m.split ∷ m.end ∷ []

-- a read leaves the whole value
abbrev pub process_reads : ProcessMemory → ℕ → MemAccessSize → ProcessMemory → Option ℕ → Type 0
process_reads old address size new answer = new ≡ old

-- a write that is granted stores its bytes, and one that is refused leaves the whole value
pub record ProcessWrites (old : ProcessMemory) (address : ℕ) (size : MemAccessSize) (value : ℕ)
    (new : ProcessMemory) (answer : Bool) : Type 0 where
  pub written : OnTrue answer
      (process_bytes new ≡ store (process_bytes old) address (width size) value)
  pub refused : OnFalse answer (new ≡ old)
