-- What is printed of the run of a reader's bytes, whatever lines are printed of it.
use Rattle.std.specs.Prelude.{ℕ, List, ◌++◌, replicate, Option, None, Ok}
use Rattle.std.specs.Io.KnownBytes.{Appends}
use Rattle.rrs_lib.specs.Bytes.{ByteMap}
use Rattle.rrs_lib.specs.Machine.{State}
use Rattle.rrs_lib.specs.VecBytes.{bytes_of_words, lies_in_words}
use Rattle.rrs_lib.specs.Loading.{Loads}

-- lines of this kind were appended to a writer's bytes, where these are known
pub record AppendsLines (AreLines : List ℕ → Type 0) (before after : Option (List ℕ)) : Type 0 where
  pub lines : List ℕ
  pub are_lines : AreLines lines
  pub appended : Appends before after lines

-- a beginning of lines of this kind: none of them, some, or all
abbrev pub IsBeginning : (List ℕ → Type 0) → List ℕ → Type 0
IsBeginning AreLines begun = (rest : List ℕ) × AreLines (begun ++ rest)

-- ---- the run of a reader's bytes

-- the words of a new memory
abbrev pub zero_words : ℕ → List ℕ
zero_words count = replicate count 0

-- a hart with these registers from x1 on, at address 0 of a memory of so many words, with these
-- bytes
abbrev pub start_of : ℕ → List ℕ → ByteMap → State
start_of count registers bytes = record {
  registers = registers;
  pc = 0;
  last = None;
  bytes = bytes;
  writable = lies_in_words (zero_words count);
}

-- The bytes of a reader are loaded at address 0 of 16,384 words, and lines of this kind are printed
-- of the run that starts there with all registers 0, and nothing else.
pub record PrintsOfRun (AreLines : State → List ℕ → Type 0)
    (input rest before after : Option (List ℕ)) : Type 0 where
  pub bytes : ByteMap
  pub loaded : Loads input rest (bytes_of_words (zero_words 16384)) bytes
      (lies_in_words (zero_words 16384)) 0 (Ok tt)
  pub printed : AppendsLines (AreLines (start_of 16384 (replicate 31 0) bytes)) before after
