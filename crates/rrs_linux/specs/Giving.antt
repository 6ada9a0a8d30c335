-- What a buffer is given of bytes that are known, those of a known input among them (read(2)):
-- which of them, by which accesses of the memory, and what the call answers.
use Rattle.std.specs.Prelude.{◌≡◌, ℕ, ◌+◌, ◌^◌, ◌<◌, ◌≤◌, min, Bool, false, List, [], ◌∷◌, ◌++◌, length}
use Rattle.rrs_lib.specs.Bytes.{ByteMap}
use Rattle.rrs_lib.specs.AccessLists.{Access}
use Rattle.rrs_lib.specs.Loading.{Loaded, byte_writes}
use Rattle.rrs_linux.specs.Requests.{error}
use Rattle.rrs_linux.specs.Transfers.{counted, most_bytes}

-- How it ended that a text was given to a buffer at a, of the bytes that were left: the accesses,
-- and the answer.
pub data GivingEnds (writable : ℕ → Bool) (a count : ℕ) (left text : List ℕ)
    (accesses : List Access) (answer : ℕ) : Type 0 where
  -- as many bytes are given as there are and were asked for, or as one call reads
  IsWhole :
      a + count ≤ 2 ^ 32 → length text ≡ min (min count most_bytes) (length left)
      → accesses ≡ byte_writes writable a text → answer ≡ length text
      → GivingEnds writable a count left text accesses answer
  -- the next address is not writable: the byte for it is the next still
  IsRefused : (byte : ℕ) (rest : List ℕ)
      → a + count ≤ 2 ^ 32 → length text < min count most_bytes
      → left ≡ text ++ byte ∷ rest → writable (a + length text) ≡ false
      → accesses ≡ byte_writes writable a (text ++ byte ∷ [])
      → answer ≡ counted (length text) (error 14)
      → GivingEnds writable a count left text accesses answer
  -- the buffer passes the last address
  PassesEnd :
      2 ^ 32 < a + count → text ≡ [] → accesses ≡ [] → answer ≡ error 14
      → GivingEnds writable a count left text accesses answer

-- The next bytes are given to a buffer, in order, from its first on, and all others are left.
pub record GivesText (writable : ℕ → Bool) (bytes bytes' : ByteMap) (a count : ℕ)
    (left left' : List ℕ) (answer : ℕ) (accesses : List Access) : Type 0 where
  pub text : List ℕ
  pub loaded : Loaded bytes bytes' writable a text
  pub consumed : left ≡ text ++ left'
  pub ended : GivingEnds writable a count left text accesses answer
