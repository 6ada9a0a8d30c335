-- A console, with the numbers of calls of Linux: a7 has the number, and a0 takes the answer. 93
-- ends the program with the status in a0; 64 writes the byte at the address in a1, where it is
-- mapped; each other call answers that there is none.
use Rattle.std.specs.Prelude.{◌≡◌, ◌≢◌, ℕ, List, [], ◌∷◌, Option, Some, None, pos, neg_ℤ}
use Rattle.rrs_lib.specs.declared.MemAccessSize.TheVariants.{Byte}
use Rattle.rrs_lib.specs.Machine.{State, reg, put}
use Rattle.rrs_lib.specs.Accesses.{Access, read_in}
use Rattle.rrs_lib.specs.Bytes.{little_endian}

-- the number of the call
abbrev pub call_number : State → ℕ
call_number s = reg s 17

-- One call, in one of four cases: from the byte that was written last and the state s to the byte
-- that is now the last and the state t.
pub data Serves (last : ℕ) (s : State) (last' : ℕ) (t : State) (accesses : List Access)
    (answer : Option ℕ) : Type 0 where
  Exits :
      call_number s ≡ 93
      → answer ≡ Some (reg s 10) → last' ≡ last → t ≡ s → accesses ≡ []
      → Serves last s last' t accesses answer
  Puts : (byte : ℕ)
      → call_number s ≡ 64 → little_endian s.bytes (reg s 11) 1 ≡ Some byte
      → answer ≡ None → last' ≡ byte → t ≡ put s 10 (pos 1)
      → accesses ≡ read_in s (reg s 11) Byte ∷ []
      → Serves last s last' t accesses answer
  HasBadAddress :
      call_number s ≡ 64 → little_endian s.bytes (reg s 11) 1 ≡ None
      → answer ≡ None → last' ≡ last → t ≡ put s 10 (neg_ℤ (pos 14))
      → accesses ≡ read_in s (reg s 11) Byte ∷ []
      → Serves last s last' t accesses answer
  IsUnknown :
      call_number s ≢ 93 → call_number s ≢ 64
      → answer ≡ None → last' ≡ last → t ≡ put s 10 (neg_ℤ (pos 38))
      → accesses ≡ []
      → Serves last s last' t accesses answer
