-- What is said of words in a memory, and of a program that adds up words: its words, what holds
-- when it is run, and the sum. Registers go by their numbers.
use Rattle.std.specs.Prelude.{◌≡◌, ◌≢◌, ℕ, zero, suc, ◌+◌, ◌*◌, ◌%◌, ◌<◌, ◌≤◌, List, [], ◌∷◌, length, slice_index, Bool, Option, Some, None, IsSome, IsTrue}
use Rattle.rrs_lib.specs.Table.{IsIllegal}
use Rattle.rrs_lib.specs.Bytes.{ByteMap, little_endian}
use Rattle.rrs_lib.specs.Machine.{State, reg}

-- ---- words in a memory

-- the n bytes from a on are mapped
abbrev pub IsMapped : ByteMap → ℕ → ℕ → Type 0
IsMapped bytes a n = (i : ℕ) → i < n → IsSome (bytes (a + i))

-- the n bytes from a on are writable
abbrev pub IsWritable : (ℕ → Bool) → ℕ → ℕ → Type 0
IsWritable writable a n = (i : ℕ) → i < n → IsTrue (writable (a + i))

-- none of the m addresses from a on is one of the n from b on
abbrev pub AreApart : ℕ → ℕ → ℕ → ℕ → Type 0
AreApart a m b n = (i j : ℕ) → i < m → j < n → a + i ≢ b + j

-- a number, or 0 where there is none
abbrev pub or_zero : Option ℕ → ℕ
or_zero None = 0
or_zero (Some x) = x

-- the word at an address, where its four bytes are mapped
abbrev pub word_at : ByteMap → ℕ → ℕ
word_at bytes a = or_zero (little_endian bytes a 4)

-- the words are one after another from a on
pub record HoldsWords (bytes : ByteMap) (a : ℕ) (words : List ℕ) : Type 0 where
  pub each : (i : ℕ) → i < length words
      → little_endian bytes (a + 4 * i) 4 ≡ Some (slice_index words i)

-- an illegal instruction is at a: a step there raises the exception
pub record HoldsIllegal (bytes : ByteMap) (a : ℕ) : Type 0 where
  pub mapped : IsMapped bytes a 4
  pub outside : IsIllegal (word_at bytes a)

-- ---- the sum of words, by a program at address 0

-- the sum of the n words from a on
abbrev pub sum_of_words : ByteMap → ℕ → ℕ → ℕ
sum_of_words bytes a zero = 0
sum_of_words bytes a (suc n) = word_at bytes a + sum_of_words bytes (a + 4) n

-- the words of the program
abbrev pub sum_loop_program : List ℕ
sum_loop_program =
    0x00000613  -- addi x12, x0, 0
    ∷ 0x00058c63  -- beq x11, x0, 24 bytes on
    ∷ 0x00052683  -- lw x13, 0(x10)
    ∷ 0x00d60633  -- add x12, x12, x13
    ∷ 0x00450513  -- addi x10, x10, 4
    ∷ 0xfff58593  -- addi x11, x11, -1
    ∷ 0xfedff06f  -- jal x0, 20 bytes back
    ∷ []

-- The program is at 0, and an illegal instruction behind it; x10 has the address of as many
-- words as x11 says.
pub record SumLoopStarts (s : State) : Type 0 where
  pub pc : s.pc ≡ 0
  pub program : HoldsWords s.bytes 0 sum_loop_program
  pub behind : HoldsIllegal s.bytes 0x1c
  pub aligned : reg s 10 % 4 ≡ 0
  pub past_program : 0x20 ≤ reg s 10
  pub mapped : IsMapped s.bytes (reg s 10) (4 * reg s 11)
