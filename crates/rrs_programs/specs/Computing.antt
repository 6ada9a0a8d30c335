-- What is said of two programs that compute: the words of each, what holds when one is called, and
-- what it leaves in the memory. Registers go by their numbers: x1 has the address to return to, and
-- x10, x11 and x12 the arguments, as the C calling convention has it.
use Rattle.std.specs.Prelude.{◌≡◌, ◌⊎◌, ℕ, zero, suc, ◌+◌, ◌*◌, ◌%◌, ◌^◌, ◌<◌, ◌≤◌, List, [], ◌∷◌, Some}
use Rattle.rrs_lib.specs.Bytes.{ByteMap, little_endian}
use Rattle.rrs_lib.specs.Machine.{State, reg}
use Rattle.rrs_extra.specs.Programs.{IsMapped, IsWritable, AreApart, HoldsWords, HoldsIllegal}

-- The program is at the program counter, and an illegal instruction where it returns to.
pub record IsCalled (program : List ℕ) (s : State) : Type 0 where
  pub program_there : HoldsWords s.bytes s.pc program
  pub aligned : s.pc % 4 ≡ 0
  pub return_aligned : reg s 1 % 4 ≡ 0
  pub stops : HoldsIllegal s.bytes (reg s 1)

-- ---- the greatest common divisor, as C calls it

-- the words of the program
abbrev pub gcd_program : List ℕ
gcd_program =
    0x00059463  -- bne x11, x0, 8 bytes on
    ∷ 0x00008067  -- jalr x0, 0(x1)
    ∷ 0x02b577b3  -- remu x15, x10, x11
    ∷ 0x00058513  -- addi x10, x11, 0
    ∷ 0x00078593  -- addi x11, x15, 0
    ∷ 0xfedff06f  -- jal x0, 20 bytes back
    ∷ []

-- ---- the copy of words, as C calls it

-- the words of the program
abbrev pub copy_words_program : List ℕ
copy_words_program =
    0x02060063  -- beq x12, x0, 32 bytes on
    ∷ 0x00261613  -- slli x12, x12, 2
    ∷ 0x00c58733  -- add x14, x11, x12
    ∷ 0x0005a783  -- lw x15, 0(x11)
    ∷ 0x00458593  -- addi x11, x11, 4
    ∷ 0x00450513  -- addi x10, x10, 4
    ∷ 0xfef52e23  -- sw x15, -4(x10)
    ∷ 0xfee598e3  -- bne x11, x14, 16 bytes back
    ∷ 0x00008067  -- jalr x0, 0(x1)
    ∷ []

-- x10 has the address of n words to write, x11 of n words to read, and x12 has n. The program, the
-- word at the address to return to and the words to read are apart from those to write.
pub record CopyWordsStarts (s : State) : Type 0 where
  pub called : IsCalled copy_words_program s
  pub to_aligned : reg s 10 % 4 ≡ 0
  pub to_writable : IsWritable s.writable (reg s 10) (4 * reg s 12)
  pub from_aligned : reg s 11 % 4 ≡ 0
  pub from_mapped : IsMapped s.bytes (reg s 11) (4 * reg s 12)
  pub apart_from_source : AreApart (reg s 10) (4 * reg s 12) (reg s 11) (4 * reg s 12)
  pub apart_from_program : AreApart (reg s 10) (4 * reg s 12) s.pc 36
  pub apart_from_return : AreApart (reg s 10) (4 * reg s 12) (reg s 1) 4

-- Each of the n words, a number below 2 ^ 32, that stood from one address on stands from another
-- one on; all other bytes are as before.
pub record CopiesWords (old new : ByteMap) (to from n : ℕ) : Type 0 where
  pub words : (i x : ℕ) → i < n → x < 2 ^ 32
      → little_endian old (from + 4 * i) 4 ≡ Some x → little_endian new (to + 4 * i) 4 ≡ Some x
  pub others : (a : ℕ) → (a < to) ⊎ (to + 4 * n ≤ a) → new a ≡ old a

-- how many steps a copy of n words takes until it has returned
abbrev pub copy_steps : ℕ → ℕ
copy_steps zero = 2
copy_steps (suc n) = 5 * suc n + 4
