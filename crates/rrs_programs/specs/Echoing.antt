-- A program that writes all that it reads, as gcc makes it. Registers go by their numbers: x10 and
-- x11 have the arguments, as the C calling convention has it.
use Rattle.std.specs.Prelude.{◌≡◌, ℕ, ◌+◌, ◌*◌, ◌%◌, ◌<◌, ◌≤◌, List, [], ◌∷◌}
use Rattle.rrs_lib.specs.Machine.{State, reg}
use Rattle.rrs_extra.specs.Programs.{HoldsWords, IsWritable, AreApart}

-- the words of the program
abbrev pub echo_program : List ℕ
echo_program =
    0x00050793  -- addi x15, x10, 0
    ∷ 0x00058713  -- addi x14, x11, 0
    ∷ 0x00000513  -- addi x10, x0, 0
    ∷ 0x00078593  -- addi x11, x15, 0
    ∷ 0x00070613  -- addi x12, x14, 0
    ∷ 0x03f00893  -- addi x17, x0, 63
    ∷ 0x00000073  -- ecall
    ∷ 0x00050613  -- addi x12, x10, 0
    ∷ 0x00a04c63  -- blt x0, x10, 24 bytes on
    ∷ 0x00000513  -- addi x10, x0, 0
    ∷ 0x00000593  -- addi x11, x0, 0
    ∷ 0x00000613  -- addi x12, x0, 0
    ∷ 0x05d00893  -- addi x17, x0, 93
    ∷ 0x00000073  -- ecall
    ∷ 0x00100513  -- addi x10, x0, 1
    ∷ 0x04000893  -- addi x17, x0, 64
    ∷ 0x00000073  -- ecall
    ∷ 0xfc5ff06f  -- jal x0, 60 bytes back
    ∷ []

-- The program is at the program counter; x10 has the address of a buffer, and x11 its size. The
-- buffer is not empty, and is apart from the program.
pub record EchoStarts (s : State) : Type 0 where
  pub program_there : HoldsWords s.bytes s.pc echo_program
  pub aligned : s.pc % 4 ≡ 0
  pub buffer_writable : IsWritable s.writable (reg s 10) (reg s 11)
  pub not_empty : 0 < reg s 11
  pub apart_from_program : AreApart (reg s 10) (reg s 11) s.pc 72

-- so many rounds, of so many bytes each but perhaps the last, are those that take all the bytes
pub record TakesRounds (bytes each rounds : ℕ) : Type 0 where
  pub enough : bytes ≤ rounds * each
  pub needed : rounds * each < bytes + each
