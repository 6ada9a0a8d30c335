-- A program that writes a text and ends, as gcc makes it. Registers go by their numbers: x10 to x12
-- have the arguments, as the C calling convention has it.
use Rattle.std.specs.Prelude.{◌≡◌, ℕ, ◌+◌, ◌%◌, ◌^◌, ◌≤◌, List, [], ◌∷◌, length, IsTrue}
use Rattle.rrs_lib.specs.Machine.{State, reg}
use Rattle.rrs_extra.specs.Programs.{HoldsWords}
use Rattle.rrs_fast.specs.declared.serving.Ending.{Ending}
use Rattle.rrs_fast.specs.declared.serving.Ending.TheVariants.{Exit}
use Rattle.rrs_linux.specs.declared.host_writer.HostWriter.{HostWriter}
use Rattle.rrs_linux.specs.Transfers.{Stands, most_bytes}

-- the words of the program
abbrev pub write_and_exit_program : List ℕ
write_and_exit_program =
    0x00050693  -- addi x13, x10, 0
    ∷ 0x00058713  -- addi x14, x11, 0
    ∷ 0x00060793  -- addi x15, x12, 0
    ∷ 0x00100513  -- addi x10, x0, 1
    ∷ 0x00068593  -- addi x11, x13, 0
    ∷ 0x00070613  -- addi x12, x14, 0
    ∷ 0x04000893  -- addi x17, x0, 64
    ∷ 0x00000073  -- ecall
    ∷ 0x00000593  -- addi x11, x0, 0
    ∷ 0x00078513  -- addi x10, x15, 0
    ∷ 0x00000613  -- addi x12, x0, 0
    ∷ 0x05d00893  -- addi x17, x0, 93
    ∷ 0x00000073  -- ecall
    ∷ []

-- The program is at the program counter; x10 has the address of a text, x11 its length, and x12 a
-- status. One call writes all of it.
pub record WriteAndExitStarts (text : List ℕ) (s : State) : Type 0 where
  pub program_there : HoldsWords s.bytes s.pc write_and_exit_program
  pub aligned : s.pc % 4 ≡ 0
  pub text_there : Stands s.bytes (reg s 10) text
  pub length_given : reg s 11 ≡ length text
  pub at_once : length text ≤ most_bytes

-- How the program ends over a writer of the host, after so many steps: with its status; or at its
-- write, as by SIGPIPE (13), where that write has shown that nobody reads what is written.
pub data EndsOver {W : Type 0} (status : ℕ) (old new : HostWriter W) (steps : ℕ) (ending : Ending)
    : Type 0 where
  AtExit : steps ≡ 13 → ending ≡ Exit (status % 256) → EndsOver status old new steps ending
  AtWrite :
      IsTrue new.is_broken → new.short_writes ≡ (old.short_writes + 1) % 2 ^ 64
      → steps ≡ 8 → ending ≡ Exit 141
      → EndsOver status old new steps ending
