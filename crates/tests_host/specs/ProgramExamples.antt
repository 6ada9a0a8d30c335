-- Memories of the tests of programs.
use Rattle.std.specs.Prelude.{ℕ, List, [], ◌∷◌, ◌++◌}
use Rattle.rrs_programs.specs.Computing.{gcd_program, copy_words_program}
use Rattle.rrs_programs.specs.Printing.{put_string_program}
use Rattle.rrs_programs.specs.WritingAndExiting.{write_and_exit_program}
use Rattle.rrs_programs.specs.Echoing.{echo_program}

abbrev pub words_of_gcd : List ℕ
words_of_gcd = gcd_program ++ 0 ∷ []

-- the program that copies words, an illegal instruction, three words, and room for three
abbrev pub words_to_copy : List ℕ
words_to_copy = copy_words_program ++ 0 ∷ 5 ∷ 7 ∷ 0xffffffff ∷ 9 ∷ 9 ∷ 9 ∷ []

-- the program that prints, an illegal instruction, "Hello, RISC-V!" with its 0, and one word more
abbrev pub words_to_print : List ℕ
words_to_print =
    put_string_program
    ++ 0 ∷ 0x6c6c6548 ∷ 0x52202c6f ∷ 0x2d435349 ∷ 0x00002156 ∷ 0x55555555 ∷ []

-- the program that writes and ends, and "Hello, RISC-V!" with a 0
abbrev pub words_to_write : List ℕ
words_to_write =
    write_and_exit_program ++ 0x6c6c6548 ∷ 0x52202c6f ∷ 0x2d435349 ∷ 0x00002156 ∷ []

-- the program that echoes, and room for eight bytes
abbrev pub words_to_echo : List ℕ
words_to_echo = echo_program ++ 0 ∷ 0 ∷ []
