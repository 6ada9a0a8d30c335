-- Memories of the tests of the program that adds up words.
use Rattle.std.specs.Prelude.{ℕ, List, [], ◌∷◌, ◌++◌}
use Rattle.rrs_lib.specs.declared.memories.VecMemory.{VecMemory}
use Rattle.rrs_lib.specs.Spaces.{Region}
use Rattle.rrs_extra.specs.Programs.{sum_loop_program}

-- the program that adds up words, and an illegal instruction
abbrev pub words_of_program : List ℕ
words_of_program = sum_loop_program ++ 0 ∷ []

abbrev pub three_words : List ℕ
three_words = 5 ∷ 7 ∷ 0xffffffff ∷ []

abbrev pub words_to_add : List ℕ
words_to_add = words_of_program ++ three_words

-- eight words at 0, and three at 0x20
abbrev pub two_regions : VecMemory → VecMemory → List (Region VecMemory)
two_regions low high =
    record { base = 0; size = 0x20; memory = low }
    ∷ record { base = 0x20; size = 12; memory = high }
    ∷ []
