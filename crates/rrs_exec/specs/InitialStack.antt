-- The stack of a process that starts (System V ABI, "Process Initialization"; the RISC-V psABI,
-- "Integer Calling Convention": sp is a multiple of 16). From sp on lie the number of the
-- arguments, the address of each, 0, the addresses of the environment's strings, 0, and the
-- auxiliary vector (getauxval(3)), a list of pairs of a type and a value that AT_NULL ends. Above
-- them lie the 16 bytes of AT_RANDOM, which are 0 here, the arguments as strings, and behind them
-- the environment's strings, each with a byte 0 after it.
use Rattle.std.specs.Prelude.{ℕ, ◌+◌, ◌-◌, ◌*◌, ◌/◌, ◌%◌, List, [], ◌∷◌, ◌++◌, length, replicate}
use Rattle.rrs_exec.specs.declared.stack.ProgramHeaders.{ProgramHeaders}

-- a word as four bytes, lowest first
abbrev pub word_bytes : ℕ → List ℕ
word_bytes w = w % 256 ∷ w / 256 % 256 ∷ w / 65536 % 256 ∷ w / 16777216 % 256 ∷ []

abbrev pub bytes_of_words : List ℕ → List ℕ
bytes_of_words [] = []
bytes_of_words (w ∷ ws) = word_bytes w ++ bytes_of_words ws

-- texts as strings
abbrev pub strings : List (List ℕ) → List ℕ
strings [] = []
strings (text ∷ others) = text ++ 0 ∷ strings others

-- the addresses of the strings, the first of which is at a
abbrev pub addresses : ℕ → List (List ℕ) → List ℕ
addresses a [] = []
addresses a (text ∷ others) = a ∷ addresses (a + length text + 1) others

-- the number of words from sp on: the number of the arguments, the addresses of both, two zeros,
-- and seven pairs
abbrev pub word_count : List (List ℕ) → List (List ℕ) → ℕ
word_count arguments variables = length arguments + length variables + 17

-- how many bytes all of it has
abbrev pub stack_bytes : List (List ℕ) → List (List ℕ) → ℕ
stack_bytes arguments variables =
    4 * word_count arguments variables + 16
    + length (strings arguments) + length (strings variables)

-- where the 16 bytes and the strings are
abbrev pub random_at : ℕ → List (List ℕ) → List (List ℕ) → ℕ
random_at sp arguments variables = sp + 4 * word_count arguments variables

abbrev pub arguments_at : ℕ → List (List ℕ) → List (List ℕ) → ℕ
arguments_at sp arguments variables = random_at sp arguments variables + 16

abbrev pub variables_at : ℕ → List (List ℕ) → List (List ℕ) → ℕ
variables_at sp arguments variables =
    arguments_at sp arguments variables + length (strings arguments)

-- AT_PHDR, AT_PHENT, AT_PHNUM, AT_PAGESZ, AT_ENTRY, AT_RANDOM and AT_NULL, with their values
abbrev pub auxiliary_vector : ProgramHeaders → ℕ → List ℕ
auxiliary_vector headers random =
    3 ∷ headers.address ∷ 4 ∷ 32 ∷ 5 ∷ headers.count ∷ 6 ∷ 4096 ∷ 9 ∷ headers.entry
    ∷ 25 ∷ random ∷ 0 ∷ 0 ∷ []

-- the words from sp on
abbrev pub stack_words : ℕ → List (List ℕ) → List (List ℕ) → ProgramHeaders → List ℕ
stack_words sp arguments variables headers =
    length arguments ∷ addresses (arguments_at sp arguments variables) arguments
    ++ 0 ∷ addresses (variables_at sp arguments variables) variables
    ++ 0 ∷ auxiliary_vector headers (random_at sp arguments variables)

-- all of it
abbrev pub stack_block : ℕ → List (List ℕ) → List (List ℕ) → ProgramHeaders → List ℕ
stack_block sp arguments variables headers =
    bytes_of_words (stack_words sp arguments variables headers) ++ replicate 16 0
    ++ strings arguments ++ strings variables

-- sp, for a stack that ends below an address: the highest multiple of 16 from which all of it fits
abbrev pub stack_pointer : ℕ → List (List ℕ) → List (List ℕ) → ℕ
stack_pointer end arguments variables = (end - stack_bytes arguments variables) / 16 * 16
