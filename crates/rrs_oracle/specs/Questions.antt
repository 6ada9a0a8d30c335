-- What a line asks. Its words are separated by single spaces, and the entries of a list by commas.
use Rattle.std.specs.Prelude.{ℕ, ◌+◌, List, [], ◌∷◌, length, replicate, slice_set, codes, Option, Some, None, option_and_then, option_map, nat_lt, nat_eq, if◌then◌else◌, ◌==◌}
use Rattle.std.specs.List.{slice_split, position_or_len, before_first, after_first}
use Rattle.std.specs.Str.{bytes_eq}
use Rattle.rrs_oracle.specs.declared.questions.Question.{Question}
use Rattle.rrs_oracle.specs.declared.questions.Question.TheVariants.{Decode, Text, Steps}
use Rattle.rrs_oracle.specs.declared.questions.ParseError.{ParseError}
use Rattle.rrs_oracle.specs.declared.questions.ParseError.TheVariants.{Malformed, OutOfMemory}
use Rattle.rrs_oracle.specs.Numerals.{below, word_of, decimal_of, register_of}

-- what is asked: the row of a word; the text of a word at an address; or what so many steps return,
-- and what they leave of a state
pub data Asked : Type 0 where
  AsksRow : (word : ℕ) → Asked
  AsksText : (pc word : ℕ) → Asked
  AsksSteps : (count pc : ℕ) (last : Option ℕ) (registers memory : List ℕ) → Asked

-- a question as that
abbrev pub asked : Question → Asked
asked (Decode word) = AsksRow word
asked (Text pc word) = AsksText pc word
asked (Steps steps) =
    AsksSteps steps.count steps.pc (option_map (λ register. register.index) steps.last)
    steps.registers steps.memory.items

-- ---- words

-- the words of a text
abbrev pub words : List ℕ → List (List ℕ)
words text = slice_split (λ b. b == 32) text

-- the first word is read, and then what follows it
abbrev pub reads : {A B : Type 0} → (List ℕ → Option A) → (A → List (List ℕ) → Option B)
    → List (List ℕ) → Option B
reads read follows [] = None
reads read follows (w ∷ ws) = option_and_then (λ x. follows x ws) (read w)

-- nothing follows
abbrev pub ends : {A : Type 0} → A → List (List ℕ) → Option A
ends x [] = Some x
ends x (w ∷ ws) = None

-- ---- the parts of a state

-- what is before the first `=` of a text, and what is after it
abbrev pub named : List ℕ → Option (List ℕ × List ℕ)
named text =
    if nat_lt (position_or_len (λ b. b == 61) text) (length text)
    then Some (before_first (λ b. b == 61) text, after_first (λ b. b == 61) text) else None

-- the value of a word that is `name=value`
abbrev pub value_of : List ℕ → List ℕ → Option (List ℕ)
value_of name w =
    option_and_then (λ (p : List ℕ × List ℕ). if bytes_eq p.0 name then Some p.1 else None)
    (named w)

-- the same, where the value is read
abbrev pub value_as : {A : Type 0} → List ℕ → (List ℕ → Option A) → List ℕ → Option A
value_as name read w = option_and_then read (value_of name w)

-- a number of steps: up to 1000000
abbrev pub count_of : List ℕ → Option ℕ
count_of text = below 1000001 (decimal_of text)

-- the register that was written last, or `-`
abbrev pub last_of : List ℕ → Option (Option ℕ)
last_of text = if bytes_eq text (codes "-") then Some None else option_map Some (register_of text)

-- the entries of a list
abbrev pub entries : List ℕ → List (List ℕ)
entries text = slice_split (λ b. b == 44) text

-- a register and its value, which is not 0
abbrev pub entry_of : List ℕ → Option (ℕ × ℕ)
entry_of text =
    option_and_then (λ (p : List ℕ × List ℕ).
    option_and_then (λ register.
    option_and_then (λ value. if nat_eq value 0 then None else Some (register, value))
    (word_of p.1))
    (register_of p.0))
    (named text)

-- Registers after entries for them are read, where the first entry may be for register `least` or a
-- higher one: no entry comes twice, and they are in the order of the registers.
abbrev pub registers_with : ℕ → List ℕ → List (List ℕ) → Option (List ℕ)
registers_with least registers [] = Some registers
registers_with least registers (x ∷ xs) =
    option_and_then (λ (e : ℕ × ℕ).
    if nat_lt e.0 least then None
    else registers_with (e.0 + 1) (slice_set registers e.0 e.1) xs)
    (entry_of x)

-- all 32 registers: those that a list has, or none at `-`, and 0 for the others
abbrev pub registers_of : List ℕ → Option (List ℕ)
registers_of text =
    if bytes_eq text (codes "-") then Some (replicate 32 0)
    else registers_with 0 (replicate 32 0) (entries text)

-- the words that entries are, each one
abbrev pub words_of : List (List ℕ) → Option (List ℕ)
words_of [] = Some []
words_of (x ∷ xs) = option_and_then (λ w. option_map (λ ws. w ∷ ws) (words_of xs)) (word_of x)

-- the words of a memory: those of a list, or none at `-`
abbrev pub memory_of : List ℕ → Option (List ℕ)
memory_of text = if bytes_eq text (codes "-") then Some [] else words_of (entries text)

-- ---- questions

-- `N pc=PC last=LAST regs=REGS mem=MEM`
abbrev pub reads_steps : {B : Type 0} → (Asked → List (List ℕ) → Option B)
    → List (List ℕ) → Option B
reads_steps follows =
    reads count_of (λ count.
    reads (value_as (codes "pc") word_of) (λ pc.
    reads (value_as (codes "last") last_of) (λ last.
    reads (value_as (codes "regs") registers_of) (λ registers.
    reads (value_as (codes "mem") memory_of) (λ memory.
    follows (AsksSteps count pc last registers memory))))))

-- `decode WORD`, `text PC WORD`, or `steps` and the rest
abbrev pub reads_question : {B : Type 0} → (Asked → List (List ℕ) → Option B)
    → List (List ℕ) → Option B
reads_question follows [] = None
reads_question follows (w ∷ ws) =
    if bytes_eq w (codes "decode") then reads word_of (λ word. follows (AsksRow word)) ws
    else (if bytes_eq w (codes "text")
    then reads word_of (λ pc. reads word_of (λ word. follows (AsksText pc word))) ws
    else (if bytes_eq w (codes "steps") then reads_steps follows ws else None))

-- what a line asks, if it is a question and nothing else
abbrev pub asks : List ℕ → Option Asked
asks line = reads_question ends (words line)

-- a fact that holds where a line is malformed
abbrev pub WhereMalformed : Type 0 → ParseError → Type 0
WhereMalformed P (Malformed mistake) = P
WhereMalformed P OutOfMemory = Unit {0}
