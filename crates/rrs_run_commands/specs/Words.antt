-- What the words of a command line are, as lists of bytes.
use Rattle.std.specs.Prelude.{ℕ, ◌+◌, ◌^◌, ◌<◌, ◌≤◌, ◌≡◌, ◌-◌, ◌*◌, ◌%◌, ◌⊎◌, ◌==◌, List, [], ◌++◌, length, take, drop, codes, slice_index, Bool, true, false}
use Rattle.std.specs.List.{position_or_len, before_first, after_first}
use Rattle.std.specs.Str.Parse.{IsNumeral, digits_value}
use Rattle.rrs_reports.specs.declared.commit_log.StepRange.{StepRange}

-- A number is decimal digits, or `0x` and hexadecimal ones, one at least, and below 2^64.
abbrev pub IsNumber : List ℕ → ℕ → Type 0
IsNumber word n =
    (n < 2 ^ 64)
    × (((take 2 word ≡ codes "0x" → ⊥) × IsNumeral 10 word × (n ≡ digits_value 10 word))
    ⊎ ((take 2 word ≡ codes "0x") × IsNumeral 16 (drop 2 word)
    × (n ≡ digits_value 16 (drop 2 word))))

-- so many of a unit, whose letter stands after the number
abbrev pub IsInUnit : List ℕ → ℕ → List ℕ → ℕ → Type 0
IsInUnit letter unit word n =
    (n < 2 ^ 64)
    × ((count : ℕ) × (drop (length word - length letter) word ≡ letter)
    × IsNumber (take (length word - length letter) word) count × (n ≡ count * unit))

-- A size is a number of bytes, of KiB (K), of MiB (M), or of GiB (G), and below 2^64 bytes.
abbrev pub IsSize : List ℕ → ℕ → Type 0
IsSize word n =
    IsNumber word n
    ⊎ (IsInUnit (codes "K") (2 ^ 10) word n
    ⊎ (IsInUnit (codes "M") (2 ^ 20) word n ⊎ IsInUnit (codes "G") (2 ^ 30) word n))

-- An address of a section is `0x` and one to eight hexadecimal digits, and a multiple of 4.
pub record IsAddress (word : List ℕ) (address : ℕ) : Type 0 where
  pub prefix : take 2 word ≡ codes "0x"
  pub digits : IsNumeral 16 (drop 2 word)
  pub eight : length (drop 2 word) ≤ 8
  pub value : address ≡ digits_value 16 (drop 2 word)
  pub aligned : address % 4 ≡ 0

-- Steps are N-M: the number of the first one, from 1 on, and that of the last one.
pub record IsStepRange (word : List ℕ) (range : StepRange) : Type 0 where
  pub first : IsNumber (before_first (λ byte. byte == 45) word) (range.before + 1)
  pub last : IsNumber (after_first (λ byte. byte == 45) word) range.until
  pub has_dash : position_or_len (λ byte. byte == 45) word < length word
  pub ordered : range.before < range.until

-- A word is an option where a minus is its first byte and not the only one.
abbrev pub IsDashed : List ℕ → Type 0
IsDashed word = (slice_index word 0 ≡ 45) × (1 < length word)

-- the word after which no word is an option
abbrev pub ends_options : List ℕ
ends_options = codes "--"

-- An option's name ends before the first `=`, after which its value is.
abbrev pub name_in : List ℕ → List ℕ
name_in word = before_first (λ byte. byte == 61) word

abbrev pub value_in : List ℕ → List ℕ
value_in word = after_first (λ byte. byte == 61) word

abbrev pub HasValue : List ℕ → Type 0
HasValue word = position_or_len (λ byte. byte == 61) word < length word

-- A variable of a program's environment is NAME=VALUE: it has a `=`, and a name before the first.
abbrev pub IsVariable : List ℕ → Type 0
IsVariable word = HasValue word × (0 < length (name_in word))
