-- Which words are limits, and which numbers they are.
use Rattle.std.specs.Prelude.{ℕ, ◌+◌, ◌-◌, ◌*◌, List, length, fold, Bool, ◌&&◌, nat_le, if◌then◌else◌, Option, Some, None}
use Rattle.std.specs.List.{list_all}
use Rattle.std.specs.Char.{is_ascii_digit}

-- the number that decimal digits are, the first of them the most significant: ten times the number
-- so far plus the digit
abbrev pub number_of_digits : List ℕ → ℕ
number_of_digits digits = fold (λ n digit. 10 * n + (digit - 48)) 0 digits

-- a word has from one to nine bytes, each of them an ASCII digit
abbrev pub is_limit : List ℕ → Bool
is_limit word = nat_le 1 (length word) && nat_le (length word) 9 && list_all is_ascii_digit word

-- the number of a word of one to nine ASCII digits
abbrev pub limit_in : List ℕ → Option ℕ
limit_in word = if is_limit word then Some (number_of_digits word) else None
