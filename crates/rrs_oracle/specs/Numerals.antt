-- Numbers as text, over the bytes of the text.
use Rattle.std.specs.Prelude.{ℕ, ◌+◌, ◌-◌, ◌*◌, Bool, ◌&&◌, ◌||◌, not, List, [], ◌∷◌, length, slice_index, drop, Option, Some, None, option_and_then, nat_lt, nat_le, nat_eq, if◌then◌else◌}

-- whether a byte is from one to another
abbrev pub is_between : ℕ → ℕ → ℕ → Bool
is_between low high b = nat_le low b && nat_le b high

-- the value of a digit: 0 to 9 from `0` on, and 10 to 15 from the lower-case `a` on
abbrev pub value_of : ℕ → Option ℕ
value_of b =
    if is_between 48 57 b then Some (b - 48)
    else (if is_between 97 102 b then Some (b - 87) else None)

-- a number, if it is below a limit
abbrev pub below : ℕ → Option ℕ → Option ℕ
below limit number = option_and_then (λ n. if nat_lt n limit then Some n else None) number

-- the value of a digit of a base
abbrev pub digit_of : ℕ → ℕ → Option ℕ
digit_of base b = below base (value_of b)

-- the number whose digits are these after those of n, the first of them the highest
abbrev pub digits_after : ℕ → List ℕ → ℕ → Option ℕ
digits_after base [] n = Some n
digits_after base (b ∷ bs) n =
    option_and_then (λ d. digits_after base bs (n * base + d)) (digit_of base b)

-- the word that a text is: `0x` and 8 lower-case hexadecimal digits
abbrev pub word_of : List ℕ → Option ℕ
word_of text =
    if nat_eq (length text) 10 && nat_eq (slice_index text 0) 48 && nat_eq (slice_index text 1) 120
    then digits_after 16 (drop 2 text) 0 else None

-- the number that a text is: 1 to 7 decimal digits, the first of them no 0 unless it is alone
abbrev pub decimal_of : List ℕ → Option ℕ
decimal_of text =
    if is_between 1 7 (length text)
    && (nat_eq (length text) 1 || not (nat_eq (slice_index text 0) 48))
    then digits_after 10 text 0 else None

-- the number of the register that a name is: `x` and a decimal number below 32
abbrev pub register_of : List ℕ → Option ℕ
register_of name =
    if nat_eq (slice_index name 0) 120 then below 32 (decimal_of (drop 1 name)) else None
