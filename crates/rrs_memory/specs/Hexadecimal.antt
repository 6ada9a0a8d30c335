-- Numbers as hexadecimal texts.
use Rattle.std.specs.Prelude.{ℕ, ◌-◌, false, List, ◌++◌, length, replicate}
use Rattle.std.specs.Fmt.{digits}

-- lower-case hexadecimal digits, with zeros in front up to n digits: a word has at most 8
abbrev pub hexadecimal : ℕ → ℕ → List ℕ
hexadecimal n x = replicate (n - length (digits 16 false x)) 48 ++ digits 16 false x
