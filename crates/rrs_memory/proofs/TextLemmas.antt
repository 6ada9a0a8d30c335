-- The digits of numbers in hexadecimal, as the texts of errors and exceptions have them.
use Rattle.std.proofs.Common.{◌≡◌, ℕ, ◌-◌, ◌^◌, false, [], length, refl, arith}
use Rattle.std.proofs.lemmas.List.{append-nil}
use Rattle.std.specs.Fmt.{digits, padded_integral, char_count, format_spec}
use Rattle.rrs_memory.specs.Hexadecimal.{hexadecimal}

-- what a placeholder for hexadecimal digits with zeros in front writes, at a width n
pub padded_hexadecimal : (n x : ℕ) → padded_integral (format_spec 32 0 4 n (2 ^ 64 - 1)) false [] (digits 16 false x) ≡ hexadecimal n x
unfolding padded_integral char_count
padded_hexadecimal n x =
    let shorter : n - length (digits 16 false x) - 0 - 0 ≡ n - length (digits 16 false x) = omega arith in
    rw (shorter, append-nil) refl
