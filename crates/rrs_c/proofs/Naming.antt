-- A name by its number in a list, and a register by its number.
use Rattle.std.proofs.Common.{◌≡◌, ℕ, zero, suc, ◌≤◌, ◌<◌, List, [], ◌∷◌, length, drop, None, refl, arith}
use Rattle.rrs_lib.specs.Steps.{LastIsRegister}
use Rattle.rrs_trace.specs.Retired.{last_of}
use Rattle.rrs_c.specs.Names.{named}

-- past the end of a list there is none
pub named_past : (names : List (List ℕ)) (n : ℕ) → length names ≤ n → named names n ≡ None
named_past [] n past = refl
named_past (name ∷ rest) zero past = absurd (omega arith)
named_past (name ∷ rest) (suc n) past = named_past rest n (omega arith)

-- a number below 32 is that of a register, or of none
pub number_is : (n : ℕ) → n < 32 → LastIsRegister (last_of n)
number_is zero low = tt
number_is (suc n) low = (omega arith, omega (arith, low))

-- the registers but x0 are 31
pub all_but_zero : (registers : List ℕ) → length registers ≡ 32 → length (drop 1 registers) ≡ 31
all_but_zero [] whole = absurd (omega (arith, whole))
all_but_zero (x ∷ registers) whole = omega (arith, whole)
