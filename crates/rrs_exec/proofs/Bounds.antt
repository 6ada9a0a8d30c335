-- The addresses of the segments lie from the first to before the end.
use Rattle.std.proofs.Common.{◌<◌, ◌≤◌, ◌+◌, ◌==◌, ◌≡◌, ℕ, zero, suc, List, Bool, true, false, min, max, if◌then◌else◌, refl, below_more, arith}
use Rattle.std.proofs.lemmas.Bool.Decides.{nat_tests}
use Rattle.rrs_elf.specs.Headers.{p_vaddr}
use Rattle.rrs_elf.specs.Loading.{loaded_size}
use Rattle.rrs_exec.specs.Images.{AllWithin, first_below, end_below}

lower : (is : Bool) (a v : ℕ) → (if is then a else min a v) ≤ a
lower true a v = omega arith
lower false a v = omega arith

higher : (is : Bool) (a v : ℕ) → a ≤ (if is then a else max a v)
higher true a v = omega arith
higher false a v = omega arith

none-there : (size j : ℕ) → (size == 0) ≡ true → j < size → ⊥
none-there size j none some = grind (arith, nat_tests)

first-of : (is : Bool) (size a v j : ℕ) → (size == 0) ≡ is → j < size → (if is then a else min a v) ≤ v + j
first-of true size a v j none some = absurd (none-there size j none some)
first-of false size a v j there some = omega arith

before-end : (is : Bool) (size a v j : ℕ) → (size == 0) ≡ is → j < size → v + j < (if is then a else max a (v + size))
before-end true size a v j none some = absurd (none-there size j none some)
before-end false size a v j there some = omega arith

pub all_within : (file : List ℕ) (n : ℕ) → AllWithin file n (first_below file n) (end_below file n)
all_within file zero = λ i j below there. absurd (omega arith)
all_within file (suc n) =
    λ i j below there.
    below_more (λ k. (j : ℕ) → j < loaded_size file k → (first_below file (suc n) ≤ p_vaddr file k + j) × (p_vaddr file k + j < end_below file (suc n))) n
    (λ k low j some. let both = all_within file n k j low some in let down = lower (loaded_size file n == 0) (first_below file n) (p_vaddr file n) in let up = higher (loaded_size file n == 0) (end_below file n) (p_vaddr file n + loaded_size file n) in (omega (arith, both.0, down), omega (arith, both.1, up)))
    (λ j some. (first-of (loaded_size file n == 0) (loaded_size file n) (first_below file n) (p_vaddr file n) j refl some, before-end (loaded_size file n == 0) (loaded_size file n) (end_below file n) (p_vaddr file n) j refl some))
    i (omega arith) j there
