-- Lists of checks: which is the first that fails.
use Rattle.std.proofs.Common.{◌≡◌, ℕ, zero, suc, ◌<◌, ◌⊎◌, inl, inr, true, false, List, [], ◌∷◌, ◌++◌, Ok, Err, refl, sym, ◌∙◌, arith, ◌+◌, add-one}
use Rattle.std.specs.Result.{result_and}
use Rattle.rrs_elf.specs.declared.errors.ElfError.{ElfError}
use Rattle.rrs_elf.specs.Refusals.{Check, first_refusal, checks_below}

-- a list goes on where its first part passes, and otherwise ends
pub joined : (xs ys : List Check) → first_refusal (xs ++ ys) ≡ result_and (first_refusal xs) (first_refusal ys)
joined [] ys = refl
joined ((true, e) ∷ xs) ys = refl
joined ((false, e) ∷ xs) ys = joined xs ys

first_refusal-passed : (xs ys : List Check) → first_refusal xs ≡ Ok tt → first_refusal (xs ++ ys) ≡ first_refusal ys
first_refusal-passed xs ys passed = joined xs ys ∙ (rw passed refl)

first_refusal-failed : (xs ys : List Check) (e : ElfError) → first_refusal xs ≡ Err e → first_refusal (xs ++ ys) ≡ Err e
first_refusal-failed xs ys e failed = joined xs ys ∙ (rw failed refl)

-- where a list passes, both parts do
pub passed_first : (xs ys : List Check) → first_refusal (xs ++ ys) ≡ Ok tt → first_refusal xs ≡ Ok tt
passed_first [] ys passed = refl
passed_first ((true, e) ∷ xs) ys passed = passed
passed_first ((false, e) ∷ xs) ys passed = passed_first xs ys passed

pub passed_second : (xs ys : List Check) → first_refusal (xs ++ ys) ≡ Ok tt → first_refusal ys ≡ Ok tt
passed_second xs ys passed = sym (first_refusal-passed xs ys (passed_first xs ys passed)) ∙ passed

module _ (f : ℕ → List Check) where
  -- the first failure among those below is also the first among more
  pub below_failed : (n k : ℕ) (e : ElfError) → k < n → first_refusal (checks_below f k) ≡ Ok tt → first_refusal (f k) ≡ Err e → first_refusal (checks_below f n) ≡ Err e
  below_failed zero k e below passed failed = absurd (omega arith)
  below_failed (suc n) k e below passed failed =
      let either : (k < n) ⊎ (n ≡ k) = grind arith in
      elim either [
        | inl less ↦ first_refusal-failed (checks_below f n) (f n) e (below_failed n k e less passed failed)
        | inr same ↦ rw same (first_refusal-passed (checks_below f k) (f k) passed ∙ failed)
      ]

  -- one more passes
  pub below_passed : (k : ℕ) → first_refusal (checks_below f k) ≡ Ok tt → first_refusal (f k) ≡ Ok tt → first_refusal (checks_below f (suc k)) ≡ Ok tt
  below_passed k passed more = first_refusal-passed (checks_below f k) (f k) passed ∙ more

  -- the same of the number that a loop has next
  pub next_passed : (k n : ℕ) → n ≡ k + 1 → first_refusal (checks_below f k) ≡ Ok tt → first_refusal (f k) ≡ Ok tt → first_refusal (checks_below f n) ≡ Ok tt
  next_passed k n next passed more = rw (next ∙ add-one k) (below_passed k passed more)

  -- all pass where each does
  pub all_passed : (n : ℕ) → ((k : ℕ) → k < n → first_refusal (f k) ≡ Ok tt) → first_refusal (checks_below f n) ≡ Ok tt
  all_passed zero each = refl
  all_passed (suc n) each = below_passed n (all_passed n (λ k below. each k (omega arith))) (each n (omega arith))

  -- each passes where all do
  pub each_passed : (n k : ℕ) → k < n → first_refusal (checks_below f n) ≡ Ok tt → first_refusal (f k) ≡ Ok tt
  each_passed zero k below passed = absurd (omega arith)
  each_passed (suc n) k below passed =
      let either : (k < n) ⊎ (n ≡ k) = grind arith in
      elim either [
        | inl less ↦ each_passed n k less (passed_first (checks_below f n) (f n) passed)
        | inr same ↦ rw same at (passed_second (checks_below f n) (f n) passed)
      ]
