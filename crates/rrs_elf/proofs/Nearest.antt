-- The nearest symbol before an address, of one symbol more.
use Rattle.std.proofs.Common.{◌≡◌, ◌⊎◌, ℕ, ◌+◌, ◌<◌, ◌≤◌, ◌==◌, ◌&&◌, ◌||◌, nat_lt, Bool, true, false, List, below_more, refl, ◌∙◌, inl, inr, arith}
use Rattle.std.proofs.lemmas.Bool.Decides.{nat_tests}
use Rattle.rrs_elf.specs.SymbolTables.{st_value, st_size}
use Rattle.rrs_elf.specs.Symbols.{is_before, IsNearest}

both : {A : Type 0} (b : Bool) → b ≡ false → b ≡ true → A
both b fails holds = absurd (cc)

-- whether a symbol is nearer, or has more bytes at the same address
abbrev pub nearer : ℕ → ℕ → ℕ → ℕ → Bool
nearer v s v' s' = nat_lt v v' || ((v' == v) && nat_lt s s')

not_nearer : (v s v' s' : ℕ) → nearer v s v' s' ≡ false → (v' ≤ v) × (v' ≡ v → s' ≤ s)
not_nearer v s v' s' fails = (grind (arith, nat_tests), λ same. grind (arith, nat_tests))

by_test : (b : Bool) (v s v' s' : ℕ) → b ≡ nat_lt v v' → nearer v s v' s' ≡ true → (v < v') ⊎ ((v' ≡ v) × (s < s'))
by_test true v s v' s' is holds = inl (grind (arith, nat_tests))
by_test false v s v' s' is holds = inr (grind (arith, nat_tests), grind (arith, nat_tests))

is_nearer : (v s v' s' : ℕ) → nearer v s v' s' ≡ true → (v < v') ⊎ ((v' ≡ v) × (s < s'))
is_nearer v s v' s' holds = by_test (nat_lt v v') v s v' s' refl holds

-- the first one
pub nearest_first : (file : List ℕ) (t address n : ℕ) → ((m : ℕ) → m < n → is_before file t address m ≡ false)
    → is_before file t address n ≡ true → IsNearest file t address (n + 1) n
nearest_first file t address n none is = record {
  numbered = omega arith;
  before = is;
  none_nearer = below_more (λ m. is_before file t address m ≡ true → st_value file t m ≤ st_value file t n) n
      (λ m below holds. both _ (none m below) holds) (λ _. omega arith);
  most_bytes = below_more (λ m. is_before file t address m ≡ true → st_value file t m ≡ st_value file t n
      → st_size file t m ≤ st_size file t n) n
      (λ m below holds same. both _ (none m below) holds) (λ _ _. omega arith);
  first = λ m below holds same. both _ (none m below) holds;
}

-- one that is not nearer
pub nearest_stays : (file : List ℕ) (t address n nearest : ℕ) → IsNearest file t address n nearest
    → nearer (st_value file t nearest) (st_size file t nearest) (st_value file t n) (st_size file t n) ≡ false
    → IsNearest file t address (n + 1) nearest
nearest_stays file t address n nearest old fails =
    let less = not_nearer _ _ _ _ fails in
    record {
      numbered = omega (arith, old.numbered);
      before = old.before;
      none_nearer = below_more (λ m. is_before file t address m ≡ true → st_value file t m ≤ st_value file t nearest) n
          old.none_nearer (λ _. less.0);
      most_bytes = below_more (λ m. is_before file t address m ≡ true → st_value file t m ≡ st_value file t nearest
          → st_size file t m ≤ st_size file t nearest) n old.most_bytes (λ _ same. less.1 same);
      first = old.first;
    }

-- one that is
moves : (file : List ℕ) (t address n nearest : ℕ) → IsNearest file t address n nearest
    → is_before file t address n ≡ true
    → (st_value file t nearest < st_value file t n)
    ⊎ ((st_value file t n ≡ st_value file t nearest) × (st_size file t nearest < st_size file t n))
    → IsNearest file t address (n + 1) n
moves file t address n nearest old is (inl less) = record {
  numbered = omega arith;
  before = is;
  none_nearer = below_more (λ m. is_before file t address m ≡ true → st_value file t m ≤ st_value file t n) n
      (λ m below holds. omega (arith, old.none_nearer m below holds, less)) (λ _. omega arith);
  most_bytes = below_more (λ m. is_before file t address m ≡ true → st_value file t m ≡ st_value file t n
      → st_size file t m ≤ st_size file t n) n
      (λ m below holds same. absurd (omega (arith, old.none_nearer m below holds, less, same))) (λ _ _. omega arith);
  first = λ m below holds same. absurd (omega (arith, old.none_nearer m below holds, less, same));
}
moves file t address n nearest old is (inr (alike, more)) = record {
  numbered = omega arith;
  before = is;
  none_nearer = below_more (λ m. is_before file t address m ≡ true → st_value file t m ≤ st_value file t n) n
      (λ m below holds. omega (arith, old.none_nearer m below holds, alike)) (λ _. omega arith);
  most_bytes = below_more (λ m. is_before file t address m ≡ true → st_value file t m ≡ st_value file t n
      → st_size file t m ≤ st_size file t n) n
      (λ m below holds same. omega (arith, old.most_bytes m below holds (same ∙ alike), more)) (λ _ _. omega arith);
  first = λ m below holds same. omega (arith, old.most_bytes m below holds (same ∙ alike), more);
}

pub nearest_moves : (file : List ℕ) (t address n nearest : ℕ) → IsNearest file t address n nearest
    → is_before file t address n ≡ true
    → nearer (st_value file t nearest) (st_size file t nearest) (st_value file t n) (st_size file t n) ≡ true
    → IsNearest file t address (n + 1) n
nearest_moves file t address n nearest old is holds = moves file t address n nearest old is (is_nearer _ _ _ _ holds)
