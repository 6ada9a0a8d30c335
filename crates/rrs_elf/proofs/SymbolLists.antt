-- Which section is the symbol table.
use Rattle.std.proofs.Common.{◌≡◌, ◌==◌, ℕ, zero, suc, ◌<◌, ◌⊎◌, inl, inr, List, Some, None, true, refl, arith}
use Rattle.std.proofs.Common.{eq-eqb}
use Rattle.rrs_elf.specs.Refusals.{has_address}
use Rattle.rrs_elf.specs.SymbolTables.{sh_type, symbol_table_below}
use Rattle.rrs_elf.specs.Symbols.{segment_below}

-- the first of its type below some is the first of more
pub table_found : (file : List ℕ) (n k : ℕ) → k < n → symbol_table_below file k ≡ None → sh_type file k ≡ 2 → symbol_table_below file n ≡ Some k
table_found file zero k below none kind = absurd (omega arith)
table_found file (suc n) k below none kind =
    let either : (k < n) ⊎ (n ≡ k) = grind arith in
    let test : (sh_type file k == 2) ≡ true = eq-eqb (sh_type file k) 2 kind in
    elim either [
      | inl less ↦ rw (table_found file n k less none kind) refl
      | inr same ↦ rw same (rw (none, test) refl)
    ]

-- the first segment below some is the first of more
pub segment_found : (file : List ℕ) (address n k : ℕ) → k < n → segment_below file address k ≡ None → has_address file k address ≡ true → segment_below file address n ≡ Some k
segment_found file address zero k below none has = absurd (omega arith)
segment_found file address (suc n) k below none has =
    let either : (k < n) ⊎ (n ≡ k) = grind arith in
    elim either [
      | inl less ↦ rw (segment_found file address n k less none has) refl
      | inr same ↦ rw same (rw (none, has) refl)
    ]
