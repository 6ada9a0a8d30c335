-- What a symbol table that is accepted has.
use Rattle.std.proofs.Common.{◌≡◌, ℕ, ◌-◌, ◌<◌, ◌≤◌, List, length, slice_index, Result, Ok, Err, IsTrue, is_ok, refl, arith}
use Rattle.std.proofs.lemmas.Bool.Decides.{nat_tests}
use Rattle.rrs_elf.specs.declared.errors.ElfError.{ElfError}
use Rattle.rrs_elf.specs.Refusals.{first_refusal, checks_below}
use Rattle.rrs_elf.specs.SymbolTables.{sh_size, sh_link, symbol_count, st_name, strings_end, string_checks, name_check, table_checks_of, has_symbols}
use Rattle.rrs_elf.proofs.CheckLists.{passed_first, passed_second, each_passed}

pub record SymbolsHold (file : List ℕ) (t : ℕ) : Type 0 where
  pub strings_within : strings_end file t ≤ length file
  pub last_zero : 0 < sh_size file (sh_link file t) → slice_index file (strings_end file t - 1) ≡ 0
  pub names : (n : ℕ) → n < symbol_count file t → st_name file t n < sh_size file (sh_link file t)

strings_hold : (file : List ℕ) (t : ℕ) → first_refusal (string_checks file t) ≡ Ok tt → strings_end file t ≤ length file
unfolding string_checks
strings_hold file t passed = grind (arith, nat_tests, passed)

last_holds : (file : List ℕ) (t : ℕ) → first_refusal (string_checks file t) ≡ Ok tt → 0 < sh_size file (sh_link file t) → slice_index file (strings_end file t - 1) ≡ 0
unfolding string_checks
last_holds file t passed some = grind (arith, nat_tests, passed)

name_holds : (file : List ℕ) (t n : ℕ) → first_refusal (name_check file t n) ≡ Ok tt → st_name file t n < sh_size file (sh_link file t)
unfolding name_check
name_holds file t n passed = grind (arith, nat_tests, passed)

-- what a value of the type holds
pub symbols_hold : (file : List ℕ) (t : ℕ) → IsTrue (has_symbols file t) → SymbolsHold file t
symbols_hold file t accepted = record {
  strings_within = strings_hold file t strings;
  last_zero = last_holds file t strings;
  names = λ n below. name_holds file t n (each_passed (name_check file t) (symbol_count file t) n below (passed_second (string_checks file t) _ passed));
}
  where
    ok_of : (r : Result (Unit {0}) ElfError) → IsTrue (is_ok r) → r ≡ Ok tt
    ok_of (Ok done) e = refl
    ok_of (Err error) e = absurd (cc)

    passed : first_refusal (table_checks_of file t) ≡ Ok tt
    passed = ok_of (first_refusal (table_checks_of file t)) accepted

    strings : first_refusal (string_checks file t) ≡ Ok tt
    strings = passed_first (string_checks file t) (checks_below (name_check file t) (symbol_count file t)) passed
