-- What the calls say of the executable is said of the bytes of its file.
use Rattle.std.proofs.Common.{◌≡◌, ℕ, List, Some, None, Err, refl, subst, rules}
use Rattle.rrs_elf.specs.Refusals.{first_refusal}
use Rattle.rrs_elf.specs.SymbolTables.{symbol_checks, symbol_table, name_start, strings_end, IsName}
use Rattle.rrs_elf.specs.Symbols.{Finds}
use Rattle.rrs_c.specs.Elf.{FindsNone, IsUnreadable, IsNowhere}
use Rattle.rrs_c.proofs.elf.located.Goals as goal

pub returns-in-Err : goal.returns-in-Err
returns-in-Err c =
    let P : List ℕ → Type 0 = λ file. first_refusal (symbol_checks file) ≡ Err c.in-Err.field-0 in
    IsUnreadable c.in-Err.field-0 (subst P c.in-Ok.ensures.same c.in-Err.ensures.refused)

pub returns-in-None : goal.returns-in-None
returns-in-None c =
    let t = c.in-Ok-Some.symbols.table in
    let table : symbol_table c.args.file.now ≡ Some t = search rules in
    let finds : Finds c.args.file.now t c.args.address None = search rules in
    IsNowhere t table finds

pub returns : goal.returns
returns c =
    let t = c.in-Ok-Some.symbols.table in
    let table : symbol_table c.args.file.now ≡ Some t = search rules in
    let finds : Finds c.args.file.now t c.args.address (Some c.in-Some.location) = search rules in
    let named : IsName c.args.file.now (name_start c.args.file.now t c.in-Some.location.symbol)
    (strings_end c.args.file.now t) c.in_ok-name.name.now = search rules in
    record {
      executable = c.in-Ok.ensures.accepted.0 refl;
      table = t;
      table_is = table;
      finds = finds;
      named = named;
    }
