use Rattle.std.proofs.Common.{◌≡◌, Err, refl, sym, ◌∙◌, arith}
use Rattle.rrs_elf.specs.Refusals.{first_refusal, checks_below}
use Rattle.rrs_elf.specs.SymbolTables.{name_check}
use Rattle.rrs_elf.proofs.CheckLists.{below_failed, next_passed}
use Rattle.rrs_elf.proofs.symbol_table.check_names.Goals as goal

pub returns-in_err-check_name : goal.returns-in_err-check_name
returns-in_err-check_name c =
    let file = c.args.file.now in
    let failed : first_refusal (checks_below (name_check file c.args.table) c.read_symbol_count-index-end.result) ≡ Err c.in_err-check_name.field-0.0 =
    below_failed (name_check file c.args.table) _ c.loop-index.index _ c.loop-index-test.true c.loop-index.invariant (sym c.check_name.ensures ∙ c.in_err-check_name.was) in
    let count = c.read_symbol_count-index-end.ensures.value in
    grind (arith, failed, count)

pub loop-index-preserved : goal.loop-index-preserved
loop-index-preserved c =
    next_passed (name_check c.args.file.now c.args.table) c.loop-index.index _ refl c.loop-index.invariant (sym c.check_name.ensures ∙ c.in_ok-check_name.was)
