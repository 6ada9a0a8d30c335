use Rattle.std.proofs.Common.{◌≡◌, Some, arith}
use Rattle.rrs_elf.specs.SymbolTables.{symbol_table_below}
use Rattle.rrs_elf.proofs.SymbolLists.{table_found}
use Rattle.rrs_elf.proofs.sections.find_symbol_table.Goals as goal

pub returns-then-read_section-eq2 : goal.returns-then-read_section-eq2
returns-then-read_section-eq2 c =
    let file = c.args.file.now in
    let found : symbol_table_below file c.read_section_count-index-end.result ≡ Some c.loop-index.index =
    table_found file _ c.loop-index.index c.loop-index-test.true c.loop-index.invariant (grind arith) in
    let count = c.read_section_count-index-end.ensures in
    grind (arith, found, count)
