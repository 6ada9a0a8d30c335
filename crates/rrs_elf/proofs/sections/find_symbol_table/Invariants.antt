use Rattle.std.proofs.Common.{◌≡◌, None}
use Rattle.rrs_elf.specs.SymbolTables.{symbol_table_below}
use Rattle.rrs_elf.proofs.sections.find_symbol_table.Given as goal

-- none before is one
abbrev pub invariant-loop-index : goal.invariant-loop-index
invariant-loop-index l = symbol_table_below l.file l.index ≡ None
