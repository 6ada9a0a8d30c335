use Rattle.std.proofs.Common.{◌≡◌, Ok}
use Rattle.rrs_elf.specs.Refusals.{first_refusal, checks_below}
use Rattle.rrs_elf.specs.SymbolTables.{name_check}
use Rattle.rrs_elf.proofs.symbol_table.check_names.Given as goal

-- those before pass
abbrev pub invariant-loop-index : goal.invariant-loop-index
invariant-loop-index l = first_refusal (checks_below (name_check l.file l.table) l.index) ≡ Ok tt
