use Rattle.std.proofs.Common.{◌≡◌, ◌++◌, length, drop}
use Rattle.rrs_lent.specs.Telling.{all_symbols_from, all_names_of}
use Rattle.rrs_lent.proofs.symbols.symbols_of.Given as goal

-- what is left is told after what was
abbrev pub invariant-loop-section : goal.invariant-loop-section
invariant-loop-section g l = record {
  symbols : l.told.items ++ all_symbols_from l.numbers (length l.names.items) (drop l.section-index l.sections) ≡ all_symbols_from l.numbers 0 l.sections;
  names : l.names.items ++ all_names_of (drop l.section-index l.sections) ≡ all_names_of l.sections;
}
