use Rattle.std.proofs.Common.{◌≡◌, ◌++◌, length, drop}
use Rattle.rrs_lent.specs.Telling.{symbols_from, names_of}
use Rattle.rrs_lent.proofs.symbols.push_symbols.Given as goal

-- what is left is told after what was
abbrev pub invariant-loop-label : goal.invariant-loop-label
invariant-loop-label g l = record {
  symbols : l.told.items ++ symbols_from l.numbers (length l.names.items) (drop l.label-index l.labels) ≡ l.fn.told.items ++ symbols_from l.numbers (length l.fn.names.items) l.labels;
  names : l.names.items ++ names_of (drop l.label-index l.labels) ≡ l.fn.names.items ++ names_of l.labels;
}
