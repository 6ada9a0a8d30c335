use Rattle.std.proofs.Common.{◌≡◌, ℕ, ◌-◌, length}
use Rattle.rrs_asm_macros.specs.Symbols.{Defines, so_many_labels}
use Rattle.rrs_asm_macros.specs.declared.symbols.Symbols.{Symbols}
use Rattle.rrs_asm_macros.proofs.symbols.Symbols.note_labels.Given as goal

-- what defines the labels that are left defines them all
abbrev pub invariant-loop-passed : goal.invariant-loop-passed
invariant-loop-passed g l = (final : Symbols g.row.A.Denot)
    → Defines l.self final (so_many_labels (length l.code - l._passed) l.rest)
    → Defines l.fn.self final (so_many_labels (length l.code) l.code)
