use Rattle.std.proofs.Common.{◌≡◌, ℕ, ◌+◌, ◌-◌, [], length}
use Rattle.std.specs.Option.{option_map_or}
use Rattle.rrs_asm_macros.specs.Symbols.{Defines, so_many_symbols}
use Rattle.rrs_asm_macros.specs.declared.symbols.Symbols.{Symbols}
use Rattle.rrs_asm_macros.proofs.tables.Tables.note_line.Given as goal

-- what the statements that are left define is what is left to be defined
abbrev pub invariant-loop-passed : goal.invariant-loop-passed
invariant-loop-passed g l = record {
  defines : (final : Symbols g.row.A.Denot)
      → Defines l.self.symbols final (option_map_or
      (λ rest. so_many_symbols (length l.line + 1 - l._passed) rest.now) l.rest [])
      → Defines l.fn.self.symbols final (so_many_symbols (length l.line + 1) l.line);
  macros_kept : l.self.macros ≡ l.fn.self.macros;
  calls_kept : l.self.calls ≡ l.fn.self.calls;
  left_kept : l.self.left ≡ l.fn.self.left;
}
