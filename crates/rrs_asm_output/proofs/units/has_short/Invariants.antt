use Rattle.std.proofs.Common.{◌≡◌, drop}
use Rattle.std.specs.List.{list_any}
use Rattle.rrs_asm.specs.Statements.{is_short}
use Rattle.rrs_asm_output.proofs.units.has_short.Given as goal

-- none before is one
abbrev pub invariant-loop-one : goal.invariant-loop-one
invariant-loop-one l = list_any (λ p. is_short p.statement) l.placed ≡ list_any (λ p. is_short p.statement) (drop l.one-index l.placed)
