use Rattle.std.proofs.Common.{◌≡◌, Some}
use Rattle.std.specs.Prelude.{IfSome}
use Rattle.rrs_asm_macros.proofs.arguments.take_all.Given as goal

-- the first mistake stays
abbrev pub invariant-loop : goal.invariant-loop
invariant-loop g l = IfSome l.fn.cursor.mistake (λ halt. l.cursor.mistake ≡ Some halt)
