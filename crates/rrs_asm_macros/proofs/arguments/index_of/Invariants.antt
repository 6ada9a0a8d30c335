use Rattle.std.proofs.Common.{◌≡◌, false, take}
use Rattle.rrs_asm_macros.specs.Arguments.{has_name}
use Rattle.rrs_asm_macros.proofs.arguments.index_of.Given as goal

-- no parameter before has the name
abbrev pub invariant-loop-index : goal.invariant-loop-index
invariant-loop-index g l = has_name (take l.index l.parameters) l.name ≡ false
