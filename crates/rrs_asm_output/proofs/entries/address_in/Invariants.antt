use Rattle.std.proofs.Common.{◌≡◌, drop}
use Rattle.rrs_asm_output.specs.Executables.{address_in}
use Rattle.rrs_asm_output.proofs.entries.address_in.Given as goal

-- none before has the name
abbrev pub invariant-loop-label : goal.invariant-loop-label
invariant-loop-label l = address_in l.name l.labels ≡ address_in l.name (drop l.label-index l.labels)
