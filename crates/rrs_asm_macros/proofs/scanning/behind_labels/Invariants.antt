use Rattle.std.proofs.Common.{◌≡◌, ◌-◌, length}
use Rattle.rrs_asm_macros.specs.Scanning.{behind_so_many}
use Rattle.rrs_asm_macros.proofs.scanning.behind_labels.Given as goal

-- what was read was labels
abbrev pub invariant-loop-passed : goal.invariant-loop-passed
invariant-loop-passed l =
    behind_so_many (length l.code) l.code ≡ behind_so_many (length l.code - l._passed) l.rest
