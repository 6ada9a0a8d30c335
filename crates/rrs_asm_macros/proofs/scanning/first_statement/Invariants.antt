use Rattle.std.proofs.Common.{◌≡◌, ◌++◌, drop, take}
use Rattle.rrs_asm_macros.specs.declared.scanning.Place.{Place}
use Rattle.rrs_asm_macros.specs.Scanning.{code_from, ends_line_from, others_from}
use Rattle.rrs_asm_macros.proofs.scanning.first_statement.Given as goal

-- what was read is of the statement
abbrev pub invariant-loop-index : goal.invariant-loop-index
invariant-loop-index l =
    (others_from Place.Plain l.text ≡ others_from l.place (drop l.index l.text))
    × (ends_line_from Place.Plain l.text ≡ ends_line_from l.place (drop l.index l.text))
    × (code_from Place.Plain l.text ≡ take l.index l.text ++ code_from l.place (drop l.index l.text))
