use Rattle.std.proofs.Common.{◌≡◌, take, drop}
use Rattle.rrs_asm_lines.specs.declared.lexing.Place.{Place}
use Rattle.rrs_asm_lines.specs.Lines.{onto, parts_from}
use Rattle.rrs_asm_lines.proofs.lexing.first_part.Given as goal

-- what was read belongs to the first part
abbrev pub invariant-loop-index : goal.invariant-loop-index
invariant-loop-index l =
    parts_from Place.Plain l.line ≡ onto (take l.index l.line) (parts_from l.place (drop l.index l.line))
