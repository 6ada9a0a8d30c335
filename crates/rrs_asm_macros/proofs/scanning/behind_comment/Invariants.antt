use Rattle.std.proofs.Common.{◌≡◌, drop}
use Rattle.rrs_asm_macros.specs.declared.scanning.Place.{Place}
use Rattle.rrs_asm_macros.specs.Scanning.{ends_line_from, others_from}
use Rattle.rrs_asm_macros.proofs.scanning.behind_comment.Given as goal

-- no line feed stands before
abbrev pub invariant-loop-index : goal.invariant-loop-index
invariant-loop-index l =
    (others_from Place.Comment l.comment ≡ others_from Place.Comment (drop l.index l.comment))
    × (ends_line_from Place.Comment l.comment ≡ ends_line_from Place.Comment (drop l.index l.comment))
