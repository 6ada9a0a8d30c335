use Rattle.std.proofs.Common.{◌≡◌, take}
use Rattle.rrs_asm_macros.specs.Forms.{texts}
use Rattle.rrs_asm_macros.proofs.following.begins_with.Given as goal

-- the lines before are the same
abbrev pub invariant-loop-index : goal.invariant-loop-index
invariant-loop-index l = texts (take l.index l.rows) ≡ texts (take l.index l.first)
