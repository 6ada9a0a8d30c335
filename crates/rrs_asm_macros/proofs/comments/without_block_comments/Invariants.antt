use Rattle.std.proofs.Common.{◌≡◌, ◌++◌, length}
use Rattle.rrs_asm_macros.specs.Comments.{without_from, without_comments}
use Rattle.rrs_asm_macros.proofs.comments.without_block_comments.Given as goal

-- what was read was put, and what is left is after it
abbrev pub invariant-loop-rest : goal.invariant-loop-rest
invariant-loop-rest g l = without_comments l.source ≡ l.text.items ++ without_from l.spot l.rest

abbrev pub decreases-loop-rest : goal.decreases-loop-rest
decreases-loop-rest g l = length l.rest
