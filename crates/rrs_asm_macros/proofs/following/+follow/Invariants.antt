use Rattle.std.proofs.Common.{◌-◌, ◌≤◌, length, take}
use Rattle.rrs_asm_macros.specs.Expansion.{Expands}
use Rattle.rrs_asm_macros.specs.Forms.{texts}
use Rattle.rrs_asm_macros.proofs.following.+follow.Given as goal

abbrev pub decreases-follow : goal.decreases-follow
decreases-follow l = length l.rows.now

-- the lines before became the lines before
abbrev pub invariant-line : goal.invariant-line
invariant-line l = record {
  before : l.row ≤ length l.rows;
  within : l.at ≤ length l.made;
  become : Expands (texts (take l.row l.rows)) (texts (take l.at l.made));
}

abbrev pub decreases-line : goal.decreases-line
decreases-line l = length l.rows - l.row
