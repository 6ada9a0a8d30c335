use Rattle.std.proofs.Common.{◌≡◌, ◌≤◌, length, take}
use Rattle.rrs_asm_macros.specs.Expansion.{copied}
use Rattle.rrs_asm_macros.specs.Forms.{texts}
use Rattle.rrs_asm_macros.proofs.following.length_of.Given as goal

-- so many copies stand before
abbrev pub invariant-loop-copy : goal.invariant-loop-copy
invariant-loop-copy l = record {
  within : l.total ≤ length l.made;
  same : texts (take l.total l.made) ≡ copied l.copy (texts (take l.size l.made));
}
