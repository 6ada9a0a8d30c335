use Rattle.std.proofs.Common.{◌≡◌, length}
use Rattle.rrs_lent.specs.Telling.{LieBehind}
use Rattle.rrs_lent.proofs.mistakes.told_of_mistakes.Given as goal

-- those before are told, and their texts lie there
abbrev pub invariant-loop-mistake : goal.invariant-loop-mistake
invariant-loop-mistake g l = record {
  count : length l.told.items ≡ l.mistake-index;
  texts : LieBehind 0 l.told.items (length l.texts.items);
}
