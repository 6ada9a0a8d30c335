-- The numbers so far, and those to come.
use Rattle.std.proofs.Common.{◌≡◌, ℕ, List, ◌++◌, length}
use Rattle.rrs_gdb.specs.Packets.{AreNumbers}
use Rattle.rrs_gdb.proofs.queries.numbers_in.Given as goal

abbrev pub decreases-numbers : goal.decreases-numbers
decreases-numbers l = length l.rest

abbrev pub invariant-numbers : goal.invariant-numbers
invariant-numbers l = record {
  made : (more : List ℕ) → AreNumbers more l.rest → AreNumbers (l.numbers.items ++ more) l.text;
  all : (numbers : List ℕ) → AreNumbers numbers l.text
      → (more : List ℕ) × AreNumbers more l.rest × (numbers ≡ l.numbers.items ++ more);
}
