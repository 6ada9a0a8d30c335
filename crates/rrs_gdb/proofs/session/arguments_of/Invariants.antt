-- The arguments so far, and those to come.
use Rattle.std.proofs.Common.{◌≡◌, ℕ, List, ◌++◌, length, map}
use Rattle.std.specs.Prelude.{string_bytes}
use Rattle.rrs_gdb.specs.Packets.{AreTexts}
use Rattle.rrs_gdb.proofs.session.arguments_of.Given as goal

abbrev pub decreases-arguments : goal.decreases-arguments
decreases-arguments l = length l.rest

abbrev pub invariant-arguments : goal.invariant-arguments
invariant-arguments l = record {
  made : (more : List (List ℕ)) → AreTexts more l.rest
      → AreTexts (map string_bytes l.arguments.items ++ more) l.text;
  all : (texts : List (List ℕ)) → AreTexts texts l.text
      → (more : List (List ℕ)) × AreTexts more l.rest × (texts ≡ map string_bytes l.arguments.items ++ more);
}
