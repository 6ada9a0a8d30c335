-- What was sent so far.
use Rattle.std.proofs.Common.{◌≡◌, List, ℕ, ◌++◌, length}
use Rattle.rrs_gdb.specs.Shown.{Prints}
use Rattle.rrs_gdb.proofs.link.Link.send_output.Given as goal

abbrev pub invariant-parts : goal.invariant-parts
invariant-parts g l = record {
  sent : (done : List ℕ) × (l.bytes ≡ done ++ l.rest) × Prints g.W.Write.contents l.fn.self l.self done;
  reader : l.self.reader ≡ l.fn.self.reader;
  acknowledges : l.self.acknowledges ≡ l.fn.self.acknowledges;
}

abbrev pub decreases-parts : goal.decreases-parts
decreases-parts g l = length l.rest
