-- What was exchanged so far, of which no packet was received.
use Rattle.std.proofs.Common.{◌≡◌, None}
use Rattle.rrs_gdb.specs.Packets.{ComesTo}
use Rattle.rrs_gdb.specs.Shown.{Exchanges}
use Rattle.rrs_gdb.proofs.link.Link.receive.Given as goal

abbrev pub invariant-loop : goal.invariant-loop
invariant-loop g l = record {
  exchanged : Exchanges g.R.Read.remaining g.W.Write.contents l.initial.self l.self
      (ComesTo l.initial.self.acknowledges l.initial.self.last.items None);
  last : l.self.last ≡ l.initial.self.last;
  acknowledges : l.self.acknowledges ≡ l.initial.self.acknowledges;
}
