-- A byte, and what comes of it.
use Rattle.std.proofs.Common.{refl, ap, ◌∙◌, None, Some, arith}
use Rattle.std.proofs.lemmas.Option.{same_Some}
use Rattle.rrs_gdb.proofs.LinkLemmas.{exchanges_none, exchanges_both, exchanges_waits}
use Rattle.rrs_gdb.proofs.link.Link.receive.Goals as goal

pub loop-init : goal.loop-init
loop-init g c = record {
  exchanged = exchanges_none g.R.Read.remaining g.W.Write.contents c.args.self.now _ _;
  last = refl;
  acknowledges = refl;
}

pub returns-in-Some-2-clause-received : goal.returns-in-Some-2-clause-received
returns-in-Some-2-clause-received g c = λ no_end.
    let so_far = c.loop.invariant in
    let made = rw c.in-Some-2.is at c.in_ok-received.ensures.received in
    exchanges_both g.R.Read.remaining g.W.Write.contents c.args.self.now c.loop.self c.begin.new.self c.next_byte.new.reader
    c.args.self.now.acknowledges _ c.args.self.now.last.items _ (Some c.in-Some-2.received) c.in-Some.byte so_far.exchanged
    c.in-Some.ensures so_far.acknowledges (ap (λ bytes. bytes.items) so_far.last)
    (made (λ same. no_end (same_Some _ _ same)))

pub loop-preserved : goal.loop-preserved
loop-preserved g c =
    let so_far = c.loop.invariant in
    let made = rw c.in_default-2.is at c.in_ok-received.ensures in
    record {
      exchanged = exchanges_both g.R.Read.remaining g.W.Write.contents c.args.self.now c.loop.self c.begin.new.self
          c.next_byte.new.reader c.args.self.now.acknowledges _ c.args.self.now.last.items _ None c.in-Some.byte
          so_far.exchanged c.in-Some.ensures so_far.acknowledges (ap (λ bytes. bytes.items) so_far.last)
          (made.received (λ same. absurd (grind (arith, same))));
      last = made.last ∙ so_far.last;
      acknowledges = made.acknowledges ∙ so_far.acknowledges;
    }

pub returns-in-Some-2-clause-ended : goal.returns-in-Some-2-clause-ended
returns-in-Some-2-clause-ended g c = λ is_end.
    let so_far = c.loop.invariant in
    let made = rw c.in-Some-2.is at c.in_ok-received.ensures.ended in
    exchanges_waits g.R.Read.remaining g.W.Write.contents c.args.self.now c.loop.self c.begin.new.self c.next_byte.new.reader
    c.args.self.now.acknowledges _ c.args.self.now.last.items _ c.in-Some.byte so_far.exchanged
    c.in-Some.ensures so_far.acknowledges (ap (λ bytes. bytes.items) so_far.last) (made (ap Some is_end))
