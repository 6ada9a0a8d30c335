-- A packet is asked, or one that is no good is answered, or the input ends.
use Rattle.std.proofs.Common.{None, Some, refl, arith}
use Rattle.rrs_gdb.specs.Shown.{Asks, Ends, Refuses}
use Rattle.rrs_gdb.proofs.LinkLemmas.{requests_none}
use Rattle.rrs_gdb.proofs.session.next_payload.Goals as goal

pub loop-init : goal.loop-init
loop-init g c = λ asked new later. later

pub returns-in-Packet : goal.returns-in-Packet
returns-in-Packet g c = c.loop.invariant (Some _) _ (Asks c.loop.link c.receive.new.self _ _ refl
    (rw c.in-Packet.is at c.in_ok-payload.ensures.received (λ same. absurd (grind (arith, same, c.in-Packet.is)))))

pub loop-preserved : goal.loop-preserved
loop-preserved g c = λ asked new later.
    c.loop.invariant _ _ (Refuses asked c.loop.link c.receive.new.self c.send.new.self new
    (rw c.in-Bad.is at c.in_ok-payload.ensures.received (λ same. absurd (grind (arith, same, c.in-Bad.is))))
    c.send.ensures.reader c.in_ok-send-in-Bad.ensures.last c.in_ok-send-in-Bad.ensures.sent later)

pub returns-in-End : goal.returns-in-End
returns-in-End g c = c.loop.invariant None _ (Ends c.loop.link c.receive.new.self
    (c.in_ok-payload.ensures.ended c.in-End.is))

pub returns : goal.returns
returns g c = c.loop.invariant None _ (requests_none g.R.Read.remaining g.W.Write.contents c.loop.link)
