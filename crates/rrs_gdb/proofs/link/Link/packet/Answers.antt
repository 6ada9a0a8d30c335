use Rattle.std.proofs.Common.{ap, ◌∙◌}
use Rattle.rrs_gdb.proofs.LinkLemmas.{exchanges_packet}
use Rattle.rrs_gdb.proofs.link.Link.packet.Goals as goal

pub returns-clause-received : goal.returns-clause-received
returns-clause-received g c = λ _.
    let read = rw c.in-Some.is at c.in_ok-frame.ensures in
    let told = c.in_ok-acknowledge.ensures in
    exchanges_packet g.R.Read.remaining g.W.Write.contents c.args.self.now c.acknowledge.new.self
    c.read_frame.new.reader c.in-Some.frame c.in_ok-received.received read c.in_ok-received.ensures told.reader
    (λ is. ap (λ link. link.writer) (told.silent is))
    (λ is some. told.good is (c.is_some.ensures ∙ some)) (λ is none. told.bad is (c.is_some.ensures ∙ none))
