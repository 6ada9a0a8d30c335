use Rattle.std.proofs.Common.{refl, inl, inr, rules}
use Rattle.rrs_gdb.proofs.LinkLemmas.{exchanges_byte}
use Rattle.rrs_gdb.proofs.link.Link.begin.Goals as goal

pub returns-in_ok-write_at_once-in-45-clause-received :
    goal.returns-in_ok-write_at_once-in-45-clause-received
returns-in_ok-write_at_once-in-45-clause-received g c = λ _.
    exchanges_byte g.R.Read.remaining g.W.Write.contents c.args.self.now _ c.args.self.now.acknowledges
    c.args.self.now.last.items c.args.byte refl (inl (c.in-45.is, rw (← c.deref.ensures.value) c.in_ok-write_at_once-in-45.ensures))

pub returns-in_default-clause-received : goal.returns-in_default-clause-received
returns-in_default-clause-received g c = λ _.
    exchanges_byte g.R.Read.remaining g.W.Write.contents c.args.self.now c.args.self.now c.args.self.now.acknowledges
    c.args.self.now.last.items c.args.byte refl (inr (search rules, search rules, refl))
