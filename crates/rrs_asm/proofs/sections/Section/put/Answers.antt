use Rattle.std.proofs.Common.{refl}
use Rattle.rrs_asm.proofs.Made.{on-ok, Grows-laid}
use Rattle.rrs_asm.proofs.sections.Section.put.Goals as goal

-- the statement stands after the others
pub returns : goal.returns
returns g c =
    on-ok c.place.result c.place.ensures.placed (λ adds. λ name named.
    Grows-laid c.args.line name c.args.statement c.args.self.now
    (record { name = c.args.self.now.name; kind = c.args.self.now.kind; address = c.args.self.now.address; alignment = c.args.self.now.alignment; takes_compressed = _; made = c.place.new.self; before = c.args.self.now.before })
    named refl refl adds c.place.ensures.labels)
