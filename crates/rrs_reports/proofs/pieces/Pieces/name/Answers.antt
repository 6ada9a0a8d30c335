-- One after the other.
use Rattle.rrs_reports.proofs.Writing.{three}
use Rattle.rrs_reports.proofs.pieces.Pieces.name.Goals as goal

pub returns : goal.returns
returns g c =
    three g.W.Write.contents c.args.self.now c.text.new.self c.shown.new.self c.text-2.new.self
    c.args.before.now _ c.args.behind.now c.text.ensures c.shown.ensures c.text-2.ensures
