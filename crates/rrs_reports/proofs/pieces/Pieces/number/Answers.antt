-- One after the other.
use Rattle.rrs_reports.proofs.Writing.{both}
use Rattle.rrs_reports.proofs.pieces.Pieces.number.Goals as goal

pub returns : goal.returns
returns g c =
    (_, both g.W.Write.contents c.args.self.now c.text.new.self c.text-2.new.self c.args.before.now _ c.text.ensures c.text-2.ensures)
