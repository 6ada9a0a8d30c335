-- One after the other.
use Rattle.rrs_reports.proofs.Writing.{three}
use Rattle.rrs_reports.proofs.callgrind.write_head.Goals as goal

pub returns : goal.returns
returns g c =
    three g.W.Write.contents c.args.out.now c.text.new.self c.name.new.self c.name-2.new.self _ _ _
    c.text.ensures c.name.ensures c.name-2.ensures
