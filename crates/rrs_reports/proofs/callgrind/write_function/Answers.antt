-- One after the other.
use Rattle.rrs_reports.proofs.Writing.{some_both, some_of}
use Rattle.rrs_reports.proofs.callgrind.write_function.Goals as goal

pub returns : goal.returns
returns g c =
    let contents = g.W.Write.contents in
    let a = c.args.out.now in
    let b = c.text.new.self in
    let d = c.number.new.self in
    some_both contents a d c.name.new.self
    (some_both contents a b d (some_of contents a b _ c.text.ensures) c.number.ensures)
    (some_of contents d c.name.new.self _ c.name.ensures)
