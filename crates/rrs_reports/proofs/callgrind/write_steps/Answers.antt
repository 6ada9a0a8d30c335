-- One after the other.
use Rattle.rrs_reports.proofs.Writing.{some_both, some_of}
use Rattle.rrs_reports.proofs.callgrind.write_steps.Goals as goal

pub returns : goal.returns
returns g c =
    let contents = g.W.Write.contents in
    let a = c.args.out.now in
    let b = c.hexadecimal.new.self in
    let d = c.number.new.self in
    some_both contents a d c.text.new.self (some_both contents a b d c.hexadecimal.ensures c.number.ensures)
    (some_of contents d c.text.new.self _ c.text.ensures)
