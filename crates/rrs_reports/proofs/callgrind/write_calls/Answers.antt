-- The lines of one call more.
use Rattle.rrs_reports.proofs.Writing.{some_both, some_of}
use Rattle.rrs_reports.proofs.callgrind.write_calls.Goals as goal

pub loop-preserved : goal.loop-preserved
loop-preserved g c =
    let contents = g.W.Write.contents in
    let a = c.args.out.now in
    let b = c.write_function.new.out in
    let d = c.number.new.self in
    let e = c.hexadecimal.new.self in
    let f = c.text.new.self in
    let called = some_both contents a c.loop.out b c.loop.invariant c.write_function.ensures in
    let counted = some_both contents a b d called c.number.ensures in
    let placed = some_both contents a d e counted c.hexadecimal.ensures in
    let ended = some_both contents a e f placed (some_of contents e f _ c.text.ensures) in
    some_both contents a f c.write_steps.new.out ended c.write_steps.ensures
