-- The lines of one instruction more.
use Rattle.rrs_reports.proofs.Writing.{some_both}
use Rattle.rrs_reports.proofs.callgrind.write_costs.Goals as goal
use Rattle.rrs_reports.proofs.callgrind.write_costs.Goals.{then-steps-gt0, else-steps-gt0}

pub returns-in_default : goal.returns-in_default
returns-in_default g c =
    some_both g.W.Write.contents c.args.out.now c.write_function.new.out c.loop.out c.write_function.ensures c.loop.invariant

pub loop-preserved : goal.loop-preserved
loop-preserved g c =
    let contents = g.W.Write.contents in
    let a = c.write_function.new.out in
    elim c.if-steps-gt0.branch [
      | then-steps-gt0 w ↦ rw (w.out-is) (some_both contents a w.write_steps.new.out w.write_calls.new.out
          (some_both contents a c.loop.out w.write_steps.new.out c.loop.invariant w.write_steps.ensures) w.write_calls.ensures)
      | else-steps-gt0 w ↦ rw (w.out-is) c.loop.invariant
    ]

pub returns : goal.returns
returns g c =
    some_both g.W.Write.contents c.args.out.now c.write_function.new.out c.loop.out c.write_function.ensures c.loop.invariant
