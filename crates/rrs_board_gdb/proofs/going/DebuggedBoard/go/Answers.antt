use Rattle.std.proofs.Common.{◌+◌, arith, add-one}
use Rattle.rrs_board_gdb.specs.Going.{debugged}
use Rattle.rrs_board_gdb.proofs.GoingLemmas.{go_ends, go_passes}
use Rattle.rrs_board_gdb.proofs.going.DebuggedBoard.go.Goals as goal

pub returns-in-Some-clause-run : goal.returns-in-Some-clause-run
returns-in-Some-clause-run c =
    let after = c.step.new.self in
    go_ends c.args.stops.now c.args.limit c.steps.steps (c.steps.steps + 1) (debugged c.args.self.now)
    (debugged c.steps.self) (debugged after) c.args.self.now.output.items c.steps.self.output.items
    after.output.items c.in_ok-event.event c.in-Some.reason c.steps.invariant.made
    c.in_ok-event.ensures.step c.in_ok-event.ensures.output c.in-Some.ensures (add-one c.steps.steps)
    (omega (arith, c.steps-test.true))

pub steps-preserved : goal.steps-preserved
steps-preserved c =
    let after = c.step.new.self in
    record {
      within = omega (arith, c.steps-test.true);
      made = go_passes c.args.stops.now c.steps.steps (c.steps.steps + 1) (debugged c.args.self.now)
          (debugged c.steps.self) (debugged after) c.args.self.now.output.items c.steps.self.output.items
          after.output.items c.in_ok-event.event c.steps.invariant.made c.in_ok-event.ensures.step
          c.in_ok-event.ensures.output c.in_default.ensures (add-one c.steps.steps);
    }
