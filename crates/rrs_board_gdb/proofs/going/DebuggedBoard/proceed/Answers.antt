use Rattle.std.proofs.Common.{List, ◌≡◌, ◌+◌, ◌∙◌, [], refl, sym, subst, arith, append-nil, ◌++◌, ℕ}
use Rattle.rrs_gdb.specs.Shown.{Prints}
use Rattle.rrs_board_gdb.specs.Going.{debugged, Debugged, GoesTo, PassingSteps}
use Rattle.rrs_board_gdb.proofs.GoingLemmas.{leg_passes, leg_leads}
use Rattle.rrs_board_gdb.proofs.going.DebuggedBoard.proceed.Goals as goal

pub legs-init : goal.legs-init
legs-init g c =
    let first = c.args.self.now.output.items in
    record {
      within = omega arith;
      emptied = c.in_ok-send.ensures.emptied;
      acknowledges = c.send.ensures.acknowledges;
      made = (
        [],
        (c.send.ensures.kept, refl),
        subst (λ (xs : List ℕ). Prints g.W.Write.contents c.args.link.now c.send.new.link xs) (sym (append-nil first))
            c.in_ok-send.ensures.sent,
      );
    }

pub legs-preserved : goal.legs-preserved
legs-preserved g c =
    let contents = g.W.Write.contents in
    let end = c.in_ok-end.end in
    let out = c.go.new.self in
    let after = c.send-in-legs.new.self in
    let first = c.args.self.now.output.items in
    record {
      within = omega (arith, c.legs-test.true, c.min.ensures, c.in_ok-end.ensures.within);
      emptied = c.in_ok-send-2.ensures.emptied;
      acknowledges = c.send-in-legs.ensures.acknowledges ∙ c.legs.invariant.acknowledges;
      made = subst (λ (t : Debugged). (r : List ℕ)
          × PassingSteps c.args.stops.now (c.legs.steps + end.steps) (debugged c.args.self.now) r t
          × Prints contents c.args.link.now c.send-in-legs.new.link (first ++ r)) (sym c.send-in-legs.ensures.kept)
          (leg_passes contents c.args.stops.now c.legs.steps end.steps c.min.result (debugged c.args.self.now)
          (debugged c.legs.self) (debugged out) first c.legs.self.output.items out.output.items end.reason
          c.args.link.now c.legs.link c.send-in-legs.new.link c.in-Limit.is c.legs.invariant.made
          c.legs.invariant.emptied c.in_ok-end.ensures.run c.in_ok-send-2.ensures.sent);
    }

pub returns-in_default-clause-run : goal.returns-in_default-clause-run
returns-in_default-clause-run g c =
    let contents = g.W.Write.contents in
    let end = c.in_ok-end.end in
    let out = c.go.new.self in
    let first = c.args.self.now.output.items in
    subst (λ (t : Debugged). (r : List ℕ)
    × GoesTo c.args.stops.now c.args.limit (debugged c.args.self.now) (c.legs.steps + end.steps) end.reason r t
    × Prints contents c.args.link.now c.send-in-legs.new.link (first ++ r)) (sym c.send-in-legs.ensures.kept)
    (leg_leads contents c.args.stops.now c.args.limit c.legs.steps end.steps c.min.result (debugged c.args.self.now)
    (debugged c.legs.self) (debugged out) first c.legs.self.output.items out.output.items end.reason
    c.args.link.now c.legs.link c.send-in-legs.new.link c.in_default.not-Limit
    (omega (arith, c.legs-test.true, c.min.ensures)) c.legs.invariant.made
    c.legs.invariant.emptied c.in_ok-end.ensures.run c.in_ok-send-2.ensures.sent)
