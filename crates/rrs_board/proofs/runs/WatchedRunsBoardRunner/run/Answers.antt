-- One step more, and the last one.
use Rattle.std.proofs.Common.{◌≡◌, true, sym, subst, ◌∙◌, add-one, arith}
use Rattle.rrs_board.specs.WatchedBoards.{QuietlyShown, NoStep, OneMore}
use Rattle.rrs_board.proofs.runs.WatchedRunsBoardRunner.run.Goals as goal

pub loop-steps-init : goal.loop-steps-init
loop-steps-init g c = NoStep

pub returns-in-Some-clause-run : goal.returns-in-Some-clause-run
returns-in-Some-clause-run g c =
    let steps = c.loop-steps.steps in
    let wanted : g.V.BoardWatcher.wants c.loop-steps.self.watcher ≡ true = sym c.wants_more.ensures ∙ c.if-not-wants_more.false in (
      c.loop-steps.board,
      c.loop-steps.self,
      c.show_step-shown.result,
      steps,
      add-one steps,
      omega (arith, c.loop-steps-test.true),
      c.loop-steps.invariant,
      wanted,
      c.show_step-shown.ensures,
      c.in-Some.is,
    )

pub loop-steps-preserved : goal.loop-steps-preserved
loop-steps-preserved g c =
    let steps = c.loop-steps.steps in
    let wanted : g.V.BoardWatcher.wants c.loop-steps.self.watcher ≡ true = sym c.wants_more.ensures ∙ c.if-not-wants_more.false in
    let shown = QuietlyShown g.V.BoardWatcher.sees g.V.BoardWatcher.wants c.args.made c.args.self.now c.args.board.now in
    subst (λ n. shown n c.show_step-shown.new.board c.show_step-shown.new.self) (sym (add-one steps))
    (OneMore steps c.loop-steps.board c.show_step-shown.new.board c.loop-steps.self c.show_step-shown.new.self
    c.show_step-shown.result c.loop-steps.invariant wanted c.show_step-shown.ensures c.in-None.is)
