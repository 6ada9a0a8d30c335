-- Quiet steps, and one more.
use Rattle.std.proofs.Common.{sym, subst, add-one, arith, ◌∙◌}
use Rattle.rrs_c.specs.Boards.{LentStepped, LentQuietSteps}
use Rattle.rrs_c.specs.LentBoards.{seen}
use Rattle.rrs_c.proofs.lent_board.run_board.Goals as goal

pub returns-in-Some-clause-run : goal.returns-in-Some-clause-run
returns-in-Some-clause-run c =
    let made = c.step_board-step in
    let mid = seen c.steps.hart c.steps.mem in (
      mid,
      made.result.answer,
      c.steps.steps,
      add-one c.steps.steps,
      omega (arith, c.steps-test.true),
      c.steps.invariant.made,
      subst (λ e. LentStepped mid (seen made.new.hart made.new.mem) made.result.answer e) c.in-Some.is made.ensures.step,
    )

pub steps-preserved : goal.steps-preserved
steps-preserved c =
    let made = c.step_board-step in
    let mid = seen c.steps.hart c.steps.mem in
    let after = seen made.new.hart made.new.mem in
    record {
      within = omega (arith, c.steps-test.true);
      made = subst (λ k. LentQuietSteps k (seen c.args.hart.now c.args.mem.now) after) (sym (add-one c.steps.steps)) (
        mid,
        made.result.answer,
        c.steps.invariant.made,
        subst (λ e. LentStepped mid after made.result.answer e) c.in-None.is made.ensures.step,
      );
      settled = made.ensures.settled;
      same_words = made.ensures.same_words ∙ c.steps.invariant.same_words;
      last = λ is. made.ensures.last;
      entry_zero = made.ensures.entry_zero ∙ c.steps.invariant.entry_zero;
    }
