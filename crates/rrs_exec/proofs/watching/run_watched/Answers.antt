-- Each turn goes on the run, or ends it.
use Rattle.std.proofs.Common.{arith, refl, sym, ◌∙◌}
use Rattle.rrs_lib.proofs.Stepping.{KeepsTheRest-trans}
use Rattle.rrs_exec.proofs.WatchedRuns.{no_more, leads_none, leads_more, ends_at_limit, ends_by_exit, ends_by_fault_at}
use Rattle.rrs_exec.proofs.watching.run_watched.Goals as goal

pub loop-steps-init : goal.loop-steps-init
loop-steps-init g c =
    record {
      leads = leads_none c.args.profile g.E.Environment.serves g.V.Watcher.sees g.V.Watcher.wants _ _ _;
      rest = record { entry_zero = refl; layout_kept = refl; same_memory = refl; same_hart = refl };
    }

pub loop-steps-preserved : goal.loop-steps-preserved
loop-steps-preserved g c =
    record {
      leads =
          leads_more c.args.profile g.E.Environment.serves g.V.Watcher.sees g.V.Watcher.wants _ _ _ _ _ _ _ _ _ _ _ _
          c.in-Ok-None.field-0-is (sym c.wants_more.ensures ∙ c.if-not-wants_more.false) c.loop-steps.invariant.leads c.in-Ok-None.ensures.turn.these;
      rest = KeepsTheRest-trans _ _ _ _ c.loop-steps.invariant.rest c.take_turn.ensures.rest;
    }

pub returns-in-Ok-Some-clause-watched : goal.returns-in-Ok-Some-clause-watched
returns-in-Ok-Some-clause-watched g c =
    ends_by_exit c.args.profile g.E.Environment.serves g.V.Watcher.sees g.V.Watcher.wants c.args.limit
    _ _ _ _ _ _ _ _ _ _ c.in-Ok-Some.status _ _ c.in-Ok-Some.field-0-is c.loop-steps-test.true (sym c.wants_more.ensures ∙ c.if-not-wants_more.false) c.loop-steps.invariant.leads c.in-Ok-Some.ensures.turn.these

pub returns-in-Err-clause-watched : goal.returns-in-Err-clause-watched
returns-in-Err-clause-watched g c =
    ends_by_fault_at c.args.profile g.E.Environment.serves g.V.Watcher.sees g.V.Watcher.wants c.args.limit
    _ _ _ _ _ _ _ _ _ _ _ _ c.loop-steps-test.true (sym c.wants_more.ensures ∙ c.if-not-wants_more.false) c.loop-steps.invariant.leads c.in-Err.ensures.turn.these

pub returns-clause-watched : goal.returns-clause-watched
returns-clause-watched g c =
    ends_at_limit c.args.profile g.E.Environment.serves g.V.Watcher.sees g.V.Watcher.wants c.args.limit
    _ _ _ _ _ _ c.args.limit c.loop-steps.steps (omega arith) (omega arith) (λ _. refl) c.loop-steps.invariant.leads

pub returns-then-not-wants_more-clause-watched : goal.returns-then-not-wants_more-clause-watched
returns-then-not-wants_more-clause-watched g c =
    ends_at_limit c.args.profile g.E.Environment.serves g.V.Watcher.sees g.V.Watcher.wants c.args.limit
    _ _ _ _ _ _ c.loop-steps.steps c.loop-steps.steps refl (omega (arith, c.loop-steps-test.true))
    (no_more _ (sym c.wants_more.ensures ∙ c.if-not-wants_more.true)) c.loop-steps.invariant.leads
