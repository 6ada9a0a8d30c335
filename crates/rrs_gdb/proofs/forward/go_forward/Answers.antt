use Rattle.std.proofs.Common.{Ok, Err, refl, sym, subst, arith}
use Rattle.rrs_lib.specs.Machine.{State}
use Rattle.rrs_lib.specs.Executor.{state_in}
use Rattle.rrs_lib.specs.Steps.{RunsOk, Step, StepAnswer}
use Rattle.rrs_lib.proofs.Stepping.{RunsOk-more, KeepsTheRest-trans}
use Rattle.rrs_history.specs.Histories.{Remembers}
use Rattle.rrs_trace.proofs.Stopping.{passes_more}
use Rattle.rrs_gdb.proofs.BreakLemmas.{KeptSoFar, none_kept, one_more, kept_whole, kept_fault, none_stepped}
use Rattle.rrs_gdb.specs.Breaks.{TouchesOne}
use Rattle.rrs_gdb.proofs.WatchLemmas.{none_made, one_more_untouched}
use Rattle.rrs_gdb.proofs.forward.go_forward.Goals as goal

pub loop-steps-init : goal.loop-steps-init
loop-steps-init g c = record {
  runs = refl;
  passes = none_stepped _ _;
  untouched = none_made _ _;
  kept = none_kept _ _;
  rest = record { entry_zero = refl; layout_kept = refl; same_memory = refl; same_hart = refl };
}

pub returns-in-Err-clause-run : goal.returns-in-Err-clause-run
returns-in-Err-clause-run g c =
    let state = state_in g.M.Memory.bytes g.M.Memory.writable in
    let i = c.loop-steps.invariant in
    let e : StepAnswer = Err c.in-Err.exception in
    let step = subst (λ (m : State). Step m (state c.step_recorded.new.executor) e) c.watch_at.ensures.kept c.in-Err.ensures.step in
    let more = one_more_untouched _ _ _ _ i.untouched i.runs (rw c.deref-in-loop-steps.ensures.value at c.in_default.ensures.touched) in
    (((c.loop-steps-test.true, (_, i.runs, step)), i.passes), more)

pub returns-then-is_stop-clause-run : goal.returns-then-is_stop-clause-run
returns-then-is_stop-clause-run g c =
    let state = state_in g.M.Memory.bytes g.M.Memory.writable in
    let i = c.loop-steps.invariant in
    let ok : StepAnswer = Ok tt in
    let step = subst (λ (m : State). Step m (state c.step_recorded.new.executor) ok) c.watch_at.ensures.kept c.in_default-step_recorded.ensures.step in
    let runs = RunsOk-more _ _ _ _ i.runs step in
    let more = one_more_untouched _ _ _ _ i.untouched i.runs (rw c.deref-in-loop-steps.ensures.value at c.in_default.ensures.touched) in
    ((omega arith, omega (arith, c.loop-steps-test.true), runs, rw c.deref-in-loop-steps-2.ensures.value at c.if-is_stop.ensures.yes, i.passes), more)

pub returns-then-is_stop-clause-kept : goal.returns-then-is_stop-clause-kept
returns-then-is_stop-clause-kept g c = λ room.
    let state = state_in g.M.Memory.bytes g.M.Memory.writable in
    let ok : StepAnswer = Ok tt in
    let step = subst (λ (m : State). Step m (state c.step_recorded.new.executor) ok) c.watch_at.ensures.kept c.in_default-step_recorded.ensures.step in
    let remembered = subst (λ (m : State). Remembers c.loop-steps.history m c.step_recorded.new.history (state c.step_recorded.new.executor)) c.watch_at.ensures.kept c.in_default-step_recorded.ensures.remembered in
    kept_whole _ _ _ _ _ (one_more _ _ _ _ _ _ _ c.loop-steps.invariant.kept step remembered)

pub loop-steps-preserved : goal.loop-steps-preserved
loop-steps-preserved g c =
    let state = state_in g.M.Memory.bytes g.M.Memory.writable in
    let i = c.loop-steps.invariant in
    let ok : StepAnswer = Ok tt in
    let step = subst (λ (m : State). Step m (state c.step_recorded.new.executor) ok) c.watch_at.ensures.kept c.in_default-step_recorded.ensures.step in
    let remembered = subst (λ (m : State). Remembers c.loop-steps.history m c.step_recorded.new.history (state c.step_recorded.new.executor)) c.watch_at.ensures.kept c.in_default-step_recorded.ensures.remembered in
    let runs = RunsOk-more _ _ _ _ i.runs step in
    record {
      runs = runs;
      passes = passes_more _ _ _ _ i.passes runs (rw c.deref-in-loop-steps-2.ensures.value at c.if-is_stop.ensures.no);
      untouched = one_more_untouched _ _ _ _ i.untouched i.runs (rw c.deref-in-loop-steps.ensures.value at c.in_default.ensures.touched);
      kept = one_more _ _ _ _ _ _ _ i.kept step remembered;
      rest = KeepsTheRest-trans _ _ _ _ i.rest (KeepsTheRest-trans _ _ _ _ c.watch_at.ensures.rest c.step_recorded.ensures.rest);
    }

pub returns-in-Err-clause-rest : goal.returns-in-Err-clause-rest
returns-in-Err-clause-rest g c =
    KeepsTheRest-trans _ _ _ _ c.loop-steps.invariant.rest
    (KeepsTheRest-trans _ _ _ _ c.watch_at.ensures.rest c.step_recorded.ensures.rest)

pub returns-then-is_stop-clause-rest : goal.returns-then-is_stop-clause-rest
returns-then-is_stop-clause-rest g c =
    KeepsTheRest-trans _ _ _ _ c.loop-steps.invariant.rest
    (KeepsTheRest-trans _ _ _ _ c.watch_at.ensures.rest c.step_recorded.ensures.rest)

pub returns-in-Some-clause-rest : goal.returns-in-Some-clause-rest
returns-in-Some-clause-rest g c = KeepsTheRest-trans _ _ _ _ c.loop-steps.invariant.rest c.watch_at.ensures.rest

pub returns-in-Some-clause-run : goal.returns-in-Some-clause-run
returns-in-Some-clause-run g c =
    let state = state_in g.M.Memory.bytes g.M.Memory.writable in
    let i = c.loop-steps.invariant in
    let kept = sym c.watch_at.ensures.kept in (
      c.loop-steps-test.true,
      subst (λ (m : State). RunsOk c.loop-steps.steps (state c.args.executor.now) m) kept i.runs,
      i.passes,
      i.untouched,
      subst (λ (m : State). TouchesOne c.args.breaks.now.watches.items m c.in-Some.watch) kept
          (rw c.deref-in-loop-steps.ensures.value at c.in-Some.ensures.touched),
    )

pub returns-in-Some-clause-kept : goal.returns-in-Some-clause-kept
returns-in-Some-clause-kept g c = λ room.
    let state = state_in g.M.Memory.bytes g.M.Memory.writable in
    kept_whole _ _ _ _ _
    (subst (λ (m : State). KeptSoFar c.loop-steps.steps c.args.history.now (state c.args.executor.now) c.loop-steps.history m)
    (sym c.watch_at.ensures.kept) c.loop-steps.invariant.kept)

pub returns-in-Err-clause-kept : goal.returns-in-Err-clause-kept
returns-in-Err-clause-kept g c = λ room.
    let state = state_in g.M.Memory.bytes g.M.Memory.writable in
    let so_far = subst (λ (m : State). KeptSoFar c.loop-steps.steps c.args.history.now (state c.args.executor.now) c.loop-steps.history m)
    (sym c.watch_at.ensures.kept) c.loop-steps.invariant.kept in
    kept_fault _ _ c.loop-steps.history _ _ _ _ so_far c.in-Err.ensures.fault c.in-Err.ensures.kept c.in-Err.ensures.room
