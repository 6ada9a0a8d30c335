use Rattle.std.proofs.Common.{◌≡◌, ◌+◌, sym, subst, ◌∙◌, ap, arith}
use Rattle.rrs_lib.specs.Machine.{State}
use Rattle.rrs_lib.specs.Executor.{state_in}
use Rattle.rrs_lib.specs.Steps.{Step}
use Rattle.rrs_lib.proofs.Stepping.{KeepsTheRest-trans}
use Rattle.rrs_history.specs.Histories.{past, changes}
use Rattle.rrs_gdb.specs.Breaks.{ComesTo, TouchesNone}
use Rattle.rrs_gdb.proofs.BreakLemmas.{PassedSoFar, one_passed, comes_to, all_passed, limit_passed}
use Rattle.rrs_gdb.proofs.back.go_back.Goals as goal

pub returns-in_default-clause-back : goal.returns-in_default-clause-back
returns-in_default-clause-back g c =
    let state = state_in g.M.Memory.bytes g.M.Memory.writable in
    let none = c.in_default.ensures.none in
    let same = c.in_default.ensures.unchanged in
    let i = c.steps.invariant in
    let all = all_passed _ _ _ c.args.limit _ _ _ _ i.passed none (omega (arith, c.steps-test.true, i.within)) in (
      ap (λ (t : State). past (changes c.step_back.new.history) t) same.1
          ∙ ap (λ cs. past cs (state c.steps.executor)) same.0 ∙ none,
      all.0,
      all.1,
      same.1 ∙ all.2,
      all.3,
    )

pub returns-clause-back : goal.returns-clause-back
returns-clause-back g c =
    let i = c.steps.invariant in
    limit_passed _ _ _ _ _ _ _ _ i.passed (omega (arith, c.steps-test.false, i.within))

pub returns-in-Some-watch_at-clause-back : goal.returns-in-Some-watch_at-clause-back
returns-in-Some-watch_at-clause-back g c =
    let state = state_in g.M.Memory.bytes g.M.Memory.writable in (
      state c.step_back.new.executor,
      past (changes c.step_back.new.history) (state c.step_back.new.executor),
      c.step_recorded-answer.result,
      comes_to _ _ _ _ _ _ _ _ _ _ _ c.steps.invariant.passed c.in-Some.ensures.back
          (omega (arith, c.steps-test.true)) (omega arith),
      rw c.deref.ensures.value at c.in-Some-watch_at.ensures.touched,
      subst (λ (m : State). Step m (state c.step_recorded-answer.new.executor) c.step_recorded-answer.result)
          c.watch_at.ensures.kept c.step_recorded-answer.ensures.step,
    )

pub returns-then-is_stop-clause-back : goal.returns-then-is_stop-clause-back
returns-then-is_stop-clause-back g c =
    let state = state_in g.M.Memory.bytes g.M.Memory.writable in
    let i = c.steps.invariant in
    let kept = sym c.watch_at.ensures.kept in
    let stops = c.args.breaks.now.stops.items in
    let watches = c.args.breaks.now.watches.items in
    let before = past (changes c.args.history.now) (state c.args.executor.now) in
    let none : TouchesNone watches (state c.step_back.new.executor) = rw c.deref.ensures.value at c.in_default-watch_at.ensures.touched in
    let comes : ComesTo stops watches c.args.limit before (state c.step_back.new.executor) (past (changes c.step_back.new.history) (state c.step_back.new.executor)) (c.steps.steps + 1) =
    comes_to _ _ _ _ _ _ _ _ _ _ _ i.passed c.in-Some.ensures.back (omega (arith, c.steps-test.true)) (omega arith) in (
      subst (λ (t : State). ComesTo stops watches c.args.limit before t (past (changes c.step_back.new.history) t)
          (c.steps.steps + 1)) kept comes,
      rw c.deref-in-steps.ensures.value at c.if-is_stop.ensures.yes,
      subst (TouchesNone watches) kept none,
    )

pub steps-preserved : goal.steps-preserved
steps-preserved g c =
    let state = state_in g.M.Memory.bytes g.M.Memory.writable in
    let i = c.steps.invariant in
    let kept = c.watch_at.ensures.kept in
    let same_pc : (state c.step_back.new.executor).pc ≡ (state c.watch_at.new.executor).pc = sym (ap (λ (t : State). t.pc) kept) in
    let other = rw c.deref-in-steps.ensures.value at c.if-is_stop.ensures.no in
    let none = rw c.deref.ensures.value at c.in_default-watch_at.ensures.touched in
    let stops = c.args.breaks.now.stops.items in
    let watches = c.args.breaks.now.watches.items in
    let first = state c.args.executor.now in
    let before = past (changes c.args.history.now) first in
    let more = one_passed _ _ _ _ _ _ _ _ _ i.passed c.in-Some.ensures.back (rw same_pc other, none) in
    record {
      passed = subst (λ (t : State). PassedSoFar stops watches (c.steps.steps + 1) first before t
          (past (changes c.step_back.new.history) t)) (sym kept) more;
      within = omega (arith, c.steps-test.true);
      rest = KeepsTheRest-trans _ _ _ _ i.rest (KeepsTheRest-trans _ _ _ _ c.step_back.ensures.rest c.watch_at.ensures.rest);
    }
