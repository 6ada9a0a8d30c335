use Rattle.std.proofs.Common.{ℕ, ◌-◌, List, Contains, refl, sym, subst, ap, ◌∙◌, arith}
use Rattle.rrs_lib.specs.Machine.{State}
use Rattle.rrs_lib.specs.Executor.{state_in}
use Rattle.rrs_history.specs.declared.history.History.{History}
use Rattle.rrs_history.specs.Histories.{changes, past}
use Rattle.rrs_gdb.specs.declared.breaks.Watch.{Watch}
use Rattle.rrs_gdb.specs.declared.back.BackEnd.TheVariants as Back
use Rattle.rrs_gdb.specs.Breaks.{GoesBack}
use Rattle.rrs_words.specs.declared.csrs.HartProfile.{HartProfile}
use Rattle.rrs_hart.specs.Harts.{hart_with}
use Rattle.rrs_gdb.specs.Harts.{HartTouchesNone, HartTouchesOne, HartStepped}
use Rattle.rrs_gdb.specs.Sessions.{NoneTouchedBehind, RunsBack, StopsBack}
use Rattle.rrs_gdb.proofs.SessionLemmas.{BackSoFar, all_gone, call_gone, none_gone, nothing_back, same_back, back_to_call, touch_gone}
use Rattle.rrs_gdb.proofs.resume.backward.Goals as goal

pub legs-init : goal.legs-init
legs-init g c = record {
  places = record { stops_kept = refl; watches_kept = refl; settings_kept = refl; caught_kept = refl; profile_kept = refl };
  so_far = none_gone _ _ _ _ _ _ _ _;
}

pub returns-then-not-is_behind_call-clause-back : goal.returns-then-not-is_behind_call-clause-back
returns-then-not-is_behind_call-clause-back g c =
    let i = c.legs.invariant in
    let back = c.go_back-back.result in
    all_gone _ _ _ _ _ _ _ _ _ _ _ _ _ back.steps _ _ _ _ _ i.so_far (RunsBack _ back.steps _ _ _ back.end
    (same_back _ _ _ _ _ _ _ _ _ _ back.end i.places.stops_kept i.places.watches_kept
    c.go_back-back.ensures.back) c.if-not-is_behind_call.ensures.no refl c.stop_back.ensures) c.saturating_sub-state.ensures

pub returns-in-Some-clause-back : goal.returns-in-Some-clause-back
returns-in-Some-clause-back g c =
    let i = c.legs.invariant in
    let state = state_in g.M.Memory.bytes g.M.Memory.writable in
    let u = state c.go_back-back.new.executor in
    let s = state c.legs.executor in
    let gone = c.go_back-back.result.steps in
    let kept = c.take_call_back.ensures.places in
    let stops = c.args.state.now.breaks.stops.items in
    let watches = c.args.state.now.breaks.watches.items in
    let back = subst (λ (h : History). GoesBack stops watches
    c.legs.left s (past (changes c.legs.state.history) s) (past (changes h) u) u gone Back.Call)
    (sym c.take_call_back.ensures.history)
    (back_to_call _ _ _ _ _ _ _ _ _ _ c.go_back-back.result.end i.places.stops_kept i.places.watches_kept
    c.if-not-is_behind_call.ensures.yes c.go_back-back.ensures.back) in
    let touched = c.in-Some.ensures.touched in
    let profile = kept.profile_kept ∙ i.places.profile_kept in
    let r = c.take_call_back.new.state.reservation in
    let one = subst (λ (p : HartProfile). HartTouchesOne watches p (hart_with u r) c.in-Some.watch) profile
    (subst (λ (ws : List Watch). HartTouchesOne ws c.take_call_back.new.state.profile (hart_with u r) c.in-Some.watch)
    (kept.watches_kept ∙ i.places.watches_kept) touched.0) in
    let again = subst (λ (p : HartProfile). HartStepped p r c.take_call_back.new.state.history u touched.1.0
    c.touch_again.new.state.reservation c.touch_again.new.state.history (state c.touch_again.new.executor)) profile touched.1.1 in
    touch_gone _ _ _ _ _ _ _ _ _ _ _ _ _ gone _ _ _ _ c.in-Some.watch c.take_call_back.new.state.reservation _
    c.take_call_back.new.state.history c.touch_again.new.state.history touched.1.0 i.so_far back c.take_call_back.ensures.taken one again
    (c.saturating_sub-state-in-Some.ensures ∙ (λ k. (c.touch_again.ensures.steps ∙ c.take_call_back.ensures.steps) k - c.saturating_sub.ensures k))

pub returns-then-is_stop-clause-back : goal.returns-then-is_stop-clause-back
returns-then-is_stop-clause-back g c =
    let i = c.legs.invariant in
    let state = state_in g.M.Memory.bytes g.M.Memory.writable in
    let u = state c.go_back-back.new.executor in
    let t = state c.touch_again.new.executor in
    let s = state c.legs.executor in
    let gone = c.go_back-back.result.steps in
    let kept = c.take_call_back.ensures.places in
    let stops = c.args.state.now.breaks.stops.items in
    let watches = c.args.state.now.breaks.watches.items in
    let none = c.in_default.ensures.touched in
    let back = subst (λ (x : State). GoesBack stops watches c.legs.left s (past (changes c.legs.state.history) s)
    (past (changes c.touch_again.new.state.history) x) x gone Back.Call) (sym none.0)
    (subst (λ (h : History). GoesBack stops watches
    c.legs.left s (past (changes c.legs.state.history) s) (past (changes h) u) u gone Back.Call)
    (sym (none.1 ∙ c.take_call_back.ensures.history))
    (back_to_call _ _ _ _ _ _ _ _ _ _ c.go_back-back.result.end i.places.stops_kept i.places.watches_kept
    c.if-not-is_behind_call.ensures.yes c.go_back-back.ensures.back)) in
    let places = c.touch_again.ensures.places.stops_kept ∙ kept.stops_kept ∙ i.places.stops_kept in
    let r = c.take_call_back.new.state.reservation in
    let untouched : NoneTouchedBehind watches c.args.state.now.profile t = (
      r,
      subst (λ (p : HartProfile). HartTouchesNone watches p (hart_with t r)) (kept.profile_kept ∙ i.places.profile_kept)
          (subst (λ (ws : List Watch). HartTouchesNone ws c.take_call_back.new.state.profile (hart_with t r))
          (kept.watches_kept ∙ i.places.watches_kept)
          (subst (λ (x : State). HartTouchesNone c.take_call_back.new.state.breaks.watches.items
          c.take_call_back.new.state.profile (hart_with x r)) (sym none.0) none.2)),
    ) in
    all_gone _ _ _ _ _ _ _ _ _ _ _ _ _ gone _ _ _ _ _ i.so_far (StopsBack _ gone _ _ _ back c.take_call_back.ensures.taken
    untouched
    (subst (λ (xs : List ℕ). Contains xs t.pc) places (rw c.deref.ensures.value at c.if-is_stop.ensures.yes)) refl)
    (c.saturating_sub-state-in-legs.ensures ∙ ap (λ (n : ℕ). n - gone) (c.touch_again.ensures.steps ∙ c.take_call_back.ensures.steps))

pub legs-preserved : goal.legs-preserved
legs-preserved g c =
    let i = c.legs.invariant in
    let state = state_in g.M.Memory.bytes g.M.Memory.writable in
    let u = state c.go_back-back.new.executor in
    let t = state c.touch_again.new.executor in
    let s = state c.legs.executor in
    let gone = c.go_back-back.result.steps in
    let kept = c.take_call_back.ensures.places in
    let again = c.touch_again.ensures.places in
    let stops = c.args.state.now.breaks.stops.items in
    let watches = c.args.state.now.breaks.watches.items in
    let first = state c.args.executor.now in
    let none = c.in_default.ensures.touched in
    let back = subst (λ (x : State). GoesBack stops watches c.legs.left s (past (changes c.legs.state.history) s)
    (past (changes c.touch_again.new.state.history) x) x gone Back.Call) (sym none.0)
    (subst (λ (h : History). GoesBack stops watches
    c.legs.left s (past (changes c.legs.state.history) s) (past (changes h) u) u gone Back.Call)
    (sym (none.1 ∙ c.take_call_back.ensures.history))
    (back_to_call _ _ _ _ _ _ _ _ _ _ c.go_back-back.result.end i.places.stops_kept i.places.watches_kept
    c.if-not-is_behind_call.ensures.yes c.go_back-back.ensures.back)) in
    let r = c.take_call_back.new.state.reservation in
    let untouched : NoneTouchedBehind watches c.args.state.now.profile t = (
      r,
      subst (λ (p : HartProfile). HartTouchesNone watches p (hart_with t r)) (kept.profile_kept ∙ i.places.profile_kept)
          (subst (λ (ws : List Watch). HartTouchesNone ws c.take_call_back.new.state.profile (hart_with t r))
          (kept.watches_kept ∙ i.places.watches_kept)
          (subst (λ (x : State). HartTouchesNone c.take_call_back.new.state.breaks.watches.items
          c.take_call_back.new.state.profile (hart_with x r)) (sym none.0) none.2)),
    ) in
    let no_stop = subst (λ (xs : List ℕ). ¬ Contains xs t.pc) (again.stops_kept ∙ kept.stops_kept ∙ i.places.stops_kept)
    (rw c.deref.ensures.value at c.if-is_stop.ensures.no) in
    let counted = c.saturating_sub-state-in-legs.ensures
    ∙ ap (λ (n : ℕ). n - gone) (c.touch_again.ensures.steps ∙ c.take_call_back.ensures.steps) in
    record {
      places = record {
        stops_kept = again.stops_kept ∙ kept.stops_kept ∙ i.places.stops_kept;
        watches_kept = again.watches_kept ∙ kept.watches_kept ∙ i.places.watches_kept;
        settings_kept = again.settings_kept ∙ kept.settings_kept ∙ i.places.settings_kept;
        caught_kept = again.caught_kept ∙ kept.caught_kept ∙ i.places.caught_kept;
        profile_kept = again.profile_kept ∙ kept.profile_kept ∙ i.places.profile_kept;
      };
      so_far = subst (λ (n : ℕ). BackSoFar stops watches c.args.state.now.profile c.args.limit c.args.environment.now first
          (past (changes c.args.state.now.history) first) c.args.state.now.steps (c.legs.left - 1)
          c.take_call_back.new.environment t (past (changes c.touch_again.new.state.history) t) n) (sym counted)
          (call_gone _ _ _ _ _ _ _ _ _ _ _ _ _ _ _ _ _ i.so_far back c.take_call_back.ensures.taken untouched no_stop);
    }

pub returns-clause-back : goal.returns-clause-back
returns-clause-back g c =
    let i = c.legs.invariant in
    all_gone _ _ _ _ _ _ _ _ _ _ _ _ _ 0 _ _ _ _ _ i.so_far (nothing_back _ _ _ _ _ _ _ (omega (arith, c.legs-test.false)))
    (omega arith)
