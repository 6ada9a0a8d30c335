use Rattle.std.proofs.Common.{◌≡◌, ℕ, ◌-◌, refl, subst, ap, ◌∙◌, arith}
use Rattle.rrs_lib.specs.Executor.{state_in}
use Rattle.rrs_gdb.specs.Sessions.{PlacesKept, GoesOn, Runs, Stops, GoesBehind, around, asked_by}
use Rattle.rrs_gdb.proofs.SessionLemmas.{asked_kept, at_limit, no_fault, passes_same, ran, same_places, to_fault}
use Rattle.rrs_gdb.proofs.resume.forward.Goals as goal

pub returns-in_default-clause-goes_on : goal.returns-in_default-clause-goes_on
returns-in_default-clause-goes_on g c =
    let i = c.legs.invariant in
    let end = c.go_forward-steps.result in
    let no = no_fault end.reason c.in_default.not-Fault in
    i.goes_on _ _ (Runs _ _ _ end.steps end.reason
    (same_places _ _ _ _ _ _ _ end.reason _ i.places.stops_kept i.places.watches_kept c.go_forward-steps.ensures.run)
    no
    (ran end.steps _ _ _ (around c.count_steps.new.state c.legs.environment) _ c.stop_of.result refl refl refl refl
    c.go_forward-steps.ensures.kept (c.count_steps.ensures.around c.legs.environment))
    c.stop_of.ensures)

pub returns-in-Some-clause-goes_on : goal.returns-in-Some-clause-goes_on
returns-in-Some-clause-goes_on g c =
    let state = state_in g.M.Memory.bytes g.M.Memory.writable in
    let i = c.legs.invariant in
    let end = c.go_forward-steps.result in
    let told = c.count_steps.ensures.places in
    let fault = c.in-Fault.fault in
    let places : PlacesKept c.args.state.now c.count_steps.new.state = record {
      stops_kept = told.stops_kept ∙ i.places.stops_kept;
      watches_kept = told.watches_kept ∙ i.places.watches_kept;
      settings_kept = told.settings_kept ∙ i.places.settings_kept;
      caught_kept = told.caught_kept ∙ i.places.caught_kept;
      profile_kept = told.profile_kept ∙ i.places.profile_kept;
    } in
    let counted = around c.count_steps.new.state c.legs.environment in
    let m = state c.go_forward-steps.new.executor in
    i.goes_on _ _ (Stops _ _ _ end.steps fault counted m
    (to_fault _ _ _ _ _ _ _ end.reason fault _ i.places.stops_kept i.places.watches_kept c.in-Fault.is c.go_forward-steps.ensures.run)
    (ran end.steps _ _ _ counted _ c.count_steps.new.state.stop refl refl refl refl
    c.go_forward-steps.ensures.kept (c.count_steps.ensures.around c.legs.environment))
    (rw c.in-Some.is at (passes_same _ _ _ fault counted (around c.pass.new.state c.pass.new.environment) m
    (state c.pass.new.executor) (asked_kept _ _ places) c.in_ok-stop.ensures.passes)))

pub returns-clause-goes_on : goal.returns-clause-goes_on
returns-clause-goes_on g c = c.legs.invariant.goes_on _ _ (at_limit _ _ _ _ _ (omega (arith, c.legs-test.false)))

pub legs-preserved : goal.legs-preserved
legs-preserved g c =
    let state = state_in g.M.Memory.bytes g.M.Memory.writable in
    let i = c.legs.invariant in
    let end = c.go_forward-steps.result in
    let told = c.count_steps.ensures.places in
    let made = c.pass.ensures.places in
    let fault = c.in-Fault.fault in
    let places : PlacesKept c.args.state.now c.count_steps.new.state = record {
      stops_kept = told.stops_kept ∙ i.places.stops_kept;
      watches_kept = told.watches_kept ∙ i.places.watches_kept;
      settings_kept = told.settings_kept ∙ i.places.settings_kept;
      caught_kept = told.caught_kept ∙ i.places.caught_kept;
      profile_kept = told.profile_kept ∙ i.places.profile_kept;
    } in
    let counted = around c.count_steps.new.state c.legs.environment in
    let m = state c.go_forward-steps.new.executor in
    let after = around c.pass.new.state c.pass.new.environment in
    let left : c.saturating_sub-left.result ≡ c.legs.left - end.steps - 1 =
    c.saturating_sub-left.ensures ∙ ap (λ (n : ℕ). n - 1) c.saturating_sub.ensures in
    record {
      places = record {
        stops_kept = made.stops_kept ∙ places.stops_kept;
        watches_kept = made.watches_kept ∙ places.watches_kept;
        settings_kept = made.settings_kept ∙ places.settings_kept;
        caught_kept = made.caught_kept ∙ places.caught_kept;
        profile_kept = made.profile_kept ∙ places.profile_kept;
      };
      goes_on = λ b t later. i.goes_on b t (GoesBehind _ _ _ end.steps fault counted m after _
          (to_fault _ _ _ _ _ _ _ end.reason fault _ i.places.stops_kept i.places.watches_kept c.in-Fault.is
          c.go_forward-steps.ensures.run)
          (ran end.steps _ _ _ counted _ c.count_steps.new.state.stop refl refl refl refl
          c.go_forward-steps.ensures.kept (c.count_steps.ensures.around c.legs.environment))
          (rw c.in_default-2.is at (passes_same _ _ _ fault counted after m (state c.pass.new.executor)
          (asked_kept _ _ places) c.in_ok-stop.ensures.passes))
          (subst (λ (n : ℕ). GoesOn (asked_by c.args.state.now) c.args.at_limit b t n
          after (state c.pass.new.executor)) left later));
      acknowledges = c.pass.ensures.acknowledges ∙ i.acknowledges;
    }
