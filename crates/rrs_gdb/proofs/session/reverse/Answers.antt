-- One step, or as many as there are.
use Rattle.std.proofs.Common.{◌≡◌, ◌-◌, ◌^◌, ℕ, inl, inr, subst}
use Rattle.rrs_lib.specs.Executor.{state_in}
use Rattle.rrs_gdb.specs.Sessions.{SessionGoesBack}
use Rattle.rrs_gdb.proofs.session.reverse.Goals as goal

pub returns-in_default-clause-step : goal.returns-in_default-clause-step
returns-in_default-clause-step g c = λ is.
    let some = c.in_default.ensures.step is in
    absurd (cc)

pub returns-in_default-clause-goes_back : goal.returns-in_default-clause-goes_back
returns-in_default-clause-goes_back g c = λ is.
    let some = c.in_default.ensures.goes_back is in
    absurd (cc)

pub returns-clause-places : goal.returns-clause-places
returns-clause-places g c =
    let kept = c.backward-stop.ensures.places in
    record {
      stops_kept = kept.stops_kept;
      watches_kept = kept.watches_kept;
      settings_kept = kept.settings_kept;
      caught_kept = kept.caught_kept;
      profile_kept = kept.profile_kept;
    }

pub returns-clause-error : goal.returns-clause-error
returns-clause-error g c = c.push_stop.ensures.no_error

pub returns-clause-step : goal.returns-clause-step
returns-clause-step g c = λ is.
    let state = state_in g.M.Memory.bytes g.M.Memory.writable in
    let some = c.in-Some.ensures.step is in
    let one : c.in-Some.limit ≡ 1 = cc in
    subst (λ (n : ℕ). SessionGoesBack n c.backward-stop.result c.args.state.now c.args.environment.now (state c.args.executor.now)
    c.backward-stop.new.state c.backward-stop.new.environment (state c.backward-stop.new.executor)) one
    c.backward-stop.ensures.back

pub returns-clause-goes_back : goal.returns-clause-goes_back
returns-clause-goes_back g c = λ is.
    let state = state_in g.M.Memory.bytes g.M.Memory.writable in
    let some = c.in-Some.ensures.goes_back is in
    let all : c.in-Some.limit ≡ 2 ^ 64 - 1 = cc in
    subst (λ (n : ℕ). SessionGoesBack n c.backward-stop.result c.args.state.now c.args.environment.now (state c.args.executor.now)
    c.backward-stop.new.state c.backward-stop.new.environment (state c.backward-stop.new.executor)) all
    c.backward-stop.ensures.back

pub returns-in_default-clause-told : goal.returns-in_default-clause-told
returns-in_default-clause-told g c = λ is. absurd (elim is as (λ _. ⊥) [
  | inl at ↦ (let some = c.in_default.ensures.step at in cc)
  | inr at ↦ (let some = c.in_default.ensures.goes_back at in cc)
])
