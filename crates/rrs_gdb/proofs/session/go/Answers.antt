-- A program that has ended stays where it is.
use Rattle.std.proofs.Common.{◌≡◌, ◌∙◌, Bool, false, refl, sym, subst}
use Rattle.rrs_lib.specs.Executor.{state_in}
use Rattle.rrs_gdb.specs.declared.session.Going.{Going}
use Rattle.rrs_gdb.specs.declared.state.Stop.{Stop}
use Rattle.rrs_gdb.specs.declared.state.Stop.TheVariants.{Signal}
use Rattle.rrs_gdb.specs.Sessions.{GoesBy, around, asked_by, stopped_at}
use Rattle.rrs_gdb.proofs.SessionLemmas.{goes_by_limit, goes_by_step, not_ended, stays}
use Rattle.rrs_gdb.proofs.session.go.Goals as goal
use Rattle.rrs_gdb.proofs.session.go.Goals.{in-Step, in-Proceed}

pub returns-then-has_ended-clause-places : goal.returns-then-has_ended-clause-places
returns-then-has_ended-clause-places g c =
    record { stops_kept = refl; watches_kept = refl; settings_kept = refl; caught_kept = refl; profile_kept = refl }

pub returns-then-has_ended-clause-goes_on : goal.returns-then-has_ended-clause-goes_on
returns-then-has_ended-clause-goes_on g c =
    stays c.tell_stop.result c.args.going _ _ _ _ _ (sym c.has_ended.ensures ∙ c.if-has_ended.true)

pub returns-then-has_ended-clause-told : goal.returns-then-has_ended-clause-told
returns-then-has_ended-clause-told g c = c.tell_stop.ensures.told

pub returns-then-has_ended-clause-error : goal.returns-then-has_ended-clause-error
returns-then-has_ended-clause-error g c = c.tell_stop.ensures.no_error

-- a signal
pub returns-in-Killed-clause-places : goal.returns-in-Killed-clause-places
returns-in-Killed-clause-places g c =
    record { stops_kept = refl; watches_kept = refl; settings_kept = refl; caught_kept = refl; profile_kept = refl }

pub returns-in-Killed-clause-goes_on : goal.returns-in-Killed-clause-goes_on
returns-in-Killed-clause-goes_on g c =
    let state = state_in g.M.Memory.bytes g.M.Memory.writable in
    let now = c.args.state.now in
    let a = around now c.args.environment.now in
    let b = stopped_at a (Stop.Killed c.in-Killed.signal) in
    let s = state c.args.executor.now in
    not_ended c.tell_stop-in-Killed.result (λ (e : Bool). GoesBy c.args.going e (asked_by now) now.settings.limit a s b s)
    _ (sym c.has_ended.ensures ∙ c.if-has_ended.false)
    (subst (λ (by : Going). GoesBy by false (asked_by now) now.settings.limit a s b s) (sym c.in-Killed.is) (refl, refl))

pub returns-in-Killed-clause-told : goal.returns-in-Killed-clause-told
returns-in-Killed-clause-told g c = c.tell_stop-in-Killed.ensures.told

pub returns-in-Killed-clause-error : goal.returns-in-Killed-clause-error
returns-in-Killed-clause-error g c = c.tell_stop-in-Killed.ensures.no_error

-- a step, or a run
pub returns-in_err-stop-clause-places : goal.returns-in_err-stop-clause-places
returns-in_err-stop-clause-places g c = c.forward.ensures.places

pub returns-clause-places : goal.returns-clause-places
returns-clause-places g c =
    let kept = c.forward.ensures.places in
    record {
      stops_kept = kept.stops_kept;
      watches_kept = kept.watches_kept;
      settings_kept = kept.settings_kept;
      caught_kept = kept.caught_kept;
      profile_kept = kept.profile_kept;
    }

pub returns-clause-goes_on : goal.returns-clause-goes_on
returns-clause-goes_on g c =
    let state = state_in g.M.Memory.bytes g.M.Memory.writable in
    let now = c.args.state.now in
    let goes = c.in_ok-stop.ensures.goes_on in
    let a = around now c.args.environment.now in
    let b = stopped_at (around c.forward.new.state c.forward.new.environment) c.in_ok-stop.stop in
    let by : GoesBy c.args.going false (asked_by now) now.settings.limit a (state c.args.executor.now)
    b (state c.forward.new.executor) =
    elim c.match-going.branch [
      | in-Step w ↦
          let one : c.match-going.limit.0 ≡ 1 = rw w.limit-is refl in
          let at : c.match-going.limit.1 ≡ Signal 5 = rw w.limit-is refl in
          goes_by_step _ _ _ _ _ _ _ _ _ w.in-Step.is one at goes
      | in-Proceed w ↦
          let all : c.match-going.limit.0 ≡ now.settings.limit = rw w.limit-is refl in
          let at : c.match-going.limit.1 ≡ Signal 2 = rw w.limit-is refl in
          goes_by_limit _ _ _ _ _ _ _ _ _ w.in-Proceed.is all at goes
    ] in
    not_ended c.tell_stop-2.result (λ (e : Bool). GoesBy c.args.going e (asked_by now) now.settings.limit
    a (state c.args.executor.now) b (state c.forward.new.executor)) _ (sym c.has_ended.ensures ∙ c.if-has_ended.false) by

pub returns-clause-told : goal.returns-clause-told
returns-clause-told g c = c.tell_stop-2.ensures.told

pub returns-clause-error : goal.returns-clause-error
returns-clause-error g c = c.tell_stop-2.ensures.no_error
