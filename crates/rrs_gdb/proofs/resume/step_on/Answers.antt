-- A stop before the instruction, or behind it, or the exception of the hart's step.
use Rattle.std.proofs.Common.{ℕ, List, Contains, refl, sym, subst, ap, ◌∙◌}
use Rattle.rrs_gdb.specs.declared.state.Stop.TheVariants.{Signal}
use Rattle.rrs_gdb.specs.Sessions.{Stands, ToTouch, ToStop, ByStep, around, stopped_at}
use Rattle.rrs_gdb.proofs.HartLemmas.{none_left, stepped}
use Rattle.rrs_gdb.proofs.SessionLemmas.{stepped_on}
use Rattle.rrs_gdb.proofs.resume.step_on.Goals as goal

pub returns-then-not-may_differ-clause-made : goal.returns-then-not-may_differ-clause-made
returns-then-not-may_differ-clause-made g c =
    let a = around c.args.state.now c.args.environment.now in
    Stands (sym c.may_differ.ensures ∙ c.if-not-may_differ.true)
    (ap (λ x. stopped_at a (Signal x)) c.signal_of.ensures) refl

pub returns-in-Some-clause-made : goal.returns-in-Some-clause-made
returns-in-Some-clause-made g c =
    ToTouch c.in-Some.watch (sym c.may_differ.ensures ∙ c.if-not-may_differ.false)
    (rw c.deref.ensures.value at c.in-Some.ensures.touched) refl c.watch_hart.ensures.kept

pub returns-in-Err-clause-raised : goal.returns-in-Err-clause-raised
returns-in-Err-clause-raised g c =
    let made = c.step_hart_recorded.ensures in (
      sym c.may_differ.ensures ∙ c.if-not-may_differ.false,
      record {
        touches_none = rw c.deref.ensures.value at c.in_default.ensures.touched;
        stepped = stepped _ _ _ _ _ _ _ _ _ _ _ c.watch_hart.ensures.kept c.in-Err.is made.step made.kept.these;
        environment_kept = refl;
        entered_kept = refl;
        told_kept = refl;
      },
    )

pub returns-then-is_stop-clause-made : goal.returns-then-is_stop-clause-made
returns-then-is_stop-clause-made g c =
    let e = c.args.environment.now in
    let old = c.args.state.now in
    let step = c.step_hart_recorded in
    let made = step.ensures in
    let stops = c.deref-2.ensures.value ∙ c.count_steps.ensures.places.stops_kept in
    let mid = record (around old e) { reserved = step.new.reservation; history = step.new.history } in
    ToStop (sym c.may_differ.ensures ∙ c.if-not-may_differ.false)
    (stepped_on _ (around old e) mid (around c.count_steps.new.state e) _ _ _
    (rw c.deref.ensures.value at c.in_default.ensures.touched)
    (stepped _ _ _ _ _ _ _ _ _ _ _ c.watch_hart.ensures.kept (none_left step.result c.in_default-step_hart_recorded.not-Err) made.step made.kept.these)
    refl (c.count_steps.ensures.around e))
    (subst (λ (xs : List ℕ). Contains xs step.new.executor.hart_state.now.pc) stops c.if-is_stop.ensures.yes) refl

pub returns-clause-made : goal.returns-clause-made
returns-clause-made g c =
    let e = c.args.environment.now in
    let old = c.args.state.now in
    let step = c.step_hart_recorded in
    let made = step.ensures in
    let stops = c.deref-2.ensures.value ∙ c.count_steps.ensures.places.stops_kept in
    let mid = record (around old e) { reserved = step.new.reservation; history = step.new.history } in
    ByStep (sym c.may_differ.ensures ∙ c.if-not-may_differ.false)
    (stepped_on _ (around old e) mid (around c.count_steps.new.state e) _ _ c.count_steps.new.state.stop
    (rw c.deref.ensures.value at c.in_default.ensures.touched)
    (stepped _ _ _ _ _ _ _ _ _ _ _ c.watch_hart.ensures.kept (none_left step.result c.in_default-step_hart_recorded.not-Err) made.step made.kept.these)
    refl (c.count_steps.ensures.around e))
    (subst (λ (xs : List ℕ). ¬ Contains xs step.new.executor.hart_state.now.pc) stops c.if-is_stop.ensures.no)
