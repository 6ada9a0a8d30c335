-- A call is served, also one that the hart's step raises alone; otherwise a step of the hart is made.
use Rattle.std.proofs.Common.{sym, ap, ◌∙◌}
use Rattle.rrs_gdb.specs.declared.state.Stop.TheVariants.{Signal}
use Rattle.rrs_gdb.proofs.SessionLemmas.{asked_kept, call_at, left_so, passes_call, passes_fault, passes_harts_call}
use Rattle.rrs_gdb.proofs.resume.pass.Goals as goal

pub returns-then-is_call-clause-passes : goal.returns-then-is_call-clause-passes
returns-then-is_call-clause-passes g c =
    let call = call_at c.args.fault (sym c.is_call.ensures ∙ c.if-is_call.true) in
    passes_call c.make_call.result _ c.args.fault _ _ _ _ call.0 call.1 c.make_call.ensures.made

pub returns-in-Ok-clause-passes : goal.returns-in-Ok-clause-passes
returns-in-Ok-clause-passes g c =
    passes_fault c.in-Ok.stop _ c.args.fault _ _ _ _ (sym c.is_call.ensures ∙ c.if-is_call.false) c.in-Ok.ensures.made

pub returns-then-is_call-2-clause-passes : goal.returns-then-is_call-2-clause-passes
returns-then-is_call-2-clause-passes g c =
    let call = call_at c.in-Err.left (sym c.is_call-2.ensures ∙ c.if-is_call-2.true) in
    let raised = c.in-Err.ensures.raised in
    passes_harts_call c.make_call-then-is_call-2.result _ _ c.args.fault c.in-Err.left _ _ _ _ _ _ call.0 (asked_kept _ _ c.step_on.ensures.places)
    raised.0 call.1 raised.1 c.make_call-then-is_call-2.ensures.made

pub returns-clause-passes : goal.returns-clause-passes
returns-clause-passes g c =
    let raised = c.in-Err.ensures.raised in
    left_so _ c.args.fault c.in-Err.left _ _ _ _ _ (sym c.is_call.ensures ∙ c.if-is_call.false) raised.0
    (sym c.is_call-2.ensures ∙ c.if-is_call-2.false) raised.1 (ap Signal c.signal_of.ensures)
