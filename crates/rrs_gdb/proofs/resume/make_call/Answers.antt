-- A stop before the call, or what comes of the call.
use Rattle.std.proofs.Common.{◌%◌, ℕ, ◌∙◌, Option, refl, subst, ap}
use Rattle.rrs_lib.specs.Executor.{state_in}
use Rattle.rrs_gdb.specs.declared.state.Stop.{Stop}
use Rattle.rrs_gdb.specs.declared.state.Stop.TheVariants.{Exited}
use Rattle.rrs_gdb.specs.Sessions.{Around, Before, CallServed, Ends, PassesBefore, StopsBefore, around, asked_by, stopped_at}
use Rattle.rrs_gdb.proofs.OutputLemmas.{none_before, printed_by_all, prints_call}
use Rattle.rrs_gdb.proofs.SessionLemmas.{behind_call, call_made, call_served}
use Rattle.rrs_gdb.proofs.resume.make_call.Goals as goal

pub returns-in-Some-clause-made : goal.returns-in-Some-clause-made
returns-in-Some-clause-made g c =
    let e = c.args.environment.now in
    let mem = c.args.executor.now.mem.now in
    let a = around c.args.state.now e in
    let b = stopped_at (around c.stop_before.new.state e) c.in-Some.stop in
    Before (subst (λ (n : ℕ). StopsBefore (asked_by c.args.state.now) a n b)
    (c.read_register-number.ensures (g.M.Memory.bytes mem) (g.M.Memory.writable mem)) (c.in-Some.ensures.stop e)) refl

pub returns-in-Some-end-clause-made : goal.returns-in-Some-end-clause-made
returns-in-Some-end-clause-made g c =
    let e = c.args.environment.now in
    let mem = c.args.executor.now.mem.now in
    let a = around c.args.state.now e in
    let s = state_in g.M.Memory.bytes g.M.Memory.writable c.args.executor.now in
    let t = state_in g.M.Memory.bytes g.M.Memory.writable c.serve_recorded-end.new.executor in
    let number = c.read_register-number.ensures (g.M.Memory.bytes mem) (g.M.Memory.writable mem) in
    let passed = c.in_default.ensures.stop e in
    let made = c.serve_recorded-end.ensures.served.these in
    let sent = c.send_made.new in
    let status = c.in-Some-end.status in
    let b = stopped_at (around sent.state sent.environment) (Exited (status % 256)) in
    let same = ap (λ (x : Around). x.history) (c.send_made.ensures.around sent.environment) in
    let reserved = ap (λ (x : Around). x.reserved) (c.send_made.ensures.around sent.environment) in
    let served = call_served (around c.stop_before.new.state e) b s t c.serve_recorded-end.result _ _ _ made.0 made.1
    c.in_ok-send_made.ensures.taken reserved same in
    Ends status (subst (λ (n : ℕ). PassesBefore (asked_by c.args.state.now) a n) number passed.1)
    (subst (λ (o : Option ℕ). CallServed a s o b t) c.in-Some-end.is
    (subst (λ (x : Around). CallServed x s c.serve_recorded-end.result b t) passed.0 served)) refl

pub returns-in-None-clause-made : goal.returns-in-None-clause-made
returns-in-None-clause-made g c =
    let e = c.args.environment.now in
    let mem = c.args.executor.now.mem.now in
    let a = around c.args.state.now e in
    let s = state_in g.M.Memory.bytes g.M.Memory.writable c.args.executor.now in
    let t = state_in g.M.Memory.bytes g.M.Memory.writable c.serve_recorded-end.new.executor in
    let number = c.read_register-number.ensures (g.M.Memory.bytes mem) (g.M.Memory.writable mem) in
    let passed = c.in_default.ensures.stop e in
    let made = c.serve_recorded-end.ensures.served.these in
    let sent = c.send_made.new in
    let told = c.send_made.ensures.around sent.environment in
    let last = c.stop_behind.ensures.around sent.environment in
    let b = around c.stop_behind.new.state sent.environment in
    let same = ap (λ (x : Around). x.history) last ∙ ap (λ (x : Around). x.history) told in
    let reserved = ap (λ (x : Around). x.reserved) last ∙ ap (λ (x : Around). x.reserved) told in
    let served = call_served (around c.stop_before.new.state e) b s t c.serve_recorded-end.result _ _ _ made.0 made.1
    c.in_ok-send_made.ensures.taken reserved same in
    let stopped : (at : Stop) → CallServed (around c.stop_before.new.state e) s c.serve_recorded-end.result (stopped_at b at) t = λ at.
    call_served (around c.stop_before.new.state e) (stopped_at b at) s t c.serve_recorded-end.result _ _ _ made.0 made.1
    c.in_ok-send_made.ensures.taken reserved same in
    call_made (asked_by c.args.state.now) a b s t c.serve_recorded-end.result c.read_register-number.result c.stop_behind.result c.in-None.is
    (subst (λ (n : ℕ). PassesBefore (asked_by c.args.state.now) a n) number passed.1)
    (λ at. subst (λ (x : Around). CallServed x s c.serve_recorded-end.result (stopped_at b at) t) passed.0 (stopped at))
    (subst (λ (x : Around). CallServed x s c.serve_recorded-end.result b t) passed.0 served) number
    (behind_call c.stop_behind.result _ _ _ _ _ _
    (ap (λ (x : Around). x.entered) told ∙ ap (λ (x : Around). x.entered) passed.0)
    (c.send_made.ensures.places.stops_kept ∙ c.stop_before.ensures.places.stops_kept) c.stop_behind.ensures.stop)
    (ap (λ (x : Around). x.entered) last)
    (ap (λ (x : Around). x.told_exit) last ∙ ap (λ (x : Around). x.told_exit) told ∙ ap (λ (x : Around). x.told_exit) passed.0)

pub returns-in-Some-clause-printed : goal.returns-in-Some-clause-printed
returns-in-Some-clause-printed g c = λ after.
    let e = c.args.environment.now in
    absurd (none_before _ _ (around c.stop_before.new.state e) _ c.in-Some.stop (c.in-Some.ensures.stop e) after)

pub returns-in-Some-end-clause-printed : goal.returns-in-Some-end-clause-printed
returns-in-Some-end-clause-printed g c = λ _.
    let made = c.serve_recorded-end.ensures.served.these in
    prints_call g.W.Write.contents _ _ _ _ c.serve_recorded-end.result _ _ _ _ _ _ _ c.stop_before.ensures.made
    c.stop_before.ensures.sent made.0 c.in_ok-send_made.ensures.sent

pub returns-in-None-clause-printed : goal.returns-in-None-clause-printed
returns-in-None-clause-printed g c =
    let made = c.serve_recorded-end.ensures.served.these in
    printed_by_all c.stop_behind.result _ (prints_call g.W.Write.contents _ _ _ _ c.serve_recorded-end.result _ _ _ _ _ _ _
    c.stop_before.ensures.made c.stop_before.ensures.sent made.0 c.in_ok-send_made.ensures.sent)

pub returns-in-Some-clause-counted : goal.returns-in-Some-clause-counted
returns-in-Some-clause-counted g c = λ _ after.
    let e = c.args.environment.now in
    absurd (none_before _ _ (around c.stop_before.new.state e) _ c.in-Some.stop (c.in-Some.ensures.stop e) after)

pub returns-in-Some-clause-noted : goal.returns-in-Some-clause-noted
returns-in-Some-clause-noted g c = λ after.
    let e = c.args.environment.now in
    absurd (none_before _ _ (around c.stop_before.new.state e) _ c.in-Some.stop (c.in-Some.ensures.stop e) after)
