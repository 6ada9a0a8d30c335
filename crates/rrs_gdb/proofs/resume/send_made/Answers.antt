use Rattle.std.proofs.Common.{◌≡◌, ◌-◌, ◌+◌, ◌<◌, ◌^◌, ◌∙◌, List, ℕ, drop, length, subst, ap, arith, rules}
use Rattle.rrs_gdb.specs.Shown.{Prints}
use Rattle.rrs_gdb.proofs.OutputLemmas.{prints_new}
use Rattle.rrs_gdb.proofs.resume.send_made.Goals as goal

pub returns-in_err-send_new-2-clause-around : goal.returns-in_err-send_new-2-clause-around
returns-in_err-send_new-2-clause-around g c = λ e. c.send_new-2.ensures.around e ∙ c.send_new.ensures.around e

pub returns-clause-around : goal.returns-clause-around
returns-clause-around g c = λ e. c.send_new-2.ensures.around e ∙ c.send_new.ensures.around e

pub returns-clause-sent : goal.returns-clause-sent
returns-clause-sent g c = λ small.
    let out = c.args.environment.now.output.items in
    let errors = c.args.environment.now.errors.items in
    let first = c.send_new.ensures in
    let bytes : c.deref.result.now ≡ out = search rules in
    let others : c.deref-2.result.now ≡ errors = search rules in
    let few : c.args.state.now.made + length c.deref.result.now < 2 ^ 64 = omega (arith, small, ap length bytes) in
    let known = c.args.state.now.sent - c.args.state.now.made in
    let left = c.send_new.new.state.sent - c.send_new.new.state.made in
    prints_new g.W.Write.contents c.args.link.now c.send_new.new.link c.send_new-2.new.link known left out errors
    (subst (λ (xs : List ℕ). Prints g.W.Write.contents c.args.link.now c.send_new.new.link (drop known xs)) bytes
    c.in_ok-send_new.ensures.sent)
    (subst (λ (xs : List ℕ). left ≡ known - length xs) bytes (c.in_ok-send_new.ensures.known few))
    (subst (λ (xs : List ℕ). Prints g.W.Write.contents c.send_new.new.link c.send_new-2.new.link (drop left xs)) others
    c.in_ok-send_new-2.ensures.sent)
