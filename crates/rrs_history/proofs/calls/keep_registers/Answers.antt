-- Register by register, one that is what it was, or one that is kept.
use Rattle.std.proofs.Common.{◌≡◌, ◌+◌, ◌<◌, ◌≤◌, ℕ, rules, length, slice_index, take, ◌∷◌, sym, subst, ap, ◌∙◌}
use Rattle.rrs_history.specs.Histories.{changes, room}
use Rattle.rrs_history.proofs.Carrying.{Mixed, mixed_first, mixed_same, mixed_kept, mixed_all}
use Rattle.rrs_history.proofs.calls.keep_registers.Goals as goal
use Rattle.rrs_history.proofs.calls.keep_registers.Goals.{then-after-register, else-after-register}

pub loop-register-init : goal.loop-register-init
loop-register-init c =
    let whole : length c.args.before.now ≡ 32 = search rules in
    mixed_first c.args.before.now c.args.after.now c.args.history.now whole

pub loop-register-preserved : goal.loop-register-preserved
loop-register-preserved c =
    let before = c.args.before.now in
    let after = c.args.after.now in
    let r = c.loop-register.register in
    let mid = c.loop-register.history in
    let low : 1 ≤ r = search rules in
    let high : r < 32 = search rules in
    elim c.if-after-register.branch [
      | then-after-register w ↦
          subst (λ h. Mixed before after (r + 1) c.args.history.now h) (sym w.history-is)
          (mixed_kept before after r c.args.history.now mid w.push.new.self low high c.loop-register.invariant
          (w.push.ensures.changes ∙ ap (λ x. take (room mid) (x ∷ changes mid)) w.register_part.ensures) w.push.ensures.room)
      | else-after-register w ↦
          let same : slice_index after r ≡ slice_index before r = search rules in
          subst (λ h. Mixed before after (r + 1) c.args.history.now h) (sym w.history-is)
          (mixed_same before after r c.args.history.now mid low same c.loop-register.invariant)
    ]

pub returns : goal.returns
returns c =
    let before = c.args.before.now in
    let after = c.args.after.now in
    let whole : length after ≡ 32 = search rules in
    let end : c.loop-register.register ≡ 32 = search rules in
    let P : ℕ → Type 0 = λ r. Mixed before after r c.args.history.now c.loop-register.history in
    mixed_all before after c.args.history.now c.loop-register.history whole (subst P end c.loop-register.invariant)
