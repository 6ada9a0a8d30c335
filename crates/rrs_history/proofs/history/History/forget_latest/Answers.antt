-- Parts, and then the change with which the step or the call began.
use Rattle.std.proofs.Common.{◌≡◌, [], ◌∷◌, drop, inl, inr, refl, ap, ◌∙◌}
use Rattle.rrs_history.specs.Histories.{changes, past}
use Rattle.rrs_history.specs.Changes.{undone}
use Rattle.rrs_history.proofs.Remembering.{past-part, past-starts, popped, nothing_there}
use Rattle.rrs_history.proofs.history.History.forget_latest.Goals as goal

pub parts-init : goal.parts-init
parts-init c = record { leads = λ t. (t, refl); room_kept = refl }

pub parts-preserved : goal.parts-preserved
parts-preserved c =
    let new = c.pop_front.new.self.items in
    let change = c.in-Some.latest in
    let are : changes c.parts.self ≡ change ∷ new =
    popped (changes c.parts.self) new change c.in-Some.ensures.value (ap (λ r. r.items) c.pop_front.ensures.items) in
    record {
      leads = λ t.
          let so_far = c.parts.invariant.leads t in
          (undone change so_far.0, so_far.1 ∙ ap (λ cs. past cs so_far.0) are ∙ past-part change new so_far.0 c.if-latest.false);
      room_kept = ap (λ r. r.capacity) c.pop_front.ensures.items ∙ c.parts.invariant.room_kept;
    }

pub returns-then-latest-clause-forgets : goal.returns-then-latest-clause-forgets
returns-then-latest-clause-forgets c = λ t.
    let new = c.pop_front.new.self.items in
    let change = c.in-Some.latest in
    let are : changes c.parts.self ≡ change ∷ new =
    popped (changes c.parts.self) new change c.in-Some.ensures.value (ap (λ r. r.items) c.pop_front.ensures.items) in
    let so_far = c.parts.invariant.leads t in
    inl (
      undone change so_far.0,
      so_far.1 ∙ ap (λ cs. past cs so_far.0) are ∙ past-starts change new (undone change so_far.0) so_far.0 c.if-latest.true refl,
    )

pub returns-clause-forgets : goal.returns-clause-forgets
returns-clause-forgets c = λ t.
    let so_far = c.parts.invariant.leads t in
    let empty : changes c.parts.self ≡ [] = nothing_there (changes c.parts.self) c.in_default.ensures.value in
    inr (so_far.1 ∙ ap (λ cs. past cs so_far.0) empty, ap (λ r. r.items) c.pop_front.ensures.items ∙ ap (drop 1) empty)
