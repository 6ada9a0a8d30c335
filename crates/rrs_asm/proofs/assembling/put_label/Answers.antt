use Rattle.std.proofs.Common.{[], ◌∷◌, subst, rules, refl}
use Rattle.rrs_asm.proofs.Made.{of-ok, ReadsOn-at, ReadsOn-kept}
use Rattle.rrs_asm.specs.declared.sections.Section.{Section}
use Rattle.rrs_asm.specs.Source.{Item}
use Rattle.rrs_asm.specs.Forms.{Grows}
use Rattle.rrs_asm.proofs.assembling.put_label.Goals as goal

-- the open section has the label after the others
pub returns-in-Some-get_mut : goal.returns-in-Some-get_mut
returns-in-Some-get_mut g c = λ good.
    let P : Section _ → Type 0 = λ s. Grows (Item.Label c.args.number c.args.name.now ∷ []) s c.put_label-put.new.self in
    ReadsOn-kept (Item.Label c.args.number c.args.name.now ∷ []) c.args.reading.now _ c.keep.new.self (λ kept. (c.keep.ensures kept).1)
    (ReadsOn-at (Item.Label c.args.number c.args.name.now) c.args.reading.now _ c.in-Some-get_mut.section.now c.put_label-put.new.self
    (λ g. record { halt = g.halt; errors = g.errors; is_first = g.is_first }) tt (search rules)
    (subst P c.in-Some-get_mut.ensures.value (of-ok c.put_label-put.result tt c.put_label-put.ensures (c.keep.ensures good).0)) refl refl) good
