use Rattle.std.proofs.Common.{[], ◌∷◌, subst, rules, refl}
use Rattle.rrs_asm.proofs.Made.{of-ok, ReadsOn-at, ReadsOn-kept}
use Rattle.rrs_asm.specs.declared.sections.Section.{Section}
use Rattle.rrs_asm.specs.Source.{Item}
use Rattle.rrs_asm.specs.Forms.{Grows}
use Rattle.rrs_asm.proofs.assembling.put.Goals as goal

-- the open section has the statement after the others
pub returns-in-Some : goal.returns-in-Some
returns-in-Some g c = λ name named good.
    let P : Section _ → Type 0 = λ s. Grows (Item.Laid c.args.number name ∷ []) s c.put-put.new.self in
    ReadsOn-kept (Item.Laid c.args.number name ∷ []) c.args.reading.now _ c.keep.new.self (λ kept. (c.keep.ensures kept).1)
    (ReadsOn-at (Item.Laid c.args.number name) c.args.reading.now _ c.in-Some.section.now c.put-put.new.self
    (λ g. record { halt = g.halt; errors = g.errors; is_first = g.is_first }) tt (search rules)
    (subst P c.in-Some.ensures.value (of-ok c.put-put.result tt c.put-put.ensures (c.keep.ensures good).0 name named)) refl refl) good
