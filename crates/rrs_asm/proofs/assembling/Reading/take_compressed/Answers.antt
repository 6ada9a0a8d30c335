use Rattle.std.proofs.Common.{[], subst, rules, refl}
use Rattle.rrs_asm.proofs.Made.{ReadsOn-aligned}
use Rattle.rrs_asm.specs.declared.sections.Section.{Section}
use Rattle.rrs_asm.specs.Forms.{Grows}
use Rattle.rrs_asm.proofs.assembling.Reading.take_compressed.Goals as goal

-- the section has the same items
pub returns-in-Some : goal.returns-in-Some
returns-in-Some g c =
    let P : Section _ → Type 0 = λ s. Grows [] s c.take_compressed.new.self in
    ReadsOn-aligned c.args.self.now.current c.args.self.now _ c.in-Some.section.now c.take_compressed.new.self
    (λ good. record { halt = good.halt; errors = good.errors; is_first = good.is_first }) (search rules)
    (subst P c.in-Some.ensures.value c.take_compressed.ensures.items) refl refl
