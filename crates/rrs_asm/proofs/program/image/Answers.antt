use Rattle.std.proofs.Common.{◌≡◌, ◌<◌, ℕ, get_or, length, List, refl, subst, sym, rules, arith}
use Rattle.std.proofs.lemmas.Grind.{common_steps}
use Rattle.rrs_asm.specs.Sections.{laid_flat, with_section, IsImage}
use Rattle.rrs_asm.specs.declared.sections.Section.{Section}
use Rattle.rrs_asm.proofs.Images.{is-image, laid-next, laid-last}
use Rattle.rrs_asm.proofs.program.image.Goals as goal

-- the bytes of one section more
pub loop-section-preserved : goal.loop-section-preserved
loop-section-preserved g c =
    let Next : Section _ → Type 0 = λ s. c.append_section.new.bytes.items ≡ with_section c.args.base c.loop-section.bytes.items s in
    let Of : List (Section _) → Type 0 = λ xs. Next (get_or xs c.loop-section.section-index c.section-item.result) in
    let below : c.loop-section.section-index < length c.args.program.now.sections.items = first_of (search rules, omega arith, grind (arith, common_steps)) in
    laid-next c.args.base c.loop-section.bytes.items c.append_section.new.bytes.items (laid_flat c.args.base c.args.program.now.sections.items) c.loop-section.section-index _ c.args.program.now.sections.items c.section-item.result refl below
    (subst Of c.deref-section-items.ensures.value (subst Next c.section-item.is c.in_ok-append_section.ensures)) c.loop-section.invariant

-- the bytes of all
pub returns-clause-laid_flat : goal.returns-clause-laid_flat
returns-clause-laid_flat g c = laid-last c.args.base c.loop-section.bytes.items _ c.loop-section.section-index c.args.program.now.sections.items (first_of (search rules, omega arith)) c.loop-section.invariant

-- the bytes one after the other are those of each section at its address
pub returns-clause-at_addresses : goal.returns-clause-at_addresses
returns-clause-at_addresses g c = λ layout text placed.
    let laid : c.loop-section.bytes.items ≡ laid_flat c.args.base c.args.program.now.sections.items =
    laid-last c.args.base c.loop-section.bytes.items _ c.loop-section.section-index c.args.program.now.sections.items (first_of (search rules, omega arith)) c.loop-section.invariant in
    let P : List ℕ → Type 0 = λ bytes. IsImage c.args.base c.args.program.now.sections.items bytes in
    subst P (sym laid) (is-image layout c.args.base c.args.program.now.sections.items text placed)
