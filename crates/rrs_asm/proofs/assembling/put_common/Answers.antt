use Rattle.std.proofs.Common.{◌≡◌, List, subst, refl}
use Rattle.rrs_asm.proofs.Made.{ReadsOn-common}
use Rattle.rrs_asm.specs.declared.sections.Section.{Section}
use Rattle.rrs_asm.specs.Sections.{common, names_of}
use Rattle.rrs_asm.proofs.assembling.put_common.Goals as goal

-- `COMMON` has the symbol and its bytes after the others
pub returns : goal.returns
returns g c = λ directive fills.
    let At : List (Section _) → Type 0 = λ xs. c.section_named-reading.result ≡ common (names_of xs) in
    let at : At c.args.reading.now.sections.items = subst At c.deref.ensures.value c.section_named-reading.ensures in
    ReadsOn-common c.args.number directive c.args.name.now c.args.reading.now _ _ _
    (λ good. record { halt = good.halt; errors = good.errors; is_first = good.is_first })
    (λ good. record { halt = good.halt; errors = good.errors; is_first = good.is_first })
    refl at c.put_symbol.ensures.open (c.put_symbol.ensures.items directive fills) refl refl
