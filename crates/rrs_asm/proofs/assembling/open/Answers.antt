use Rattle.std.proofs.Common.{◌≡◌, ◌<◌, List, length, refl, subst, arith}
use Rattle.rrs_asm.specs.declared.sections.Section.{Section}
use Rattle.rrs_asm.specs.Sections.{names_of, index_of}
use Rattle.rrs_asm.proofs.Made.{IsRead-opened, names-length}
use Rattle.rrs_asm.proofs.assembling.open.Goals as goal

-- the section is open then
pub returns-else-is_missing : goal.returns-else-is_missing
returns-else-is_missing g c = λ good.
    let Is : List (Section _) → Type 0 = λ xs. c.section_named-index.result ≡ index_of c.args.name.now (names_of xs) in
    let is : Is c.args.reading.now.sections.items = subst Is c.deref.ensures.value c.section_named-index.ensures in
    record {
      good = record { halt = good.halt; errors = good.errors; is_first = good.is_first };
      reads = IsRead-opened c.args.name.now c.args.reading.now _ refl is (λ laid.
          let Below : List (Section _) → Type 0 = λ xs. c.section_named-index.result < length xs in
          let below : Below c.args.reading.now.sections.items = subst Below c.deref-2.ensures.value (c.is_missing.ensures c.if-is_missing.false laid) in
          omega (arith, is, names-length c.args.reading.now.sections.items));
    }
