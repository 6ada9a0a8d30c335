use Rattle.std.proofs.Common.{◌≡◌, true, subst, sym, [], ◌∷◌}
use Rattle.rrs_asm.specs.declared.directives.Read.{Read}
use Rattle.rrs_asm.specs.Source.{Item}
use Rattle.rrs_asm.specs.Names.{is_one_of, fill_names, IsNamed}
use Rattle.rrs_asm.specs.Forms.{skipped, items_of_read, HasItsName, ReadsOn}
use Rattle.rrs_asm.proofs.Made.{skipped-plain, ReadsOn-then}
use Rattle.rrs_asm.proofs.assembling.perform.Goals as goal

-- a statement is one of its name
pub returns-in-Laid : goal.returns-in-Laid
returns-in-Laid g c =
    let Named : Read → Type 0 = HasItsName in
    let named : IsNamed c.in-Laid.field-0.now c.in-Laid.statement = subst Named c.in-Laid.is c.requires in
    let Reads : Read → Type 0 = λ r. ReadsOn (items_of_read c.args.number r) c.args.reading.now c.put.new.reading in
    subst Reads (sym c.in-Laid.is)
    (ReadsOn-then [] (Item.Laid c.args.number c.in-Laid.field-0.now ∷ []) c.args.reading.now c.keep_notes.new.reading _
    c.keep_notes.ensures (c.put.ensures c.in-Laid.field-0.now named))

-- nothing is laid out
pub returns-in-Skipped : goal.returns-in-Skipped
returns-in-Skipped g c =
    let Reads : Read → Type 0 = λ r. ReadsOn (items_of_read c.args.number r) c.args.reading.now c.check_skipped.new.reading in
    subst Reads (sym c.in-Skipped.is)
    (c.check_skipped.ensures (skipped c.args.number c.in-Skipped.field-0.now c.in-Skipped.field-1) (skipped-plain c.args.number c.in-Skipped.field-0.now c.in-Skipped.field-1))

-- a symbol in `COMMON`
pub returns-in-Common : goal.returns-in-Common
returns-in-Common g c =
    let Named : Read → Type 0 = HasItsName in
    let fills : is_one_of fill_names c.in-Common.field-0.now ≡ true = subst Named c.in-Common.is c.requires in
    let Reads : Read → Type 0 = λ r. ReadsOn (items_of_read c.args.number r) c.args.reading.now c.put_common.new.reading in
    subst Reads (sym c.in-Common.is) (c.put_common.ensures c.in-Common.field-0.now fills)
