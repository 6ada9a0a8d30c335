use Rattle.std.proofs.Common.{[], ◌∷◌}
use Rattle.rrs_asm.specs.Source.{Item}
use Rattle.rrs_asm.specs.Sections.{in_common}
use Rattle.rrs_asm.proofs.Made.{ReadsOn-then}
use Rattle.rrs_asm.proofs.assembling.put_symbol.Goals as goal

-- zeros, the label, and zeros
pub returns-clause-items : goal.returns-clause-items
returns-clause-items g c = λ directive fills.
    ReadsOn-then [] (in_common c.args.number directive c.args.name.now) c.args.reading.now c.align_common-padding.new.reading _ c.align_common-padding.ensures
    (ReadsOn-then (Item.Laid c.args.number directive ∷ []) (Item.Label c.args.number c.args.name.now ∷ Item.Laid c.args.number directive ∷ []) _ c.put.new.reading _
    (c.put.ensures directive fills)
    (ReadsOn-then (Item.Label c.args.number c.args.name.now ∷ []) (Item.Laid c.args.number directive ∷ []) _ c.put_label.new.reading _
    c.put_label.ensures (c.put-2.ensures directive fills)))
