-- An encoding is one row at most, and else one instruction of a layer at most.
use Rattle.std.proofs.Common.{◌≡◌, true, sym, subst, ◌∙◌}
use Rattle.rrs_instruction.specs.Encodings.{Fields}
use Rattle.rrs_instruction.specs.Instructions.{row_of, fields_of}
use Rattle.rrs_instruction.specs.Table.{Row, table}
use Rattle.rrs_words.specs.declared.csrs.HartProfile.{HartProfile}
use Rattle.rrs_words.specs.declared.layers.LayerInstruction.{LayerInstruction}
use Rattle.rrs_hart.specs.declared.halves.Encoding.{Encoding}
use Rattle.rrs_hart.specs.Halves.{StandsFor, IsNoRow, IsLayers}
use Rattle.rrs_hart.proofs.HalvesSteps.{one_row_stands, one_layer_stands}
use Rattle.rrs_machine.specs.Traps.{stores, layer_stores, IsStore, RowStores, LayerStores}
use Rattle.rrs_machine.proofs.traps.is_store.Goals as goal

row_stores : (p : HartProfile) (x : Encoding) (row : Row) (f : Fields) → StandsFor x row f → IsStore p x → stores (table row).action ≡ true
row_stores p x row f stands (RowStores row' f' stands' is) =
    subst (λ r. stores (table r).action ≡ true) (one_row_stands x row' row f' f stands' stands).0 is
row_stores p x row f stands (LayerStores i none layers is) = absurd (none row f stands)

stores_too : (p : HartProfile) (x : Encoding) (i : LayerInstruction) → IsNoRow x → IsLayers p x i → IsStore p x → layer_stores i ≡ true
stores_too p x i none layers (RowStores row f stands is) = absurd (none row f stands)
stores_too p x i none layers (LayerStores j none' layers' is) =
    subst (λ y. layer_stores y ≡ true) (one_layer_stands p x j i layers' layers) is

no_store : (p : HartProfile) (x : Encoding) → IsNoRow x → ((i : LayerInstruction) → ¬ IsLayers p x i) → ¬ IsStore p x
no_store p x none outside (RowStores row f stands is) = none row f stands
no_store p x none outside (LayerStores i none' layers is) = outside i layers

pub returns-in-Some : goal.returns-in-Some
returns-in-Some c =
    let i = c.in-Some.instruction in
    let stands = c.in-Some.ensures.stands in (
      λ yes. RowStores (row_of i) (fields_of i) stands (sym c.stores.ensures ∙ yes),
      λ store. c.stores.ensures ∙ row_stores c.args.profile c.args.encoding (row_of i) (fields_of i) stands store,
    )

pub returns-in-Some-layer_in : goal.returns-in-Some-layer_in
returns-in-Some-layer_in c =
    let i = c.in-Some-layer_in.instruction in
    let none = c.in_default.ensures.outside in
    let layers = c.in-Some-layer_in.ensures.is in (
      λ yes. LayerStores i none layers (sym c.layer_stores.ensures ∙ yes),
      λ store. c.layer_stores.ensures ∙ stores_too c.args.profile c.args.encoding i none layers store,
    )
