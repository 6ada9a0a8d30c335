-- By which of them it is.
use Rattle.std.proofs.Common.{◌≡◌, ◌↔◌, Some, sym, subst}
use Rattle.rrs_words.specs.declared.layers.LayerInstruction.{LayerInstruction}
use Rattle.rrs_words.specs.Layers.{IsOfLayer}
use Rattle.rrs_words.proofs.layers.encode_layer.Goals as goal

pub returns-in-System : goal.returns-in-System
returns-in-System c w =
    subst (λ (i : LayerInstruction). (c.encode_system.result ≡ Some w) ↔ IsOfLayer w i) (sym c.in-System.is)
    (c.encode_system.ensures w)

pub returns-in-Atomic : goal.returns-in-Atomic
returns-in-Atomic c w =
    subst (λ (i : LayerInstruction). (c.encode_atomic.result ≡ Some w) ↔ IsOfLayer w i) (sym c.in-Atomic.is)
    (c.encode_atomic.ensures w)

pub returns-in-Bits : goal.returns-in-Bits
returns-in-Bits c w =
    subst (λ (i : LayerInstruction). (c.encode_bits.result ≡ Some w) ↔ IsOfLayer w i) (sym c.in-Bits.is)
    (c.encode_bits.ensures w)
