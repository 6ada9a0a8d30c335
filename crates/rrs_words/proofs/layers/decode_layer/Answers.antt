-- A word that none of them decodes is an instruction of none.
use Rattle.std.proofs.Common.{ℕ}
use Rattle.rrs_instruction.specs.declared.instruction_formats.IType.{IType}
use Rattle.rrs_instruction.specs.declared.instruction_formats.RType.{RType}
use Rattle.rrs_words.specs.declared.instructions.SystemRow.{SystemRow}
use Rattle.rrs_words.specs.declared.atomics.AtomicRow.{AtomicRow}
use Rattle.rrs_words.specs.declared.bits.BitRow.{BitRow}
use Rattle.rrs_words.specs.declared.layers.LayerInstruction.{LayerInstruction}
use Rattle.rrs_words.specs.declared.layers.LayerInstruction.TheVariants.{System, Atomic, Bits}
use Rattle.rrs_words.specs.SystemInstructions.{IsSystem}
use Rattle.rrs_words.specs.AtomicInstructions.{IsAtomic}
use Rattle.rrs_words.specs.BitInstructions.{IsBits}
use Rattle.rrs_words.specs.Layers.{IsOfLayer}
use Rattle.rrs_words.proofs.layers.decode_layer.Goals as goal

of_none : (w : ℕ) (i : LayerInstruction) → ((row : SystemRow) (f : IType) → ¬ IsSystem w row f)
    → ((row : AtomicRow) (f : RType) → ¬ IsAtomic w row f) → ((row : BitRow) (f : RType) → ¬ IsBits w row f) → ¬ IsOfLayer w i
of_none w (System i) no_system no_atomic no_bits is = no_system i.row i.fields is
of_none w (Atomic i) no_system no_atomic no_bits is = no_atomic i.row i.fields is
of_none w (Bits i) no_system no_atomic no_bits is = no_bits i.row i.fields is

pub returns-clause-outside : goal.returns-clause-outside
returns-clause-outside c = λ i.
    of_none c.args.word i c.in_default.ensures.outside c.in_default-decode_atomic.ensures.outside c.in_default-decode_bits.ensures.outside
