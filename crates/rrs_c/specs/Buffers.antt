-- The text of an instruction, as C has it.
use Rattle.std.specs.Prelude.{◌≡◌, ℕ, ◌+◌, ◌≤◌, nat_lt, if◌then◌else◌, List, ◌∷◌, ◌++◌, length, drop, IsSomeAnd}
use Rattle.rrs_lib.specs.Encodings.{Fields}
use Rattle.rrs_lib.specs.Table.{Row, Decodes, IsIllegal}
use Rattle.rrs_lib.specs.Texts.{text_of}
use Rattle.rrs_words.specs.declared.layers.LayerInstruction.{LayerInstruction}
use Rattle.rrs_words.specs.Layers.{IsOfLayer, layer_text}

-- a buffer after a text was put at its front, and a 0 after it; where there is no room for both it
-- stays
abbrev pub with_text : List ℕ → List ℕ → List ℕ
with_text text buffer =
    if nat_lt (length text) (length buffer)
    then text ++ 0 ∷ drop (length text + 1) buffer else buffer

-- The text of a word that is an instruction of a layer is put into a buffer, and its length is told.
-- Another word has none: length 0. No text has more than 88 bytes.
pub record PutsLayer (word : ℕ) (old new : List ℕ) (told : ℕ) : Type 0 where
  pub of_layer : (i : LayerInstruction) → IsOfLayer word i
      → (told ≡ length (layer_text i)) × (new ≡ with_text (layer_text i) old)
  pub outside : ((i : LayerInstruction) → ¬ IsOfLayer word i) → (told ≡ 0) × (new ≡ old)
  pub bound : told ≤ 88

-- The text of the word at a pc is put into a buffer, and its length is told: that of a row of the
-- table, or that of a layer.
pub record Disassembles (word pc : ℕ) (old new : List ℕ) (told : ℕ) : Type 0 where
  pub of_row : (row : Row) (f : Fields) → Decodes word row f
      → IsSomeAnd (text_of row f pc) (λ text. (told ≡ length text) × (new ≡ with_text text old))
  pub outside : IsIllegal word → PutsLayer word old new told
  pub bound : told ≤ 88
