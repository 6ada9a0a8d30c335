-- Which bytes a statement is, how statements stand one after another, and what is made of items.
use Rattle.std.specs.Prelude.{◌≡◌, ℕ, ◌+◌, ◌%◌, ◌^◌, Bool, true, false, List, [], ◌∷◌, ◌++◌, length, replicate}
use Rattle.std.specs.Int.{to_le_bytes, w16, w32}
use Rattle.rrs_instruction.specs.declared.instruction.Instruction.{Instruction}
use Rattle.rrs_instruction.specs.Instructions.{IsInstruction}
use Rattle.rrs_words.specs.Layers.{IsOfLayer}
use Rattle.rrs_words.specs.Forms.{IsShort}
use Rattle.rrs_asm.specs.declared.statements.Statement.{Statement}
use Rattle.rrs_asm.specs.declared.output.Label.{Label}
use Rattle.rrs_asm.specs.declared.output.Placed.{Placed}
use Rattle.rrs_asm.specs.Names.{IsNamed}
use Rattle.rrs_asm.specs.Pseudo.{expanded}
use Rattle.rrs_asm.specs.Source.{Item}

-- the bytes are the words of these instructions one after another, each with its lowest byte first
abbrev pub AreWords : List Instruction → List ℕ → Type 0
AreWords [] bytes = bytes ≡ []
AreWords (i ∷ others) bytes =
    (w : ℕ) × (rest : List ℕ) × IsInstruction w i × AreWords others rest
    × (bytes ≡ to_le_bytes w32 w ++ rest)

-- the bytes are those of a statement
abbrev pub AreBytes : Statement → List ℕ → Type 0
AreBytes (Statement.Instruction i) bytes = AreWords (i ∷ []) bytes
AreBytes (Statement.Layer i) bytes = (w : ℕ) × IsOfLayer w i × (bytes ≡ to_le_bytes w32 w)
AreBytes (Statement.Short i) bytes =
    (h : ℕ) × IsShort h i.form i.operands × (bytes ≡ to_le_bytes w16 h)
AreBytes (Statement.Pseudo pseudo) bytes = AreWords (expanded pseudo) bytes
AreBytes (Statement.Data count) bytes = length bytes ≡ count
AreBytes (Statement.Fill count byte) bytes = bytes ≡ replicate count byte
AreBytes Statement.Unimp bytes = bytes ≡ to_le_bytes w32 0xc0001073

abbrev pub is_short : Statement → Bool
is_short (Statement.Short i) = true
is_short _ = false

-- The statements stand one after another from an address on: the address of each is that of the
-- one before and its size. These are their bytes.
abbrev pub LaysOut : ℕ → List Placed → List ℕ → Type 0
LaysOut address [] bytes = bytes ≡ []
LaysOut address (p ∷ others) bytes =
    (own : List ℕ) × (rest : List ℕ) × (p.address ≡ address) × AreBytes p.statement own
    × LaysOut (address + length own) others rest × (bytes ≡ own ++ rest)

-- the label of a line and a name stands at an address
pub record IsLabelAt (at number : ℕ) (own_name : List ℕ) (label : Label) : Type 0 where
  pub line : label.line ≡ number
  pub name : label.name.now ≡ own_name
  pub address : label.address ≡ at % 2 ^ 32

-- a statement of a line and a name stands at an address, as these bytes
pub record IsPlacedAt (at number : ℕ) (own_name : List ℕ) (placed : Placed) (own : List ℕ) : Type 0
  where
    pub line : placed.line ≡ number
    pub address : placed.address ≡ at
    pub name : IsNamed own_name placed.statement
    pub bytes : AreBytes placed.statement own

-- What is made of items, from an address on: each label and each statement is one of theirs, in
-- order, and each item has its label or its statement. A label's address is that of what stands
-- after it, and a statement's that at which the one before it ends.
abbrev pub IsMade : ℕ → List Item → List Label → List Placed → List ℕ → Type 0
IsMade address [] labels placed bytes = (labels ≡ []) × (placed ≡ []) × (bytes ≡ [])
IsMade address (Item.Label line name ∷ items) labels placed bytes =
    (l : Label) × (others : List Label) × IsLabelAt address line name l
    × IsMade address items others placed bytes × (labels ≡ l ∷ others)
IsMade address (Item.Laid line name ∷ items) labels placed bytes =
    (p : Placed) × (others : List Placed) × (own : List ℕ) × (rest : List ℕ)
    × IsPlacedAt address line name p own × IsMade (address + length own) items labels others rest
    × (placed ≡ p ∷ others) × (bytes ≡ own ++ rest)
IsMade address (Item.Section name ∷ items) labels placed bytes =
    IsMade address items labels placed bytes
IsMade address (Item.Common line directive symbol ∷ items) labels placed bytes =
    IsMade address items labels placed bytes

-- one statement of a line more stands after those from `base` on
pub record AddsPlaced (base number : ℕ) (own_statement : Statement) (old new : List Placed)
    (before after : List ℕ) : Type 0 where
  pub placed : Placed
  pub own : List ℕ
  pub line : placed.line ≡ number
  pub address : placed.address ≡ base + length before
  pub statement : placed.statement ≡ own_statement
  pub bytes : AreBytes own_statement own
  pub behind : new ≡ old ++ placed ∷ []
  pub bytes_behind : after ≡ before ++ own
