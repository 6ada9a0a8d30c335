-- What the steps of telling say of statements before these are known to lie one after the other.
use Rattle.std.specs.Prelude.{◌≡◌, ℕ, ◌≤◌, List, [], ◌∷◌, ◌++◌, length, min}
use Rattle.rrs_asm.specs.declared.output.Placed.{Placed}
use Rattle.rrs_asm.specs.declared.sections.Section.{Section}
use Rattle.rrs_asm.specs.Statements.{AreBytes}
use Rattle.rrs_lent.specs.declared.outcome.RrsStatement.{RrsStatement}
use Rattle.rrs_lent.specs.declared.outcome.RrsAssembled.{RrsAssembled}
use Rattle.rrs_lent.specs.declared.told.Told.{Told}
use Rattle.rrs_asm_output.specs.Mistakes.{line_in}
use Rattle.rrs_lent.specs.Telling.{Assembles, TellMistakes}

-- a statement is told with the size of its bytes, whichever they are, up to the greatest number
pub record IsAsLong (numbers : List ℕ) (placed : Placed) (told : RrsStatement)
    : Type 0 where
  pub line : told.line ≡ line_in numbers placed.line
  pub address : told.address ≡ placed.address
  pub size : (own : List ℕ) → AreBytes placed.statement own
      → told.size ≡ min (length own) 0xffffffff

abbrev pub AreAsLong : List ℕ → List Placed → List RrsStatement → Type 0
AreAsLong numbers [] told = told ≡ []
AreAsLong numbers (p ∷ others) told =
    (own : RrsStatement) × (rest : List RrsStatement) × IsAsLong numbers p own
    × AreAsLong numbers others rest × (told ≡ own ∷ rest)

abbrev pub AreAllAsLong : {A : Type 0} → List ℕ → List (Section A) → List RrsStatement → Type 0
AreAllAsLong numbers [] told = told ≡ []
AreAllAsLong numbers (s ∷ others) told =
    (own : List RrsStatement) × (rest : List RrsStatement)
    × AreAsLong numbers s.made.placed.items own × AreAllAsLong numbers others rest
    × (told ≡ own ++ rest)

-- a section has no more bytes than an assembler makes
abbrev pub IsShort : {A : Type 0} → Section A → Type 0
IsShort s = length s.made.bytes.items ≤ 0x4000000

-- what is told of a source, before it is put anywhere
pub data IsTold {A : Type 0} (source : List ℕ) (start : ℕ) (told : Told A) : Type 0 where
  IsProgram :
      told.end ≡ 0 → told.mistakes.items ≡ []
      → Assembles A source start told.entry told.bytes.items told.statements.items
      told.symbols.items told.texts.items
      → IsTold source start told
  IsRefused :
      told.end ≡ 1 → told.entry ≡ 0 → told.bytes.items ≡ [] → told.statements.items ≡ []
      → told.symbols.items ≡ [] → TellMistakes told.mistakes.items told.texts.items
      → IsTold source start told

-- how many of each there are in it
abbrev pub counted : {A : Type 0} → Told A → RrsAssembled
counted told = record {
  end = told.end;
  entry = told.entry;
  bytes = length told.bytes.items;
  statements = length told.statements.items;
  symbols = length told.symbols.items;
  mistakes = length told.mistakes.items;
  texts = length told.texts.items;
  room = 0;
}
