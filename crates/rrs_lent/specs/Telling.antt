-- What a caller that lends its memory is told of a source (rrs_asm_macros, Expansion; rrs_asm,
-- Source and Sections): the bytes, the statements and the labels of its sections, or its mistakes.
-- Texts lie one after the other in one buffer, and what is told of a label or a mistake says where
-- its own begins.
use Rattle.std.specs.Prelude.{◌≡◌, ℕ, ◌+◌, ◌≤◌, false, List, [], ◌∷◌, ◌++◌, length, drop, unwrap_or}
use Rattle.rrs_asm.specs.declared.output.Label.{Label}
use Rattle.rrs_asm.specs.declared.output.Placed.{Placed}
use Rattle.rrs_asm.specs.declared.sections.Section.{Section}
use Rattle.rrs_asm.specs.Source.{items_of}
use Rattle.rrs_asm.specs.Statements.{AreBytes}
use Rattle.rrs_asm.specs.Sections.{flat, AreSectionsOf, IsImage}
use Rattle.rrs_asm_output.specs.Executables.{entry_of}
use Rattle.rrs_asm_macros.specs.declared.output.Expanded.{Expanded}
use Rattle.rrs_asm_macros.specs.Comments.{without_comments}
use Rattle.rrs_asm_macros.specs.Directives.{has_directives}
use Rattle.rrs_asm_macros.specs.Expansion.{Becomes}
use Rattle.rrs_asm_macros.specs.Lines.{IsMapped, IsSame}
use Rattle.rrs_lent.specs.declared.outcome.RrsStatement.{RrsStatement}
use Rattle.rrs_lent.specs.declared.outcome.RrsSymbol.{RrsSymbol}
use Rattle.rrs_lent.specs.declared.outcome.RrsMistake.{RrsMistake}
use Rattle.rrs_asm_output.specs.Mistakes.{line_in}
use Rattle.rrs_lent.specs.declared.outcome.RrsAssembled.{RrsAssembled}

-- ---- lines

-- The text is what the source becomes without its macros, conditions and repetitions, and each of
-- its lines is of one of the source: where there are none of these, of itself.
pub record IsTextOf {A : Type 0} (source : List ℕ) (expanded : Expanded A) : Type 0 where
  pub becomes : Becomes source expanded.text.items
  pub mapped : IsMapped source expanded
  pub same : has_directives source ≡ false → IsSame source expanded

-- ---- statements

-- a statement is told by its line, its address, and how many bytes it has
pub record TellsStatement (numbers : List ℕ) (placed : Placed)
    (told : RrsStatement) : Type 0
  where
    pub line : told.line ≡ line_in numbers placed.line
    pub address : told.address ≡ placed.address
    pub own : List ℕ
    pub bytes : AreBytes placed.statement own
    pub size : told.size ≡ length own

-- each statement is told, in order
abbrev pub TellStatements : List ℕ → List Placed → List RrsStatement → Type 0
TellStatements numbers [] told = told ≡ []
TellStatements numbers (p ∷ others) told =
    (own : RrsStatement) × (rest : List RrsStatement) × TellsStatement numbers p own
    × TellStatements numbers others rest × (told ≡ own ∷ rest)

-- the statements of each section, section by section
abbrev pub TellAll : {A : Type 0} → List ℕ → List (Section A) → List RrsStatement → Type 0
TellAll numbers [] told = told ≡ []
TellAll numbers (s ∷ others) told =
    (own : List RrsStatement) × (rest : List RrsStatement)
    × TellStatements numbers s.made.placed.items own × TellAll numbers others rest
    × (told ≡ own ++ rest)

-- ---- labels

-- the names of labels one after the other
abbrev pub names_of : List Label → List ℕ
names_of [] = []
names_of (l ∷ others) = l.name.now ++ names_of others

-- labels as they are told, where the name of the first begins at a place of the texts
abbrev pub symbols_from : List ℕ → ℕ → List Label → List RrsSymbol
symbols_from numbers at [] = []
symbols_from numbers at (l ∷ others) =
    record {
      line = line_in numbers l.line;
      name = at;
      length = length l.name.now;
      address = l.address;
    }
    ∷ symbols_from numbers (at + length l.name.now) others

-- those of each section, section by section
abbrev pub all_names_of : {A : Type 0} → List (Section A) → List ℕ
all_names_of [] = []
all_names_of (s ∷ others) = names_of s.made.labels.items ++ all_names_of others

abbrev pub all_symbols_from : {A : Type 0} → List ℕ → ℕ → List (Section A) → List RrsSymbol
all_symbols_from numbers at [] = []
all_symbols_from numbers at (s ∷ others) =
    symbols_from numbers at s.made.labels.items
    ++ all_symbols_from numbers (at + length (names_of s.made.labels.items)) others

-- ---- a program

-- The sections are those of the text that the source becomes, which has blanks for its block
-- comments, the first at an address. What is told
-- are their bytes from this address on, their statements, their labels with their names, and where
-- the program begins: without any byte at this address.
pub record TellsProgram {A : Type 0} (source : List ℕ) (start entry : ℕ) (bytes : List ℕ)
    (statements : List RrsStatement) (symbols : List RrsSymbol) (texts : List ℕ)
    (expanded : Expanded A) (sections : List (Section A)) : Type 0 where
  pub text_of : IsTextOf (without_comments source) expanded
  pub sections_of : AreSectionsOf (flat start) (items_of expanded.text.items) sections
  pub image : IsImage start sections bytes
  pub statements_of : TellAll expanded.lines.items sections statements
  pub symbols_of : symbols ≡ all_symbols_from expanded.lines.items 0 sections
  pub names : texts ≡ all_names_of sections
  pub entry_of : entry ≡ unwrap_or (entry_of sections) start

-- a source is assembled, and this is told of it
abbrev pub Assembles : (A : Type 0) → List ℕ → ℕ → ℕ → List ℕ → List RrsStatement → List RrsSymbol
    → List ℕ → Type 0
Assembles A source start entry bytes statements symbols texts =
    (expanded : Expanded A) × (sections : List (Section A))
    × TellsProgram source start entry bytes statements symbols texts expanded sections

-- ---- mistakes

-- the texts of mistakes lie one after the other, the first at a place, and end at another
abbrev pub LieBehind : ℕ → List RrsMistake → ℕ → Type 0
LieBehind at [] end = at ≡ end
LieBehind at (m ∷ others) end = (m.text ≡ at) × LieBehind (at + m.length) others end

-- at least one mistake is told and at most 20, and the text of each lies in the texts
pub record TellMistakes (mistakes : List RrsMistake) (texts : List ℕ) : Type 0 where
  pub some : 1 ≤ length mistakes
  pub most : length mistakes ≤ 20
  pub texts_of : LieBehind 0 mistakes (length texts)

-- ---- buffers

-- how many of each there are
pub record AreCounts (told : RrsAssembled) (bytes statements symbols mistakes texts : ℕ) : Type 0
  where
    pub bytes_are : told.bytes ≡ bytes
    pub statements_are : told.statements ≡ statements
    pub symbols_are : told.symbols ≡ symbols
    pub mistakes_are : told.mistakes ≡ mistakes
    pub texts_are : told.texts ≡ texts

-- each buffer has room for what there is
pub record AllFit (told : RrsAssembled) (bytes statements symbols mistakes texts : ℕ) : Type 0 where
  pub bytes_fit : told.bytes ≤ bytes
  pub statements_fit : told.statements ≤ statements
  pub symbols_fit : told.symbols ≤ symbols
  pub mistakes_fit : told.mistakes ≤ mistakes
  pub texts_fit : told.texts ≤ texts

-- there is no program
pub record HasNoProgram (told : RrsAssembled) : Type 0 where
  pub entry : told.entry ≡ 0
  pub bytes : told.bytes ≡ 0
  pub statements : told.statements ≡ 0
  pub symbols : told.symbols ≡ 0

-- what a program or its mistakes need, where the source is this
pub data Needs (A : Type 0) (source : List ℕ) (start : ℕ) (told : RrsAssembled) : Type 0 where
  OfProgram : (bytes : List ℕ) (statements : List RrsStatement) (symbols : List RrsSymbol)
      (texts : List ℕ)
      → Assembles A source start told.entry bytes statements symbols texts
      → AreCounts told (length bytes) (length statements) (length symbols) 0 (length texts)
      → Needs A source start told
  OfMistakes : (mistakes : List RrsMistake) (texts : List ℕ)
      → TellMistakes mistakes texts → AreCounts told 0 0 0 (length mistakes) (length texts)
      → Needs A source start told

-- what stands after the first so many stays
abbrev pub StaysBehind : {X : Type 0} → ℕ → List X → List X → Type 0
StaysBehind count old new = drop count new ≡ drop count old

-- the memory that was lent is too small, and so much is lent the next time
abbrev pub small_room : ℕ → RrsAssembled
small_room next = record {
  end = 2;
  entry = 0;
  bytes = 0;
  statements = 0;
  symbols = 0;
  mistakes = 0;
  texts = 0;
  room = next;
}
