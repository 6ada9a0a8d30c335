-- The sections of a source: the items that stand in each, and what is made of them (GNU assembler
-- manual, "Sections and Relocation"). What follows a directive that opens a section stands in it,
-- up to the next such directive. At first the section `.text` is open.
use Rattle.std.specs.Prelude.{◌≡◌, ℕ, ◌+◌, ◌-◌, ◌<◌, ◌≤◌, Bool, true, false, not, ◌&&◌, ◌||◌, ◌==◌, if◌then◌else◌, List, [], ◌∷◌, ◌++◌, length, replicate, drop, codes, Option, None, Some, IfSome, All}
use Rattle.std.specs.Int.{next_multiple_of}
use Rattle.std.specs.Option.{option_map_or}
use Rattle.std.specs.Str.{bytes_eq}
use Rattle.rrs_asm.specs.declared.sections.Section.{Section}
use Rattle.rrs_asm.specs.declared.sections.SectionKind.{SectionKind}
use Rattle.rrs_asm.specs.declared.sections.Layout.{Layout}
use Rattle.rrs_asm.specs.Source.{Item, begins_as, is_empty, is_laid_out}
use Rattle.rrs_asm.specs.Statements.{IsMade, LaysOut}

-- the names of sections
abbrev pub names_of : {A : Type 0} → List (Section A) → List (List ℕ)
names_of [] = []
names_of (s ∷ others) = s.name.now ∷ names_of others

-- which of the names one is: as many as there are where none is
abbrev pub index_of : List ℕ → List (List ℕ) → ℕ
index_of name [] = 0
index_of name (own ∷ names) = if bytes_eq own name then 0 else index_of name names + 1

-- which section is open after items, where one is open before them
abbrev pub open_behind : List (List ℕ) → ℕ → List Item → ℕ
open_behind names before [] = before
open_behind names before (Item.Label line name ∷ items) = open_behind names before items
open_behind names before (Item.Laid line name ∷ items) = open_behind names before items
open_behind names before (Item.Common line directive symbol ∷ items) =
    open_behind names before items
open_behind names before (Item.Section name ∷ items) =
    open_behind names (index_of name names) items

-- an item in front of others, if the section is open
abbrev pub if_open : ℕ → ℕ → Item → List Item → List Item
if_open section before item items = if before == section then item ∷ items else items

-- the section for what `.comm` and `.lcomm` say, which lies after `.bss`
abbrev pub common : List (List ℕ) → ℕ
common names = index_of (codes "COMMON") names

-- What a directive puts there: bytes up to the alignment of the symbol, the symbol, and its bytes.
abbrev pub in_common : ℕ → List ℕ → List ℕ → List Item
in_common line directive symbol =
    Item.Laid line directive ∷ Item.Label line symbol ∷ Item.Laid line directive ∷ []

-- items in front of others, if they stand in the section
abbrev pub if_in : ℕ → ℕ → List Item → List Item → List Item
if_in section own items others = if own == section then items ++ others else others

-- the items that stand in a section, where one is open before them
abbrev pub in_section : List (List ℕ) → ℕ → ℕ → List Item → List Item
in_section names section before [] = []
in_section names section before (Item.Label line name ∷ items) =
    if_open section before (Item.Label line name) (in_section names section before items)
in_section names section before (Item.Laid line name ∷ items) =
    if_open section before (Item.Laid line name) (in_section names section before items)
in_section names section before (Item.Common line directive symbol ∷ items) =
    if_in section (common names) (in_common line directive symbol)
    (in_section names section before items)
in_section names section before (Item.Section name ∷ items) =
    in_section names section (index_of name names) items

-- the section that is open at first
abbrev pub first_open : List (List ℕ) → ℕ
first_open names = index_of (codes ".text") names

-- what is made of each section, from the one with this number on, is made of the items in it
abbrev pub AreMadeFrom : {A : Type 0} → List (List ℕ) → ℕ → List Item → List (Section A) → Type 0
AreMadeFrom names number items [] = Unit {0}
AreMadeFrom names number items (s ∷ others) =
    IsMade s.address (in_section names number (first_open names) items) s.made.labels.items
    s.made.placed.items s.made.bytes.items
    × AreMadeFrom names (number + 1) items others

-- what is made of each section is made of the items in it
abbrev pub AreMade : {A : Type 0} → List Item → List (Section A) → Type 0
AreMade items sections = AreMadeFrom (names_of sections) 0 items sections

-- the statements of each section stand one after the other
abbrev pub AreLaidOut : {A : Type 0} → List (Section A) → Type 0
AreLaidOut [] = Unit {0}
AreLaidOut (s ∷ others) =
    LaysOut s.address s.made.placed.items s.made.bytes.items × AreLaidOut others

-- each section that is opened is one of these, if it is laid out, and `COMMON` if something is put
-- there
abbrev pub AllFound : List (List ℕ) → List Item → Type 0
AllFound names [] = Unit {0}
AllFound names (Item.Label line name ∷ items) = AllFound names items
AllFound names (Item.Laid line name ∷ items) = AllFound names items
AllFound names (Item.Common line directive symbol ∷ items) =
    (common names < length names) × AllFound names items
AllFound names (Item.Section name ∷ items) =
    (is_laid_out name ≡ true → index_of name names < length names) × AllFound names items

-- ---- what sections hold

abbrev pub ends_name : List ℕ → Bool
ends_name [] = true
ends_name (b ∷ bs) = b == 46

-- a name is this one, or goes on after it with a dot
abbrev pub is_name_of : List ℕ → List ℕ → Bool
is_name_of first name = begins_as name first && ends_name (drop (length first) name)

-- what a section of a name holds, where the name says it
abbrev pub kind_of_name : List ℕ → Option SectionKind
kind_of_name name =
    if is_name_of (codes ".text") name then Some SectionKind.Code
    else (if is_name_of (codes ".rodata") name || is_name_of (codes ".srodata") name
    then Some SectionKind.ReadOnly
    else (if is_name_of (codes ".data") name || is_name_of (codes ".sdata") name
    then Some SectionKind.Data
    else (if is_name_of (codes ".bss") name || is_name_of (codes ".sbss") name
    then Some SectionKind.Zero
    else None)))

-- a section holds what its name says
pub record HasItsKind {A : Type 0} (s : Section A) : Type 0 where
  pub kind : IfSome (kind_of_name s.name.now) (λ kind. s.kind ≡ kind)

-- ---- where sections lie

abbrev pub is_code : SectionKind → Bool
is_code SectionKind.Code = true
is_code _ = false

-- data that can be written
abbrev pub is_data : SectionKind → Bool
is_data SectionKind.Data = true
is_data SectionKind.Zero = true
is_data _ = false

-- all sections one after the other from an address on
abbrev pub flat : ℕ → Layout
flat text = record { text_start = text; data_start = None; page = 1 }

-- Where what follows a section can lie: after its end. GNU `as` fills instructions up to the
-- alignment of their section.
abbrev pub filled_end : SectionKind → ℕ → ℕ → ℕ
filled_end kind alignment end = if is_code kind then next_multiple_of end alignment else end

-- where the first section with data that can be written lies: at an address of its own, or at the
-- next page
abbrev pub data_address : Layout → ℕ → ℕ
data_address layout end = option_map_or (λ own. own) layout.data_start (next_multiple_of end layout.page)

-- where a section of a kind and an alignment lies after another one
abbrev pub start_behind : Layout → SectionKind → ℕ → ℕ → SectionKind → ℕ → ℕ
start_behind layout before before_alignment end kind alignment =
    let behind = filled_end before before_alignment end in
    next_multiple_of
    (if is_data kind && not (is_data before) then data_address layout behind else behind)
    alignment

abbrev pub end_of : {A : Type 0} → Section A → ℕ
end_of s = s.address + length s.made.bytes.items

-- a section lies after another one, where the layout says
pub record IsBehind {A : Type 0} (layout : Layout) (before s : Section A) : Type 0 where
  pub start :
      s.address ≡ start_behind layout before.kind before.alignment (end_of before) s.kind s.alignment
  pub behind : end_of before ≤ s.address

abbrev pub AreBehind : {A : Type 0} → Layout → Section A → List (Section A) → Type 0
AreBehind layout before [] = Unit {0}
AreBehind layout before (s ∷ others) = IsBehind layout before s × AreBehind layout s others

-- the first section lies at the address that the layout says, and each other after the one before
abbrev pub ArePlaced : {A : Type 0} → Layout → List (Section A) → Type 0
ArePlaced layout [] = Unit {0}
ArePlaced layout (s ∷ others) = (s.address ≡ layout.text_start) × AreBehind layout s others

-- ---- all in one

-- the bytes of a section after others, the first of which are at an address: after zeros up to
-- its own
abbrev pub with_section : {A : Type 0} → ℕ → List ℕ → Section A → List ℕ
with_section base before s =
    if is_empty s.made.bytes.items then before
    else before ++ (replicate (s.address - base - length before) 0 ++ s.made.bytes.items)

abbrev pub flat_behind : {A : Type 0} → ℕ → List ℕ → List (Section A) → List ℕ
flat_behind base before [] = before
flat_behind base before (s ∷ others) = flat_behind base (with_section base before s) others

-- the bytes of sections from an address on, with zeros between them; an empty section has none
abbrev pub laid_flat : {A : Type 0} → ℕ → List (Section A) → List ℕ
laid_flat base sections = flat_behind base [] sections

-- the sections that have bytes
abbrev pub with_bytes : {A : Type 0} → List (Section A) → List (Section A)
with_bytes [] = []
with_bytes (s ∷ others) =
    if is_empty s.made.bytes.items then with_bytes others else s ∷ with_bytes others

-- The bytes from an address on are those of these sections, each at its address, with zeros before
-- it, and nothing else.
abbrev pub AreBytesFrom : {A : Type 0} → ℕ → List (Section A) → List ℕ → Type 0
AreBytesFrom address [] bytes = bytes ≡ []
AreBytesFrom address (s ∷ others) bytes =
    (gap : ℕ) × (rest : List ℕ) × (address + gap ≡ s.address) × AreBytesFrom (end_of s) others rest
    × (bytes ≡ replicate gap 0 ++ (s.made.bytes.items ++ rest))

abbrev pub IsImage : {A : Type 0} → ℕ → List (Section A) → List ℕ → Type 0
IsImage address sections bytes = AreBytesFrom address (with_bytes sections) bytes

-- ---- a whole source

-- the sections are those of these items, hold what their names say, and lie where the layout says
pub record AreSectionsOf {A : Type 0} (layout : Layout) (items : List Item) (sections : List (Section A)) : Type 0
  where
    pub made : AreMade items sections
    pub all_found : AllFound (names_of sections) (Item.Section (codes ".text") ∷ items)
    pub kinds : All HasItsKind sections
    pub placed : ArePlaced layout sections
