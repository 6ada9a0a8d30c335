-- The names of the tables by which the assembler reads operands, and what was read of a part. No
-- public contract cites these.
use Rattle.std.specs.Prelude.{◌≡◌, ℕ, ◌+◌, Bool, true, false, not, ◌&&◌, if◌then◌else◌, List, [], ◌∷◌, ◌++◌, codes, Option, Some, None}
use Rattle.std.specs.Borrow.{Bor}
use Rattle.std.specs.Str.{bytes_eq}
use Rattle.rrs_asm.specs.declared.names.PseudoForm.{PseudoForm}
use Rattle.rrs_asm.specs.declared.system.SystemForm.{SystemForm}
use Rattle.rrs_asm.specs.declared.names.PlacedForm.{PlacedForm}
use Rattle.rrs_asm.specs.declared.names.DirectiveForm.{DirectiveForm}
use Rattle.rrs_asm.specs.declared.directives.Read.{Read}
use Rattle.rrs_asm.specs.declared.instructions.RowForm.{RowForm}
use Rattle.rrs_asm.specs.declared.sections.Section.{Section}
use Rattle.rrs_asm.specs.declared.sections.Layout.{Layout}
use Rattle.rrs_asm.specs.declared.assembling.Reading.{Reading}
use Rattle.rrs_asm_lines.specs.Lines.{lines, parts}
use Rattle.rrs_asm.specs.Source.{Item, items_of_parts, items_from}
use Rattle.rrs_asm.specs.Names.{branch_name, load_name, store_name, system_form_name}
use Rattle.rrs_asm.specs.Names.{unary_name, zero_branch_name, swapped_name, comparison_name, is_one_of, data_names, fill_names, is_silent_name, is_section_name, is_common_name, IsNamed}
use Rattle.rrs_asm.specs.Statements.{IsMade}
use Rattle.rrs_asm.specs.Sections.{names_of, open_behind, in_section, first_open, AllFound, AreLaidOut, AreSectionsOf}

-- ---- tables

abbrev pub form_name : PseudoForm → List ℕ
form_name PseudoForm.Nop = codes "nop"
form_name PseudoForm.Ret = codes "ret"
form_name PseudoForm.Li = codes "li"
form_name PseudoForm.La = codes "la"
form_name PseudoForm.Lla = codes "lla"
form_name (PseudoForm.Compared name) = comparison_name name
form_name PseudoForm.Jump = codes "jump"
form_name (PseudoForm.OfOne name) = unary_name name
form_name (PseudoForm.AgainstZero name) = zero_branch_name name
form_name (PseudoForm.Swapped name) = swapped_name name
form_name PseudoForm.J = codes "j"
form_name PseudoForm.Jr = codes "jr"
form_name PseudoForm.Call = codes "call"
form_name PseudoForm.Tail = codes "tail"

abbrev pub fits_pseudo : List ℕ → PseudoForm → Bool
fits_pseudo name form = bytes_eq (form_name form) name

abbrev pub fits_system : List ℕ → SystemForm → Bool
fits_system name form = bytes_eq (system_form_name form) name

abbrev pub fits_placed : List ℕ → PlacedForm → Bool
fits_placed name PlacedForm.Space = is_one_of fill_names name
fits_placed name PlacedForm.Origin = is_one_of fill_names name
fits_placed name _ = is_one_of data_names name

abbrev pub lays_out : List ℕ → Bool
lays_out name =
    not (is_silent_name name) && (not (is_section_name name) && not (is_common_name name))

abbrev pub puts_into_common : List ℕ → Bool
puts_into_common name =
    not (is_silent_name name)
    && (not (is_section_name name) && (is_common_name name && is_one_of fill_names name))

abbrev pub opens : List ℕ → Bool
opens name = not (is_silent_name name) && is_section_name name

abbrev pub fits_directive : List ℕ → DirectiveForm → Bool
fits_directive name (DirectiveForm.Place form) = lays_out name && fits_placed name form
fits_directive name DirectiveForm.Refused = lays_out name
fits_directive name DirectiveForm.Section = opens name
fits_directive name DirectiveForm.Common = puts_into_common name
fits_directive name _ = is_silent_name name

-- the same of a form as facts
abbrev pub IsForm : List ℕ → DirectiveForm → Type 0
IsForm name (DirectiveForm.Place form) =
    (is_silent_name name ≡ false) × (is_section_name name ≡ false)
    × (is_common_name name ≡ false) × (fits_placed name form ≡ true)
IsForm name DirectiveForm.Refused =
    (is_silent_name name ≡ false) × (is_section_name name ≡ false)
    × (is_common_name name ≡ false)
IsForm name DirectiveForm.Common =
    (is_silent_name name ≡ false) × (is_section_name name ≡ false)
    × (is_common_name name ≡ true) × (is_one_of fill_names name ≡ true)
IsForm name DirectiveForm.Section =
    (is_silent_name name ≡ false) × (is_section_name name ≡ true)
IsForm name _ = is_silent_name name ≡ true

-- how a row of this name is written
abbrev pub IsRowForm : List ℕ → RowForm → Type 0
IsRowForm name RowForm.Fence = name ≡ codes "fence"
IsRowForm name RowForm.Jal = name ≡ codes "jal"
IsRowForm name RowForm.Jalr = name ≡ codes "jalr"
IsRowForm name (RowForm.Branch branch) = branch_name branch ≡ name
IsRowForm name (RowForm.Load load) = load_name load ≡ name
IsRowForm name (RowForm.Store store) = store_name store ≡ name
IsRowForm name _ = Unit {0}

-- ---- what was read of a part

-- a label or a statement that is not laid out
abbrev pub skipped : ℕ → List ℕ → Bool → Item
skipped line name is_label = if is_label then Item.Label line name else Item.Laid line name

abbrev pub items_of_read : ℕ → Read → List Item
items_of_read line (Read.Label name) = Item.Label line name.now ∷ []
items_of_read line (Read.Laid name statement notes) = Item.Laid line name.now ∷ []
items_of_read line (Read.Section name kind) = Item.Section name.now ∷ []
items_of_read line (Read.Common name symbol common) = Item.Common line name.now symbol.now ∷ []
items_of_read line (Read.Skipped name is_label) = skipped line name.now is_label ∷ []
items_of_read line _ = []

-- a statement is one of its name
abbrev pub HasItsName : Read → Type 0
HasItsName (Read.Laid name statement notes) = IsNamed name.now statement
HasItsName (Read.Common name symbol common) = is_one_of fill_names name.now ≡ true
HasItsName _ = Unit {0}

-- a label or a statement
abbrev pub IsNoSection : Item → Type 0
IsNoSection (Item.Section name) = ⊥
IsNoSection (Item.Common line directive symbol) = ⊥
IsNoSection _ = Unit {0}

-- ---- sections

-- nothing is made of a section yet
pub record IsNew {A : Type 0} (section : Section A) : Type 0 where
  pub labels : section.made.labels.items ≡ []
  pub placed : section.made.placed.items ≡ []
  pub bytes : section.made.bytes.items ≡ []

-- a section is made of these items
abbrev pub IsSectionRead : {A : Type 0} → List Item → Section A → Type 0
IsSectionRead items section =
    IsMade section.address items section.made.labels.items section.made.placed.items section.made.bytes.items

-- these items more were read in a section
pub record Grows {A : Type 0} (more : List Item) (old new : Section A) : Type 0 where
  pub name : new.name ≡ old.name
  pub reads : (items : List Item) → IsSectionRead items old → IsSectionRead (items ++ more) new

-- of these items, those in each section were read in it, from the one with this number on
abbrev pub AreReadFrom : {A : Type 0} → List (List ℕ) → ℕ → List Item → List (Section A) → Type 0
AreReadFrom names number items [] = Unit {0}
AreReadFrom names number items (s ∷ others) =
    IsSectionRead (in_section names number (first_open names) items) s
    × AreReadFrom names (number + 1) items others

-- the sections are those of these items, lie where the layout says, and are laid out
pub record AreAssembled {A : Type 0} (layout : Layout) (items : List Item) (sections : List (Section A)) : Type 0
  where
    pub sections_of : AreSectionsOf layout items sections
    pub laid_out : AreLaidOut sections

-- ---- readings

-- these items were read
pub record IsRead {A : Type 0} (names : List (List ℕ)) (items : List Item) (reading : Reading A) : Type 0 where
  pub named : names_of reading.sections.items ≡ names
  pub current : reading.current ≡ open_behind names (first_open names) items
  pub read : AreReadFrom names 0 items reading.sections.items
  pub found : AllFound names items

-- nothing is wrong with the source so far, and each section was there before
pub record IsGood {A : Type 0} (reading : Reading A) : Type 0 where
  pub halt : reading.halt ≡ None
  pub errors : reading.errors.items ≡ []
  pub is_first : reading.is_first ≡ false

-- These were read after all those before, if nothing is wrong then. Nothing was wrong before,
-- then.
pub record ReadsFrom {A : Type 0} (more : List Item) (old new : Reading A) : Type 0 where
  pub good : IsGood old
  pub reads : (names : List (List ℕ)) (items : List Item) → IsRead names items old
      → IsRead names (items ++ more) new

abbrev pub ReadsOn : {A : Type 0} → List Item → Reading A → Reading A → Type 0
ReadsOn more old new = IsGood new → ReadsFrom more old new

-- the items of what is left of a line, and of what is left of a source
abbrev pub left_in_line : ℕ → Option (Bor (List ℕ)) → List Item
left_in_line number None = []
left_in_line number (Some rest) = items_of_parts number (parts rest.now)

abbrev pub left_in_source : ℕ → Option (Bor (List ℕ)) → List Item
left_in_source number None = []
left_in_source number (Some rest) = items_from number (lines rest.now)
