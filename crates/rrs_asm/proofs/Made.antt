-- What is made of items, one item more, and what is read of parts and lines, one more.
use Rattle.std.proofs.Common.{◌≡◌, ◌≢◌, ℕ, zero, suc, get_or, slice_index_or, take, drop, Bool, true, false, ◌==◌, if◌then◌else◌, ◌+◌, ◌%◌, ◌^◌, ◌++◌, List, [], ◌∷◌, length, codes, ◌<◌, ◌≤◌, Option, Some, None, IfSome, Result, Ok, Err, OnOk, IfOk, All, Bor, refl, sym, subst, ap, ◌∙◌, arith}
use Rattle.std.proofs.Math.ListN.{set}
use Rattle.std.specs.Option.{option_map_or}
use Rattle.std.proofs.lemmas.List.{append_assoc, append-nil}
use Rattle.std.proofs.lemmas.Bool.Decides.{nat_tests}
use Rattle.std.proofs.lemmas.List.Elements.{All-head, All-tail}
use Rattle.std.proofs.lemmas.Grind.{common_steps}
use Rattle.rrs_asm.specs.declared.assembling.Reading.{Reading}
use Rattle.rrs_asm.specs.declared.sections.Section.{Section}
use Rattle.rrs_asm.specs.declared.output.Label.{Label}
use Rattle.rrs_asm.specs.declared.output.Placed.{Placed}
use Rattle.rrs_asm.specs.declared.statements.Statement.{Statement}
use Rattle.rrs_asm.specs.Names.{IsNamed}
use Rattle.rrs_asm.specs.declared.directives.Read.{Read}
use Rattle.rrs_asm_lines.specs.Lines.{Part, lines, parts, begins_with, behind_blanks}
use Rattle.rrs_asm.specs.Source.{Item, items_in, items_named, items_behind, items_of_parts, items_from, is_laid_out}
use Rattle.rrs_asm.specs.Sections.{names_of, index_of, open_behind, if_open, in_section, first_open, common, in_common, if_in, AreMadeFrom, AreMade, AreLaidOut, AllFound, HasItsKind, IsBehind, AreBehind, ArePlaced}
use Rattle.rrs_asm.specs.declared.sections.Layout.{Layout}
use Rattle.rrs_asm.specs.Statements.{AreBytes, LaysOut, IsLabelAt, IsPlacedAt, IsMade, AddsPlaced}
use Rattle.rrs_asm.specs.Forms.{skipped, items_of_read, IsNoSection, IsNew, IsSectionRead, Grows, AreReadFrom, IsRead, IsGood, AreAssembled, ReadsFrom, ReadsOn, left_in_line, left_in_source}

-- ---- one item more

label-at : (a b line : ℕ) (name : List ℕ) (l : Label) → a ≡ b → IsLabelAt a line name l → IsLabelAt b line name l
label-at a b line name l same at = let P : ℕ → Type 0 = λ n. IsLabelAt n line name l in subst P same at

placed-at : (a b line : ℕ) (name : List ℕ) (p : Placed) (own : List ℕ) → a ≡ b → IsPlacedAt a line name p own → IsPlacedAt b line name p own
placed-at a b line name p own same at = let P : ℕ → Type 0 = λ n. IsPlacedAt n line name p own in subst P same at

pub IsMade-label : (base : ℕ) (items : List Item) (labels : List Label) (placed : List Placed) (bytes : List ℕ) (line : ℕ) (name : List ℕ) (l : Label)
    → IsMade base items labels placed bytes → IsLabelAt (base + length bytes) line name l
    → IsMade base (items ++ Item.Label line name ∷ []) (labels ++ l ∷ []) placed bytes
IsMade-label base [] labels placed bytes line name l (none, nothing, empty) label =
    (l, [], label-at _ _ line name l (grind (arith, common_steps)) label, (refl, nothing, empty), rw none refl)
IsMade-label base (Item.Label own_line own_name ∷ items) labels placed bytes line name l (first, others, at, made, all) label =
    (first, others ++ l ∷ [], at, IsMade-label base items others placed bytes line name l made label, rw all refl)
IsMade-label base (Item.Section own_name ∷ items) labels placed bytes line name l made label =
    IsMade-label base items labels placed bytes line name l made label
IsMade-label base (Item.Common own_line directive symbol ∷ items) labels placed bytes line name l made label =
    IsMade-label base items labels placed bytes line name l made label
IsMade-label base (Item.Laid own_line own_name ∷ items) labels placed bytes line name l (p, others, own, rest, at, made, all, whole) label =
    (p, others, own, rest, at, IsMade-label (base + length own) items labels others rest line name l made (label-at _ _ line name l (grind (arith, common_steps)) label), all, whole)

pub IsMade-laid : (base : ℕ) (items : List Item) (labels : List Label) (placed : List Placed) (bytes : List ℕ) (line : ℕ) (name : List ℕ) (p : Placed) (own : List ℕ)
    → IsMade base items labels placed bytes → IsPlacedAt (base + length bytes) line name p own
    → IsMade base (items ++ Item.Laid line name ∷ []) labels (placed ++ p ∷ []) (bytes ++ own)
IsMade-laid base [] labels placed bytes line name p own (none, nothing, empty) at =
    (p, [], own, [], placed-at _ _ line name p own (grind (arith, common_steps)) at, (none, refl, refl), rw nothing refl, rw empty (sym (append-nil own)))
IsMade-laid base (Item.Label own_line own_name ∷ items) labels placed bytes line name p own (first, others, label, made, all) at =
    (first, others, label, IsMade-laid base items others placed bytes line name p own made at, all)
IsMade-laid base (Item.Section own_name ∷ items) labels placed bytes line name p own made at =
    IsMade-laid base items labels placed bytes line name p own made at
IsMade-laid base (Item.Common own_line directive symbol ∷ items) labels placed bytes line name p own made at =
    IsMade-laid base items labels placed bytes line name p own made at
IsMade-laid base (Item.Laid own_line own_name ∷ items) labels placed bytes line name p own (q, others, first, rest, placed_first, made, all, whole) at = (
  q,
  others ++ p ∷ [],
  first,
  rest ++ own,
  placed_first,
  IsMade-laid (base + length first) items labels others rest line name p own made (placed-at _ _ line name p own (grind (arith, common_steps)) at),
  rw all refl,
  rw whole (append_assoc first rest own),
)

-- what is made stands one after the other
pub laid-out : (base : ℕ) (items : List Item) (labels : List Label) (placed : List Placed) (bytes : List ℕ) → IsMade base items labels placed bytes → LaysOut base placed bytes
laid-out base [] labels placed bytes (none, nothing, empty) = rw nothing empty
laid-out base (Item.Label line name ∷ items) labels placed bytes (first, others, label, made, all) = laid-out base items others placed bytes made
laid-out base (Item.Section name ∷ items) labels placed bytes made = laid-out base items labels placed bytes made
laid-out base (Item.Common line directive symbol ∷ items) labels placed bytes made = laid-out base items labels placed bytes made
laid-out base (Item.Laid line name ∷ items) labels placed bytes (p, others, own, rest, at, made, all, whole) =
    rw all (own, rest, at.address, at.bytes, laid-out (base + length own) items labels others rest made, whole)

-- ---- sections

-- a label
pub Grows-label : {A : Type 0} (line : ℕ) (name : List ℕ) (l : Label) (old new : Section A)
    → new.name ≡ old.name → new.address ≡ old.address
    → new.made.labels.items ≡ old.made.labels.items ++ l ∷ []
    → new.made.placed.items ≡ old.made.placed.items → new.made.bytes.items ≡ old.made.bytes.items
    → l.line ≡ line → l.name.now ≡ name → l.address ≡ (old.address + length old.made.bytes.items) % 2 ^ 32
    → Grows (Item.Label line name ∷ []) old new
Grows-label line name l old new named start labels placed bytes at_line own address = record {
  name = named;
  reads = λ items read. rw (start, labels, placed, bytes) (IsMade-label old.address items old.made.labels.items old.made.placed.items old.made.bytes.items line name l read
      (record { line = at_line; name = own; address = address }));
}

-- a statement
pub Grows-laid : {A : Type 0} (line : ℕ) (name : List ℕ) (statement : Statement) (old new : Section A)
    → IsNamed name statement → new.name ≡ old.name → new.address ≡ old.address
    → AddsPlaced old.address line statement old.made.placed.items new.made.placed.items old.made.bytes.items new.made.bytes.items
    → new.made.labels.items ≡ old.made.labels.items
    → Grows (Item.Laid line name ∷ []) old new
Grows-laid line name statement old new named same start adds labels = record {
  name = same;
  reads = λ items read.
      let Bytes : Statement → Type 0 = λ s. AreBytes s adds.own in
      rw (start, labels, adds.behind, adds.bytes_behind) (IsMade-laid old.address items old.made.labels.items old.made.placed.items old.made.bytes.items line name adds.placed adds.own read
      (record { line = adds.line; address = adds.address; name = subst (IsNamed name) (sym adds.statement) named; bytes = subst Bytes (sym adds.statement) adds.bytes }));
}

-- ---- the items of a section, one more

if-more : (t : Bool) (item : Item) (xs ys : List Item) → (if t then item ∷ (xs ++ ys) else (xs ++ ys)) ≡ (if t then item ∷ xs else xs) ++ ys
if-more true item xs ys = refl
if-more false item xs ys = refl

if-open-more : (k before : ℕ) (item : Item) (xs ys : List Item) → if_open k before item (xs ++ ys) ≡ if_open k before item xs ++ ys
if-open-more k before item xs ys = if-more (before == k) item xs ys

if-all-more : (t : Bool) (more xs ys : List Item) → (if t then more ++ (xs ++ ys) else (xs ++ ys)) ≡ (if t then more ++ xs else xs) ++ ys
if-all-more true more xs ys = sym (append_assoc more xs ys)
if-all-more false more xs ys = refl

if-in-more : (k own : ℕ) (more xs ys : List Item) → if_in k own more (xs ++ ys) ≡ if_in k own more xs ++ ys
if-in-more k own more xs ys = if-all-more (own == k) more xs ys

pub in-section-more : (names : List (List ℕ)) (k before : ℕ) (items : List Item) (item : Item) → IsNoSection item
    → in_section names k before (items ++ item ∷ []) ≡ in_section names k before items ++ if_open k (open_behind names before items) item []
in-section-more names k before [] (Item.Label line name) plain = refl
in-section-more names k before [] (Item.Laid line name) plain = refl
in-section-more names k before [] (Item.Section name) plain = absurd plain
in-section-more names k before [] (Item.Common line directive symbol) plain = absurd plain
in-section-more names k before (Item.Label line name ∷ items) item plain =
    rw (in-section-more names k before items item plain) (if-open-more k before (Item.Label line name) (in_section names k before items) (if_open k (open_behind names before items) item []))
in-section-more names k before (Item.Laid line name ∷ items) item plain =
    rw (in-section-more names k before items item plain) (if-open-more k before (Item.Laid line name) (in_section names k before items) (if_open k (open_behind names before items) item []))
in-section-more names k before (Item.Common line directive symbol ∷ items) item plain =
    rw (in-section-more names k before items item plain) (if-in-more k (common names) (in_common line directive symbol) (in_section names k before items) (if_open k (open_behind names before items) item []))
in-section-more names k before (Item.Section name ∷ items) item plain = in-section-more names k (index_of name names) items item plain

pub open-behind-more : (names : List (List ℕ)) (before : ℕ) (items : List Item) (item : Item) → IsNoSection item → open_behind names before (items ++ item ∷ []) ≡ open_behind names before items
open-behind-more names before [] (Item.Label line name) plain = refl
open-behind-more names before [] (Item.Laid line name) plain = refl
open-behind-more names before [] (Item.Section name) plain = absurd plain
open-behind-more names before [] (Item.Common line directive symbol) plain = absurd plain
open-behind-more names before (Item.Label line name ∷ items) item plain = open-behind-more names before items item plain
open-behind-more names before (Item.Laid line name ∷ items) item plain = open-behind-more names before items item plain
open-behind-more names before (Item.Common line directive symbol ∷ items) item plain = open-behind-more names before items item plain
open-behind-more names before (Item.Section name ∷ items) item plain = open-behind-more names (index_of name names) items item plain

pub found-more : (names : List (List ℕ)) (items : List Item) (item : Item) → IsNoSection item → AllFound names items → AllFound names (items ++ item ∷ [])
found-more names [] (Item.Label line name) plain found = tt
found-more names [] (Item.Laid line name) plain found = tt
found-more names [] (Item.Section name) plain found = absurd plain
found-more names [] (Item.Common line directive symbol) plain found = absurd plain
found-more names (Item.Label line name ∷ items) item plain found = found-more names items item plain found
found-more names (Item.Laid line name ∷ items) item plain found = found-more names items item plain found
found-more names (Item.Common line directive symbol ∷ items) item plain (first, found) = (first, found-more names items item plain found)
found-more names (Item.Section name ∷ items) item plain (first, found) = (first, found-more names items item plain found)

-- a section is opened
pub in-section-opened : (names : List (List ℕ)) (k before : ℕ) (items : List Item) (name : List ℕ) → in_section names k before (items ++ Item.Section name ∷ []) ≡ in_section names k before items
in-section-opened names k before [] name = refl
in-section-opened names k before (Item.Label line own ∷ items) name = rw (in-section-opened names k before items name) refl
in-section-opened names k before (Item.Laid line own ∷ items) name = rw (in-section-opened names k before items name) refl
in-section-opened names k before (Item.Common line directive symbol ∷ items) name = rw (in-section-opened names k before items name) refl
in-section-opened names k before (Item.Section own ∷ items) name = in-section-opened names k (index_of own names) items name

pub open-behind-opened : (names : List (List ℕ)) (before : ℕ) (items : List Item) (name : List ℕ) → open_behind names before (items ++ Item.Section name ∷ []) ≡ index_of name names
open-behind-opened names before [] name = refl
open-behind-opened names before (Item.Label line own ∷ items) name = open-behind-opened names before items name
open-behind-opened names before (Item.Laid line own ∷ items) name = open-behind-opened names before items name
open-behind-opened names before (Item.Common line directive symbol ∷ items) name = open-behind-opened names before items name
open-behind-opened names before (Item.Section own ∷ items) name = open-behind-opened names (index_of own names) items name

pub found-opened : (names : List (List ℕ)) (items : List Item) (name : List ℕ) → (is_laid_out name ≡ true → index_of name names < length names) → AllFound names items → AllFound names (items ++ Item.Section name ∷ [])
found-opened names [] name is found = (is, found)
found-opened names (Item.Label line own ∷ items) name is found = found-opened names items name is found
found-opened names (Item.Laid line own ∷ items) name is found = found-opened names items name is found
found-opened names (Item.Common line directive symbol ∷ items) name is (first, found) = (first, found-opened names items name is found)
found-opened names (Item.Section own ∷ items) name is (first, found) = (first, found-opened names items name is found)

-- something is put into `COMMON`: as if that were opened
if-three : (t : Bool) (a b c : Item) → (if t then (a ∷ b ∷ c ∷ []) ++ [] else []) ≡ (if t then a ∷ (if t then b ∷ (if t then c ∷ [] else []) else (if t then c ∷ [] else [])) else (if t then b ∷ (if t then c ∷ [] else []) else (if t then c ∷ [] else [])))
if-three true a b c = refl
if-three false a b c = refl

in-section-common : (names : List (List ℕ)) (k before : ℕ) (items : List Item) (line : ℕ) (directive symbol : List ℕ)
    → in_section names k before (items ++ Item.Common line directive symbol ∷ [])
    ≡ in_section names k before ((items ++ Item.Section (codes "COMMON") ∷ []) ++ in_common line directive symbol)
in-section-common names k before [] line directive symbol =
    if-three (common names == k) (Item.Laid line directive) (Item.Label line symbol) (Item.Laid line directive)
in-section-common names k before (Item.Label own_line own ∷ items) line directive symbol =
    ap (if_open k before (Item.Label own_line own)) (in-section-common names k before items line directive symbol)
in-section-common names k before (Item.Laid own_line own ∷ items) line directive symbol =
    ap (if_open k before (Item.Laid own_line own)) (in-section-common names k before items line directive symbol)
in-section-common names k before (Item.Common own_line own other ∷ items) line directive symbol =
    ap (if_in k (common names) (in_common own_line own other)) (in-section-common names k before items line directive symbol)
in-section-common names k before (Item.Section own ∷ items) line directive symbol = in-section-common names k (index_of own names) items line directive symbol

open-behind-common : (names : List (List ℕ)) (before : ℕ) (items : List Item) (line : ℕ) (directive symbol : List ℕ)
    → open_behind names before (items ++ Item.Common line directive symbol ∷ []) ≡ open_behind names before items
open-behind-common names before [] line directive symbol = refl
open-behind-common names before (Item.Label own_line own ∷ items) line directive symbol = open-behind-common names before items line directive symbol
open-behind-common names before (Item.Laid own_line own ∷ items) line directive symbol = open-behind-common names before items line directive symbol
open-behind-common names before (Item.Common own_line own other ∷ items) line directive symbol = open-behind-common names before items line directive symbol
open-behind-common names before (Item.Section own ∷ items) line directive symbol = open-behind-common names (index_of own names) items line directive symbol

found-common : (names : List (List ℕ)) (items : List Item) (line : ℕ) (directive symbol : List ℕ)
    → common names < length names → AllFound names items → AllFound names (items ++ Item.Common line directive symbol ∷ [])
found-common names [] line directive symbol is found = (is, found)
found-common names (Item.Label own_line own ∷ items) line directive symbol is found = found-common names items line directive symbol is found
found-common names (Item.Laid own_line own ∷ items) line directive symbol is found = found-common names items line directive symbol is found
found-common names (Item.Common own_line own other ∷ items) line directive symbol is (first, found) = (first, found-common names items line directive symbol is found)
found-common names (Item.Section own ∷ items) line directive symbol is (first, found) = (first, found-common names items line directive symbol is found)

-- ---- all sections

-- of the same items, the same were read
pub AreReadFrom-same : {A : Type 0} (names : List (List ℕ)) (k : ℕ) (items more : List Item) (sections : List (Section A))
    → ((n : ℕ) → k ≤ n → n < k + length sections → in_section names n (first_open names) more ≡ in_section names n (first_open names) items)
    → AreReadFrom names k items sections → AreReadFrom names k more sections
AreReadFrom-same names k items more [] same read = tt
AreReadFrom-same names k items more (s ∷ sections) same (first, read) =
    let P : List Item → Type 0 = λ own. IsSectionRead own s in (
      subst P (sym (same k (omega arith) (omega arith))) first,
      AreReadFrom-same names (k + 1) items more sections (λ n least most. same n (omega arith) (omega arith)) read,
    )

-- one of the sections grew
pub AreReadFrom-at : {A : Type 0} (names : List (List ℕ)) (k i : ℕ) (items more own_items : List Item) (sections : List (Section A)) (d new : Section A)
    → ((n : ℕ) → n ≢ k + i → in_section names n (first_open names) more ≡ in_section names n (first_open names) items)
    → ((n : ℕ) → n ≡ k + i → in_section names n (first_open names) more ≡ in_section names n (first_open names) items ++ own_items)
    → i < length sections → Grows own_items (get_or sections i d) new
    → AreReadFrom names k items sections → AreReadFrom names k more (set sections i new)
AreReadFrom-at names k i items more own_items [] d new same own below grows read = absurd (omega arith)
AreReadFrom-at names k zero items more own_items (s ∷ sections) d new same own below grows (first, read) =
    let P : List Item → Type 0 = λ its. IsSectionRead its new in (
      subst P (sym (own k (omega arith))) (grows.reads (in_section names k (first_open names) items) first),
      AreReadFrom-same names (k + 1) items more sections (λ n least most. same n (λ e. absurd (omega arith))) read,
    )
AreReadFrom-at names k (suc i) items more own_items (s ∷ sections) d new same own below grows (first, read) =
    let P : List Item → Type 0 = λ its. IsSectionRead its s in (
      subst P (sym (same k (λ e. absurd (omega arith)))) first,
      AreReadFrom-at names (k + 1) i items more own_items sections d new
          (λ n other. same n (λ e. other (omega arith)))
          (λ n e. own n (omega arith)) (omega arith) grows read,
    )

names-at : {A : Type 0} (i : ℕ) (sections : List (Section A)) (d new : Section A) → i < length sections → new.name ≡ (get_or sections i d).name → names_of (set sections i new) ≡ names_of sections
names-at i [] d new below same = absurd (omega arith)
names-at zero (s ∷ sections) d new below same = rw same refl
names-at (suc i) (s ∷ sections) d new below same = rw (names-at i sections d new (omega arith) same) refl

if-open-own : (k before : ℕ) (item : Item) → before ≡ k → if_open k before item [] ≡ item ∷ []
if-open-own k before item e = let t : (before == k) ≡ true = grind (arith, nat_tests) in rw t refl

if-open-other : (k before : ℕ) (item : Item) → before ≢ k → if_open k before item [] ≡ []
if-open-other k before item e = let t : (before == k) ≡ false = grind (arith, nat_tests) in rw t refl

-- one item more in the open section
more-own : (names : List (List ℕ)) (k : ℕ) (items : List Item) (item : Item) → IsNoSection item → open_behind names (first_open names) items ≡ k
    → in_section names k (first_open names) (items ++ item ∷ []) ≡ in_section names k (first_open names) items ++ item ∷ []
more-own names k items item plain is = in-section-more names k (first_open names) items item plain
    ∙ ap (λ tail. in_section names k (first_open names) items ++ tail) (if-open-own k (open_behind names (first_open names) items) item is)

more-other : (names : List (List ℕ)) (k : ℕ) (items : List Item) (item : Item) → IsNoSection item → open_behind names (first_open names) items ≢ k
    → in_section names k (first_open names) (items ++ item ∷ []) ≡ in_section names k (first_open names) items
more-other names k items item plain is = in-section-more names k (first_open names) items item plain
    ∙ ap (λ tail. in_section names k (first_open names) items ++ tail) (if-open-other k (open_behind names (first_open names) items) item is)
    ∙ append-nil (in_section names k (first_open names) items)

-- ---- a section by its name

pub names-length : {A : Type 0} (sections : List (Section A)) → length (names_of sections) ≡ length sections
names-length [] = refl
names-length (s ∷ sections) = ap suc (names-length sections)

-- ---- readings

-- something is wrong
pub ReadsOn-wrong : {A : Type 0} (more : List Item) (old new : Reading A) → (IsGood new → ⊥) → ReadsOn more old new
ReadsOn-wrong more old new wrong good = absurd (wrong good)

-- what one reading came to is kept
pub ReadsOn-kept : {A : Type 0} (more : List Item) (old kept new : Reading A) → (IsGood new → new ≡ kept) → ReadsOn more old kept → ReadsOn more old new
ReadsOn-kept more old kept new same reads good =
    let P : Reading _ → Type 0 = λ r. IsGood r → ReadsFrom more old r in
    subst P (sym (same good)) reads good

-- what was kept is read on from
pub ReadsOn-from : {A : Type 0} (more : List Item) (kept new end : Reading A) → (IsGood new → new ≡ kept) → ReadsOn more new end → ReadsOn more kept end
ReadsOn-from more kept new end same reads good =
    let read : ReadsFrom more new end = reads good in
    let P : Reading _ → Type 0 = λ r. ReadsFrom more r end in
    subst P (same read.good) read

-- nothing is read
pub ReadsOn-nothing : {A : Type 0} (r : Reading A) → ReadsOn [] r r
ReadsOn-nothing r good = record {
  good = good;
  reads = λ names items read. let P : List Item → Type 0 = λ all. IsRead names all r in subst P (sym (append-nil items)) read;
}

-- one reads on, and then another
pub ReadsOn-then : {A : Type 0} (a b : List Item) (x y z : Reading A) → ReadsOn a x y → ReadsOn b y z → ReadsOn (a ++ b) x z
ReadsOn-then a b x y z first second good =
    let behind : ReadsFrom b y z = second good in
    let before : ReadsFrom a x y = first behind.good in
    record {
      good = before.good;
      reads = λ names items read.
          let P : List Item → Type 0 = λ all. IsRead names all z in
          subst P (append_assoc items a b) (behind.reads names (items ++ a) (before.reads names items read));
    }

-- the open section grew
pub ReadsOn-at : {A : Type 0} (item : Item) (old new : Reading A) (d s : Section A) → (IsGood new → IsGood old) → IsNoSection item
    → old.current < length old.sections.items → Grows (item ∷ []) (get_or old.sections.items old.current d) s
    → new.sections.items ≡ set old.sections.items old.current s → new.current ≡ old.current
    → ReadsOn (item ∷ []) old new
ReadsOn-at item old new d s was plain below grows sections current good = record {
  good = was good;
  reads = λ names items read.
      let is_open : old.current ≡ open_behind names (first_open names) items = read.current in
      record {
        named = ap names_of sections ∙ names-at old.current old.sections.items d s below grows.name ∙ read.named;
        current = current ∙ is_open ∙ sym (open-behind-more names (first_open names) items item plain);
        read = rw sections (AreReadFrom-at names 0 old.current items (items ++ item ∷ []) (item ∷ []) old.sections.items d s
            (λ n other. more-other names n items item plain (λ e. other (omega arith)))
            (λ n own. more-own names n items item plain (omega arith))
            below grows read.read);
        found = found-more names items item plain read.found;
      };
}

-- a section was aligned
pub ReadsOn-aligned : {A : Type 0} (index : ℕ) (old new : Reading A) (d s : Section A) → (IsGood new → IsGood old)
    → index < length old.sections.items → Grows [] (get_or old.sections.items index d) s
    → new.sections.items ≡ set old.sections.items index s → new.current ≡ old.current
    → ReadsOn [] old new
ReadsOn-aligned index old new d s was below grows sections current good = record {
  good = was good;
  reads = λ names items read.
      let P : List Item → Type 0 = λ all. IsRead names all new in
      subst P (sym (append-nil items)) (record {
        named = ap names_of sections ∙ names-at index old.sections.items d s below grows.name ∙ read.named;
        current = current ∙ read.current;
        read = rw sections (AreReadFrom-at names 0 index items items [] old.sections.items d s
            (λ n other. refl)
            (λ n own. sym (append-nil (in_section names n (first_open names) items)))
            below grows read.read);
        found = read.found;
      });
}

-- no section is open
pub ReadsOn-skipped : {A : Type 0} (item : Item) (old : Reading A) → IsNoSection item → length old.sections.items ≤ old.current → ReadsOn (item ∷ []) old old
ReadsOn-skipped item old plain above good = record {
  good = good;
  reads = λ names items read. record {
    named = read.named;
    current = read.current ∙ sym (open-behind-more names (first_open names) items item plain);
    read = AreReadFrom-same names 0 items (items ++ item ∷ []) old.sections.items
        (λ n least most. more-other names n items item plain (λ e. absurd (omega (arith, read.current)))) read.read;
    found = found-more names items item plain read.found;
  };
}

-- a section is opened
pub IsRead-opened : {A : Type 0} (name : List ℕ) (old new : Reading A)
    → new.sections.items ≡ old.sections.items → new.current ≡ index_of name (names_of old.sections.items)
    → (is_laid_out name ≡ true → index_of name (names_of old.sections.items) < length (names_of old.sections.items))
    → (names : List (List ℕ)) (items : List Item) → IsRead names items old → IsRead names (items ++ Item.Section name ∷ []) new
IsRead-opened name old new sections current is names items read =
    let Found : List (List ℕ) → Type 0 = λ own. is_laid_out name ≡ true → index_of name own < length own in
    record {
      named = ap names_of sections ∙ read.named;
      current = current ∙ ap (index_of name) read.named ∙ sym (open-behind-opened names (first_open names) items name);
      read = rw sections (AreReadFrom-same names 0 items (items ++ Item.Section name ∷ []) old.sections.items
          (λ n least most. in-section-opened names n (first_open names) items name) read.read);
      found = found-opened names items name (subst Found read.named is) read.found;
    }

-- `COMMON` grew while it was open
pub ReadsOn-common : {A : Type 0} (line : ℕ) (directive symbol : List ℕ) (old inside behind new : Reading A)
    → (IsGood new → IsGood behind) → (IsGood inside → IsGood old)
    → inside.sections.items ≡ old.sections.items → inside.current ≡ common (names_of old.sections.items)
    → (IsGood behind → inside.current < length inside.sections.items) → ReadsOn (in_common line directive symbol) inside behind
    → new.sections.items ≡ behind.sections.items → new.current ≡ old.current
    → ReadsOn (Item.Common line directive symbol ∷ []) old new
ReadsOn-common line directive symbol old inside behind new end start sections at is_there reads same current good =
    let below : inside.current < length inside.sections.items = is_there (end good) in
    let inner : ReadsFrom (in_common line directive symbol) inside behind = reads (end good) in
    record {
      good = start inner.good;
      reads = λ names items read.
          let long : length names ≡ length inside.sections.items = ap length (sym read.named) ∙ names-length old.sections.items ∙ ap length (sym sections) in
          let own : inside.current ≡ common names = at ∙ ap common read.named in
          let found : common (names_of old.sections.items) < length (names_of old.sections.items) = omega (arith, at, below, names-length old.sections.items, ap length sections) in
          let opened : IsRead names (items ++ Item.Section (codes "COMMON") ∷ []) inside = IsRead-opened (codes "COMMON") old inside sections at (λ laid. found) names items read in
          let put : IsRead names ((items ++ Item.Section (codes "COMMON") ∷ []) ++ in_common line directive symbol) behind = inner.reads names _ opened in
          record {
            named = ap names_of same ∙ put.named;
            current = current ∙ read.current ∙ sym (open-behind-common names (first_open names) items line directive symbol);
            read = rw same (AreReadFrom-same names 0 _ (items ++ Item.Common line directive symbol ∷ []) behind.sections.items
                (λ n least most. in-section-common names n (first_open names) items line directive symbol) put.read);
            found = found-common names items line directive symbol (omega (arith, own, long, below)) read.found;
          };
    }

-- ---- what is left

-- what stands after the first word is no constant
pub behind-named : {E : Type 0} (number : ℕ) (name rest : List ℕ) (r : Result Read E) → begins_with 61 (behind_blanks rest) ≡ false
    → IfOk r (λ read. items_of_read number read ≡ items_named number name rest) → IfOk r (λ read. items_of_read number read ≡ items_behind number name rest)
behind-named number name rest r other said = rw other said

-- a part of a line, and what is left of the line
pub ReadsOn-part : {A : Type 0} (number : ℕ) (text : List ℕ) (part : Part) (others : Option (Bor (List ℕ))) (x y z : Reading A)
    → parts text ≡ part ∷ option_map_or (λ rest. parts rest.now) others []
    → ReadsOn (items_in number part) x y → ReadsOn (left_in_line number others) y z
    → ReadsOn (items_of_parts number (parts text)) x z
ReadsOn-part number text part None x y z cut first second = rw cut (ReadsOn-then (items_in number part) [] x y z first second)
ReadsOn-part number text part (Some rest) x y z cut first second = rw cut (ReadsOn-then (items_in number part) _ x y z first second)

-- the same of what was read of the part
pub ReadsOn-read : {A : Type 0} (number : ℕ) (text : List ℕ) (part : Part) (others : Option (Bor (List ℕ))) (said : List Item) (x y z : Reading A)
    → parts text ≡ part ∷ option_map_or (λ rest. parts rest.now) others [] → said ≡ items_in number part
    → ReadsOn said x y → ReadsOn (left_in_line number others) y z
    → ReadsOn (items_of_parts number (parts text)) x z
ReadsOn-read number text part others said x y z cut same first second =
    let P : List Item → Type 0 = λ items. ReadsOn items x y in
    ReadsOn-part number text part others x y z cut (subst P same first) second

-- a line of a source, and what is left of the source
pub ReadsOn-line : {A : Type 0} (number : ℕ) (text line : List ℕ) (others : Option (Bor (List ℕ))) (x y z : Reading A)
    → lines text ≡ line ∷ option_map_or (λ rest. lines rest.now) others []
    → ReadsOn (items_of_parts number (parts line)) x y → ReadsOn (left_in_source (number + 1) others) y z
    → ReadsOn (items_from number (lines text)) x z
ReadsOn-line number text line None x y z cut first second = rw cut (ReadsOn-then (items_of_parts number (parts line)) [] x y z first second)
ReadsOn-line number text line (Some rest) x y z cut first second = rw cut (ReadsOn-then (items_of_parts number (parts line)) _ x y z first second)

-- ---- what holds at Ok

pub on-ok : {T E P Q : Type 0} (r : Result T E) → OnOk r P → (P → Q) → OnOk r Q
on-ok (Ok x) p follows = follows p
on-ok (Err e) p follows = tt

pub of-ok : {T E P : Type 0} (r : Result T E) (x : T) → OnOk r P → r ≡ Ok x → P
of-ok (Ok y) x p is = p
of-ok (Err e) x p is = absurd cc

pub no-false : (t : Bool) → t ≡ false → t ≡ true → ⊥
no-false t is_false is_true = cc

pub no-ok : {T E : Type 0} (e : E) (x : T) (r : Result T E) → r ≡ Err e → r ≡ Ok x → ⊥
no-ok e x r is ok = cc

pub if-ok : {T E : Type 0} (r : Result T E) (P Q : T → Type 0) → IfOk r P → ((x : T) → P x → Q x) → IfOk r Q
if-ok (Ok x) P Q p follows = follows x p
if-ok (Err e) P Q p follows = tt

-- what was read without a mistake is the program
pub assembled : {A : Type 0} (layout : Layout) (items : List Item) (r : Reading A) (sections : List (Section A))
    → (IsGood r → AreAssembled layout items r.sections.items) → IsGood r × (sections ≡ r.sections.items)
    → AreAssembled layout items sections
assembled layout items r sections all (good, same) = let P : List (Section _) → Type 0 = λ xs. AreAssembled layout items xs in subst P (sym same) (all good)

-- ---- what is placed

pub adds-placed : (base number : ℕ) (s : Statement) (p : Placed) (old new : List Placed) (before after : List ℕ)
    → new ≡ old ++ p ∷ [] → p.line ≡ number → p.address ≡ base + length before → p.statement ≡ s
    → ((own : List ℕ) × AreBytes s own × (after ≡ before ++ own)) → AddsPlaced base number s old new before after
adds-placed base number s p old new before after behind line address statement (own, bytes, whole) =
    record { placed = p; own = own; line = line; address = address; statement = statement; bytes = bytes; behind = behind; bytes_behind = whole }

-- ---- the loops

-- the others of a list that is not empty
others-of : {T : Type 0} (x : T) (xs : List T) (n : ℕ) → n + 1 ≡ length (x ∷ xs) → take n (drop 1 (x ∷ xs)) ≡ xs
others-of x [] zero long = refl
others-of x [] (suc n) long = absurd (omega arith)
others-of x (y ∷ xs) zero long = absurd (omega arith)
others-of x (y ∷ xs) (suc n) long = ap (λ rest. y ∷ rest) (others-of y xs n (omega arith))

-- the first of the others lies after, and all others after it
pub are-behind : {A : Type 0} (layout : Layout) (first s : Section A) (others : List (Section A)) (n : ℕ)
    → n + 1 ≡ length others → s ≡ get_or others 0 s → IsBehind layout first s → AreBehind layout s (take n (drop 1 others))
    → AreBehind layout first others
are-behind layout first s [] n long is behind more = absurd (omega arith)
are-behind layout first s (x ∷ xs) n long is behind more =
    let Is : Section _ → Type 0 = λ y. IsBehind layout first y in
    let More : Section _ → Type 0 = λ y. AreBehind layout y (take n (drop 1 (x ∷ xs))) in
    let Rest : List (Section _) → Type 0 = λ ys. AreBehind layout x ys in
    (subst Is is behind, subst Rest (others-of x xs n long) (subst More is more))

-- the first lies where the layout says, and all others after it
pub are-placed : {A : Type 0} (layout : Layout) (s : Section A) (sections : List (Section A)) (n : ℕ)
    → n + 1 ≡ length sections → s ≡ get_or sections 0 s → s.address ≡ layout.text_start → AreBehind layout s (take n (drop 1 sections))
    → ArePlaced layout sections
are-placed layout s [] n long is first more = absurd (omega arith)
are-placed layout s (x ∷ xs) n long is first more =
    let At : Section _ → Type 0 = λ y. y.address ≡ layout.text_start in
    let More : Section _ → Type 0 = λ y. AreBehind layout y (take n (drop 1 (x ∷ xs))) in
    let Rest : List (Section _) → Type 0 = λ ys. AreBehind layout x ys in
    (subst At is first, subst Rest (others-of x xs n long) (subst More is more))

-- one section more is new
pub New-more : {A : Type 0} (i : ℕ) (sections : List (Section A)) (new : Section A) → IsNew new → i < length sections
    → ((k : ℕ) (d : Section A) → k < i → IsNew (get_or sections k d)) → (k : ℕ) (d : Section A) → k < i + 1 → IsNew (get_or (set sections i new) k d)
New-more i [] new is below before k d least = absurd (omega arith)
New-more zero (s ∷ sections) new is below before zero d least = is
New-more zero (s ∷ sections) new is below before (suc k) d least = absurd (omega arith)
New-more (suc i) (s ∷ sections) new is below before zero d least = before zero d (omega arith)
New-more (suc i) (s ∷ sections) new is below before (suc k) d least =
    New-more i sections new is (omega arith) (λ n e small. before (suc n) e (omega arith)) k d (omega arith)

-- one section more holds what its name says
pub Kinds-more : {A : Type 0} (i : ℕ) (sections : List (Section A)) (section : Section A) → HasItsKind section
    → section ≡ slice_index_or sections i section → i < length sections
    → ((k : ℕ) (d : Section A) → k < i → HasItsKind (slice_index_or sections k d)) → (k : ℕ) (d : Section A) → k < i + 1 → HasItsKind (slice_index_or sections k d)
Kinds-more i [] section is here below before k d least = absurd (omega arith)
Kinds-more zero (s ∷ sections) section is here below before zero d least = let P : Section _ → Type 0 = λ x. HasItsKind x in subst P here is
Kinds-more zero (s ∷ sections) section is here below before (suc k) d least = absurd (omega arith)
Kinds-more (suc i) (s ∷ sections) section is here below before zero d least = before zero d (omega arith)
Kinds-more (suc i) (s ∷ sections) section is here below before (suc k) d least =
    Kinds-more i sections section is here (omega arith) (λ n e small. before (suc n) e (omega arith)) k d (omega arith)

-- nothing of new sections was read
AreReadFrom-new : {A : Type 0} (names : List (List ℕ)) (k : ℕ) (sections : List (Section A)) → All IsNew sections → AreReadFrom names k [] sections
AreReadFrom-new names k [] all = tt
AreReadFrom-new names k (s ∷ sections) all =
    let new : IsNew s = All-head IsNew s sections all in (
      (new.labels, new.placed, new.bytes),
      AreReadFrom-new names (k + 1) sections (All-tail IsNew s sections all),
    )

pub IsRead-nothing : {A : Type 0} (r : Reading A) → All IsNew r.sections.items → r.current ≡ first_open (names_of r.sections.items) → IsRead (names_of r.sections.items) [] r
IsRead-nothing r all current = record { named = refl; current = current; read = AreReadFrom-new _ 0 r.sections.items all; found = tt }

-- what is made of each section
AreMadeFrom-read : {A : Type 0} (names : List (List ℕ)) (k : ℕ) (items : List Item) (sections : List (Section A)) → AreReadFrom names k items sections → AreMadeFrom names k items sections
AreMadeFrom-read names k items [] read = tt
AreMadeFrom-read names k items (s ∷ sections) (first, read) = (first, AreMadeFrom-read names (k + 1) items sections read)

pub are-made : {A : Type 0} (names : List (List ℕ)) (items : List Item) (r : Reading A) → IsRead names items r → AreMade items r.sections.items
are-made names items r read =
    let P : List (List ℕ) → Type 0 = λ own. AreMadeFrom own 0 items r.sections.items in
    subst P (sym read.named) (AreMadeFrom-read names 0 items r.sections.items read.read)

pub all-found : {A : Type 0} (names : List (List ℕ)) (items : List Item) (r : Reading A) → IsRead names items r → AllFound (names_of r.sections.items) items
all-found names items r read =
    let P : List (List ℕ) → Type 0 = λ own. AllFound own items in
    subst P (sym read.named) read.found

are-laid-out-from : {A : Type 0} (names : List (List ℕ)) (k : ℕ) (items : List Item) (sections : List (Section A)) → AreReadFrom names k items sections → AreLaidOut sections
are-laid-out-from names k items [] read = tt
are-laid-out-from names k items (s ∷ sections) (first, read) = (
  laid-out s.address (in_section names k (first_open names) items) _ _ _ first,
  are-laid-out-from names (k + 1) items sections read,
)

pub are-laid-out : {A : Type 0} (names : List (List ℕ)) (items : List Item) (r : Reading A) → IsRead names items r → AreLaidOut r.sections.items
are-laid-out names items r read = are-laid-out-from names 0 items r.sections.items read.read

-- a label or a statement opens no section
pub skipped-plain : (line : ℕ) (name : List ℕ) (is_label : Bool) → IsNoSection (skipped line name is_label)
skipped-plain line name true = tt
skipped-plain line name false = tt

-- one line more was counted
pub counted : (others : Option (Bor (List ℕ))) (number limit : ℕ) (text : List ℕ) → IfSome others (λ rest. length rest.now < length text) → number + length text ≤ limit → option_map_or (λ rest. number + 1 + length rest.now) others 0 ≤ limit
counted None number limit text shorter fits = omega arith
counted (Some rest) number limit text shorter fits = omega arith
