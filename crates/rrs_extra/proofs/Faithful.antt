-- Texts at one address are equal exactly when their rows and what they show are.
use Rattle.std.proofs.Common.{◌≡◌, ℕ, List, Some, None, Ok, Err, refl, sym, subst, ap, ◌∙◌}
use Rattle.std.specs.Prelude.{◌↔◌, IfSome, IfOk, string_bytes}
use Rattle.std.specs.Option.{option_map}
use Rattle.std.proofs.lemmas.Option.{same_Some}
use Rattle.rrs_lib.specs.declared.instruction_formats.RType.{RType}
use Rattle.rrs_lib.specs.declared.instruction_formats.IType.{IType}
use Rattle.rrs_lib.specs.declared.instruction_formats.ITypeShamt.{ITypeShamt}
use Rattle.rrs_lib.specs.declared.instruction_formats.SType.{SType}
use Rattle.rrs_lib.specs.declared.instruction_formats.BType.{BType}
use Rattle.rrs_lib.specs.declared.instruction_formats.UType.{UType}
use Rattle.rrs_lib.specs.declared.instruction_formats.JType.{JType}
use Rattle.rrs_lib.specs.Encodings.{Fields, R, I, IShamt, S, B, U, J, IsInRange}
use Rattle.rrs_lib.specs.Table.{Row, Format, InR, InI, InIShamt, InS, InB, InU, InJ, table, format_of, Decodes, IsRowAnd, Action, OnRegisters, OnImmediate, OnShamt, LoadUpper, AddUpperToPc, BranchIf, BranchUnless, Load, Store, JumpAndLink, JumpAndLinkRegister, NoEffect, CallEnvironment, Break}
use Rattle.rrs_lib.specs.Texts.{name_of, text_by, text_of}
use Rattle.rrs_lib.proofs.Actions.{format_of_action, format_of_row}
use Rattle.rrs_lib.proofs.Rows.{one_row_at_most}
use Rattle.rrs_extra.specs.Showing.{shown_by, shown_of, ShowAlike, Asked, IfBothTexts}
use Rattle.rrs_extra.proofs.Names.{first_word, same_row}
use Rattle.rrs_extra.proofs.Operands.{three-alike, two-alike, shift-alike, lui-alike, auipc-alike, branch-alike, load-alike, store-alike, jal-alike, jalr-alike}

-- ---- fields of one format

-- P holds of each two fields in range of a format
abbrev pub ForBoth : (Fields → Fields → Type 0) → Format → Type 0
ForBoth P InR = (f g : RType) → IsInRange (R f) → IsInRange (R g) → P (R f) (R g)
ForBoth P InI = (f g : IType) → IsInRange (I f) → IsInRange (I g) → P (I f) (I g)
ForBoth P InIShamt = (f g : ITypeShamt) → IsInRange (IShamt f) → IsInRange (IShamt g) → P (IShamt f) (IShamt g)
ForBoth P InS = (f g : SType) → IsInRange (S f) → IsInRange (S g) → P (S f) (S g)
ForBoth P InB = (f g : BType) → IsInRange (B f) → IsInRange (B g) → P (B f) (B g)
ForBoth P InU = (f g : UType) → IsInRange (U f) → IsInRange (U g) → P (U f) (U g)
ForBoth P InJ = (f g : JType) → IsInRange (J f) → IsInRange (J g) → P (J f) (J g)

at_both_own : (P : Fields → Fields → Type 0) (f g : Fields) → format_of g ≡ format_of f → ForBoth P (format_of f) → IsInRange f → IsInRange g → P f g
at_both_own P (R f) (R g) e all p q = all f g p q
at_both_own P (I f) (I g) e all p q = all f g p q
at_both_own P (IShamt f) (IShamt g) e all p q = all f g p q
at_both_own P (S f) (S g) e all p q = all f g p q
at_both_own P (B f) (B g) e all p q = all f g p q
at_both_own P (U f) (U g) e all p q = all f g p q
at_both_own P (J f) (J g) e all p q = all f g p q
at_both_own P f g e all p q = absurd (cc)

-- what holds of both of a format holds of two fields that have the format
pub at_both : (P : Fields → Fields → Type 0) (k : Format) (f g : Fields) → format_of f ≡ k → format_of g ≡ k → ForBoth P k → IsInRange f → IsInRange g → P f g
at_both P k f g e e' all p q = at_both_own P f g (e' ∙ sym e) (subst (ForBoth P) (sym e) all) p q

-- ---- one row

-- a text begins with the row's name
abbrev BeginsWithName : Row → Fields → Type 0
BeginsWithName row f = (pc : ℕ) → option_map first_word (text_of row f pc) ≡ Some (name_of row)

begins_with_name : (row : Row) → ForBoth (λ f g. BeginsWithName row f) (table row).format
begins_with_name Row.Add = λ f g p q pc. refl
begins_with_name _ = λ f g p q pc. refl

-- the texts of rows that do one thing are equal exactly when what they show is
abbrev ShownAlike : Action → Row → Fields → Fields → Type 0
ShownAlike action row f g = (pc : ℕ) → (text_by action row f pc ≡ text_by action row g pc) ↔ (shown_by action f ≡ shown_by action g)

shown_alike : (action : Action) (row : Row) → ForBoth (ShownAlike action row) (format_of_action action)
shown_alike (OnRegisters op) row = λ f g p q pc. (three-alike row f g p q, λ s. (cc))
shown_alike (OnImmediate op) row = λ f g p q pc. (two-alike row f g p q, λ s. (cc))
shown_alike (OnShamt op) row = λ f g p q pc. (shift-alike row f g p q, λ s. (cc))
shown_alike LoadUpper row = λ f g p q pc. (lui-alike row f g p q, λ s. (cc))
shown_alike AddUpperToPc row = λ f g p q pc. (auipc-alike row pc f g p q, λ s. (cc))
shown_alike (BranchIf test) row = λ f g p q pc. (branch-alike row pc f g p q, λ s. (cc))
shown_alike (BranchUnless test) row = λ f g p q pc. (branch-alike row pc f g p q, λ s. (cc))
shown_alike (Load n extended) row = λ f g p q pc. (load-alike row f g p q, λ s. (cc))
shown_alike (Store n) row = λ f g p q pc. (store-alike row f g p q, λ s. (cc))
shown_alike JumpAndLink row = λ f g p q pc. (jal-alike row pc f g p q, λ s. (cc))
shown_alike JumpAndLinkRegister row = λ f g p q pc. (jalr-alike row f g p q, λ s. (cc))
shown_alike NoEffect row = λ f g p q pc. (λ _. refl, λ _. refl)
shown_alike CallEnvironment row = λ f g p q pc. (λ _. refl, λ _. refl)
shown_alike Break row = λ f g p q pc. (λ _. refl, λ _. refl)

-- ---- two words

-- a row's text begins with its name
text-name : (w : ℕ) (row : Row) (f : Fields) (pc : ℕ) (text : List ℕ) → Decodes w row f → text_of row f pc ≡ Some text → first_word text ≡ name_of row
text-name w row f pc text is e =
    let named : option_map first_word (text_of row f pc) ≡ Some (name_of row) = at_both (λ f g. BeginsWithName row f) (table row).format f f is.format is.format (begins_with_name row) is.in_range is.in_range pc in
    let read : option_map first_word (text_of row f pc) ≡ Some (first_word text) = ap (option_map first_word) e in
    cc

-- the texts of one row, by the words
texts_of_row : (v w : ℕ) (row : Row) (f g : Fields) (pc : ℕ) → Decodes v row f → Decodes w row g → (text_of row f pc ≡ text_of row g pc) ↔ (shown_of row f ≡ shown_of row g)
texts_of_row v w row f g pc is is' = at_both (ShownAlike (table row).action row) (format_of_action (table row).action) f g (is.format ∙ format_of_row row) (is'.format ∙ format_of_row row) (shown_alike (table row).action row) is.in_range is'.in_range pc

-- equal texts have one row, and it shows the same of both
from_text : (pc first second : ℕ) (text : List ℕ) (row row' : Row) (f f' : Fields) → Decodes first row f → Decodes second row' f'
    → text_of row f pc ≡ Some text → text_of row' f' pc ≡ Some text → ShowAlike first second
from_text pc first second text row row' f f' is is' e e' =
    let same : row ≡ row' = same_row row row' (sym (text-name first row f pc text is e) ∙ text-name second row' f' pc text is' e') in
    let again : Decodes second row f' = subst (λ r. Decodes second r f') (sym same) is' in
    let text_again : text_of row f' pc ≡ Some text = subst (λ r. text_of r f' pc ≡ Some text) (sym same) e' in
    record {
      row = row;
      first_fields = f;
      second_fields = f';
      is_first = is;
      is_second = again;
      same = (texts_of_row first second row f f' pc is again).0 (e ∙ sym text_again);
    }

-- a word's text is the text of any row and fields that it is
text_of-word : (pc w : ℕ) (text : List ℕ) (row : Row) (f : Fields) → IsRowAnd w (λ row f. text_of row f pc ≡ Some text) → Decodes w row f → text_of row f pc ≡ Some text
text_of-word pc w text row f x is =
    let one = one_row_at_most w x.row row x.fields f x.is is in
    let at_row : text_of row x.fields pc ≡ Some text = subst (λ r. text_of r x.fields pc ≡ Some text) one.0 x.holds in
    subst (λ fields. text_of row fields pc ≡ Some text) one.1 at_row

-- Two texts at one address are equal exactly when their words show alike.
pub faithful : (pc first second : ℕ) (a b : List ℕ) → IsRowAnd first (λ row f. text_of row f pc ≡ Some a) → IsRowAnd second (λ row f. text_of row f pc ≡ Some b)
    → (a ≡ b) ↔ ShowAlike first second
faithful pc first second a b x y = (
  λ same. from_text pc first second b x.row y.row x.fields y.fields x.is y.is (x.holds ∙ ap Some same) y.holds,
  λ alike.
      let texts : text_of alike.row alike.first_fields pc ≡ text_of alike.row alike.second_fields pc =
      (texts_of_row first second alike.row alike.first_fields alike.second_fields pc alike.is_first alike.is_second).1 alike.same in
      let text_a : text_of alike.row alike.first_fields pc ≡ Some a = text_of-word pc first a alike.row alike.first_fields x alike.is_first in
      let text_b : text_of alike.row alike.second_fields pc ≡ Some b = text_of-word pc second b alike.row alike.second_fields y alike.is_second in
      same_Some a b (sym text_a ∙ texts ∙ text_b),
)

-- Of two answers, where both are texts, what holds of each two texts of their words.
pub both_texts : (pc first second : ℕ) (P : List ℕ → List ℕ → Type 0)
    → ((x y : List ℕ) → IsRowAnd first (λ row f. text_of row f pc ≡ Some x) → IsRowAnd second (λ row f. text_of row f pc ≡ Some y) → P x y)
    → (a b : Asked)
    → IfSome a (λ answer. IsRowAnd first (λ row f. IfOk answer (λ text. text_of row f pc ≡ Some (string_bytes text))))
    → IfSome b (λ answer. IsRowAnd second (λ row f. IfOk answer (λ text. text_of row f pc ≡ Some (string_bytes text))))
    → IfBothTexts a b P
both_texts pc first second P all None b x y = tt
both_texts pc first second P all (Some (Err e)) b x y = tt
both_texts pc first second P all (Some (Ok s)) None x y = tt
both_texts pc first second P all (Some (Ok s)) (Some (Err e)) x y = tt
both_texts pc first second P all (Some (Ok s)) (Some (Ok t)) x y = all (string_bytes s) (string_bytes t) x y
