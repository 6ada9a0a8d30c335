-- Which of the sections has a name, from one on.
use Rattle.std.proofs.Common.{◌≡◌, ℕ, ◌+◌, ◌<◌, true, false, List, ◌∷◌, length, get_or, drop, refl, sym, ap, ◌∙◌, if◌then◌else◌}
use Rattle.std.proofs.lemmas.List.{at_drop_more}
use Rattle.std.specs.Str.{bytes_eq}
use Rattle.rrs_asm.specs.declared.sections.Section.{Section}
use Rattle.rrs_asm.specs.Sections.{names_of, index_of}

from-one : {A : Type 0} (name : List ℕ) (sections : List (Section A)) (i : ℕ) (s : Section A) → i < length sections → s ≡ get_or sections i s → index_of name (names_of (drop i sections)) ≡ (if bytes_eq s.name.now name then 0 else index_of name (names_of (drop (i + 1) sections)) + 1)
from-one name sections i s below is = at_drop_more (λ xs. index_of name (names_of xs)) sections i s below ∙ ap (λ t. index_of name (names_of (t ∷ drop (i + 1) sections))) (sym is)

pub found : {A : Type 0} (name : List ℕ) (sections : List (Section A)) (i : ℕ) (s : Section A) → i < length sections → s ≡ get_or sections i s → bytes_eq s.name.now name ≡ true → index_of name (names_of (drop i sections)) ≡ 0
found name sections i s below is here = from-one name sections i s below is ∙ (rw here refl)

pub further : {A : Type 0} (name : List ℕ) (sections : List (Section A)) (i : ℕ) (s : Section A) → i < length sections → s ≡ get_or sections i s → bytes_eq s.name.now name ≡ false → index_of name (names_of (drop i sections)) ≡ index_of name (names_of (drop (i + 1) sections)) + 1
further name sections i s below is other = from-one name sections i s below is ∙ (rw other refl)
