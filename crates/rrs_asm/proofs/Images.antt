-- Sections that lie as a layout says, and their bytes one after the other.
use Rattle.std.proofs.Common.{◌≡◌, ◌<◌, ℕ, zero, suc, get_or, drop, Bool, true, false, ◌+◌, ◌-◌, ◌++◌, List, [], ◌∷◌, length, replicate, ◌≤◌, refl, sym, subst, ap, ◌∙◌, arith}
use Rattle.std.proofs.lemmas.List.{append_assoc, append-nil, length-append, length-replicate}
use Rattle.rrs_asm.specs.declared.sections.Section.{Section}
use Rattle.rrs_asm.specs.declared.sections.Layout.{Layout}
use Rattle.rrs_asm.specs.Source.{is_empty}
use Rattle.rrs_asm.specs.Sections.{end_of, AreBehind, ArePlaced, with_section, flat_behind, laid_flat, with_bytes, AreBytesFrom, IsImage}

-- what sections add after bytes, and where
abbrev Rest : {A : Type 0} → ℕ → List ℕ → List (Section A) → Type 0
Rest base before others =
    (rest : List ℕ) × AreBytesFrom (base + length before) (with_bytes others) rest × (flat_behind base before others ≡ before ++ rest)

-- bytes after zeros up to an address
abbrev padded : {A : Type 0} → ℕ → List ℕ → Section A → List ℕ
padded base before s = before ++ (replicate (s.address - base - length before) 0 ++ s.made.bytes.items)

padded-end : {A : Type 0} (base : ℕ) (before : List ℕ) (s : Section A) → base + length before ≤ s.address → base + length (padded base before s) ≡ end_of s
padded-end base before s fits =
    let gap : ℕ = s.address - base - length before in
    let own : List ℕ = s.made.bytes.items in
    let behind : length (replicate gap 0 ++ own) ≡ gap + length own = length-append (replicate gap 0) own ∙ ap (λ n. n + length own) (length-replicate gap 0) in
    let whole : length (before ++ (replicate gap 0 ++ own)) ≡ length before + (gap + length own) =
    length-append before (replicate gap 0 ++ own) ∙ ap (λ n. length before + n) behind in
    omega (arith, fits, whole)

skipped : {A : Type 0} (base : ℕ) (before : List ℕ) (s : Section A) (others : List (Section A)) → is_empty s.made.bytes.items ≡ true → Rest base before others → Rest base before (s ∷ others)
skipped base before s others none (rest, are, same) = (rest, rw none are, rw none same)

taken : {A : Type 0} (base : ℕ) (before : List ℕ) (s : Section A) (others : List (Section A)) → is_empty s.made.bytes.items ≡ false → base + length before ≤ s.address
    → Rest base (padded base before s) others → Rest base before (s ∷ others)
taken base before s others some fits (rest, are, same) =
    let gap : ℕ = s.address - base - length before in
    let own : List ℕ = s.made.bytes.items in
    let P : ℕ → Type 0 = λ n. AreBytesFrom n (with_bytes others) rest in (
      replicate gap 0 ++ (own ++ rest),
      rw some (gap, rest, omega (arith, fits), subst P (padded-end base before s fits) are, refl),
      rw some (same ∙ append_assoc before (replicate gap 0 ++ own) rest ∙ ap (λ xs. before ++ xs) (append_assoc (replicate gap 0) own rest)),
    )

choose : {A : Type 0} (base : ℕ) (before : List ℕ) (s : Section A) (others : List (Section A)) (t : Bool) → is_empty s.made.bytes.items ≡ t → base + length before ≤ s.address
    → ((bytes : List ℕ) → base + length bytes ≤ end_of s → Rest base bytes others) → Rest base before (s ∷ others)
choose base before s others true none fits next = skipped base before s others none (next before (omega (arith, fits)))
choose base before s others false some fits next =
    taken base before s others some fits (next (padded base before s) (omega (arith, padded-end base before s fits)))

rest-of : {A : Type 0} (base : ℕ) (layout : Layout) (p : Section A) (before : List ℕ) (others : List (Section A)) → base + length before ≤ end_of p → AreBehind layout p others → Rest base before others
rest-of base layout p before [] fits behind = ([], refl, sym (append-nil before))
rest-of base layout p before (s ∷ others) fits (is, more) =
    let above : end_of p ≤ s.address = is.behind in
    choose base before s others (is_empty s.made.bytes.items) refl (omega (arith, fits, above)) (λ bytes ends. rest-of base layout s bytes others ends more)

image-of-rest : {A : Type 0} (base : ℕ) (sections : List (Section A)) → Rest base [] sections → IsImage base sections (laid_flat base sections)
image-of-rest base sections (rest, are, same) =
    let P : List ℕ → Type 0 = λ bytes. AreBytesFrom base (with_bytes sections) bytes in
    let Q : ℕ → Type 0 = λ n. AreBytesFrom n (with_bytes sections) rest in
    subst P (sym same) (subst Q (omega arith) are)

-- their bytes one after the other are those of each at its address
pub is-image : {A : Type 0} (layout : Layout) (base : ℕ) (sections : List (Section A)) → layout.text_start ≡ base → ArePlaced layout sections → IsImage base sections (laid_flat base sections)
is-image layout base [] text placed = refl
is-image layout base (s ∷ others) text (first, more) =
    image-of-rest base (s ∷ others)
    (choose base [] s others (is_empty s.made.bytes.items) refl (omega (arith, text, first)) (λ bytes ends. rest-of base layout s bytes others ends more))

-- one section more is laid after what was
pub laid-next : {A : Type 0} (base : ℕ) (bytes after all : List ℕ) (i n : ℕ) (sections : List (Section A)) (d : Section A) → n ≡ i + 1 → i < length sections
    → after ≡ with_section base bytes (get_or sections i d) → flat_behind base bytes (drop i sections) ≡ all
    → flat_behind base after (drop n sections) ≡ all
laid-next base bytes after all i n [] d one below next laid = absurd (omega arith)
laid-next base bytes after all zero (suc zero) (s ∷ sections) d one below next laid = rw next laid
laid-next base bytes after all zero zero (s ∷ sections) d one below next laid = absurd (omega arith)
laid-next base bytes after all zero (suc (suc n)) (s ∷ sections) d one below next laid = absurd (omega arith)
laid-next base bytes after all (suc i) zero (s ∷ sections) d one below next laid = absurd (omega arith)
laid-next base bytes after all (suc i) (suc n) (s ∷ sections) d one below next laid = laid-next base bytes after all i n sections d (omega arith) (omega arith) next laid

-- no section is left
pub laid-last : {A : Type 0} (base : ℕ) (bytes all : List ℕ) (i : ℕ) (sections : List (Section A)) → length sections ≤ i
    → flat_behind base bytes (drop i sections) ≡ all → bytes ≡ all
laid-last base bytes all zero [] below laid = laid
laid-last base bytes all (suc i) [] below laid = laid
laid-last base bytes all zero (s ∷ sections) below laid = absurd (omega arith)
laid-last base bytes all (suc i) (s ∷ sections) below laid = laid-last base bytes all i sections (omega arith) laid
