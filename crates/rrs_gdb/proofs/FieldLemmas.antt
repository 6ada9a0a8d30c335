-- The numbers and the fields of a payload.
use Rattle.std.proofs.Common.{◌≡◌, ◌≢◌, ℕ, zero, suc, ◌+◌, ◌*◌, ◌^◌, ◌<◌, ◌≤◌, ◌==◌, true, false, List, [], ◌∷◌, ◌++◌, length, take, drop, slice_index, Ok, inl, inr, refl, sym, subst, ap, ◌∙◌, arith, append-nil, append_assoc}
use Rattle.std.proofs.lemmas.Bool.{cond-true, cond-false}
use Rattle.std.proofs.lemmas.Bool.Decides.{eqb_tells}
use Rattle.std.proofs.Math.Nat.{pow-le-pow_right}
use Rattle.std.proofs.lemmas.List.{length-take}
use Rattle.std.proofs.lemmas.Int.Digits.{digits_value-lt}
use Rattle.std.proofs.lemmas.Str.Parse.{digits_value-take-le}
use Rattle.std.specs.Char.{digit_value}
use Rattle.std.specs.Str.Parse.{AllDigits, digits_value}
use Rattle.std.specs.Str.{IsUtf8}
use Rattle.hex.specs.Hex.{decode_of}
use Rattle.rrs_gdb.specs.Packets.{AreNumbers, AreTexts, IsNumber, number, before, behind}

tests_true : (a b : ℕ) → a ≡ b → (a == b) ≡ true
tests_true a b equal = elim (eqb_tells a b) as (λ _. (a == b) ≡ true) [
  | inl same ↦ same.0
  | inr differ ↦ absurd (differ.1 equal)
]

tests_false : (a b : ℕ) → a ≢ b → (a == b) ≡ false
tests_false a b other = elim (eqb_tells a b) as (λ _. (a == b) ≡ false) [
  | inl same ↦ absurd (other same.1)
  | inr differ ↦ differ.0
]

-- the first of these bytes stands at i
pub cut_there : (at : ℕ) (bs : List ℕ) (i : ℕ) → i < length bs → slice_index bs i ≡ at
    → ((j : ℕ) → j < i → slice_index bs j ≢ at) → (take i bs ≡ before at bs) × (drop (suc i) bs ≡ behind at bs)
cut_there at [] i inside there none = absurd (omega (arith, inside))
cut_there at (b ∷ bs) zero inside there none =
    let same = tests_true b at there in
    (sym (cond-true (b == at) _ _ same), sym (cond-true (b == at) _ _ same))
cut_there at (b ∷ bs) (suc i) inside there none =
    let other = tests_false b at (none zero (omega arith)) in
    let rest = cut_there at bs i (omega (arith, inside)) there (λ j h. none (suc j) (omega (arith, h))) in
    (ap (λ xs. b ∷ xs) rest.0 ∙ sym (cond-false (b == at) _ _ other), rest.1 ∙ sym (cond-false (b == at) _ _ other))

-- there is none
pub cut_nowhere : (at : ℕ) (bs : List ℕ) → ((j : ℕ) → j < length bs → slice_index bs j ≢ at)
    → (before at bs ≡ bs) × (behind at bs ≡ [])
cut_nowhere at [] none = (refl, refl)
cut_nowhere at (b ∷ bs) none =
    let other = tests_false b at (none zero (omega arith)) in
    let rest = cut_nowhere at bs (λ j h. none (suc j) (omega (arith, h))) in
    (cond-false (b == at) _ _ other ∙ ap (λ xs. b ∷ xs) rest.0, cond-false (b == at) _ _ other ∙ rest.1)

-- each of some digits is one
pub digit_there : (base : ℕ) (ds : List ℕ) (i : ℕ) → AllDigits base ds → i < length ds
    → digit_value (slice_index ds i) < base
digit_there base [] i all inside = absurd (omega (arith, inside))
digit_there base (d ∷ ds) zero all inside = all.0
digit_there base (d ∷ ds) (suc i) all inside = digit_there base ds i all.1 (omega (arith, inside))

-- digits whose first ones are too many are too many
pub too_many : (ds : List ℕ) (i : ℕ) → i < length ds → 2 ^ 64 ≤ digits_value 10 (take (i + 1) ds)
    → digits_value 10 ds < 2 ^ 64 → ⊥
too_many ds i inside most few = omega (arith, digits_value-take-le 10 ds (i + 1) (omega arith), most, few)

-- eight digits have room for one more after seven
pub has_room : (ds : List ℕ) (i value : ℕ) → i < length ds → length ds ≤ 8 → AllDigits 16 (take i ds)
    → value ≡ digits_value 16 (take i ds) → value * 16 + 15 < 2 ^ 32
has_room ds i value inside short all is =
    let below = digits_value-lt 16 (take i ds) all in
    let few : length (take i ds) ≤ 7 = omega (arith, length-take i ds, inside, short) in
    let most : 16 ^ length (take i ds) ≤ 16 ^ 7 = pow-le-pow_right (omega arith) few in
    omega (arith, below, most, is)

-- ---- numbers and texts with semicolons between

pub nothing_left : {X : Type 0} (xs : List X) → length xs ≡ 0 → xs ≡ []
nothing_left [] none = refl
nothing_left (x ∷ xs) none = absurd (omega (arith, none))

pub numbers_all : (made text rest : List ℕ)
    → ((more : List ℕ) → AreNumbers more rest → AreNumbers (made ++ more) text) → rest ≡ [] → AreNumbers made text
numbers_all made text rest so_far ended =
    subst (λ (xs : List ℕ). AreNumbers xs text) (append-nil made) (so_far [] ended)

first_number : (more rest : List ℕ) → AreNumbers more rest → rest ≢ []
    → (others : List ℕ) × (more ≡ number (before 59 rest) ∷ others) × IsNumber (before 59 rest)
    × AreNumbers others (behind 59 rest)
first_number [] rest are some = absurd (some are)
first_number (n ∷ ns) rest are some = (ns, ap (λ (k : ℕ). k ∷ ns) are.2, are.1, are.3)

pub number_more : (made new text rest word others : List ℕ) (n : ℕ)
    → ((more : List ℕ) → AreNumbers more rest → AreNumbers (made ++ more) text)
    → rest ≢ [] → word ≡ before 59 rest → others ≡ behind 59 rest → IsNumber word → n ≡ number word
    → new ≡ made ++ n ∷ [] → (more : List ℕ) → AreNumbers more others → AreNumbers (new ++ more) text
number_more made new text rest word others n so_far some first last is value added more are =
    subst (λ (xs : List ℕ). AreNumbers xs text)
    (sym (ap (λ (xs : List ℕ). xs ++ more) added ∙ append_assoc made (n ∷ []) more))
    (so_far (n ∷ more) (
      some,
      subst IsNumber first is,
      value ∙ ap number first,
      subst (λ (xs : List ℕ). AreNumbers more xs) last are,
    ))

pub number_next : (made new text rest word others : List ℕ) (n : ℕ)
    → ((numbers : List ℕ) → AreNumbers numbers text
    → (more : List ℕ) × AreNumbers more rest × (numbers ≡ made ++ more))
    → rest ≢ [] → word ≡ before 59 rest → others ≡ behind 59 rest → n ≡ number word → new ≡ made ++ n ∷ []
    → (numbers : List ℕ) → AreNumbers numbers text
    → (more : List ℕ) × AreNumbers more others × (numbers ≡ new ++ more)
number_next made new text rest word others n all some first last value added numbers are =
    let (more, left, is) = all numbers are in
    let (after, has, _, left_after) = first_number more rest left some in
    let one : number (before 59 rest) ≡ n = sym (value ∙ ap number first) in (
      after,
      subst (λ (xs : List ℕ). AreNumbers after xs) (sym last) left_after,
      is ∙ ap (λ (xs : List ℕ). made ++ xs) (has ∙ ap (λ (k : ℕ). k ∷ after) one)
          ∙ sym (ap (λ (xs : List ℕ). xs ++ after) added ∙ append_assoc made (n ∷ []) after),
    )

pub number_none : (made text rest word : List ℕ)
    → ((numbers : List ℕ) → AreNumbers numbers text
    → (more : List ℕ) × AreNumbers more rest × (numbers ≡ made ++ more))
    → rest ≢ [] → word ≡ before 59 rest → ¬ IsNumber word → (numbers : List ℕ) → AreNumbers numbers text → ⊥
number_none made text rest word all some first none numbers are =
    let (more, left, _) = all numbers are in
    let (_, _, is, _) = first_number more rest left some in
    none (subst IsNumber (sym first) is)

pub texts_all : (made : List (List ℕ)) (text rest : List ℕ)
    → ((more : List (List ℕ)) → AreTexts more rest → AreTexts (made ++ more) text) → rest ≡ [] → AreTexts made text
texts_all made text rest so_far ended =
    subst (λ (xs : List (List ℕ)). AreTexts xs text) (append-nil made) (so_far [] ended)

first_text : (more : List (List ℕ)) (rest : List ℕ) → AreTexts more rest → rest ≢ []
    → (one : List ℕ) × (others : List (List ℕ)) × (more ≡ one ∷ others) × (decode_of (before 59 rest) ≡ Ok one)
    × IsUtf8 one × AreTexts others (behind 59 rest)
first_text [] rest are some = absurd (some are)
first_text (t ∷ ts) rest are some = (t, ts, refl, are.1, are.2, are.3)

pub text_more : (made new : List (List ℕ)) (text rest word others t : List ℕ)
    → ((more : List (List ℕ)) → AreTexts more rest → AreTexts (made ++ more) text)
    → rest ≢ [] → word ≡ before 59 rest → others ≡ behind 59 rest → decode_of word ≡ Ok t → IsUtf8 t
    → new ≡ made ++ t ∷ [] → (more : List (List ℕ)) → AreTexts more others → AreTexts (new ++ more) text
text_more made new text rest word others t so_far some first last is utf8 added more are =
    subst (λ (xs : List (List ℕ)). AreTexts xs text)
    (sym (ap (λ (xs : List (List ℕ)). xs ++ more) added ∙ append_assoc made (t ∷ []) more))
    (so_far (t ∷ more) (
      some,
      sym (ap decode_of first) ∙ is,
      utf8,
      subst (λ (xs : List ℕ). AreTexts more xs) last are,
    ))

pub text_next : (made new : List (List ℕ)) (text rest word others t : List ℕ)
    → ((texts : List (List ℕ)) → AreTexts texts text
    → (more : List (List ℕ)) × AreTexts more rest × (texts ≡ made ++ more))
    → rest ≢ [] → word ≡ before 59 rest → others ≡ behind 59 rest → decode_of word ≡ Ok t → new ≡ made ++ t ∷ []
    → (texts : List (List ℕ)) → AreTexts texts text
    → (more : List (List ℕ)) × AreTexts more others × (texts ≡ new ++ more)
text_next made new text rest word others t all some first last is added texts are =
    let (more, left, same) = all texts are in
    let (one, after, has, decoded, _, left_after) = first_text more rest left some in
    let both : Ok one ≡ Ok t = sym decoded ∙ sym (ap decode_of first) ∙ is in
    let equal : one ≡ t = cc in (
      after,
      subst (λ (xs : List ℕ). AreTexts after xs) (sym last) left_after,
      same ∙ ap (λ (xs : List (List ℕ)). made ++ xs) (has ∙ ap (λ (k : List ℕ). k ∷ after) equal)
          ∙ sym (ap (λ (xs : List (List ℕ)). xs ++ after) added ∙ append_assoc made (t ∷ []) after),
    )

pub text_none : (made : List (List ℕ)) (text rest word : List ℕ)
    → ((texts : List (List ℕ)) → AreTexts texts text
    → (more : List (List ℕ)) × AreTexts more rest × (texts ≡ made ++ more))
    → rest ≢ [] → word ≡ before 59 rest → ((t : List ℕ) → decode_of word ≡ Ok t → ¬ IsUtf8 t)
    → (texts : List (List ℕ)) → AreTexts texts text → ⊥
text_none made text rest word all some first none texts are =
    let (more, left, _) = all texts are in
    let (one, _, _, decoded, utf8, _) = first_text more rest left some in
    none one (ap decode_of first ∙ decoded) utf8
