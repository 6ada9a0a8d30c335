-- A name of an architecture is read in one way at most.
use Rattle.std.proofs.Common.{◌≡◌, ◌≢◌, ◌⊎◌, inl, inr, ℕ, ◌+◌, ◌*◌, ◌==◌, if◌then◌else◌, List, [], ◌∷◌, ◌++◌, drop, codes, Bool, true, false, Option, Some, None, MatchOption, refl, sym, subst, ap, ◌∙◌, arith}
use Rattle.std.proofs.lemmas.Option.{none-some}
use Rattle.rrs_run_commands.specs.declared.architectures.Extension.{Extension}
use Rattle.rrs_run_commands.specs.declared.architectures.Extension.TheVariants.{Zicsr, Zifencei, Zba, Zbb, Zbs, Zbc, Zbkb, Zicond}
use Rattle.rrs_run_commands.specs.declared.architectures.Extensions.{Extensions}
use Rattle.rrs_run_commands.specs.Architectures.{named, all_named, with_one, with_all, letter}

abbrev first : List ℕ → ℕ
first [] = 0
first (x ∷ xs) = x

-- ---- extensions: the third to the fifth byte tell them

abbrev telling : List ℕ → ℕ
telling (a ∷ b ∷ c ∷ d ∷ rest) = c * 256 + d
telling _ = 0

abbrev fifth : List ℕ → ℕ
fifth (a ∷ b ∷ c ∷ d ∷ e ∷ rest) = e
fifth _ = 0

abbrev extension_by : ℕ → ℕ → Extension
extension_by n m =
    if n == 26979 then (if m == 115 then Zicsr else Zicond)
    else (if n == 26982 then Zifencei
    else (if n == 25185 then Zba
    else (if n == 25186 then Zbb
    else (if n == 25187 then Zbc else (if n == 25195 then Zbkb else Zbs)))))

extension_by-is : (e : Extension) (xs : List ℕ) → extension_by (telling (named e ++ xs)) (fifth (named e ++ xs)) ≡ e
extension_by-is Zicsr xs = refl
extension_by-is Zifencei xs = refl
extension_by-is Zba xs = refl
extension_by-is Zbb xs = refl
extension_by-is Zbs xs = refl
extension_by-is Zbc xs = refl
extension_by-is Zbkb xs = refl
extension_by-is Zicond xs = refl

behind_name : (e : Extension) (xs ys : List ℕ) → named e ++ xs ≡ named e ++ ys → xs ≡ ys
behind_name Zicsr xs ys same = ap (drop 6) same
behind_name Zifencei xs ys same = ap (drop 9) same
behind_name Zba xs ys same = ap (drop 4) same
behind_name Zbb xs ys same = ap (drop 4) same
behind_name Zbs xs ys same = ap (drop 4) same
behind_name Zbc xs ys same = ap (drop 4) same
behind_name Zbkb xs ys same = ap (drop 5) same
behind_name Zicond xs ys same = ap (drop 7) same

same_extension : (e e' : Extension) (xs ys : List ℕ) → named e ++ xs ≡ named e' ++ ys → (e ≡ e') × (xs ≡ ys)
same_extension e e' xs ys same =
    let one : e ≡ e' = sym (extension_by-is e xs) ∙ ap (λ l. extension_by (telling l) (fifth l)) same ∙ extension_by-is e' ys in
    (one, behind_name e' xs ys (subst (λ x. named x ++ xs ≡ named e' ++ ys) one same))

some_byte : (e : Extension) (xs : List ℕ) → first (named e ++ xs) ≡ 95
some_byte Zicsr xs = refl
some_byte Zifencei xs = refl
some_byte Zba xs = refl
some_byte Zbb xs = refl
some_byte Zbs xs = refl
some_byte Zbc xs = refl
some_byte Zbkb xs = refl
some_byte Zicond xs = refl

not_empty : (e : Extension) (xs : List ℕ) → [] ≡ named e ++ xs → ⊥
not_empty e xs empty = omega (arith, ap first empty, some_byte e xs)

with_none : (es : List Extension) → with_all None es ≡ None
with_none [] = refl
with_none (e ∷ es) = with_none es

-- a text that begins with no extension
pub none_begins : (text : List ℕ) (known x : Extensions) (es : List Extension) → text ≢ []
    → ((e : Extension) (rest : List ℕ) → text ≢ named e ++ rest) → text ≡ all_named es → with_all (Some known) es ≢ Some x
none_begins text known x [] some none is all = some is
none_begins text known x (e ∷ es) some none is all = none e (all_named es) is

-- one whose first extension is known
pub known_begins : (text rest : List ℕ) (known x : Extensions) (e : Extension) (es : List Extension) → text ≡ named e ++ rest
    → with_one known e ≡ None → text ≡ all_named es → with_all (Some known) es ≢ Some x
known_begins text rest known x e [] begins none is all = not_empty e rest (sym is ∙ begins)
known_begins text rest known x e (e' ∷ es) begins none is all =
    let same = same_extension e' e (all_named es) rest (sym is ∙ begins) in
    none-some x (sym (with_none es) ∙ ap (λ o. with_all o es) (sym (ap (with_one known) same.0 ∙ none)) ∙ all)

-- and one behind whose first extension are none
none_follow : (text rest : List ℕ) (known more x : Extensions) (e : Extension) (es : List Extension) → text ≡ named e ++ rest
    → with_one known e ≡ Some more
    → ((es' : List Extension) (x' : Extensions) → rest ≡ all_named es' → with_all (Some more) es' ≢ Some x')
    → text ≡ all_named es → with_all (Some known) es ≢ Some x
none_follow text rest known more x e [] begins one none is all = not_empty e rest (sym is ∙ begins)
none_follow text rest known more x e (e' ∷ es) begins one none is all =
    let same = same_extension e' e (all_named es) rest (sym is ∙ begins) in
    none es x (sym same.1) (ap (λ o. with_all o es) (sym (ap (with_one known) same.0 ∙ one)) ∙ all)

abbrev HasNames : List ℕ → Extensions → Extensions → Type 0
HasNames text known x = (es : List Extension) × (text ≡ all_named es) × (with_all (Some known) es ≡ Some x)

abbrev HasNone : List ℕ → Extensions → Type 0
HasNone text known = (es : List Extension) (x : Extensions) → text ≡ all_named es → with_all (Some known) es ≢ Some x

pub followed : (text rest : List ℕ) (known more : Extensions) (e : Extension) (answer : Option Extensions) → text ≡ named e ++ rest
    → with_one known e ≡ Some more → MatchOption answer (HasNone rest more) (HasNames rest more)
    → MatchOption answer (HasNone text known) (HasNames text known)
followed text rest known more e None begins one none = λ es x. none_follow text rest known more x e es begins one none
followed text rest known more e (Some x) begins one (es, is, all) =
    (e ∷ es, begins ∙ ap (λ l. named e ++ l) is, ap (λ o. with_all o es) one ∙ all)

-- ---- letters

first_named : (es : List Extension) → (first (all_named es) ≡ 0) ⊎ (first (all_named es) ≡ 95)
first_named [] = inl refl
first_named (e ∷ es) = inr (some_byte e (all_named es))

no_letter_named : (n : ℕ) (es : List Extension) (rest : List ℕ) → (n ≡ 97) ⊎ (n ≡ 99) → all_named es ≢ n ∷ rest
no_letter_named n es rest which is =
    elim which [
      | inl a ↦ elim (first_named es) [ inl x ↦ omega (arith, ap first is, a, x) | inr x ↦ omega (arith, ap first is, a, x) ]
      | inr a ↦ elim (first_named es) [ inl x ↦ omega (arith, ap first is, a, x) | inr x ↦ omega (arith, ap first is, a, x) ]
    ]

no_a_behind : (c : Bool) (es : List Extension) (rest : List ℕ) → letter c (codes "c") ++ all_named es ≢ 97 ∷ rest
no_a_behind true es rest is = omega (arith, ap first is)
no_a_behind false es rest is = no_letter_named 97 es rest (inl refl) is

behind_letter : (n : ℕ) (b b' : Bool) (t r : List ℕ) → letter b' (n ∷ []) ++ t ≡ letter b (n ∷ []) ++ r
    → (b ≡ false → (rest : List ℕ) → letter b (n ∷ []) ++ r ≢ (n ∷ []) ++ rest) → ((rest : List ℕ) → t ≢ n ∷ rest) → t ≡ r
behind_letter n true true t r same absent other = ap (drop 1) same
behind_letter n false false t r same absent other = same
behind_letter n false true t r same absent other = absurd (absent refl t (sym same))
behind_letter n true false t r same absent other = absurd (other r same)

-- the extensions stand behind the letters that are read
pub behind_letters : (a a' c c' : Bool) (es : List Extension) (text middle end : List ℕ)
    → text ≡ letter a' (codes "a") ++ (letter c' (codes "c") ++ all_named es)
    → text ≡ letter a (codes "a") ++ middle → (a ≡ false → (rest : List ℕ) → text ≢ codes "a" ++ rest)
    → middle ≡ letter c (codes "c") ++ end → (c ≡ false → (rest : List ℕ) → middle ≢ codes "c" ++ rest)
    → end ≡ all_named es
behind_letters a a' c c' es text middle end whole first_is first_no second_is second_no =
    let one : letter c' (codes "c") ++ all_named es ≡ middle =
    behind_letter 97 a a' (letter c' (codes "c") ++ all_named es) middle (sym whole ∙ first_is)
    (λ no rest is. first_no no rest (first_is ∙ is)) (no_a_behind c' es) in
    sym (behind_letter 99 c c' (all_named es) end (one ∙ second_is) (λ no rest is. second_no no rest (second_is ∙ is))
    (λ rest is. no_letter_named 99 es rest (inr refl) is))
