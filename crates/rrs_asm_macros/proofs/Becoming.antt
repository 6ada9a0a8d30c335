-- Lines that become others, the first of them at a time.
use Rattle.std.proofs.Common.{◌≡◌, ℕ, zero, suc, ◌+◌, ◌<◌, ◌≤◌, false, List, [], ◌∷◌, ◌++◌, length, get_or, take, drop, Some, Bor, refl, sym, ap, ◌∙◌, subst, add-one, drop-cons, append_assoc, arith}
use Rattle.std.proofs.lemmas.Grind.{common_steps}
use Rattle.std.proofs.lemmas.List.{append-nil, map-append, take-append-drop, take-map}
use Rattle.std.proofs.Math.Seq.{take-add}
use Rattle.rrs_asm_macros.specs.Directives.{has_directives}
use Rattle.rrs_asm_macros.specs.Expansion.{count, copied, IsOther, Expands, ExpandsFirst}
use Rattle.rrs_asm_macros.specs.Expansion.Expands.{Over, Keeps, Repeats}
use Rattle.rrs_asm_macros.specs.Expansion.ExpandsFirst.{All, Before, Within}
use Rattle.rrs_asm_macros.specs.Forms.{texts, EndsAt}

-- the same lines
same-as : (a b c d : List (List ℕ)) → a ≡ c → b ≡ d → Expands a b → Expands c d
same-as a b c d e f all =
    let P : List (List ℕ) → Type 0 = λ own. Expands own b in
    let Q : List (List ℕ) → Type 0 = λ own. Expands c own in
    subst Q f (subst P e all)

first-as : (a b c d : List (List ℕ)) → a ≡ c → b ≡ d → ExpandsFirst a b → ExpandsFirst c d
first-as a b c d e f all =
    let P : List (List ℕ) → Type 0 = λ own. ExpandsFirst own b in
    let Q : List (List ℕ) → Type 0 = λ own. ExpandsFirst c own in
    subst Q f (subst P e all)

-- lines, and others after them
joined : {a b : List (List ℕ)} (c d : List (List ℕ)) → Expands a b → Expands c d → Expands (a ++ c) (b ++ d)
joined c d Over behind = behind
joined c d (Keeps none rest) behind = Keeps none (joined c d rest behind)
joined c d (Repeats line end inside once others made copies counted ended one rest) behind =
    same-as (line ∷ (inside ++ (end ∷ (others ++ c)))) (copied copies once ++ (made ++ d)) _ _
    (ap (λ own. line ∷ own) (sym (append_assoc inside (end ∷ others) c))) (sym (append_assoc (copied copies once) made d))
    (Repeats line end inside once (others ++ c) (made ++ d) copies counted ended one (joined c d rest behind))

-- rows before others
row-at : (rows : List (Bor (List ℕ))) (from : ℕ) (d : Bor (List ℕ)) → from < length rows → drop from rows ≡ get_or rows from d ∷ drop (from + 1) rows
row-at rows from d lt = rw add-one (drop-cons rows from d lt)

cut : (rows : List (Bor (List ℕ))) (row more : ℕ) → texts (take (row + more) rows) ≡ texts (take row rows) ++ texts (take more (drop row rows))
cut rows row more = ap texts (take-add row more rows) ∙ map-append (λ (own : Bor (List ℕ)). own.now) (take row rows) (take more (drop row rows))

split : (rows : List (Bor (List ℕ))) (row : ℕ) → texts (take row rows) ++ texts (drop row rows) ≡ texts rows
split rows row = sym (map-append (λ (own : Bor (List ℕ)). own.now) (take row rows) (drop row rows)) ∙ ap texts (take-append-drop row rows)

around : (rows : List (Bor (List ℕ))) (row : ℕ) (d : Bor (List ℕ)) → row < length rows → texts (take row rows) ++ ((get_or rows row d).now ∷ texts (drop (row + 1) rows)) ≡ texts rows
around rows row d lt = ap (λ own. texts (take row rows) ++ texts own) (sym (row-at rows row d lt)) ∙ split rows row

one-more : (rows : List (Bor (List ℕ))) (row : ℕ) (d : Bor (List ℕ)) → row < length rows → texts (take row rows) ++ ((get_or rows row d).now ∷ []) ≡ texts (take (row + 1) rows)
one-more rows row d lt = ap (λ own. texts (take row rows) ++ texts (take 1 own)) (sym (row-at rows row d lt)) ∙ sym (cut rows row 1)

-- a line without directives
pub keeps : (rows made : List (Bor (List ℕ))) (row at : ℕ) (d e : Bor (List ℕ)) → row < length rows → at < length made
    → has_directives (get_or rows row d).now ≡ false → (get_or made at e).now ≡ (get_or rows row d).now
    → Expands (texts (take row rows)) (texts (take at made)) → Expands (texts (take (row + 1) rows)) (texts (take (at + 1) made))
keeps rows made row at d e lt within none same before =
    let line : List ℕ = (get_or rows row d).now in
    let one : Expands (line ∷ []) (line ∷ []) = Keeps none Over in
    same-as (texts (take row rows) ++ (line ∷ [])) (texts (take at made) ++ (line ∷ [])) _ _
    (one-more rows row d lt) (ap (λ own. texts (take at made) ++ (own ∷ [])) (sym same) ∙ one-more made at e within)
    (joined (line ∷ []) (line ∷ []) before one)

-- a repetition, with its end
pub repeats : (rows made : List (Bor (List ℕ))) (row at inside size total copies : ℕ) (d : Bor (List ℕ)) → row < length rows
    → count (get_or rows row d).now ≡ Some copies → EndsAt (drop (row + 1) rows) inside
    → Expands (texts (take inside (drop (row + 1) rows))) (texts (take size (drop at made)))
    → texts (take total (drop at made)) ≡ copied copies (texts (take size (drop at made)))
    → Expands (texts (take row rows)) (texts (take at made))
    → Expands (texts (take (row + (inside + 2)) rows)) (texts (take (at + total) made))
repeats rows made row at inside size total copies d lt counted end one same before =
    let line : Bor (List ℕ) = get_or rows row d in
    let behind : List (Bor (List ℕ)) = drop (row + 1) rows in
    let own : List (List ℕ) = line.now ∷ (texts (take inside behind) ++ (end.0 ∷ [])) in
    let once : List (List ℕ) = copied copies (texts (take size (drop at made))) ++ [] in
    let last : texts (take 1 (drop inside behind)) ≡ end.0 ∷ [] =
    sym (take-map (λ (row : Bor (List ℕ)). row.now) 1 (drop inside behind)) ∙ ap (λ rest. take 1 rest) end.2 in
    let two : inside + 2 ≡ suc (inside + 1) = omega arith in
    let left : texts (take (inside + 2) (drop row rows)) ≡ own =
    ap (λ rest. texts (take (inside + 2) rest)) (row-at rows row d lt)
    ∙ (ap (λ n. texts (take n (line ∷ behind))) two
    ∙ ap (λ rest. line.now ∷ rest) (cut behind inside 1 ∙ ap (λ rest. texts (take inside behind) ++ rest) last)) in
    same-as (texts (take row rows) ++ own) (texts (take at made) ++ once) _ _
    (ap (λ rest. texts (take row rows) ++ rest) (sym left) ∙ sym (cut rows row (inside + 2)))
    (ap (λ rest. texts (take at made) ++ rest) (append-nil _ ∙ sym same) ∙ sym (cut made at total))
    (joined own once before (Repeats line.now end.0 (texts (take inside behind)) (texts (take size (drop at made))) [] [] copies counted end.1 one Over))

-- another directive, or one in a repetition
pub before-other : (rows made : List (Bor (List ℕ))) (row at : ℕ) (d : Bor (List ℕ)) → row < length rows → IsOther (get_or rows row d).now
    → Expands (texts (take row rows)) (texts (take at made)) → ExpandsFirst (texts rows) (texts made)
before-other rows made row at d lt other before = first-as _ _ _ _ (around rows row d lt) (split made at)
    (Before (get_or rows row d).now (texts (take row rows)) (texts (take at made)) (texts (drop (row + 1) rows)) (texts (drop at made)) before other)

pub within-one : (rows made : List (Bor (List ℕ))) (row at copies : ℕ) (d : Bor (List ℕ)) → row < length rows → count (get_or rows row d).now ≡ Some copies
    → ExpandsFirst (texts (drop (row + 1) rows)) (texts (drop at made))
    → Expands (texts (take row rows)) (texts (take at made)) → ExpandsFirst (texts rows) (texts made)
within-one rows made row at copies d lt counted inner before = first-as _ _ _ _ (around rows row d lt) (split made at)
    (Within (get_or rows row d).now (texts (take row rows)) (texts (take at made)) (texts (drop (row + 1) rows)) (texts (drop at made)) copies before counted inner)

-- copies of lines, one more of them, and none of any
copied-last : (n : ℕ) (rows : List (List ℕ)) → copied n rows ++ rows ≡ copied (suc n) rows
copied-last zero rows = sym (append-nil rows)
copied-last (suc n) rows = append_assoc rows (copied n rows) rows ∙ ap (λ own. rows ++ own) (copied-last n rows)

pub copied-none : (n : ℕ) → copied n [] ≡ []
copied-none zero = refl
copied-none (suc n) = copied-none n

pub copies-more : (made : List (Bor (List ℕ))) (total size copy : ℕ) → texts (take total made) ≡ copied copy (texts (take size made))
    → texts (take size (drop total made)) ≡ texts (take size made) → texts (take (total + size) made) ≡ copied (copy + 1) (texts (take size made))
copies-more made total size copy before one =
    let more : copy + 1 ≡ suc copy = omega arith in
    cut made total size ∙ (ap (λ own. own ++ texts (take size (drop total made))) before
    ∙ (ap (λ own. copied copy (texts (take size made)) ++ own) one
    ∙ (copied-last copy (texts (take size made)) ∙ ap (λ n. copied n (texts (take size made))) (sym more))))

-- one more line, the same in both
pub begins-more : (rows first : List (Bor (List ℕ))) (index : ℕ) (d e : Bor (List ℕ)) → index < length first → length first ≤ length rows
    → texts (take index rows) ≡ texts (take index first) → (get_or rows index d).now ≡ (get_or first index e).now
    → texts (take (index + 1) rows) ≡ texts (take (index + 1) first)
begins-more rows first index d e lt le before same =
    sym (one-more rows index d (omega arith)) ∙ (ap (λ own. own ++ ((get_or rows index d).now ∷ [])) before
    ∙ (ap (λ line. texts (take index first) ++ (line ∷ [])) same ∙ one-more first index e lt))

-- all lines, and all that they become
all-taken : (made : List (Bor (List ℕ))) (at : ℕ) → at ≡ length made → take at made ≡ made
all-taken made at is = grind (arith, common_steps)

pub whole : (rows made : List (Bor (List ℕ))) (at : ℕ) → at ≡ length made → Expands (texts rows) (texts (take at made)) → ExpandsFirst (texts rows) (texts made)
whole rows made at is all = All (same-as (texts rows) (texts (take at made)) (texts rows) (texts made) refl (ap texts (all-taken made at is)) all)
