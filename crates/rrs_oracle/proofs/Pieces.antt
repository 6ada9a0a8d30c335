-- Words that are taken off a text, and read.
use Rattle.std.proofs.Common.{◌≡◌, ℕ, ◌<◌, List, [], ◌∷◌, length, Option, Some, None, Result, Ok, Err, IfErr, OnErr, MatchResult, true, false, ◌==◌, refl, sym, subst, ap, ◌∙◌, Bor, arith}
use Rattle.std.specs.List.{All, position_or_len, before_first, after_first}
use Rattle.std.proofs.lemmas.List.Splits.{slice_split_first, slice_split_none, length-slice_split}
use Rattle.std.proofs.lemmas.List.Sums.{fails_before_first}
use Rattle.std.proofs.lemmas.Grind.{common_steps}
use Rattle.rrs_oracle.specs.Questions.{Asked, words, reads, ends, WhereMalformed}
use Rattle.rrs_oracle.specs.Taking.{words_left, TakesAs, TakesNone}
use Rattle.rrs_oracle.specs.declared.questions.ParseError.{ParseError}
use Rattle.rrs_oracle.specs.declared.questions.ParseError.TheVariants.{Malformed, OutOfMemory}
use Rattle.std.specs.Prelude.{IsErr, IsErrAnd, is_some}

-- a text with a space
pub words_cut : (text before after : List ℕ) → (before ≡ before_first (λ b. b == 32) text) × (after ≡ after_first (λ b. b == 32) text) × (position_or_len (λ b. b == 32) text < length text) → words text ≡ before ∷ words after
words_cut text before after h =
    slice_split_first (λ b. b == 32) text 0 h.2 ∙ (ap (λ w. w ∷ words (after_first (λ b. b == 32) text)) (sym h.0) ∙ ap (λ t. before ∷ words t) (sym h.1))

-- a text with no space
pub words_whole : (text : List ℕ) → position_or_len (λ b. b == 32) text ≡ length text → words text ≡ text ∷ []
words_whole text e =
    let none : All (λ b. (b == 32) ≡ false) text = λ k d m. let k' = fails_before_first (λ b. b == 32) text k d (grind (arith, common_steps)) in grind (arith, common_steps) in
    slice_split_none (λ b. b == 32) text none

-- ---- reading the first word

-- a first word that is read, and what follows
pub reads_first : {A B : Type 0} (read : List ℕ → Option A) (follows : A → List (List ℕ) → Option B) (ws : List (List ℕ)) (x : A) (rest : List (List ℕ)) → TakesAs read ws x rest → reads read follows ws ≡ follows x rest
reads_first read follows ws x rest takes = rw (takes.1, takes.2) refl

-- a first word that can't be read, or none
pub reads_none : {A B : Type 0} (read : List ℕ → Option A) (follows : A → List (List ℕ) → Option B) (ws : List (List ℕ)) → TakesNone read ws → reads read follows ws ≡ None
reads_none read follows [] none = refl
reads_none read follows (w ∷ ws) none =
    let e : read w ≡ None = none w ws refl in
    rw e refl

-- a text has a word at least
has_word : (ws : List (List ℕ)) (x : Asked) → 0 < length ws → ends x ws ≡ None
has_word [] x h = absurd (omega (arith, h))
has_word (w ∷ ws) x h = refl

-- something follows the last part
pub ends_not : (rest : Option (Bor (List ℕ))) (x : Asked) → true ≡ is_some rest → ends x (words_left rest) ≡ None
ends_not None x some = cc
ends_not (Some text) x some = has_word (words text.now) x (omega (arith, length-slice_split (λ b. b == 32) text.now))

-- ---- faults

-- what holds anyway holds where a line is malformed
where_malformed : {P : Type 0} (e : ParseError) → P → WhereMalformed P e
where_malformed (Malformed mistake) p = p
where_malformed OutOfMemory p = tt

pub fails_anyway : {T P : Type 0} (r : Result T ParseError) → P → IfErr r (WhereMalformed P)
fails_anyway (Ok x) p = tt
fails_anyway (Err e) p = where_malformed e p

pub none_anyway : {T E P : Type 0} (r : Result T E) → P → OnErr r P
none_anyway (Ok x) p = tt
none_anyway (Err e) p = p

-- the same fault, handed on
pub fails_alike : {T P Q : Type 0} (r : Result T ParseError) (e : ParseError) → IsErrAnd r (λ x. x ≡ e) → (P → Q) → WhereMalformed P e → IfErr r (WhereMalformed Q)
fails_alike (Ok x) e is follows p = tt
fails_alike (Err x) (Malformed mistake) is follows p = where_malformed x (follows p)
fails_alike {Q = Q} (Err x) OutOfMemory is follows p = let Q' : ParseError → Type 0 = WhereMalformed Q in subst Q' (sym is) tt

-- the same of what has another fact at Ok
pub stops_alike : {T P Q : Type 0} (F : T → Type 0) (r : Result T ParseError) (e : ParseError) → IsErrAnd r (λ x. x ≡ e) → (P → Q) → WhereMalformed P e → MatchResult r F (WhereMalformed Q)
stops_alike F (Ok x) e is follows p = absurd is
stops_alike F (Err x) e is follows p = fails_alike {T = Unit {0}} (Err x) e is follows p

pub stops_anyway : {T P : Type 0} (F : T → Type 0) (r : Result T ParseError) → IsErr r → P → MatchResult r F (WhereMalformed P)
stops_anyway F (Ok x) fails p = cc
stops_anyway F (Err x) fails p = where_malformed x p
