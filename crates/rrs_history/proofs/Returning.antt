-- n steps and n steps back.
use Rattle.std.proofs.Common.{◌≡◌, ℕ, zero, suc, ◌+◌, ◌-◌, ◌<◌, ◌≤◌, true, false, if◌then◌else◌, Option, Some, None, IfSome, IfNone, slice_get, List, [], ◌∷◌, ◌++◌, All, length, take, drop, refl, sym, subst, ap, ◌∙◌, arith}
use Rattle.std.proofs.lemmas.Option.{same_Some}
use Rattle.std.proofs.lemmas.List.Elements.{All-nil, All-cons}
use Rattle.rrs_lib.specs.Machine.{State}
use Rattle.rrs_lib.specs.Steps.{cleared}
use Rattle.rrs_lib.specs.Accesses.{Access}
use Rattle.rrs_history.specs.declared.change.Change.{Change}
use Rattle.rrs_history.specs.declared.history.History.{History}
use Rattle.rrs_history.specs.Changes.{undone, last_before}
use Rattle.rrs_history.specs.Histories.{changes, room, past, all_undone, Remembers, TakesBack}
use Rattle.rrs_history.specs.Returns.{WentAhead, IsBack}
use Rattle.rrs_history.proofs.Remembering.{past-starts}

-- ---- what is taken of a list

take_less : (n : ℕ) (xs : List Change) → take n (take (suc n) xs) ≡ take n xs
take_less zero xs = refl
take_less (suc n) [] = refl
take_less (suc n) (x ∷ xs) = ap (λ ys. x ∷ ys) (take_less n xs)

take_whole : (n : ℕ) (xs : List Change) → length xs ≤ n → take n xs ≡ xs
take_whole zero [] h = refl
take_whole zero (x ∷ xs) h = absurd (omega (arith, h))
take_whole (suc n) [] h = refl
take_whole (suc n) (x ∷ xs) h = ap (λ ys. x ∷ ys) (take_whole n xs (omega (arith, h)))

take_first : (n : ℕ) (xs ys : List Change) → length xs ≤ n → take n (xs ++ ys) ≡ xs ++ take (n - length xs) ys
take_first n [] ys h = ap (λ k. take k ys) (omega arith)
take_first zero (x ∷ xs) ys h = absurd (omega (arith, h))
take_first (suc n) (x ∷ xs) ys h = ap (λ zs. x ∷ zs) (take_first n xs ys (omega (arith, h)) ∙ ap (λ k. xs ++ take k ys) (omega arith))

-- ---- ahead

pub nowhere : (h : History) (s : State) → length (changes h) ≤ room h → WentAhead 0 h s h s
nowhere h s within = record {
  cs = [];
  count = refl;
  kept = sym (take_whole (room h) (changes h) within);
  begin = All-nil (λ (c : Change). c.starts ≡ true);
  back = record { registers = refl; pc = refl; bytes = refl; writable = refl };
  room_kept = refl;
}

take_twice : (n : ℕ) (c : Change) (xs : List Change) → take n (c ∷ take n xs) ≡ take n (c ∷ xs)
take_twice zero c xs = refl
take_twice (suc n) c xs = ap (λ ys. c ∷ ys) (take_less n xs)

-- one step more
pub ahead_more : (k : ℕ) (h0 h1 h2 : History) (s t u : State) → WentAhead k h0 s h1 t → Remembers h1 t h2 u → WentAhead (k + 1) h0 s h2 u
ahead_more k h0 h1 h2 s t u w r = record {
  cs = r.latest ∷ w.cs;
  count = omega (arith, w.count);
  kept = r.kept ∙ (λ i. take (w.room_kept i) (r.latest ∷ w.kept i)) ∙ take_twice (room h0) r.latest (w.cs ++ changes h0);
  begin = All-cons (λ (c : Change). c.starts ≡ true) r.latest w.cs r.begins w.begin;
  back = subst (λ x. IsBack s (all_undone w.cs x)) (sym r.undoes) w.back;
  room_kept = r.room_kept ∙ w.room_kept;
}

-- changes with which steps begin look at nothing of the last written register
back_cleared : (cs : List Change) (s t : State) → All (λ (c : Change). c.starts ≡ true) cs → IsBack s (all_undone cs t)
    → IsBack s (all_undone cs (cleared t))
back_cleared [] s t begin back = record { registers = back.registers; pc = back.pc; bytes = back.bytes; writable = back.writable }
back_cleared (c ∷ cs) s t begin back =
    let begins : c.starts ≡ true = begin 0 c (omega arith) in
    let same : undone c t ≡ undone c (cleared t) =
    ((λ i. record (undone c t) { last = if begins i then last_before c else t.last })
    ∙ sym (λ i. record (undone c (cleared t)) { last = if begins i then last_before c else (cleared t).last })) in
    subst (λ x. IsBack s (all_undone cs x)) same back

pub ahead_fault : (k : ℕ) (h0 h1 h2 : History) (s t u : State) → WentAhead k h0 s h1 t → u ≡ cleared t → changes h2 ≡ changes h1
    → room h2 ≡ room h1 → WentAhead k h0 s h2 u
ahead_fault k h0 h1 h2 s t u w same kept same_room = record {
  cs = w.cs;
  count = w.count;
  kept = kept ∙ w.kept;
  begin = w.begin;
  back = subst (λ x. IsBack s (all_undone w.cs x)) (sym same) (back_cleared w.cs s t w.begin w.back);
  room_kept = same_room ∙ w.room_kept;
}

-- ---- and back

-- so many of the latest changes lead to s, and these come before them
pub record Remaining (k : ℕ) (s : State) (rest : List Change) (h : History) (t : State) : Type 0 where
  cs : List Change
  count : length cs ≡ k
  are : changes h ≡ cs ++ rest
  begin : All (λ (c : Change). c.starts ≡ true) cs
  back : IsBack s (all_undone cs t)

pub remaining : (k : ℕ) (h0 h1 : History) (s t : State) → k ≤ room h0 → WentAhead k h0 s h1 t
    → Remaining k s (take (room h0 - k) (changes h0)) h1 t
remaining k h0 h1 s t fits w = record {
  cs = w.cs;
  count = w.count;
  are = w.kept ∙ take_first (room h0) w.cs (changes h0) (omega (arith, fits, w.count))
      ∙ ap (λ n. w.cs ++ take (room h0 - n) (changes h0)) w.count;
  begin = w.begin;
  back = w.back;
}

-- no part comes before a change with which a step begins
first_is : (d c : Change) (xs parts new : List Change) → d.starts ≡ true → d ∷ xs ≡ parts ++ c ∷ new
    → All (λ (x : Change). x.starts ≡ false) parts → (parts ≡ []) × (d ≡ c) × (xs ≡ new)
first_is d c xs [] new begins are go_on = (refl, same_Some _ _ (ap (λ ys. slice_get ys 0) are), ap (drop 1) are)
first_is d c xs (p ∷ ps) new begins are go_on =
    let same : d ≡ p = same_Some _ _ (ap (λ ys. slice_get ys 0) are) in
    let part : p.starts ≡ false = go_on 0 p (omega arith) in
    absurd (true-false (sym begins ∙ ap (λ (x : Change). x.starts) same ∙ part))
  where
    true-false : true ≡ false → ⊥
    true-false e = cc

one_taken : (k : ℕ) (s t t' : State) (h h' : History) (d c : Change) (ds rest : List Change) (accesses : List Access)
    → length (d ∷ ds) ≡ k → changes h ≡ (d ∷ ds) ++ rest → All (λ (x : Change). x.starts ≡ true) (d ∷ ds)
    → IsBack s (all_undone (d ∷ ds) t) → TakesBack (changes h) c (changes h') t t' accesses → Remaining (k - 1) s rest h' t'
one_taken k s t t' h h' d c ds rest accesses count are begin back taken =
    let same = first_is d c (ds ++ rest) taken.parts (changes h') (begin 0 d (omega arith)) (sym are ∙ taken.are) taken.go_on in
    let leads : t' ≡ undone d t = taken.leads ∙ ap (λ ps. all_undone (ps ++ c ∷ []) t) same.0 ∙ ap (λ x. undone x t) (sym same.1) in
    record {
      cs = ds;
      count = omega (arith, count);
      are = sym same.2;
      begin = λ i x below. begin (suc i) x (omega (arith, below));
      back = subst (λ x. IsBack s (all_undone ds x)) (sym leads) back;
    }

none_taken : (t : State) (d : Change) (xs : List Change) → d.starts ≡ true → past (d ∷ xs) t ≡ [] → ⊥
none_taken t d xs begins none =
    let some : undone d t ∷ past xs (undone d t) ≡ [] = sym (past-starts d xs (undone d t) t begins refl) ∙ none in
    cc

one_of : (k : ℕ) (s t t' : State) (h h' : History) (cs rest : List Change) → 0 < k
    → length cs ≡ k → changes h ≡ cs ++ rest → All (λ (x : Change). x.starts ≡ true) cs → IsBack s (all_undone cs t)
    → (result : Option Change) (Q : Change → List Access → Type 0)
    → IfSome result (λ c. (accesses : List Access) × TakesBack (changes h) c (changes h') t t' accesses × Q c accesses)
    → IfNone result (past (changes h) t ≡ []) → Remaining (k - 1) s rest h' t'
one_of k s t t' h h' [] rest more count are begin back result Q some none = absurd (omega (arith, more, count))
one_of k s t t' h h' (d ∷ ds) rest more count are begin back (Some c) Q some none =
    one_taken k s t t' h h' d c ds rest some.0 count are begin back some.1
one_of k s t t' h h' (d ∷ ds) rest more count are begin back None Q some none =
    absurd (none_taken t d (ds ++ rest) (begin 0 d (omega arith)) (ap (λ cs. past cs t) (sym are) ∙ none))

pub one_back : (k : ℕ) (s t t' : State) (rest : List Change) (h h' : History) → 0 < k → Remaining k s rest h t
    → (result : Option Change) (Q : Change → List Access → Type 0)
    → IfSome result (λ c. (accesses : List Access) × TakesBack (changes h) c (changes h') t t' accesses × Q c accesses)
    → IfNone result (past (changes h) t ≡ []) → Remaining (k - 1) s rest h' t'
one_back k s t t' rest h h' more r result Q some none =
    one_of k s t t' h h' r.cs rest more r.count r.are r.begin r.back result Q some none

none_left : (cs rest : List Change) (s t : State) (h : History) → length cs ≡ 0 → changes h ≡ cs ++ rest
    → IsBack s (all_undone cs t) → IsBack s t × (changes h ≡ rest)
none_left [] rest s t h none are back = (back, are)
none_left (c ∷ cs) rest s t h none are back = absurd (omega (arith, none))

pub all_back : (k : ℕ) (s t : State) (rest : List Change) (h : History) → k ≡ 0 → Remaining k s rest h t
    → IsBack s t × (changes h ≡ rest)
all_back k s t rest h none r = none_left r.cs rest s t h (r.count ∙ none) r.are r.back

pub is_back : (s t : State) → IsBack s t → record t { last = s.last } ≡ s
is_back s t b = λ i. record { registers = b.registers i; pc = b.pc i; last = s.last; bytes = b.bytes i; writable = b.writable i }
