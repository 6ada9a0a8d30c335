-- The states that a history leads back to, after a change was kept, and as changes are taken back.
use Rattle.std.proofs.Common.{◌≡◌, ◌≢◌, ℕ, zero, suc, ◌≤◌, Bool, true, false, Option, Some, None, slice_get, Result, Ok, Err, OnOk, OnErr, ◌||◌, if◌then◌else◌, List, [], ◌∷◌, ◌++◌, All, length, take, drop, refl, sym, subst, ap, ◌∙◌, append_assoc, append-nil, arith}
use Rattle.std.specs.List.{list_any}
use Rattle.std.proofs.lemmas.List.{take-append-drop, length-drop}
use Rattle.std.proofs.lemmas.Option.{same_Some}
use Rattle.std.proofs.lemmas.List.Elements.{All-append}
use Rattle.std.proofs.Math.ListN.{drop_of_length-le}
use Rattle.rrs_lib.specs.declared.MemAccessSize.{MemAccessSize}
use Rattle.rrs_lib.specs.Machine.{State}
use Rattle.rrs_lib.specs.Steps.{cleared}
use Rattle.rrs_lib.specs.Accesses.{Access, Makes}
use Rattle.rrs_lib.proofs.Making.{Makes-append}
use Rattle.rrs_history.specs.declared.change.Change.{Change}
use Rattle.rrs_history.specs.declared.history.History.{History}
use Rattle.rrs_history.specs.Changes.{undone, last_before, put_back, stored_back, accesses_back}
use Rattle.rrs_history.specs.Histories.{changes, room, past, Remembers, all_undone, all_accesses, TakesBack}

-- ---- one after the other

choose-append : (b : Bool) (s : State) (xs ys zs : List State) → zs ≡ xs ++ ys
    → (if b then s ∷ zs else zs) ≡ (if b then s ∷ xs else xs) ++ ys
choose-append true s xs ys zs e = ap (λ l. s ∷ l) e
choose-append false s xs ys zs e = e

pub past-append : (xs ys : List Change) (t : State) → past (xs ++ ys) t ≡ past xs t ++ past ys (all_undone xs t)
past-append [] ys t = refl
past-append (c ∷ cs) ys t =
    choose-append c.starts (undone c t) (past cs (undone c t)) (past ys (all_undone cs (undone c t))) _ (past-append cs ys (undone c t))

choose-length : (b : Bool) (s : State) (xs : List State) (n : ℕ) → length xs ≤ n → length (if b then s ∷ xs else xs) ≤ suc n
choose-length true s xs n h = omega (arith, h)
choose-length false s xs n h = omega (arith, h)

-- no more states than changes
past_length : (cs : List Change) (t : State) → length (past cs t) ≤ length cs
past_length [] t = omega arith
past_length (c ∷ cs) t = choose-length c.starts (undone c t) (past cs (undone c t)) (length cs) (past_length cs (undone c t))

-- a change with which a step begins leads to the state before it
pub past-starts : (c : Change) (cs : List Change) (s t : State) → c.starts ≡ true → undone c t ≡ s → past (c ∷ cs) t ≡ s ∷ past cs s
past-starts c cs s t starts same =
    ap (λ b. if b then undone c t ∷ past cs (undone c t) else past cs (undone c t)) starts ∙ ap (λ x. x ∷ past cs x) same

pub past-part : (c : Change) (cs : List Change) (t : State) → c.starts ≡ false → past (c ∷ cs) t ≡ past cs (undone c t)
past-part c cs t part = ap (λ b. if b then undone c t ∷ past cs (undone c t) else past cs (undone c t)) part

-- ---- a change that is kept

pub remembers : (old new : History) (s t : State) (c : Change) → c.starts ≡ true → undone c t ≡ s
    → changes new ≡ take (room old) (c ∷ changes old) → room new ≡ room old → length (changes old) ≤ room old
    → Remembers old s new t
remembers old new s t c starts undoes kept same within =
    let all = c ∷ changes old in
    let n = room old in
    let gone = past (drop n all) (all_undone (take n all) t) in
    let parts : past all t ≡ past (take n all) t ++ gone =
    ap (λ xs. past xs t) (sym (take-append-drop n all)) ∙ past-append (take n all) (drop n all) t in
    record {
      latest = c;
      begins = starts;
      undoes = undoes;
      kept = kept;
      forgotten = gone;
      leads_back = sym (past-starts c (changes old) s t starts undoes) ∙ parts ∙ ap (λ xs. past xs t ++ gone) (sym kept);
      at_most_one = omega (arith, past_length (drop n all) (all_undone (take n all) t), length-drop n all, within);
      none_with_room = λ less. ap (λ xs. past xs (all_undone (take n all) t)) (drop_of_length-le all (omega (arith, less)));
      room_kept = same;
    }

-- ---- a step that ended in an exception

-- the same but for the pc and the last written register
pub record Alike (s t : State) : Type 0 where
  pub registers : t.registers ≡ s.registers
  pub bytes : t.bytes ≡ s.bytes
  pub writable : t.writable ≡ s.writable

alike_one : (b : Bool) (c : Change) (cs : List Change) (s t : State) → c.starts ≡ b → Alike s t
    → (Alike (undone c s) (undone c t) → past cs (undone c t) ≡ past cs (undone c s)) → past (c ∷ cs) t ≡ past (c ∷ cs) s
alike_one true c cs s t starts a rest =
    past-starts c cs (undone c s) t starts (λ i. record {
      registers = put_back c.register c.value (a.registers i);
      pc = ((λ j. if starts j then c.pc else t.pc) ∙ sym (λ j. if starts j then c.pc else s.pc)) i;
      last = ((λ j. if starts j then last_before c else t.last) ∙ sym (λ j. if starts j then last_before c else s.last)) i;
      bytes = stored_back c.stored c.address c.bytes (a.writable i) (a.bytes i);
      writable = a.writable i;
    }) ∙ sym (past-starts c cs (undone c s) s starts refl)
alike_one false c cs s t part a rest =
    past-part c cs t part ∙ rest (record {
      registers = ap (put_back c.register c.value) a.registers;
      bytes = λ i. stored_back c.stored c.address c.bytes (a.writable i) (a.bytes i);
      writable = a.writable;
    }) ∙ sym (past-part c cs s part)

pub alike_past : (cs : List Change) (s t : State) → Alike s t → past cs t ≡ past cs s
alike_past [] s t a = refl
alike_past (c ∷ cs) s t a = alike_one c.starts c cs s t refl a (alike_past cs (undone c s) (undone c t))

pub cleared_past : (cs : List Change) (s t : State) → t ≡ cleared s → past cs t ≡ past cs s
cleared_past cs s t same = ap (past cs) same ∙ alike_past cs s (cleared s) (record { registers = refl; bytes = refl; writable = refl })

-- ---- taking back

-- whether a step begins with one of the changes says whether they lead to a state
or_parts : (x y : Bool) → (x || y) ≡ false → (x ≡ false) × (y ≡ false)
or_parts true y e = absurd (cc)
or_parts false y e = (refl, e)

pub leads_nowhere : (cs : List Change) → list_any (λ (c : Change). c.starts) cs ≡ false → (t : State) → past cs t ≡ []
leads_nowhere [] none t = refl
leads_nowhere (c ∷ cs) none t =
    let both = or_parts c.starts (list_any (λ (x : Change). x.starts) cs) none in
    past-part c cs t both.0 ∙ leads_nowhere cs both.1 (undone c t)

somewhere_one : (b : Bool) (s : State) (xs : List State) (rest : Bool) → (b || rest) ≡ true → (rest ≡ true → xs ≢ [])
    → (if b then s ∷ xs else xs) ≢ []
somewhere_one true s xs rest some later = λ e. cc
somewhere_one false s xs rest some later = later some

pub leads_somewhere : (cs : List Change) → list_any (λ (c : Change). c.starts) cs ≡ true → (t : State) → past cs t ≢ []
leads_somewhere [] some t = λ e. cc
leads_somewhere (c ∷ cs) some t =
    somewhere_one c.starts (undone c t) (past cs (undone c t)) (list_any (λ (x : Change). x.starts) cs) some
    (λ later. leads_somewhere cs later (undone c t))

all_undone-more : (xs : List Change) (c : Change) (t : State) → all_undone (xs ++ c ∷ []) t ≡ undone c (all_undone xs t)
all_undone-more [] c t = refl
all_undone-more (x ∷ xs) c t = all_undone-more xs c (undone x t)

all_accesses-more : (xs : List Change) (c : Change) (t : State)
    → all_accesses (xs ++ c ∷ []) t ≡ all_accesses xs t ++ accesses_back c (all_undone xs t)
all_accesses-more [] c t = append-nil (accesses_back c t)
all_accesses-more (x ∷ xs) c t =
    ap (λ ys. accesses_back x t ++ ys) (all_accesses-more xs c (undone x t))
    ∙ sym (append_assoc (accesses_back x t) (all_accesses xs (undone x t)) (accesses_back c (all_undone xs (undone x t))))

none_part : All (λ (c : Change). c.starts ≡ false) []
none_part = λ k d h. absurd (omega (arith, h))

one_part : (c : Change) → c.starts ≡ false → All (λ (x : Change). x.starts ≡ false) (c ∷ [])
one_part c part zero d h = part
one_part c part (suc k) d h = absurd (omega (arith, h))

module _ {M : Type 0} (reads : M → ℕ → MemAccessSize → M → Option ℕ → Type 0)
    (writes : M → ℕ → MemAccessSize → ℕ → M → Bool → Type 0) where
  -- Parts of a call were taken back: from s, with the memory a, to t, with the memory b.
  pub record PartsTaken (old new : List Change) (s t : State) (a b : M) : Type 0 where
    pub parts : List Change
    pub are : old ≡ parts ++ new
    pub go_on : All (λ (c : Change). c.starts ≡ false) parts
    pub leads : t ≡ all_undone parts s
    pub made : Makes reads writes (all_accesses parts s) a b
    pub same_past : past old s ≡ past new t

  pub none_taken : (old : List Change) (s : State) (a : M) → PartsTaken old old s s a a
  none_taken old s a = record { parts = []; are = refl; go_on = none_part; leads = refl; made = refl; same_past = refl }

  module _ (old new : List Change) (c : Change) (s t u : State) (a b d : M) (taken : PartsTaken old (c ∷ new) s t a b)
      (leads : u ≡ undone c t) (made : Makes reads writes (accesses_back c t) b d) where
    undone_one : u ≡ all_undone (taken.parts ++ c ∷ []) s
    undone_one = leads ∙ ap (undone c) taken.leads ∙ sym (all_undone-more taken.parts c s)

    made_one : Makes reads writes (all_accesses (taken.parts ++ c ∷ []) s) a d
    made_one =
        let made : Makes reads writes (accesses_back c (all_undone taken.parts s)) b d =
        subst (λ x. Makes reads writes (accesses_back c x) b d) taken.leads made in
        subst (λ xs. Makes reads writes xs a d) (sym (all_accesses-more taken.parts c s))
        (Makes-append reads writes (all_accesses taken.parts s) (accesses_back c (all_undone taken.parts s)) a b d taken.made made)

    -- one part more
    pub one_taken : c.starts ≡ false → PartsTaken old new s u a d
    one_taken part = record {
      parts = taken.parts ++ c ∷ [];
      are = taken.are ∙ sym (append_assoc taken.parts (c ∷ []) new);
      go_on = All-append (λ (x : Change). x.starts ≡ false) taken.parts (c ∷ []) taken.go_on (one_part c part);
      leads = undone_one;
      made = made_one;
      same_past = taken.same_past ∙ past-part c new t part ∙ ap (past new) (sym leads);
    }

    -- the change with which the step began
    pub takes_back : c.starts ≡ true → (accesses : List Access) × TakesBack old c new s u accesses × Makes reads writes accesses a d
    takes_back starts = (
      all_accesses (taken.parts ++ c ∷ []) s,
      record {
        parts = taken.parts;
        are = taken.are;
        begins = starts;
        go_on = taken.go_on;
        leads = undone_one;
        accessed = refl;
      },
      made_one,
    )

    pub back_in_past : c.starts ≡ true → past old s ≡ u ∷ past new u
    back_in_past starts = taken.same_past ∙ past-starts c new u t starts (sym leads)

-- ---- answers

pub on_ok : {A B : Type 0} {P : Type 0} (r : Result A B) → P → OnOk r P
on_ok (Ok x) holds = holds
on_ok (Err e) holds = tt

pub on_err : {A B : Type 0} {P Q : Type 0} (r : Result A B) → (P → Q) → OnErr r P → OnErr r Q
on_err (Ok x) f holds = tt
on_err (Err e) f holds = f holds

-- ---- the latest change

pub popped : (xs new : List Change) (c : Change) → Some c ≡ slice_get xs 0 → new ≡ drop 1 xs → xs ≡ c ∷ new
popped [] new c is rest = absurd (cc)
popped (x ∷ xs) new c is rest = λ i. same_Some _ _ (sym is) i ∷ sym rest i

pub nothing_there : (xs : List Change) → None ≡ slice_get xs 0 → xs ≡ []
nothing_there [] is = refl
nothing_there (x ∷ xs) is = absurd (cc)
