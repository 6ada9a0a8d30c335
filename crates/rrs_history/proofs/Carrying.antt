-- A history is carried on over parts of a call: each part leads to where the history led before.
use Rattle.std.proofs.Common.{◌≡◌, ◌⊎◌, ℕ, zero, suc, ◌+◌, ◌-◌, ◌<◌, ◌≤◌, inl, inr, Bool, true, false, Option, List, [], ◌∷◌, ◌++◌, length, take, drop, slice_index, slice_set, refl, sym, subst, ap, ◌∙◌, if◌then◌else◌, append_assoc, append-nil, arith}
use Rattle.std.proofs.lemmas.List.{take-append-drop, length-take, ext_get_or, get_or-set_same, get_or-set_other, length-set}
use Rattle.std.proofs.lemmas.Bool.{cases_eq, cases_lt}
use Rattle.std.proofs.Math.ListN.{drop_of_length-le}
use Rattle.rrs_lib.specs.declared.MemAccessSize.{MemAccessSize}
use Rattle.rrs_lib.specs.declared.HartState.{HartState}
use Rattle.rrs_lib.specs.Bytes.{ByteMap}
use Rattle.rrs_lib.specs.Machine.{State, state_of}
use Rattle.rrs_lib.specs.Accesses.{Access, Read, Write, Makes}
use Rattle.rrs_history.specs.declared.change.Change.{Change}
use Rattle.rrs_history.specs.declared.history.History.{History}
use Rattle.rrs_history.specs.declared.calls.RecordedMemory.{RecordedMemory}
use Rattle.rrs_history.specs.Changes.{undone}
use Rattle.rrs_history.specs.Histories.{changes, room, past, of_calls, Tells, all_undone, Remembers}
use Rattle.rrs_history.specs.Calls.{LeadsTo, Carries, RemembersCall, WithReads, Leaves, KeepsPart, part_stored, part_written, recorded_reads, recorded_writes}
use Rattle.rrs_history.proofs.Undoing.{dropped, dropped_length}
use Rattle.rrs_history.proofs.Remembering.{Alike, alike_past, past-append, past-part}

-- ---- one change more

-- a history that has no room for all is full
full_by : (old new : History) (c : Change) → changes new ≡ take (room old) (c ∷ changes old) → room new ≡ room old
    → room old ≤ length (c ∷ changes old) → room new ≤ length (changes new)
full_by old new c kept same_room less =
    omega (arith, less, same_room, ap length kept, length-take (room old) (c ∷ changes old))

-- and one that has room for all forgets what was forgotten before
more_full : (old new : History) (c : Change) (gone before : List State)
    → (length (c ∷ changes old) < room old → gone ≡ []) → (before ≡ []) ⊎ (room old ≤ length (changes old))
    → changes new ≡ take (room old) (c ∷ changes old) → room new ≡ room old
    → (length (c ∷ changes old) < room old) ⊎ (room old ≤ length (c ∷ changes old))
    → (gone ++ before ≡ []) ⊎ (room new ≤ length (changes new))
more_full old new c gone before none so_far kept same_room (inr less) = inr (full_by old new c kept same_room less)
more_full old new c gone before none (inl nothing) kept same_room (inl fits) =
    inl (λ i. none fits i ++ nothing i)
more_full old new c gone before none (inr full) kept same_room (inl fits) = absurd (omega (arith, full, fits))

full_or : (old new : History) (c : Change) (forgotten : List State)
    → (length (changes old) < room old → forgotten ≡ [])
    → changes new ≡ take (room old) (c ∷ changes old) → room new ≡ room old
    → (length (changes old) < room old) ⊎ (room old ≤ length (changes old))
    → (forgotten ≡ []) ⊎ (room new ≤ length (changes new))
full_or old new c forgotten none kept same_room (inr less) =
    inr (full_by old new c kept same_room (omega (arith, less)))
full_or old new c forgotten none kept same_room (inl fits) = inl (none fits)

-- a history that keeps a step forgets only where it is full
pub step_full : (old new : History) (c : Change) (forgotten : List State)
    → (length (changes old) < room old → forgotten ≡ [])
    → changes new ≡ take (room old) (c ∷ changes old) → room new ≡ room old
    → (forgotten ≡ []) ⊎ (room new ≤ length (changes new))
step_full old new c forgotten none kept same_room =
    full_or old new c forgotten none kept same_room (cases_lt (length (changes old)) (room old))

-- A history that leads from s to some states, and then keeps a change that leads from t to where it led from s.
pub one_more : (states : List State) (k : ℕ) (old new : History) (s t : State) (c : Change) → LeadsTo states k old s
    → past (c ∷ changes old) t ≡ past (changes old) s
    → changes new ≡ take (room old) (c ∷ changes old) → room new ≡ room old → LeadsTo states (k + 1) new t
one_more states k old new s t c leads same kept same_room =
    let all = c ∷ changes old in
    let n = room old in
    let gone = past (drop n all) (all_undone (take n all) t) in
    let parts : past (changes old) s ≡ past (take n all) t ++ gone =
    sym same ∙ ap (λ xs. past xs t) (sym (take-append-drop n all)) ∙ past-append (take n all) (drop n all) t in
    record {
      forgotten = gone ++ leads.forgotten;
      leads = leads.leads ∙ ap (λ xs. xs ++ leads.forgotten) (parts ∙ ap (λ xs. past xs t ++ gone) (sym kept))
          ∙ append_assoc (past (changes new) t) gone leads.forgotten;
      with_room = λ fits.
          let fits : k + 1 ≤ n = omega (arith, fits, same_room) in
          let before = leads.with_room (omega (arith, fits)) in
          let none : gone ≡ [] = ap (λ xs. past xs (all_undone (take n all) t)) (drop_of_length-le all (omega (arith, before.1, fits))) in
          ((λ i. none i ++ before.0 i), omega (arith, ap length kept, length-take n all, before.1));
      when_full = more_full old new c (past (drop n all) (all_undone (take n all) t)) leads.forgotten
          (λ fits. ap (λ xs. past xs (all_undone (take n all) t)) (drop_of_length-le all (omega (arith, fits))))
          leads.when_full kept same_room (cases_lt (length all) (room old));
    }

choose_flag-append : (b x : Bool) (xs ys zs : List Bool) → zs ≡ xs ++ ys
    → (if b then x ∷ zs else zs) ≡ (if b then x ∷ xs else xs) ++ ys
choose_flag-append true x xs ys zs e = ap (λ l. x ∷ l) e
choose_flag-append false x xs ys zs e = e

of_calls-append : (xs ys : List Change) → of_calls (xs ++ ys) ≡ of_calls xs ++ of_calls ys
of_calls-append [] ys = refl
of_calls-append (c ∷ cs) ys = choose_flag-append c.starts c.of_call (of_calls cs) (of_calls ys) _ (of_calls-append cs ys)

-- a history tells what its changes told before the oldest were forgotten
pub told_all : (are_calls : List Bool) (all : List Change) (n : ℕ) (new : History) (rest : List Bool)
    → are_calls ≡ of_calls all ++ rest → changes new ≡ take n all → Tells are_calls new
told_all are_calls all n new rest told kept = record {
  untold = of_calls (drop n all) ++ rest;
  told = told ∙ ap (λ xs. of_calls xs ++ rest) (sym (take-append-drop n all))
      ∙ ap (λ fs. fs ++ rest) (of_calls-append (take n all) (drop n all))
      ∙ append_assoc (of_calls (take n all)) (of_calls (drop n all)) rest
      ∙ ap (λ cs. of_calls cs ++ (of_calls (drop n all) ++ rest)) (sym kept);
}

pub of_calls-part : (c : Change) (cs : List Change) → c.starts ≡ false → of_calls (c ∷ cs) ≡ of_calls cs
of_calls-part c cs part = ap (λ b. if b then c.of_call ∷ of_calls cs else of_calls cs) part

pub of_calls-starts : (c : Change) (cs : List Change) (is_call : Bool) → c.starts ≡ true → c.of_call ≡ is_call
    → of_calls (c ∷ cs) ≡ is_call ∷ of_calls cs
of_calls-starts c cs is_call starts is =
    ap (λ b. if b then c.of_call ∷ of_calls cs else of_calls cs) starts ∙ ap (λ f. f ∷ of_calls cs) is

-- a history that keeps a change with which a step or a call begins tells which it is
pub tells_start : (old new : History) (c : Change) (is_call : Bool) → c.starts ≡ true → c.of_call ≡ is_call
    → changes new ≡ take (room old) (c ∷ changes old) → Tells (is_call ∷ of_calls (changes old)) new
tells_start old new c is_call starts is kept =
    told_all (is_call ∷ of_calls (changes old)) (c ∷ changes old) (room old) new []
    (sym (append-nil (of_calls (c ∷ changes old)) ∙ of_calls-starts c (changes old) is_call starts is)) kept

carries_one : (old new : History) (s t : State) (c : Change) → past (c ∷ changes old) t ≡ past (changes old) s
    → of_calls (c ∷ changes old) ≡ of_calls (changes old)
    → changes new ≡ take (room old) (c ∷ changes old) → room new ≡ room old → Carries 1 old s new t
carries_one old new s t c same same_calls kept same_room = record {
  goes_on = λ states k leads. one_more states k old new s t c leads same kept same_room;
  tells = λ are_calls before. told_all are_calls (c ∷ changes old) (room old) new before.untold
      (before.told ∙ ap (λ fs. fs ++ before.untold) (sym same_calls)) kept;
  room_kept = same_room;
}

pub carries_part : (old new : History) (s t : State) (c : Change) → c.starts ≡ false → undone c t ≡ s
    → changes new ≡ take (room old) (c ∷ changes old) → room new ≡ room old → Carries 1 old s new t
carries_part old new s t c part undoes =
    carries_one old new s t c (past-part c (changes old) t part ∙ ap (past (changes old)) undoes) (of_calls-part c (changes old) part)

-- ---- nothing, and one after the other

more_room : (states : List State) (k l : ℕ) (h : History) (s : State) → k ≤ l → LeadsTo states k h s → LeadsTo states l h s
more_room states k l h s less leads = record {
  forgotten = leads.forgotten;
  leads = leads.leads;
  with_room = λ fits.
      let before = leads.with_room (omega (arith, less, fits)) in
      (before.0, omega (arith, before.1, less));
  when_full = leads.when_full;
}

pub carries_same : (n : ℕ) (old new : History) (s t : State) → changes new ≡ changes old → room new ≡ room old
    → past (changes old) t ≡ past (changes old) s → Carries n old s new t
carries_same n old new s t same same_room alike = record {
  goes_on = λ states k leads. more_room states k (k + n) new t (omega arith) (record {
    forgotten = leads.forgotten;
    leads = leads.leads ∙ ap (λ xs. xs ++ leads.forgotten) (sym alike ∙ ap (λ cs. past cs t) (sym same));
    with_room = λ fits.
        let before = leads.with_room (omega (arith, fits, same_room)) in
        (before.0, omega (arith, before.1, ap length same));
    when_full = subst (λ (h : ℕ). (leads.forgotten ≡ []) ⊎ (room new ≤ h)) (sym (ap length same))
        (subst (λ (n : ℕ). (leads.forgotten ≡ []) ⊎ (n ≤ length (changes old))) (sym same_room) leads.when_full);
  });
  tells = λ are_calls before. record {
    untold = before.untold;
    told = before.told ∙ ap (λ cs. of_calls cs ++ before.untold) (sym same);
  };
  room_kept = same_room;
}

pub carries_both : (m n k : ℕ) (a b d : History) (s t u : State) → m + n ≤ k → Carries m a s b t → Carries n b t d u → Carries k a s d u
carries_both m n k a b d s t u less first second = record {
  goes_on = λ states j leads.
      more_room states (j + m + n) (j + k) d u (omega (arith, less))
      (second.goes_on states (j + m) (first.goes_on states j leads));
  tells = λ are_calls before. second.tells are_calls (first.tells are_calls before);
  room_kept = second.room_kept ∙ first.room_kept;
}

pub carries_more : (m n : ℕ) (a b : History) (s t : State) → m ≤ n → Carries m a s b t → Carries n a s b t
carries_more m n a b s t less c = record {
  goes_on = λ states k leads. more_room states (k + m) (k + n) b t (omega (arith, less)) (c.goes_on states k leads);
  tells = c.tells;
  room_kept = c.room_kept;
}

-- ---- the registers that a call wrote

-- The entries 1 to 31 of two lists of registers: those below r from the second, and the others from the first. The
-- history is carried on to the state that has them.
pub record Mixed (before after : List ℕ) (r : ℕ) (old new : History) : Type 0 where
  pub mixed : List ℕ
  pub long : length mixed ≡ 31
  pub done : (j : ℕ) → suc j < r → slice_index mixed j ≡ slice_index after (suc j)
  pub left : (j : ℕ) → r ≤ suc j → slice_index mixed j ≡ slice_index before (suc j)
  pub carries : (s : State) → s.registers ≡ drop 1 before → Carries (r - 1) old s new (record s { registers = mixed })
  pub room_kept : room new ≡ room old

pub mixed_first : (before after : List ℕ) (h : History) → length before ≡ 32 → Mixed before after 1 h h
mixed_first before after h whole = record {
  mixed = drop 1 before;
  long = dropped_length before whole;
  done = λ j below. absurd (omega (arith, below));
  left = λ j above. dropped before j;
  carries = λ s same. carries_same 0 h h s (record s { registers = drop 1 before }) refl refl
      (alike_past (changes h) s (record s { registers = drop 1 before })
      (record { registers = sym same; bytes = refl; writable = refl }));
  room_kept = refl;
}

-- a register that is what it was
pub mixed_same : (before after : List ℕ) (r : ℕ) (old new : History) → 1 ≤ r
    → slice_index after r ≡ slice_index before r → Mixed before after r old new → Mixed before after (r + 1) old new
mixed_same before after zero old new low same m = absurd (omega (arith, low))
mixed_same before after (suc k) old new low same m = record {
  mixed = m.mixed;
  long = m.long;
  done = λ j below. elim (cases_eq j k) as (λ _. slice_index m.mixed j ≡ slice_index after (suc j)) [
    | inl e ↦ m.left j (omega (arith, e)) ∙ ap (λ i. slice_index before (suc i)) e ∙ sym same ∙ ap (λ i. slice_index after (suc i)) (sym e)
    | inr e ↦ m.done j (omega (arith, below, e))
  ];
  left = λ j above. m.left j (omega (arith, above));
  carries = λ s is. carries_more (suc k - 1) (suc k + 1 - 1) old new s (record s { registers = m.mixed }) (omega arith) (m.carries s is);
  room_kept = m.room_kept;
}

-- a register that was kept
pub mixed_kept : (before after : List ℕ) (r : ℕ) (old mid new : History) → 1 ≤ r → r < 32
    → Mixed before after r old mid → changes new ≡ take (room mid) (part_written r (slice_index before r) ∷ changes mid)
    → room new ≡ room mid → Mixed before after (r + 1) old new
mixed_kept before after zero old mid new low high m kept same_room = absurd (omega (arith, low))
mixed_kept before after (suc k) old mid new low high m kept same_room =
    let a = slice_index after (suc k) in
    let b = slice_index before (suc k) in
    let set = slice_set m.mixed k a in
    let back : slice_set set k b ≡ m.mixed =
    ext_get_or 0 (slice_set set k b) m.mixed (length-set set k b ∙ length-set m.mixed k a)
    (λ i h. elim (cases_eq i k) as (λ _. slice_index (slice_set set k b) i ≡ slice_index m.mixed i) [
      | inl e ↦ ap (slice_index (slice_set set k b)) e
          ∙ get_or-set_same set k b 0 (omega (arith, high, length-set m.mixed k a, m.long))
          ∙ sym (m.left k (omega arith)) ∙ ap (slice_index m.mixed) (sym e)
      | inr e ↦ get_or-set_other set k i b 0 e ∙ get_or-set_other m.mixed k i a 0 e
    ]) in
    record {
      mixed = set;
      long = length-set m.mixed k a ∙ m.long;
      done = λ j below. elim (cases_eq j k) as (λ _. slice_index set j ≡ slice_index after (suc j)) [
        | inl e ↦ ap (slice_index set) e ∙ get_or-set_same m.mixed k a 0 (omega (arith, high, m.long)) ∙ ap (λ i. slice_index after (suc i)) (sym e)
        | inr e ↦ get_or-set_other m.mixed k j a 0 e ∙ m.done j (omega (arith, below, e))
      ];
      left = λ j above. get_or-set_other m.mixed k j a 0 (λ e. absurd (omega (arith, above, e))) ∙ m.left j (omega (arith, above));
      carries = λ s is. carries_both (suc k - 1) 1 (suc k + 1 - 1) old mid new s (record s { registers = m.mixed }) (record s { registers = set })
          (omega arith) (m.carries s is)
          (carries_part mid new (record s { registers = m.mixed }) (record s { registers = set }) (part_written (suc k) b) refl
          (λ i. record s { registers = back i }) kept same_room);
      room_kept = same_room ∙ m.room_kept;
    }

pub mixed_all : (before after : List ℕ) (old new : History) → length after ≡ 32 → Mixed before after 32 old new
    → (s : State) → s.registers ≡ drop 1 before → Carries 31 old s new (record s { registers = drop 1 after })
mixed_all before after old new whole m s is =
    let all : m.mixed ≡ drop 1 after =
    ext_get_or 0 m.mixed (drop 1 after) (m.long ∙ sym (dropped_length after whole))
    (λ i h. m.done i (omega (arith, h, m.long)) ∙ sym (dropped after i)) in
    subst (λ xs. Carries 31 old s new (record s { registers = xs })) all (m.carries s is)

-- ---- the accesses of a call

module _ {M : Type 0} (bytes : M → ByteMap) (writable : M → ℕ → Bool)
    (reads : M → ℕ → MemAccessSize → M → Option ℕ → Type 0)
    (writes : M → ℕ → MemAccessSize → ℕ → M → Bool → Type 0) where
  abbrev with_hart : HartState → RecordedMemory M → State
  with_hart x m = state_of x (bytes m.memory.now) (writable m.memory.now)

  -- what the accesses of a recorded memory come to
  pub record Recorded (xs : List Access) (old new : RecordedMemory M) : Type 0 where
    pub noted : List Access
    pub with_reads : WithReads xs noted
    pub made : Makes reads writes noted old.memory.now new.memory.now
    pub same_memory : new.memory.ghost_name ≡ old.memory.ghost_name
    pub same_history : new.history.ghost_name ≡ old.history.ghost_name
    pub carries : (x : HartState) → Carries (length noted) old.history.now (with_hart x old) new.history.now (with_hart x new)

  left : (x : HartState) (n : ℕ) (old new : RecordedMemory M) → Leaves bytes writable old new
      → Carries n old.history.now (with_hart x old) new.history.now (with_hart x new)
  left x n old new l =
      carries_same n old.history.now new.history.now (with_hart x old) (with_hart x new)
      (ap changes l.history_kept) (ap room l.history_kept)
      (alike_past (changes old.history.now) (with_hart x old) (with_hart x new)
      (record { registers = refl; bytes = l.bytes_kept; writable = l.writable_kept }))

  part_kept : (x : HartState) (old new : RecordedMemory M) → KeepsPart bytes writable old new
      → Carries 1 old.history.now (with_hart x old) new.history.now (with_hart x new)
  part_kept x old new k =
      carries_part old.history.now new.history.now (with_hart x old) (with_hart x new)
      (part_stored k.address k.size k.before) refl
      (λ i. record (with_hart x old) { bytes = k.back i; writable = k.writable_kept i })
      k.kept k.room_kept

  written : (x : HartState) (granted : Bool) (a : ℕ) (size : MemAccessSize) (v : ℕ) (old new : RecordedMemory M)
      → recorded_writes bytes writable reads writes old a size v new granted
      → Carries 2 old.history.now (with_hart x old) new.history.now (with_hart x new)
  written x true a size v old new (both, kept, left') =
      carries_both 1 1 2 old.history.now new.history.now new.history.now (with_hart x old) (with_hart x new) (with_hart x new)
      (omega arith) (part_kept x old new kept)
      (carries_same 1 new.history.now new.history.now (with_hart x new) (with_hart x new) refl refl refl)
  written x false a size v old new (both, kept, left') = left x 2 old new left'

  same_lent_memory : (granted : Bool) (a : ℕ) (size : MemAccessSize) (v : ℕ) (old new : RecordedMemory M)
      → recorded_writes bytes writable reads writes old a size v new granted
      → (new.memory.ghost_name ≡ old.memory.ghost_name) × (new.history.ghost_name ≡ old.history.ghost_name)
  same_lent_memory true a size v old new (both, kept, left') = (kept.same_memory, kept.same_history)
  same_lent_memory false a size v old new (both, kept, left') = (left'.same_memory, left'.same_history)

  pub recorded : (xs : List Access) (old new : RecordedMemory M)
      → Makes (recorded_reads bytes writable reads) (recorded_writes bytes writable reads writes) xs old new → Recorded xs old new
  recorded [] old new made = record {
    noted = [];
    with_reads = refl;
    made = ap (λ (m : RecordedMemory M). m.memory.now) made;
    same_memory = ap (λ (m : RecordedMemory M). m.memory.ghost_name) made;
    same_history = ap (λ (m : RecordedMemory M). m.history.ghost_name) made;
    carries = λ x. subst (λ (m : RecordedMemory M). Carries 0 old.history.now (with_hart x old) m.history.now (with_hart x m)) (sym made)
        (carries_same 0 old.history.now old.history.now (with_hart x old) (with_hart x old) refl refl refl);
  }
  recorded (Read a size answer ∷ xs) old new (mid, did, made) =
      let rest = recorded xs mid new made in
      let l = did.1 in
      record {
        noted = Read a size answer ∷ rest.noted;
        with_reads = (rest.noted, rest.with_reads, refl);
        made = (mid.memory.now, did.0, rest.made);
        same_memory = rest.same_memory ∙ l.same_memory;
        same_history = rest.same_history ∙ l.same_history;
        carries = λ x. carries_both 1 (length rest.noted) (length (Read a size answer ∷ rest.noted)) old.history.now mid.history.now new.history.now
            (with_hart x old) (with_hart x mid) (with_hart x new) (omega arith) (left x 1 old mid l) (rest.carries x);
      }
  recorded (Write a size v granted ∷ xs) old new (mid, did, made) =
      let rest = recorded xs mid new made in
      let both = did.0 in
      let lent = same_lent_memory granted a size v old mid did in
      record {
        noted = Read a size _ ∷ Write a size v granted ∷ rest.noted;
        with_reads = (_, rest.noted, rest.with_reads, refl);
        made = (both.between, both.read, (mid.memory.now, both.written, rest.made));
        same_memory = rest.same_memory ∙ lent.0;
        same_history = rest.same_history ∙ lent.1;
        carries = λ x. carries_both 2 (length rest.noted) (suc (suc (length rest.noted))) old.history.now mid.history.now new.history.now
            (with_hart x old) (with_hart x mid) (with_hart x new) (omega arith) (written x granted a size v old mid did) (rest.carries x);
      }

-- ---- a step, or a call, that is remembered

-- a history that keeps a change with which a step begins
leads_start : (h0 h1 : History) (s m : State) (c : Change) → Remembers h0 s h1 m
    → changes h1 ≡ take (room h0) (c ∷ changes h0) → LeadsTo (s ∷ past (changes h0) s) (length (changes h0) + 1) h1 m
leads_start h0 h1 s m c r kept = record {
  forgotten = r.forgotten;
  leads = r.leads_back;
  with_room = λ fits. (
    r.none_with_room (omega (arith, fits, r.room_kept)),
    omega (arith, ap length kept, length-take (room h0) (c ∷ changes h0)),
  );
  when_full = step_full h0 h1 c r.forgotten r.none_with_room kept r.room_kept;
}

pub remembers_step : (h0 h1 : History) (s t : State) (c : Change) (n : ℕ) → c.starts ≡ true → c.of_call ≡ false
    → changes h1 ≡ take (room h0) (c ∷ changes h0) → Remembers h0 s h1 t → RemembersCall false h0 s h1 t n
remembers_step h0 h1 s t c n starts of_step kept r = record {
  forgotten = r.forgotten;
  leads_back = r.leads_back;
  tells = tells_start h0 h1 c false starts of_step kept;
  none_with_room = λ fits. r.none_with_room (omega (arith, fits));
  when_full = step_full h0 h1 c r.forgotten r.none_with_room kept r.room_kept;
  room_kept = r.room_kept;
}

pub remembers_more : (h0 h1 : History) (s t : State) (m n : ℕ) → m ≤ n → RemembersCall true h0 s h1 t m
    → RemembersCall true h0 s h1 t n
remembers_more h0 h1 s t m n less r = record {
  forgotten = r.forgotten;
  leads_back = r.leads_back;
  tells = r.tells;
  none_with_room = λ fits. r.none_with_room (omega (arith, fits, less));
  when_full = r.when_full;
  room_kept = r.room_kept;
}

pub remembers_call : (h0 h1 h2 h3 : History) (s m u v t : State) (c : Change) (n : ℕ) → Remembers h0 s h1 m
    → changes h1 ≡ take (room h0) (c ∷ changes h0) → c.starts ≡ true → c.of_call ≡ true
    → Carries n h1 m h2 u → Carries 31 h2 u h3 v → Alike v t
    → RemembersCall true h0 s h3 t n
remembers_call h0 h1 h2 h3 s m u v t c n r kept starts is first second alike =
    let all = carries_both n 31 (n + 31) h1 h2 h3 m u v (omega arith) first second in
    let leads = all.goes_on (s ∷ past (changes h0) s) (length (changes h0) + 1) (leads_start h0 h1 s m c r kept) in
    record {
      forgotten = leads.forgotten;
      leads_back = leads.leads ∙ ap (λ xs. xs ++ leads.forgotten) (sym (alike_past (changes h3) v t alike));
      tells = all.tells (true ∷ of_calls (changes h0)) (tells_start h0 h1 c true starts is kept);
      none_with_room = λ fits. (leads.with_room (omega (arith, fits, r.room_kept, all.room_kept))).0;
      when_full = leads.when_full;
      room_kept = all.room_kept ∙ r.room_kept;
    }
