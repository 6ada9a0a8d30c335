-- Steps that are kept one after another, and states that are passed on the way back.
use Rattle.std.proofs.Common.{◌≡◌, ◌⊎◌, ℕ, ◌+◌, ◌<◌, ◌≤◌, take, List, [], ◌∷◌, ◌++◌, All, length, Ok, refl, sym, ap, subst, ◌∙◌, append_assoc, append-nil, inl, inr, arith}
use Rattle.std.proofs.lemmas.Bool.{cases_lt}
use Rattle.std.proofs.lemmas.List.{length_push, length-take}
use Rattle.std.proofs.lemmas.List.Elements.{All-push}
use Rattle.rrs_lib.specs.Machine.{State}
use Rattle.rrs_lib.specs.Steps.{Step, cleared}
use Rattle.rrs_history.specs.declared.history.History.{History}
use Rattle.rrs_history.specs.Histories.{changes, room, past, Remembers}
use Rattle.rrs_history.specs.declared.change.Change.{Change}
use Rattle.rrs_trace.specs.declared.stops.StopReason.{StopReason}
use Rattle.rrs_trace.specs.declared.stops.StopReason.TheVariants as Stop
use Rattle.rrs_trace.specs.Stops.{RunsToStop, PassesNone}
use Rattle.rrs_gdb.specs.declared.forward.ForwardReason.{ForwardReason}
use Rattle.rrs_gdb.specs.declared.breaks.Watch.{Watch}
use Rattle.rrs_gdb.specs.Breaks.{IsTrail, KeepsSteps, ComesTo, IsPassed, GoesForward, back_over, reason_of}
use Rattle.rrs_gdb.proofs.WatchLemmas.{none_touched}

-- a run with stops alone
as_reason : (stops : List ℕ) (limit : ℕ) (s : State) (steps : ℕ) (reason : StopReason) (t : State)
    → RunsToStop stops limit s steps reason t → GoesForward stops [] limit s steps (reason_of reason) t
as_reason stops limit s steps Stop.AtStop t run = (run, none_touched steps s)
as_reason stops limit s steps Stop.Limit t run = (run, none_touched steps s)
as_reason stops limit s steps (Stop.Fault e) t run = (run, none_touched (steps + 1) s)

pub as_stop : (stops : List ℕ) (limit : ℕ) (s : State) (steps : ℕ) (reason : StopReason) (reason' : ForwardReason)
    (t : State) → reason' ≡ reason_of reason → RunsToStop stops limit s steps reason t
    → GoesForward stops [] limit s steps reason' t
as_stop stops limit s steps reason reason' t same run =
    subst (λ (r : ForwardReason). GoesForward stops [] limit s steps r t) (sym same)
    (as_reason stops limit s steps reason t run)

-- the steps so far, all of them Ok
pub record KeptSoFar (steps : ℕ) (old : History) (s : State) (new : History) (t : State) : Type 0 where
  pub trail : List State
  pub is_trail : IsTrail trail s t
  pub as_many : length trail ≡ steps
  pub forgotten : List State
  pub leads_back : trail ++ past (changes old) s ≡ past (changes new) t ++ forgotten
  pub when_full : (forgotten ≡ []) ⊎ (room new ≤ length (changes new))
  pub room_kept : room new ≡ room old

pub none_kept : (h : History) (s : State) → KeptSoFar 0 h s h s
none_kept h s = record {
  trail = [];
  is_trail = refl;
  as_many = refl;
  forgotten = [];
  leads_back = sym (append-nil (past (changes h) s));
  when_full = inl refl;
  room_kept = refl;
}

-- one change more, and what is forgotten for it beside what was before
more_forgotten : (mid new : History) (c : Change) (gone before : List State)
    → (length (changes mid) < room mid → gone ≡ []) → (before ≡ []) ⊎ (room mid ≤ length (changes mid))
    → changes new ≡ take (room mid) (c ∷ changes mid) → room new ≡ room mid
    → (length (changes mid) < room mid) ⊎ (room mid ≤ length (changes mid))
    → (gone ++ before ≡ []) ⊎ (room new ≤ length (changes new))
more_forgotten mid new c gone before none (inl nothing) kept same (inl fits) = inl (λ i. none fits i ++ nothing i)
more_forgotten mid new c gone before none (inr full) kept same (inl fits) = absurd (omega (arith, full, fits))
more_forgotten mid new c gone before none so_far kept same (inr less) =
    inr (omega (arith, less, same, ap length kept, length-take (room mid) (c ∷ changes mid)))

pub one_more : (steps : ℕ) (old mid new : History) (s m t : State) → KeptSoFar steps old s mid m → Step m t (Ok tt)
    → Remembers mid m new t → KeptSoFar (steps + 1) old s new t
one_more steps old mid new s m t before step next = record {
  trail = m ∷ before.trail;
  is_trail = (step, before.is_trail);
  as_many = omega (arith, before.as_many);
  forgotten = next.forgotten ++ before.forgotten;
  leads_back = ap (λ (xs : List State). m ∷ xs) before.leads_back
      ∙ ap (λ (xs : List State). xs ++ before.forgotten) next.leads_back
      ∙ append_assoc (past (changes new) t) next.forgotten before.forgotten;
  when_full = more_forgotten mid new next.latest next.forgotten before.forgotten next.none_with_room before.when_full
      next.kept next.room_kept (cases_lt (length (changes mid)) (room mid));
  room_kept = next.room_kept ∙ before.room_kept;
}

pub kept_whole : (steps : ℕ) (old new : History) (s t : State) → KeptSoFar steps old s new t
    → KeepsSteps steps old s new t
kept_whole steps old new s t so_far = record {
  end = t;
  trail = so_far.trail;
  is_trail = so_far.is_trail;
  as_many = so_far.as_many;
  ends = inl refl;
  forgotten = so_far.forgotten;
  leads_back = so_far.leads_back;
  when_full = so_far.when_full;
  room_kept = so_far.room_kept;
}

pub kept_fault : (steps : ℕ) (old mid new : History) (s m t : State) → KeptSoFar steps old s mid m → t ≡ cleared m
    → (changes new ≡ changes mid) × (past (changes new) t ≡ past (changes mid) m) → room new ≡ room mid
    → KeepsSteps steps old s new t
kept_fault steps old mid new s m t so_far fault same same_room = record {
  end = m;
  trail = so_far.trail;
  is_trail = so_far.is_trail;
  as_many = so_far.as_many;
  ends = inr fault;
  forgotten = so_far.forgotten;
  leads_back = so_far.leads_back ∙ ap (λ (xs : List State). xs ++ so_far.forgotten) (sym same.1);
  when_full = subst (λ (n : ℕ). (so_far.forgotten ≡ []) ⊎ (n ≤ length (changes new))) (sym same_room)
      (subst (λ (cs : List Change). (so_far.forgotten ≡ []) ⊎ (room mid ≤ length cs)) (sym same.0) so_far.when_full);
  room_kept = same_room ∙ so_far.room_kept;
}

-- ---- back

-- the last of them is where the machine is
back_over_push : (ms : List State) (m s : State) → back_over (ms ++ m ∷ []) s ≡ m
back_over_push [] m s = refl
back_over_push (x ∷ xs) m s = back_over_push xs m x

-- the states that were passed from s, from which the machine came to t
pub record PassedSoFar (stops : List ℕ) (watches : List Watch) (count : ℕ) (s : State) (before : List State) (t : State)
    (after : List State) : Type 0 where
  pub passed : List State
  pub leads : before ≡ passed ++ after
  pub are_passed : All (IsPassed stops watches) passed
  pub as_many : length passed ≡ count
  pub there : t ≡ back_over passed s

pub one_passed : (stops : List ℕ) (watches : List Watch) (count : ℕ) (s t m : State) (before after others : List State)
    → PassedSoFar stops watches count s before t after → after ≡ m ∷ others → IsPassed stops watches m
    → PassedSoFar stops watches (count + 1) s before m others
one_passed stops watches count s t m before after others so_far next is_passed = record {
  passed = so_far.passed ++ m ∷ [];
  leads = so_far.leads ∙ ap (λ (xs : List State). so_far.passed ++ xs) next
      ∙ sym (append_assoc so_far.passed (m ∷ []) others);
  are_passed = All-push (IsPassed stops watches) so_far.passed m so_far.are_passed is_passed;
  as_many = length_push so_far.passed m ∙ ap (λ (n : ℕ). n + 1) so_far.as_many;
  there = sym (back_over_push so_far.passed m s);
}

pub comes_to : (stops : List ℕ) (watches : List Watch) (count limit : ℕ) (s t m : State)
    (before after others : List State) (steps : ℕ) → PassedSoFar stops watches count s before t after
    → after ≡ m ∷ others → count < limit → steps ≡ count + 1 → ComesTo stops watches limit before m others steps
comes_to stops watches count limit s t m before after others steps so_far next less one_more = record {
  passed = so_far.passed;
  leads = so_far.leads ∙ ap (λ (xs : List State). so_far.passed ++ xs) next;
  are_passed = so_far.are_passed;
  within = omega (arith, less, so_far.as_many);
  counted = omega (arith, one_more, so_far.as_many);
}

-- none is left
pub all_passed : (stops : List ℕ) (watches : List Watch) (count limit : ℕ) (s t : State) (before after : List State)
    → PassedSoFar stops watches count s before t after → after ≡ [] → count < limit
    → All (IsPassed stops watches) before × (length before < limit) × (t ≡ back_over before s)
    × (count ≡ length before)
all_passed stops watches count limit s t before after so_far none less =
    let all : so_far.passed ≡ before =
    sym (so_far.leads ∙ ap (λ (xs : List State). so_far.passed ++ xs) none ∙ append-nil so_far.passed) in (
      subst (All (IsPassed stops watches)) all so_far.are_passed,
      subst (λ (xs : List State). length xs < limit) all (omega (arith, less, so_far.as_many)),
      subst (λ (xs : List State). t ≡ back_over xs s) all so_far.there,
      sym so_far.as_many ∙ ap length all,
    )

-- as many as the limit
pub limit_passed : (stops : List ℕ) (watches : List Watch) (count limit : ℕ) (s t : State) (before after : List State)
    → PassedSoFar stops watches count s before t after → count ≡ limit
    → (passed : List State) × (before ≡ passed ++ after) × All (IsPassed stops watches) passed
    × (length passed ≡ limit) × (t ≡ back_over passed s) × (count ≡ limit)
limit_passed stops watches count limit s t before after so_far same =
    (so_far.passed, so_far.leads, so_far.are_passed, so_far.as_many ∙ same, so_far.there, same)

-- no step was made
pub none_stepped : (stops : List ℕ) (s : State) → PassesNone stops 1 s
none_stepped stops s = λ k below some m runs at. absurd (omega (arith, below, some))
