-- What an answer leaves and means, by the subject of the packet.
use Rattle.std.proofs.Common.{◌≡◌, ◌≢◌, ◌⊎◌, ℕ, suc, is_some, ◌≤◌, ◌==◌, if◌then◌else◌, Bool, true, false, List, [], ◌∷◌, ◌++◌, Result, Ok, Err, OnOk, IfOk, refl, append-nil, append_assoc, drop, length, slice_index, sym, subst, ap, ◌∙◌, inl, inr, arith}
use Rattle.std.specs.Prelude.{codes}
use Rattle.std.proofs.lemmas.List.{append_cancel_left}
use Rattle.hex.specs.Hex.{decode_of}
use Rattle.rrs_lib.specs.Machine.{State}
use Rattle.rrs_board.specs.declared.board.Board.{Board}
use Rattle.rrs_gdb.specs.declared.breaks.Break.{Break}
use Rattle.rrs_gdb.specs.declared.breaks.Break.TheVariants as Place
use Rattle.rrs_gdb.specs.declared.breaks.Breaks.{Breaks}
use Rattle.rrs_gdb.specs.declared.breaks.Watch.{Watch}
use Rattle.rrs_gdb.specs.declared.session.Next.{Next}
use Rattle.rrs_gdb.specs.declared.session.Next.TheVariants.{Reply}
use Rattle.rrs_gdb.specs.Breaks.{WithBreak, WithoutBreak}
use Rattle.rrs_gdb.proofs.ChangeLemmas.{error_behind, error_of}
use Rattle.rrs_gdb.proofs.EntryLemmas.{no_both}
use Rattle.rrs_words.specs.declared.csrs.Profile.{Profile}
use Rattle.rrs_words.specs.CsrNumbers.{csr_at}
use Rattle.rrs_gdb.specs.Packets.{IsPlace, before, behind, address_in, length_in}
use Rattle.rrs_gdb.specs.Sessions.{letter, BreaksNone, ChangesMemory, ChangesNone, IsBreak, IsError, RunsNone, SetsBytes, SetsMemory, ShowsMemory}
use Rattle.rrs_board_gdb.specs.declared.session.BoardSession.{BoardSession}
use Rattle.rrs_board_gdb.specs.declared.session.Subject.TheVariants.{Inspected, Session}
use Rattle.rrs_board_gdb.specs.Shown.{csr_line, csr_lines, SameBoard, SameButRam, byte_at, is_writable_at, ram_state}
use Rattle.rrs_board_gdb.specs.Sessions.{EndsBy, GoesBy, IsGoing, IsTaken, Tells, RemovesStop, SetsRegister, SetsStop, ShowsRegister}
use Rattle.rrs_board_gdb.specs.Answers.{Asks, InspectsNone, HasSubject, Inspects, Leaves, Means}

-- ---- the same board

same_board : (b c : Board) → c ≡ b → SameBoard b c
same_board b c same = record {
  rest_kept = record {
    hart_kept = ap (λ (x : Board). x.hart) same;
    csrs_kept = ap (λ (x : Board). x.csrs) same;
    devices_kept = ap (λ (x : Board). x.memory.devices) same;
    writable_kept = ap is_writable_at same;
  };
  bytes_kept = ap byte_at same;
}

-- ---- letters

-- no two of these letters are one
apart : {P : Type 0} (payload : List ℕ) (j k : ℕ) → letter payload ≡ j → letter payload ≡ k → j ≢ k → P
apart payload j k is is' other = absurd (other (sym is ∙ is'))

either : {A B C : Type 0} → A ⊎ B → (A → ⊥) → (B → ⊥) → C
either (inl a) no_a no_b = absurd (no_a a)
either (inr b) no_a no_b = absurd (no_b b)

-- `c`, `C`, `s` and `S` have the board go on
runs_some : (payload : List ℕ) → IsGoing payload → RunsNone payload → ⊥
runs_some payload (inl is) none = none.0 is
runs_some payload (inr (inl is)) none = none.1 is
runs_some payload (inr (inr (inl is))) none = none.2 is
runs_some payload (inr (inr (inr is))) none = none.3 is

not_going : (payload : List ℕ) (k : ℕ) → letter payload ≡ k → k ≢ 99 → k ≢ 67 → k ≢ 115 → k ≢ 83 → ¬ IsGoing payload
not_going payload k is c C s S (inl is') = c (sym is ∙ is')
not_going payload k is c C s S (inr (inl is')) = C (sym is ∙ is')
not_going payload k is c C s S (inr (inr (inl is'))) = s (sym is ∙ is')
not_going payload k is c C s S (inr (inr (inr is'))) = S (sym is ∙ is')

inspects_none : (payload : List ℕ) (k : ℕ) → letter payload ≡ k → k ≢ 112 → k ≢ 80 → k ≢ 109 → k ≢ 77 → InspectsNone payload
inspects_none payload k is p P m M =
    (λ is'. p (sym is ∙ is'), λ is'. P (sym is ∙ is'), λ is'. m (sym is ∙ is'), λ is'. M (sym is ∙ is'))

run_inspects_none : (payload : List ℕ) → IsGoing payload → InspectsNone payload
run_inspects_none payload (inl is) = inspects_none payload 99 is (omega arith) (omega arith) (omega arith) (omega arith)
run_inspects_none payload (inr (inl is)) =
    inspects_none payload 67 is (omega arith) (omega arith) (omega arith) (omega arith)
run_inspects_none payload (inr (inr (inl is))) =
    inspects_none payload 115 is (omega arith) (omega arith) (omega arith) (omega arith)
run_inspects_none payload (inr (inr (inr is))) =
    inspects_none payload 83 is (omega arith) (omega arith) (omega arith) (omega arith)

inspected_not_going : (payload : List ℕ) → HasSubject payload Inspected → ¬ IsGoing payload
inspected_not_going payload (inl is) = not_going payload 103 is (omega arith) (omega arith) (omega arith) (omega arith)
inspected_not_going payload (inr (inl is)) =
    not_going payload 112 is (omega arith) (omega arith) (omega arith) (omega arith)
inspected_not_going payload (inr (inr (inl is))) =
    not_going payload 80 is (omega arith) (omega arith) (omega arith) (omega arith)
inspected_not_going payload (inr (inr (inr (inl is)))) =
    not_going payload 109 is (omega arith) (omega arith) (omega arith) (omega arith)
inspected_not_going payload (inr (inr (inr (inr is)))) =
    not_going payload 77 is (omega arith) (omega arith) (omega arith) (omega arith)

-- `vCont` is of no such subject
named : (payload actions : List ℕ) → payload ≡ codes "vCont;" ++ actions → letter payload ≡ 118
named payload actions is = ap (λ (xs : List ℕ). slice_index xs 0) is

inspected_not_named : (payload : List ℕ) → HasSubject payload Inspected → letter payload ≢ 118
inspected_not_named payload (inl is) = λ is'. apart payload 103 118 is is' (omega arith)
inspected_not_named payload (inr (inl is)) = λ is'. apart payload 112 118 is is' (omega arith)
inspected_not_named payload (inr (inr (inl is))) = λ is'. apart payload 80 118 is is' (omega arith)
inspected_not_named payload (inr (inr (inr (inl is)))) = λ is'. apart payload 109 118 is is' (omega arith)
inspected_not_named payload (inr (inr (inr (inr is)))) = λ is'. apart payload 77 118 is is' (omega arith)

-- ---- registers and RAM

no_inspects : (payload : List ℕ) (b b' : Board) (old new : List ℕ) → InspectsNone payload → Inspects payload b b' old new
no_inspects payload b b' old new none = record {
  shows_register = λ is. absurd (none.0 is);
  sets_register = λ is. absurd (none.1 is);
  shows_memory = λ is. absurd (none.2 is);
  sets_memory = λ is. absurd (none.3 is);
}

pub inspects_p : {A F : Type 0} (r : Result A F) (payload text : List ℕ) (b b' : Board) (old new : List ℕ)
    → letter payload ≡ 112 → text ≡ drop 1 payload → OnOk r (ShowsRegister text b old new)
    → OnOk r (Inspects payload b b' old new)
inspects_p (Ok x) payload text b b' old new is same shows = record {
  shows_register = λ _. subst (λ (xs : List ℕ). ShowsRegister xs b old new) same shows;
  sets_register = λ is'. apart payload 112 80 is is' (omega arith);
  shows_memory = λ is'. apart payload 112 109 is is' (omega arith);
  sets_memory = λ is'. apart payload 112 77 is is' (omega arith);
}
inspects_p (Err f) payload text b b' old new is same shows = tt

pub inspects_P : {A F : Type 0} (r : Result A F) (payload text : List ℕ) (b b' : Board) (old new : List ℕ)
    → letter payload ≡ 80 → text ≡ drop 1 payload → OnOk r (SetsRegister text b b' old new)
    → OnOk r (Inspects payload b b' old new)
inspects_P (Ok x) payload text b b' old new is same sets = record {
  shows_register = λ is'. apart payload 80 112 is is' (omega arith);
  sets_register = λ _. subst (λ (xs : List ℕ). SetsRegister xs b b' old new) same sets;
  shows_memory = λ is'. apart payload 80 109 is is' (omega arith);
  sets_memory = λ is'. apart payload 80 77 is is' (omega arith);
}
inspects_P (Err f) payload text b b' old new is same sets = tt

pub inspects_m : {A F : Type 0} (r : Result A F) (payload text : List ℕ) (b b' : Board) (old new : List ℕ)
    → letter payload ≡ 109 → text ≡ drop 1 payload → OnOk r (ShowsMemory text (ram_state b) old new)
    → OnOk r (Inspects payload b b' old new)
inspects_m (Ok x) payload text b b' old new is same shows = record {
  shows_register = λ is'. apart payload 109 112 is is' (omega arith);
  sets_register = λ is'. apart payload 109 80 is is' (omega arith);
  shows_memory = λ _. subst (λ (xs : List ℕ). ShowsMemory xs (ram_state b) old new) same shows;
  sets_memory = λ is'. apart payload 109 77 is is' (omega arith);
}
inspects_m (Err f) payload text b b' old new is same shows = tt

-- the bytes of digits are changed as they are
pub sets_by_digits : {A F : Type 0} (r : Result A F) (text digits bytes : List ℕ) (address count : ℕ) (s t : State)
    (old new : List ℕ) → address ≡ address_in (before 58 text) → count ≡ length_in (before 58 text)
    → digits ≡ behind 58 text → IsPlace (before 58 text) → decode_of digits ≡ Ok bytes
    → OnOk r (length bytes ≡ count → 1 ≤ length bytes → SetsBytes address bytes s t old new)
    → OnOk r (bytes ≡ [] → t ≡ s) → OnOk r (length bytes ≢ count → IsError old new)
    → OnOk r ((values : List ℕ) → decode_of (behind 58 text) ≡ Ok values → SetsMemory values text s t old new)
sets_by_digits (Ok x) text digits bytes address count s t old new at many same place decoded sets none refused = λ values is.
    let both : Ok bytes ≡ Ok values = sym decoded ∙ ap decode_of same ∙ is in
    let equal : bytes ≡ values = cc in
    record {
      none = λ nothing. none (equal ∙ nothing);
      refused = λ not. refused (λ long. not (place, ap length (sym equal) ∙ long ∙ many));
      set = λ place long one.
          subst (λ (xs : List ℕ). SetsBytes (address_in (before 58 text)) xs s t old new) equal
          (subst (λ (a : ℕ). SetsBytes a bytes s t old new) at
          (sets (ap length equal ∙ long ∙ sym many) (subst (λ (xs : List ℕ). 1 ≤ length xs) (sym equal) one)));
    }
sets_by_digits (Err e) text digits bytes address count s t old new at many same place decoded sets none refused = tt

pub inspects_M : {A F : Type 0} (r : Result A F) (payload text : List ℕ) (b b' : Board) (old new : List ℕ)
    → letter payload ≡ 77 → text ≡ drop 1 payload
    → OnOk r ((values : List ℕ) → decode_of (behind 58 text) ≡ Ok values
    → SetsMemory values text (ram_state b) (ram_state b') old new)
    → OnOk r (Inspects payload b b' old new)
inspects_M (Ok x) payload text b b' old new is same sets = record {
  shows_register = λ is'. apart payload 77 112 is is' (omega arith);
  sets_register = λ is'. apart payload 77 80 is is' (omega arith);
  shows_memory = λ is'. apart payload 77 109 is is' (omega arith);
  sets_memory = λ _. subst (λ (xs : List ℕ). (values : List ℕ) → decode_of (behind 58 xs) ≡ Ok values
      → SetsMemory values xs (ram_state b) (ram_state b') old new) same sets;
}
inspects_M (Err f) payload text b b' old new is same sets = tt

-- ---- breakpoints

other_inspected : (payload : List ℕ) (k : ℕ) → HasSubject payload Inspected → k ≢ 103 → k ≢ 112 → k ≢ 80 → k ≢ 109
    → k ≢ 77 → letter payload ≢ k
other_inspected payload k (inl is) g p P m M = λ is'. g (sym is' ∙ is)
other_inspected payload k (inr (inl is)) g p P m M = λ is'. p (sym is' ∙ is)
other_inspected payload k (inr (inr (inl is))) g p P m M = λ is'. P (sym is' ∙ is)
other_inspected payload k (inr (inr (inr (inl is)))) g p P m M = λ is'. m (sym is' ∙ is)
other_inspected payload k (inr (inr (inr (inr is)))) g p P m M = λ is'. M (sym is' ∙ is)

no_asks : (payload : List ℕ) (s t : BoardSession) (old new : List ℕ) → letter payload ≢ 90 → letter payload ≢ 122
    → letter payload ≢ 63 → Asks payload s t old new
no_asks payload s t old new set remove stop = record {
  sets_stop = λ is. absurd (set is);
  removes_stop = λ is. absurd (remove is);
  stopped = λ is. absurd (stop (ap (λ (xs : List ℕ). slice_index xs 0) is));
}

named_asks : (payload : List ℕ) (s t : BoardSession) (old new : List ℕ) → letter payload ≡ 118
    → Asks payload s t old new
named_asks payload s t old new at = no_asks payload s t old new (λ is. apart payload 118 90 at is (omega arith))
    (λ is. apart payload 118 122 at is (omega arith)) (λ is. apart payload 118 63 at is (omega arith))

run_asks : (payload : List ℕ) (s t : BoardSession) (old new : List ℕ) → IsGoing payload → Asks payload s t old new
run_asks payload s t old new going = no_asks payload s t old new
    (λ is. not_going payload 90 is (omega arith) (omega arith) (omega arith) (omega arith) going)
    (λ is. not_going payload 122 is (omega arith) (omega arith) (omega arith) (omega arith) going)
    (λ is. not_going payload 63 is (omega arith) (omega arith) (omega arith) (omega arith) going)

inspected_asks : (payload : List ℕ) (s t : BoardSession) (old new : List ℕ) → HasSubject payload Inspected
    → Asks payload s t old new
inspected_asks payload s t old new is = no_asks payload s t old new
    (other_inspected payload 90 is (omega arith) (omega arith) (omega arith) (omega arith) (omega arith))
    (other_inspected payload 122 is (omega arith) (omega arith) (omega arith) (omega arith) (omega arith))
    (other_inspected payload 63 is (omega arith) (omega arith) (omega arith) (omega arith) (omega arith))

-- `OK` is no error
pub no_error : {X : Type 0} → IsError [] (codes "OK") → X
no_error (rest, is) =
    let first : 79 ≡ 69 = ap (λ (xs : List ℕ). slice_index xs 0) is in
    absurd (omega (arith, first))

pub stop_set : (text : List ℕ) (b b' : Breaks) (address : ℕ) (answer : List ℕ) → IsBreak text (Place.Stop address)
    → IsError [] answer ⊎ (WithBreak (Place.Stop address) b b' × (answer ≡ codes "OK"))
    → (IsError [] answer → b'.stops.items ≡ b.stops.items) → SetsStop text b b' [] answer
stop_set text b b' address answer is done kept = record {
  set = λ other is'. subst
      (λ (a : ℕ). IsError [] answer ⊎ (WithBreak (Place.Stop a) b b' × (answer ≡ codes "OK"))) (is.2 ∙ sym is'.2) done;
  unknown = λ watch is'. absurd (no_both text address watch is is');
  refused = λ none. absurd (none (Place.Stop address) is);
  kept = kept;
}

pub stop_removed : (text : List ℕ) (b b' : Breaks) (address : ℕ) (answer : List ℕ) → IsBreak text (Place.Stop address)
    → WithoutBreak (Place.Stop address) b b' → answer ≡ codes "OK"
    → (IsError [] answer → b'.stops.items ≡ b.stops.items) → RemovesStop text b b' [] answer
stop_removed text b b' address answer is done told kept = record {
  removed = λ other is'.
      (subst (λ (a : ℕ). WithoutBreak (Place.Stop a) b b') (is.2 ∙ sym is'.2) done, told);
  unknown = λ watch is'. absurd (no_both text address watch is is');
  refused = λ none. absurd (none (Place.Stop address) is);
  kept = kept;
}

pub set_unknown : (text : List ℕ) (b : Breaks) (watch : Watch) → IsBreak text (Place.Watch watch)
    → SetsStop text b b [] []
set_unknown text b watch is = record {
  set = λ address is'. absurd (no_both text address watch is' is);
  unknown = λ other is'. (refl, refl);
  refused = λ none. absurd (none (Place.Watch watch) is);
  kept = λ _. refl;
}

pub removed_unknown : (text : List ℕ) (b : Breaks) (watch : Watch) → IsBreak text (Place.Watch watch)
    → RemovesStop text b b [] []
removed_unknown text b watch is = record {
  removed = λ address is'. absurd (no_both text address watch is' is);
  unknown = λ other is'. (refl, refl);
  refused = λ none. absurd (none (Place.Watch watch) is);
  kept = λ _. refl;
}

pub set_refused : (text : List ℕ) (b b' : Breaks) (answer : List ℕ) → ((place : Break) → ¬ IsBreak text place)
    → IsError [] answer → (IsError [] answer → b'.stops.items ≡ b.stops.items) → SetsStop text b b' [] answer
set_refused text b b' answer none error kept = record {
  set = λ address is. absurd (none (Place.Stop address) is);
  unknown = λ watch is. absurd (none (Place.Watch watch) is);
  refused = λ _. error;
  kept = kept;
}

pub removed_refused : (text : List ℕ) (b b' : Breaks) (answer : List ℕ) → ((place : Break) → ¬ IsBreak text place)
    → IsError [] answer → (IsError [] answer → b'.stops.items ≡ b.stops.items) → RemovesStop text b b' [] answer
removed_refused text b b' answer none error kept = record {
  removed = λ address is. absurd (none (Place.Stop address) is);
  unknown = λ watch is. absurd (none (Place.Watch watch) is);
  refused = λ _. error;
  kept = kept;
}

set_or : (old new answer : List ℕ) {P : Type 0} → new ≡ old ++ answer
    → IsError [] answer ⊎ (P × (answer ≡ codes "OK")) → IsError old new ⊎ (P × (new ≡ old ++ codes "OK"))
set_or old new answer told (inl error) = inl (error_behind old new answer told error)
set_or old new answer told (inr done) = inr (done.0, told ∙ ap (λ (xs : List ℕ). old ++ xs) done.1)

pub asks_set : {A F : Type 0} (r : Result A F) (payload text : List ℕ) (s t : BoardSession) (old new answer : List ℕ)
    → letter payload ≡ 90 → text ≡ drop 1 payload → OnOk r (new ≡ old ++ answer)
    → SetsStop text s.breaks t.breaks [] answer → OnOk r (Asks payload s t old new)
asks_set (Ok x) payload text s t old new answer at same told sets = record {
  sets_stop = λ _. subst (λ (xs : List ℕ). SetsStop xs s.breaks t.breaks old new) same (record {
    set = λ address is. set_or old new answer told (sets.set address is);
    unknown = λ watch is. (
      (sets.unknown watch is).0,
      told ∙ ap (λ (xs : List ℕ). old ++ xs) (sets.unknown watch is).1 ∙ append-nil old,
    );
    refused = λ none. error_behind old new answer told (sets.refused none);
    kept = λ error. sets.kept (error_of old new answer told error);
  });
  removes_stop = λ is. apart payload 90 122 at is (omega arith);
  stopped = λ is. apart payload 90 63 at (ap (λ (xs : List ℕ). slice_index xs 0) is) (omega arith);
}
asks_set (Err e) payload text s t old new answer at same told sets = tt

pub asks_removed : {A F : Type 0} (r : Result A F) (payload text : List ℕ) (s t : BoardSession)
    (old new answer : List ℕ) → letter payload ≡ 122 → text ≡ drop 1 payload → OnOk r (new ≡ old ++ answer)
    → RemovesStop text s.breaks t.breaks [] answer → OnOk r (Asks payload s t old new)
asks_removed (Ok x) payload text s t old new answer at same told removes = record {
  sets_stop = λ is. apart payload 122 90 at is (omega arith);
  removes_stop = λ _. subst (λ (xs : List ℕ). RemovesStop xs s.breaks t.breaks old new) same (record {
    removed = λ address is. (
      (removes.removed address is).0,
      told ∙ ap (λ (xs : List ℕ). old ++ xs) (removes.removed address is).1,
    );
    unknown = λ watch is. (
      (removes.unknown watch is).0,
      told ∙ ap (λ (xs : List ℕ). old ++ xs) (removes.unknown watch is).1 ∙ append-nil old,
    );
    refused = λ none. error_behind old new answer told (removes.refused none);
    kept = λ error. removes.kept (error_of old new answer told error);
  });
  stopped = λ is. apart payload 122 63 at (ap (λ (xs : List ℕ). slice_index xs 0) is) (omega arith);
}
asks_removed (Err e) payload text s t old new answer at same told removes = tt

-- ---- what follows

ends_reply : (payload : List ℕ) (next : Next) → next ≡ Reply → letter payload ≢ 68 → letter payload ≢ 107
    → ((rest : List ℕ) → payload ≢ codes "vKill" ++ rest) → EndsBy payload next
ends_reply payload next is detach kill kill_named = record {
  detaches = λ at. absurd (detach at);
  kills = λ at. absurd (kill (ap (λ (xs : List ℕ). slice_index xs 0) at));
  kills_named = λ rest at. absurd (kill_named rest at);
  goes_on = λ _ _ _. is;
}

ends_ok : {F : Type 0} (r : Result Next F) (payload : List ℕ) → IfOk r (λ next. next ≡ Reply) → letter payload ≢ 68
    → letter payload ≢ 107 → ((rest : List ℕ) → payload ≢ codes "vKill" ++ rest)
    → IfOk r (λ next. EndsBy payload next)
ends_ok (Ok next) payload is detach kill kill_named = ends_reply payload next is detach kill kill_named
ends_ok (Err e) payload is detach kill kill_named = tt

pub ends_named : {F : Type 0} (r : Result Next F) (payload actions : List ℕ) → payload ≡ codes "vCont;" ++ actions
    → IfOk r (λ next. next ≡ Reply) → IfOk r (λ next. EndsBy payload next)
ends_named r payload actions is reply =
    let at = named payload actions is in
    ends_ok r payload reply (λ at'. apart payload 118 68 at at' (omega arith))
    (λ at'. apart payload 118 107 at at' (omega arith)) (λ rest is'.
    let second : 67 ≡ 75 = ap (λ (xs : List ℕ). slice_index xs 1) (sym is ∙ is') in
    omega (arith, second))

pub ends_run : {F : Type 0} (r : Result Next F) (payload : List ℕ) → IsGoing payload → IfOk r (λ next. next ≡ Reply)
    → IfOk r (λ next. EndsBy payload next)
ends_run r payload going reply = ends_ok r payload reply
    (λ at. not_going payload 68 at (omega arith) (omega arith) (omega arith) (omega arith) going)
    (λ at. not_going payload 107 at (omega arith) (omega arith) (omega arith) (omega arith) going) (λ rest is.
    not_going payload 118 (ap (λ (xs : List ℕ). slice_index xs 0) is) (omega arith) (omega arith) (omega arith)
    (omega arith) going)

pub ends_inspected : (payload : List ℕ) → HasSubject payload Inspected → EndsBy payload Reply
ends_inspected payload is = ends_reply payload Reply refl
    (other_inspected payload 68 is (omega arith) (omega arith) (omega arith) (omega arith) (omega arith))
    (other_inspected payload 107 is (omega arith) (omega arith) (omega arith) (omega arith) (omega arith)) (λ rest is'.
    inspected_not_named payload is (ap (λ (xs : List ℕ). slice_index xs 0) is'))

-- ---- what an answer leaves

changes_not_named : {P : Type 0} (payload : List ℕ) → letter payload ≡ 118 → ChangesMemory payload → P
changes_not_named payload is (inl is') = apart payload 118 77 is is' (omega arith)
changes_not_named payload is (inr is') = apart payload 118 88 is is' (omega arith)

pub leaves_named : (payload actions : List ℕ) (s t : BoardSession) → payload ≡ codes "vCont;" ++ actions
    → t.breaks ≡ s.breaks → t.limit ≡ s.limit → Leaves payload s t
leaves_named payload actions s t is kept same =
    let at = named payload actions is in
    record {
      asks = λ _ none. absurd (none.4 at);
      memory = changes_not_named payload at;
      stays = λ _ other. absurd (other actions is);
      input = λ none. absurd (none.4 at);
      stop = λ none. absurd (none.4 at);
      limit = same;
      breaks = λ _. ap (λ x. x.stops.items) kept;
    }

run_changes_none : {P : Type 0} (payload : List ℕ) → IsGoing payload → ChangesMemory payload → P
run_changes_none payload is (inl is') =
    absurd (not_going payload 77 is' (omega arith) (omega arith) (omega arith) (omega arith) is)
run_changes_none payload is (inr is') =
    absurd (not_going payload 88 is' (omega arith) (omega arith) (omega arith) (omega arith) is)

pub leaves_run : (payload : List ℕ) (s t : BoardSession) → IsGoing payload → t.breaks ≡ s.breaks → t.limit ≡ s.limit
    → Leaves payload s t
leaves_run payload s t is kept same = record {
  asks = λ _ none. absurd (runs_some payload is none);
  memory = run_changes_none payload is;
  stays = λ is' _. absurd (not_going payload 118 is' (omega arith) (omega arith) (omega arith) (omega arith) is);
  input = λ none. absurd (runs_some payload is none);
  stop = λ none. absurd (runs_some payload is none);
  limit = same;
  breaks = λ _. ap (λ x. x.stops.items) kept;
}

pub leaves_inspected : (payload : List ℕ) (s t : BoardSession) → HasSubject payload Inspected
    → (ChangesNone payload → SameBoard s.debugged.board t.debugged.board)
    → (ChangesMemory payload → SameButRam s.debugged.board t.debugged.board)
    → t.debugged.input ≡ s.debugged.input → t.stop ≡ s.stop → t.limit ≡ s.limit
    → t.breaks.stops.items ≡ s.breaks.stops.items → Leaves payload s t
leaves_inspected payload s t is asks memory input stop limit breaks = record {
  asks = λ none _. asks none;
  memory = memory;
  stays = λ is' _. absurd (inspected_not_named payload is is');
  input = λ _. input;
  stop = λ _. stop;
  limit = limit;
  breaks = λ _. breaks;
}

pub leaves_session : (payload : List ℕ) (s t : BoardSession) → t.debugged ≡ s.debugged → t.stop ≡ s.stop
    → t.limit ≡ s.limit → (BreaksNone payload → t.breaks.stops.items ≡ s.breaks.stops.items) → Leaves payload s t
leaves_session payload s t kept stop limit breaks =
    let same = same_board s.debugged.board t.debugged.board (ap (λ x. x.board) kept) in
    record {
      asks = λ _ _. same;
      memory = λ _. same.rest_kept;
      stays = λ _ _. kept;
      input = λ _. ap (λ x. x.input) kept;
      stop = λ _. stop;
      limit = limit;
      breaks = breaks;
    }

-- ---- what a packet means

means_named : (payload actions : List ℕ) (s t : BoardSession) (old new : List ℕ)
    → payload ≡ codes "vCont;" ++ actions → GoesBy (before 58 (before 59 actions)) s t old new
    → (IsError old new → SameBoard s.debugged.board t.debugged.board) → Means payload s t old new
means_named payload actions s t old new is goes error =
    let at = named payload actions is in
    record {
      inspects = no_inspects payload s.debugged.board t.debugged.board old new
          (inspects_none payload 118 at (omega arith) (omega arith) (omega arith) (omega arith));
      goes = λ is'. absurd (not_going payload 118 at (omega arith) (omega arith) (omega arith) (omega arith) is');
      asks = named_asks payload s t old new at;
      resumes = λ others is'.
          let same : actions ≡ others = append_cancel_left (codes "vCont;") _ _ (sym is ∙ is') in
          subst (λ (xs : List ℕ). GoesBy (before 58 (before 59 xs)) s t old new) same goes;
      error = error;
    }

pub means_named_ok : {A F : Type 0} (r : Result A F) (payload actions : List ℕ) (s t : BoardSession) (old new : List ℕ)
    → payload ≡ codes "vCont;" ++ actions → OnOk r (GoesBy (before 58 (before 59 actions)) s t old new)
    → OnOk r (IsError old new → SameBoard s.debugged.board t.debugged.board) → OnOk r (Means payload s t old new)
means_named_ok (Ok x) payload actions s t old new is goes error = means_named payload actions s t old new is goes error
means_named_ok (Err f) payload actions s t old new is goes error = tt

pub means_run : {A F : Type 0} (r : Result A F) (payload : List ℕ) (s t : BoardSession) (old new : List ℕ)
    → IsGoing payload → OnOk r (GoesBy payload s t old new)
    → OnOk r (IsError old new → SameBoard s.debugged.board t.debugged.board) → OnOk r (Means payload s t old new)
means_run (Ok x) payload s t old new is goes error = record {
  inspects = no_inspects payload s.debugged.board t.debugged.board old new (run_inspects_none payload is);
  goes = λ _. goes;
  resumes = λ actions is'. absurd (not_going payload 118 (named payload actions is') (omega arith) (omega arith)
      (omega arith) (omega arith) is);
  asks = run_asks payload s t old new is;
  error = error;
}
means_run (Err f) payload s t old new is goes error = tt

pub means_inspected : (payload : List ℕ) (s t : BoardSession) (old new : List ℕ) → HasSubject payload Inspected
    → Inspects payload s.debugged.board t.debugged.board old new
    → (IsError old new → SameBoard s.debugged.board t.debugged.board) → Means payload s t old new
means_inspected payload s t old new is inspects error = record {
  inspects = inspects;
  goes = λ is'. absurd (inspected_not_going payload is is');
  resumes = λ actions is'. absurd (inspected_not_named payload is (named payload actions is'));
  asks = inspected_asks payload s t old new is;
  error = error;
}

pub means_session : (payload : List ℕ) (s t : BoardSession) (old new : List ℕ) → HasSubject payload Session
    → t.debugged ≡ s.debugged → ((actions : List ℕ) → payload ≢ codes "vCont;" ++ actions)
    → Asks payload s t old new → Means payload s t old new
means_session payload s t old new is kept other asks = record {
  inspects = no_inspects payload s.debugged.board t.debugged.board old new is.1;
  goes = λ is'. absurd (is.0 is');
  resumes = λ actions is'. absurd (other actions is');
  asks = asks;
  error = λ _. same_board s.debugged.board t.debugged.board (ap (λ x. x.board) kept);
}

-- what is meant of an answer that is whole
pub on_means : {A F Q : Type 0} (r : Result A F) (payload : List ℕ) (s t : BoardSession) (old new : List ℕ)
    → OnOk r (Means payload s t old new) → (Means payload s t old new → Q) → OnOk r Q
on_means (Ok x) payload s t old new means part = part means
on_means (Err f) payload s t old new means part = tt

-- ---- what is told of the session

begins_by : (is_end : Bool) (c b : ℕ) (cs bs : List ℕ) → (if is_end then [] else c ∷ cs) ≡ b ∷ bs → c ≡ b
begins_by true c b cs bs is = absurd (grind (arith, is))
begins_by false c b cs bs is = ap (λ (xs : List ℕ). slice_index xs 0) is

begins_word : (payload : List ℕ) (b : ℕ) (bs : List ℕ) → b ≢ 58 → before 58 payload ≡ b ∷ bs → letter payload ≡ b
begins_word [] b bs other is = absurd (grind (arith, is))
begins_word (c ∷ cs) b bs other is = begins_by (c == 58) c b (before 58 cs) bs is

first_is : (payload whole : List ℕ) (n : ℕ) → payload ≡ whole → slice_index whole 0 ≡ n → letter payload ≡ n
first_is payload whole n is at = ap (λ (xs : List ℕ). slice_index xs 0) is ∙ at

none_taken : (payload : List ℕ) → letter payload ≢ 118 → letter payload ≢ 72
    → letter payload ≢ 84 → letter payload ≢ 81 → letter payload ≢ 68 → ¬ IsTaken payload
none_taken payload no_v no_H no_T no_Q no_D (inl is) = no_H is
none_taken payload no_v no_H no_T no_Q no_D (inr (inl is)) = no_T is
none_taken payload no_v no_H no_T no_Q no_D (inr (inr (inl is))) = no_Q (first_is payload _ 81 is refl)
none_taken payload no_v no_H no_T no_Q no_D (inr (inr (inr (inl is)))) = no_D is
none_taken payload no_v no_H no_T no_Q no_D (inr (inr (inr (inr (rest, is))))) = no_v (first_is payload _ 118 is refl)

-- none of the letters of such packets
pub tells_none : (payload old new : List ℕ) → letter payload ≢ 113 → letter payload ≢ 118 → letter payload ≢ 72
    → letter payload ≢ 84 → letter payload ≢ 81 → letter payload ≢ 68 → Tells payload old new
tells_none payload old new no_q no_v no_H no_T no_Q no_D = record {
  thread = λ is. absurd (no_q (begins_word payload 113 _ (omega arith) is));
  threads = λ is. absurd (no_q (begins_word payload 113 _ (omega arith) is));
  no_more = λ is. absurd (no_q (begins_word payload 113 _ (omega arith) is));
  attached = λ is. absurd (no_q (begins_word payload 113 _ (omega arith) is));
  offers = λ is. absurd (no_v (first_is payload _ 118 is refl));
  takes = λ is. absurd (none_taken payload no_v no_H no_T no_Q no_D is);
}

pub tells_run : {F : Type 0} (r : Result Next F) (payload old new : List ℕ) → IsGoing payload → OnOk r (Tells payload old new)
tells_run (Ok x) payload old new going = tells_none payload old new
    (λ is. not_going payload 113 is (omega arith) (omega arith) (omega arith) (omega arith) going)
    (λ is. not_going payload 118 is (omega arith) (omega arith) (omega arith) (omega arith) going)
    (λ is. not_going payload 72 is (omega arith) (omega arith) (omega arith) (omega arith) going)
    (λ is. not_going payload 84 is (omega arith) (omega arith) (omega arith) (omega arith) going)
    (λ is. not_going payload 81 is (omega arith) (omega arith) (omega arith) (omega arith) going)
    (λ is. not_going payload 68 is (omega arith) (omega arith) (omega arith) (omega arith) going)
tells_run (Err f) payload old new going = tt

pub tells_plain : {F : Type 0} (r : Result Unit F) (payload answer old new : List ℕ) → letter payload ≢ 113
    → (payload ≡ codes "vCont?" → answer ≡ codes "vCont;c;C;s;S") → (IsTaken payload → answer ≡ codes "OK")
    → OnOk r (new ≡ old ++ answer) → OnOk r (Tells payload old new)
tells_plain (Ok x) payload answer old new no_q offers takes told = record {
  thread = λ is. absurd (no_q (begins_word payload 113 _ (omega arith) is));
  threads = λ is. absurd (no_q (begins_word payload 113 _ (omega arith) is));
  no_more = λ is. absurd (no_q (begins_word payload 113 _ (omega arith) is));
  attached = λ is. absurd (no_q (begins_word payload 113 _ (omega arith) is));
  offers = λ is. told ∙ ap (λ (xs : List ℕ). old ++ xs) (offers is);
  takes = λ is. told ∙ ap (λ (xs : List ℕ). old ++ xs) (takes is);
}
tells_plain (Err f) payload answer old new no_q offers takes told = tt

-- ---- a text in five pieces

pub five_pieces : {F : Type 0} (r : Result Unit F) (t a t1 b t2 c t3 d t4 e t5 b' d' : List ℕ)
    → t1 ≡ t ++ a → t2 ≡ t1 ++ b → b ≡ b' → t3 ≡ t2 ++ c → t4 ≡ t3 ++ d → d ≡ d' → OnOk r (t5 ≡ t4 ++ e)
    → OnOk r (t5 ≡ t ++ (a ++ b' ++ c ++ d' ++ e))
five_pieces (Ok x) t a t1 b t2 c t3 d t4 e t5 b' d' first second is_b third fourth is_d last =
    last ∙ ap (λ (xs : List ℕ). xs ++ e)
    (fourth ∙ ap (λ (xs : List ℕ). xs ++ d) (third ∙ ap (λ (xs : List ℕ). xs ++ c)
    (second ∙ ap (λ (xs : List ℕ). xs ++ b) first)))
    ∙ rw (is_b, is_d) (ap (λ (xs : List ℕ). xs ++ c ++ d' ++ e) (append_assoc t a b')
    ∙ ap (λ (xs : List ℕ). xs ++ d' ++ e) (append_assoc t (a ++ b') c)
    ∙ ap (λ (xs : List ℕ). xs ++ e) (append_assoc t (a ++ b' ++ c) d') ∙ append_assoc t (a ++ b' ++ c ++ d') e)
five_pieces (Err f) t a t1 b t2 c t3 d t4 e t5 b' d' first second is_b third fourth is_d last = tt

-- ---- the lines of CSRs

pub no_lines : (p : Profile) (xs : List ℕ) → xs ≡ xs ++ csr_lines p 0
unfolding csr_lines
no_lines p xs = sym (append-nil xs)

pub one_line : (p : Profile) (xs text : List ℕ) (n : ℕ) → is_some (csr_at p n) ≡ true
    → text ≡ (xs ++ csr_lines p n) ++ csr_line n → text ≡ xs ++ csr_lines p (suc n)
unfolding csr_lines
one_line p xs text n is same = same ∙ append_assoc xs (csr_lines p n) (csr_line n) ∙ rw is refl

pub other_line : (p : Profile) (xs text : List ℕ) (n : ℕ) → is_some (csr_at p n) ≡ false → text ≡ xs ++ csr_lines p n
    → text ≡ xs ++ csr_lines p (suc n)
unfolding csr_lines
other_line p xs text n is same = same ∙ rw is (ap (λ (ys : List ℕ). xs ++ ys) (sym (append-nil (csr_lines p n))))

-- a text of which only the end is said
pub ends_so : {F : Type 0} (r : Result Unit F) (t a t1 b t2 c t3 d t4 lines t5 e t6 : List ℕ)
    → t1 ≡ t ++ a → t2 ≡ t1 ++ b → t3 ≡ t2 ++ c → t4 ≡ t3 ++ d → t5 ≡ t4 ++ lines → OnOk r (t6 ≡ t5 ++ e)
    → OnOk r ((first : List ℕ) × (t6 ≡ t ++ (first ++ lines ++ e)))
ends_so (Ok x) t a t1 b t2 c t3 d t4 lines t5 e t6 one two three four five six = (
  a ++ b ++ c ++ d,
  six ∙ ap (λ (xs : List ℕ). xs ++ e) (five ∙ ap (λ (xs : List ℕ). xs ++ lines) (four
      ∙ ap (λ (xs : List ℕ). xs ++ d) (three ∙ ap (λ (xs : List ℕ). xs ++ c) (two ∙ ap (λ (xs : List ℕ). xs ++ b) one
      ∙ append_assoc t a b) ∙ append_assoc t (a ++ b) c) ∙ append_assoc t (a ++ b ++ c) d)
      ∙ append_assoc t (a ++ b ++ c ++ d) lines) ∙ append_assoc t (a ++ b ++ c ++ d ++ lines) e,
)
ends_so (Err f) t a t1 b t2 c t3 d t4 lines t5 e t6 one two three four five six = tt
