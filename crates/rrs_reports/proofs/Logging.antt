-- Lines that grow by each entry are the log of the entries.
use Rattle.std.proofs.Common.{◌≡◌, ◌==◌, ◌&&◌, ◌⊎◌, inl, inr, if◌then◌else◌, ℕ, List, [], ◌∷◌, ◌++◌, map, Bool, true, false, Option, Some, None, refl, subst, ap, sym, ◌∙◌, append_assoc, append-nil}
use Rattle.std.specs.Io.KnownBytes.{Appends}
use Rattle.std.proofs.lemmas.List.{map-append}
use Rattle.std.proofs.KnownBytes.{Appends-trans}
use Rattle.rrs_reports.specs.declared.commit_log.CodeRange.{CodeRange}
use Rattle.rrs_reports.specs.declared.commit_log.StepRange.{StepRange}
use Rattle.rrs_reports.specs.declared.commit_log.LogWindow.{LogWindow}
use Rattle.rrs_reports.specs.declared.commit_log.CommitLog.{CommitLog}
use Rattle.rrs_reports.specs.CommitLogs.{Entry, from_first, up_to, has_lines, lines_of, log_text, still_from, is_last, moved, is_reached, shows, Logs}

-- the window behind entries
abbrev pub window_after : LogWindow → List Entry → LogWindow
window_after w [] = w
window_after w (e ∷ entries) = window_after (moved w e.pc) entries

-- what is written of an entry
abbrev lines_shown : LogWindow → Entry → List ℕ
lines_shown w e = if shows w e then e.lines else []

-- the lines of entries whose first is reached
open_step : (to : Option ℕ) (only : Option CodeRange) (steps : Option StepRange) (e : Entry) (entries : List Entry)
    → lines_of only steps (up_to to (e ∷ entries))
    ≡ (if has_lines only steps e then e.lines else [])
    ++ (if is_last None to e.pc then [] else lines_of only steps (up_to to entries))
open_step None only steps e entries = refl
open_step (Some to) only steps e entries =
    elim (to == e.pc) as (λ v. lines_of only steps (if v then e ∷ [] else e ∷ up_to (Some to) entries)
    ≡ (if has_lines only steps e then e.lines else [])
    ++ (if v then [] else lines_of only steps (up_to (Some to) entries)))
    [ true ↦ refl | false ↦ refl ]

step_of : (over : Bool) (from to : Option ℕ) (only : Option CodeRange) (steps : Option StepRange) (e : Entry)
    (entries : List Entry)
    → (if over then [] else lines_of only steps (up_to to (from_first from (e ∷ entries))))
    ≡ (if (if over then false else is_reached (still_from from e.pc) && has_lines only steps e) then e.lines else [])
    ++ (if (if over then true else is_last (still_from from e.pc) to e.pc) then []
    else lines_of only steps (up_to to (from_first (still_from from e.pc) entries)))
step_of true from to only steps e entries = refl
step_of false None to only steps e entries = open_step to only steps e entries
step_of false (Some from) to only steps e entries =
    elim (from == e.pc) as (λ v. lines_of only steps (up_to to (if v then e ∷ entries else from_first (Some from) entries))
    ≡ (if is_reached (if v then None else Some from) && has_lines only steps e then e.lines else [])
    ++ (if is_last (if v then None else Some from) to e.pc then []
    else lines_of only steps (up_to to (from_first (if v then None else Some from) entries))))
    [ true ↦ open_step to only steps e entries | false ↦ refl ]

none_of : (over : Bool) (from to : Option ℕ) (only : Option CodeRange) (steps : Option StepRange)
    → (if over then [] else lines_of only steps (up_to to (from_first from []))) ≡ []
none_of true from to only steps = refl
none_of false None None only steps = refl
none_of false None (Some to) only steps = refl
none_of false (Some from) None only steps = refl
none_of false (Some from) (Some to) only steps = refl

text_none : (w : LogWindow) → log_text w [] ≡ []
text_none w = none_of w.is_over w.from w.to w.only w.steps

text_step : (w : LogWindow) (e : Entry) (entries : List Entry)
    → log_text w (e ∷ entries) ≡ lines_shown w e ++ log_text (moved w e.pc) entries
text_step w e entries = step_of w.is_over w.from w.to w.only w.steps e entries

window_last : (w : LogWindow) (rs : List Entry) (r : Entry)
    → window_after w (rs ++ r ∷ []) ≡ moved (window_after w rs) r.pc
window_last w [] r = refl
window_last w (x ∷ rs) r = window_last (moved w x.pc) rs r

text_last : (w : LogWindow) (rs : List Entry) (r : Entry)
    → log_text w (rs ++ r ∷ []) ≡ log_text w rs ++ lines_shown (window_after w rs) r
text_last w [] r =
    text_step w r []
    ∙ ap (λ l. lines_shown w r ++ l) (text_none (moved w r.pc))
    ∙ append-nil (lines_shown w r)
    ∙ sym (ap (λ l. l ++ lines_shown w r) (text_none w))
text_last w (x ∷ rs) r =
    let m = moved w x.pc in
    let last = lines_shown (window_after m rs) r in
    text_step w x (rs ++ r ∷ [])
    ∙ ap (λ l. lines_shown w x ++ l) (text_last m rs r)
    ∙ sym (append_assoc (lines_shown w x) (log_text m rs) last)
    ∙ ap (λ l. l ++ last) (sym (text_step w x rs))

-- what holds of a log that is not broken, and the entries of what it was shown
pub record Logged {W : Type 0} (contents : W → Option (List ℕ)) (window : LogWindow) (before : Option (List ℕ))
    (rs : List Entry) (log : CommitLog W) : Type 0 where
  pub window_is : log.window ≡ window_after window rs
  pub written : Appends before (contents log.out.now) (log_text window rs)

abbrev pub WhileWhole : {W : Type 0} → (W → Option (List ℕ)) → LogWindow → Option (List ℕ) → List Entry → CommitLog W → Type 0
WhileWhole contents window before rs log = log.is_broken ≡ false → Logged contents window before rs log

-- that it writes to what it wrote to at first, and this
pub record Held {W : Type 0} (contents : W → Option (List ℕ)) (window : LogWindow) (before : Option (List ℕ))
    (first : CommitLog W) (rs : List Entry) (log : CommitLog W) : Type 0 where
  pub same_out : log.out.ghost_name ≡ first.out.ghost_name
  pub whole : WhileWhole contents window before rs log

none_more : (a : Option (List ℕ)) → Appends a a []
none_more None = tt
none_more (Some xs) = sym (append-nil xs)

pub logged_none : {W : Type 0} (contents : W → Option (List ℕ)) (window : LogWindow) (log : CommitLog W)
    → log.window ≡ window → WhileWhole contents window (contents log.out.now) [] log
logged_none contents window log is is_whole = record {
  window_is = is;
  written = subst (Appends (contents log.out.now) (contents log.out.now)) (sym (text_none window))
      (none_more (contents log.out.now));
}

unwritten : {W : Type 0} (contents : W → Option (List ℕ)) (old : CommitLog W) (e : Entry)
    → (shows old.window e ≡ false) ⊎ (old.is_broken ≡ true)
    → Logs contents old e (record old { window = moved old.window e.pc })
unwritten contents old e (inl hid) = record {
  same_out = refl;
  window = refl;
  stays_broken = λ broken. broken;
  written = λ _. subst (λ (b : Bool). Appends (contents old.out.now) (contents old.out.now) (if b then e.lines else []))
      (sym hid) (none_more (contents old.out.now));
}
unwritten contents old e (inr broken) = record {
  same_out = refl;
  window = refl;
  stays_broken = λ is. is;
  written = λ whole. absurd (let differ : true ≡ false = sym broken ∙ whole in cc);
}

-- a step whose lines are not written
pub logs_hidden : {W : Type 0} (contents : W → Option (List ℕ)) (old : CommitLog W) (e : Entry) (new : CommitLog W)
    → new ≡ record old { window = moved old.window e.pc }
    → (shows old.window e ≡ false) ⊎ (old.is_broken ≡ true) → Logs contents old e new
logs_hidden contents old e new is why = subst (Logs contents old e) (sym is) (unwritten contents old e why)

-- one whose lines are
pub logs_shown : {W : Type 0} (contents : W → Option (List ℕ)) (old : CommitLog W) (e : Entry) (mid new : CommitLog W)
    (lines : List ℕ) → mid ≡ record old { window = moved old.window e.pc } → shows old.window e ≡ true → e.lines ≡ lines
    → new.out.ghost_name ≡ mid.out.ghost_name → new.window ≡ mid.window → (mid.is_broken ≡ true → new.is_broken ≡ true)
    → (new.is_broken ≡ false → Appends (contents mid.out.now) (contents new.out.now) lines) → Logs contents old e new
logs_shown {W} contents old e mid new lines is seen same name window stays written = record {
  same_out = name ∙ ap (λ (log : CommitLog W). log.out.ghost_name) is;
  window = window ∙ ap (λ (log : CommitLog W). log.window) is;
  stays_broken = λ broken. stays (ap (λ (log : CommitLog W). log.is_broken) is ∙ broken);
  written = λ whole.
      let all : (if shows old.window e then e.lines else []) ≡ lines =
      ap (λ (b : Bool). if b then e.lines else []) seen ∙ same in
      subst (Appends (contents old.out.now) (contents new.out.now)) (sym all)
      (subst (λ text. Appends text (contents new.out.now) lines) (ap (λ (log : CommitLog W). contents log.out.now) is)
      (written whole));
}

was_whole : (old new : Bool) → (old ≡ true → new ≡ true) → new ≡ false → old ≡ false
was_whole true new stays is = absurd (let differ : true ≡ false = sym (stays refl) ∙ is in cc)
was_whole false new stays is = refl

pub logged_more : {W : Type 0} (contents : W → Option (List ℕ)) (window : LogWindow) (before : Option (List ℕ))
    (rs : List Entry) (r : Entry) (log new : CommitLog W)
    → WhileWhole contents window before rs log → Logs contents log r new
    → WhileWhole contents window before (rs ++ r ∷ []) new
logged_more contents window before rs r log new whole logs is_whole =
    let was = was_whole log.is_broken new.is_broken logs.stays_broken is_whole in
    let here = whole was in
    let all : log_text window rs ++ lines_shown log.window r ≡ log_text window (rs ++ r ∷ []) =
    ap (λ w. log_text window rs ++ lines_shown w r) here.window_is ∙ sym (text_last window rs r) in
    record {
      window_is = logs.window ∙ ap (λ w. moved w r.pc) here.window_is ∙ sym (window_last window rs r);
      written = subst (Appends before (contents new.out.now)) all
          (Appends-trans before (contents log.out.now) (contents new.out.now) (log_text window rs) (lines_shown log.window r)
          here.written (logs.written is_whole));
    }

held_more : {W : Type 0} (contents : W → Option (List ℕ)) (window : LogWindow) (before : Option (List ℕ))
    (first : CommitLog W) (rs : List Entry) (r : Entry) (log new : CommitLog W)
    → Held contents window before first rs log → Logs contents log r new
    → Held contents window before first (rs ++ r ∷ []) new
held_more contents window before first rs r log new held logs = record {
  same_out = logs.same_out ∙ held.same_out;
  whole = logged_more contents window before rs r log new held.whole logs;
}

-- the same of entries that are those of records
pub held_of : {W X : Type 0} (contents : W → Option (List ℕ)) (window : LogWindow) (before : Option (List ℕ))
    (first : CommitLog W) (f : X → Entry) (rs : List X) (r : X) (log new : CommitLog W)
    → Held contents window before first (map f rs) log → Logs contents log (f r) new
    → Held contents window before first (map f (rs ++ r ∷ [])) new
held_of contents window before first f rs r log new held logs =
    subst (λ all. Held contents window before first all new) (sym (map-append f rs (r ∷ [])))
    (held_more contents window before first (map f rs) (f r) log new held logs)
