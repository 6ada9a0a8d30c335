-- What an answer leaves and means, by the subject of the packet.
use Rattle.std.proofs.Common.{◌≡◌, ◌≢◌, ◌⊎◌, ◌==◌, ◌||◌, if◌then◌else◌, ℕ, List, ◌∷◌, ◌++◌, drop, Bool, true, false, Result, Ok, Err, OnOk, IfOk, IsOk, codes, ◌-◌, ◌^◌, ◌<◌, length, slice_index, refl, sym, subst, ap, ◌∙◌, inl, inr, arith}
use Rattle.std.specs.Bool.{OnTrue, OnFalse}
use Rattle.std.proofs.lemmas.Bool.{OnTrue_at}
use Rattle.hex.specs.Hex.{decode_of}
use Rattle.rrs_lib.specs.Machine.{State}
use Rattle.rrs_linux.specs.Recording.{Recording}
use Rattle.rrs_gdb.specs.declared.session.Going.{Going}
use Rattle.rrs_gdb.specs.declared.session.Going.TheVariants.{Step, Proceed}
use Rattle.rrs_gdb.specs.declared.session.Next.{Next}
use Rattle.rrs_gdb.specs.declared.session.Subject.{Subject}
use Rattle.rrs_gdb.specs.declared.session.Subject.TheVariants.{Shown, Changed, Run, Named, Back, Breaks, Query, Session}
use Rattle.rrs_gdb.specs.declared.state.SessionState.{SessionState}
use Rattle.rrs_gdb.specs.declared.state.Caught.{Caught}
use Rattle.rrs_gdb.specs.declared.state.Settings.{Settings}
use Rattle.rrs_gdb.specs.Packets.{IsNumber, number, before, behind}
use Rattle.rrs_gdb.specs.Sessions.{letter, ChangesNone, RunsNone, ChangesRegister, ChangesMemory, BreaksNone, EndsBy, Monitors, RemovesBreak, SetsBreak, MemoryKept, RegistersKept, BreaksKept, SettingsKept, PlacesKept, SessionKept, ShowsPart, Tells, Catches, CatchesOrStays, Manages, ForgetsOrStays, has_ended, is_end, IsError, ShowsMemory, ShowsRegister, Asked, asked_by, Around, around, Most, one_step, up_to, GoesBy, HasAction, HasLetter, HasSignal, HasNoSignal, BySignal, Resumes, Signals, GoesOnUnless, Acts, GoesOnOrStays, SessionGoesBack}
use Rattle.rrs_gdb.specs.Answers.{Moment, around_in, ShowsNone, HasSubject, Shows, Sets, BeginsBy, Here, There, Goes, ActsBy, Returns, Asks, Stays, Leaves, Means}
use Rattle.rrs_gdb.specs.Shown.{registers_text, stop_text}
use Rattle.rrs_gdb.proofs.SessionLemmas.{BeginsAt, asked_kept, goes_same, step_from, go_from, resumes_here, resumes_there, resumes_not, signals_here, signals_there, signals_nowhere, signals_not}

-- ---- the subject of a letter

abbrev subject_at : ℕ → Subject
subject_at l =
    if l == 103 || l == 112 || l == 109 then Shown
    else if l == 71 || l == 80 || l == 77 || l == 88 then Changed
    else if l == 99 || l == 67 || l == 115 || l == 83 then Run
    else if l == 118 then Named
    else if l == 98 then Back
    else if l == 90 || l == 122 then Breaks
    else if l == 113 then Query
    else Session

shown_at : (payload : List ℕ) → HasSubject payload Shown → subject_at (letter payload) ≡ Shown
shown_at payload (inl is) = ap subject_at is
shown_at payload (inr (inl is)) = ap subject_at is
shown_at payload (inr (inr is)) = ap subject_at is

changed_at : (payload : List ℕ) → HasSubject payload Changed → subject_at (letter payload) ≡ Changed
changed_at payload (inl is) = ap subject_at is
changed_at payload (inr (inl is)) = ap subject_at is
changed_at payload (inr (inr (inl is))) = ap subject_at is
changed_at payload (inr (inr (inr is))) = ap subject_at is

run_at : (payload : List ℕ) → HasSubject payload Run → subject_at (letter payload) ≡ Run
run_at payload (inl is) = ap subject_at is
run_at payload (inr (inl is)) = ap subject_at is
run_at payload (inr (inr (inl is))) = ap subject_at is
run_at payload (inr (inr (inr is))) = ap subject_at is

breaks_at : (payload : List ℕ) → HasSubject payload Breaks → subject_at (letter payload) ≡ Breaks
breaks_at payload (inl is) = ap subject_at is
breaks_at payload (inr is) = ap subject_at is

-- letters of another subject
changes_none : (payload : List ℕ) (subject : Subject) → subject_at (letter payload) ≡ subject → subject ≢ Changed
    → ChangesNone payload
changes_none payload subject has other = (
  λ is. other (sym has ∙ ap subject_at is),
  λ is. other (sym has ∙ ap subject_at is),
  λ is. other (sym has ∙ ap subject_at is),
  λ is. other (sym has ∙ ap subject_at is),
)

shows_none : (payload : List ℕ) (subject : Subject) → subject_at (letter payload) ≡ subject → subject ≢ Shown
    → ShowsNone payload
shows_none payload subject has other = (
  λ is. other (sym has ∙ ap subject_at is),
  λ is. other (sym has ∙ ap subject_at is),
  λ is. other (sym has ∙ ap subject_at is),
)

-- none of `s`, `c`, `S` and `C`
abbrev GoesNone : List ℕ → Type 0
GoesNone payload =
    (letter payload ≢ 99) × (letter payload ≢ 67) × (letter payload ≢ 115) × (letter payload ≢ 83)

goes_none : (payload : List ℕ) (subject : Subject) → subject_at (letter payload) ≡ subject → subject ≢ Run
    → GoesNone payload
goes_none payload subject has other = (
  λ is. other (sym has ∙ ap subject_at is),
  λ is. other (sym has ∙ ap subject_at is),
  λ is. other (sym has ∙ ap subject_at is),
  λ is. other (sym has ∙ ap subject_at is),
)

not_named : (payload : List ℕ) (subject : Subject) → subject_at (letter payload) ≡ subject → subject ≢ Named
    → letter payload ≢ 118
not_named payload subject has other = λ is. other (sym has ∙ ap subject_at is)

not_back : (payload : List ℕ) (subject : Subject) → subject_at (letter payload) ≡ subject → subject ≢ Back
    → letter payload ≢ 98
not_back payload subject has other = λ is. other (sym has ∙ ap subject_at is)

either : {A B C : Type 0} → A ⊎ B → (A → ⊥) → (B → ⊥) → C
either (inl a) no_a no_b = absurd (no_a a)
either (inr b) no_a no_b = absurd (no_b b)

-- ---- what is said of no packet of another subject

no_shows : (payload : List ℕ) (s : State) (old new : List ℕ) → ShowsNone payload → Shows payload s old new
no_shows payload s old new none = record {
  registers = λ is. absurd (none.0 (ap (λ (xs : List ℕ). slice_index xs 0) is));
  register = λ is. absurd (none.1 is);
  memory = λ is. absurd (none.2 is);
}

no_sets : (payload : List ℕ) (s t : State) (old new : List ℕ) → ChangesNone payload → Sets payload s t old new
no_sets payload s t old new none = record {
  registers = λ is. absurd (none.0 is);
  register = λ is. absurd (none.1 is);
  memory = λ is. absurd (none.2 is);
  no_values = λ is. absurd (none.2 is);
  bytes = λ is. absurd (none.3 is);
}

-- and nothing is forgotten
no_forgets : {X : Type 0} (payload : List ℕ) → ChangesNone payload → ChangesRegister payload ⊎ ChangesMemory payload → X
no_forgets payload none (inl is) = either is none.0 none.1
no_forgets payload none (inr is) = either is none.2 none.3

no_goes : (payload : List ℕ) (m n : Moment) → GoesNone payload → Goes payload m n
no_goes payload m n none = record {
  step = λ is. either is none.2 none.3;
  goes_on = λ is. either is none.0 none.1;
  steps = λ is. absurd (none.2 is);
  continues = λ is. absurd (none.0 is);
  step_signal = λ is. absurd (none.3 is);
  signal = λ is. absurd (none.1 is);
}

no_acts : (payload : List ℕ) (m n : Moment) → letter payload ≢ 118 → ActsBy payload m n
no_acts payload m n none = record {
  goes_on = λ is. absurd (none is);
  acts = λ actions is. absurd (none (ap (λ (xs : List ℕ). slice_index xs 0) is));
}

no_returns : (payload : List ℕ) (m n : Moment) → letter payload ≢ 98 → Returns payload m n
no_returns payload m n none = record {
  step = λ is. absurd (none (ap (λ (xs : List ℕ). slice_index xs 0) is));
  goes_back = λ is. absurd (none (ap (λ (xs : List ℕ). slice_index xs 0) is));
  told = λ is. either is (λ at. none (ap (λ (xs : List ℕ). slice_index xs 0) at))
      (λ at. none (ap (λ (xs : List ℕ). slice_index xs 0) at));
}

breaks_none : (payload : List ℕ) (subject : Subject) → subject_at (letter payload) ≡ subject → subject ≢ Breaks
    → BreaksNone payload
breaks_none payload subject has other =
    (λ is. other (sym has ∙ ap subject_at is), λ is. other (sym has ∙ ap subject_at is))

-- another subject than that of this letter
not_at : (payload : List ℕ) (subject : Subject) (l : ℕ) → subject_at (letter payload) ≡ subject → subject ≢ subject_at l
    → letter payload ≢ l
not_at payload subject l has other = λ is. other (sym has ∙ ap subject_at is)

first_of : (xs ys : List ℕ) → xs ≡ ys → slice_index xs 0 ≡ slice_index ys 0
first_of xs ys same = ap (λ (zs : List ℕ). slice_index zs 0) same

no_asks : (payload : List ℕ) (m n : Moment) → BreaksNone payload → letter payload ≢ 63 → letter payload ≢ 113
    → Asks payload m n
no_asks payload m n none no_stop no_query = record {
  sets_break = λ is. absurd (none.0 is);
  removes_break = λ is. absurd (none.1 is);
  stopped = λ is. absurd (no_stop (first_of _ _ is));
  monitors = λ digits command is _. absurd (no_query (first_of _ _ is));
  questions = λ is _. absurd (no_query is);
}

asks_none : (payload : List ℕ) (m n : Moment) (subject : Subject) → subject_at (letter payload) ≡ subject
    → subject ≢ Breaks → subject ≢ Session → subject ≢ Query → Asks payload m n
asks_none payload m n subject at breaks session query =
    no_asks payload m n (breaks_none payload subject at breaks) (not_at payload subject 63 at session)
    (not_at payload subject 113 at query)

-- ---- what an answer leaves

memory_same : (s t : State) → t ≡ s → MemoryKept s t
memory_same s t same = record {
  last_kept = ap (λ (x : State). x.last) same;
  bytes_kept = ap (λ (x : State). x.bytes) same;
  writable_kept = ap (λ (x : State). x.writable) same;
}

registers_same : (s t : State) → t ≡ s → RegistersKept s t
registers_same s t same = record {
  registers_kept = ap (λ (x : State). x.registers) same;
  pc_kept = ap (λ (x : State). x.pc) same;
  last_kept = ap (λ (x : State). x.last) same;
  writable_kept = ap (λ (x : State). x.writable) same;
}

-- nothing changes
pub leaves_all : (payload : List ℕ) (m n : Moment) → n.state ≡ m.state → n.environment ≡ m.environment
    → SessionKept m.session n.session → Leaves payload m n
leaves_all payload m n same same' kept = record {
  asks = λ _ _. same;
  registers = λ _. memory_same m.state n.state same;
  memory = λ _. registers_same m.state n.state same;
  environment = λ _. same';
  breaks = λ _. record { stops_kept = kept.stops_kept; watches_kept = kept.watches_kept };
  settings = λ _. kept.settings_kept;
  history = λ _ _ _. kept.history_kept;
}

pub leaves_breaks : (payload : List ℕ) (m n : Moment) → HasSubject payload Breaks → n.state ≡ m.state
    → n.environment ≡ m.environment → SettingsKept m.session n.session → Leaves payload m n
leaves_breaks payload m n is same same' kept = record {
  asks = λ _ _. same;
  registers = λ _. memory_same m.state n.state same;
  memory = λ _. registers_same m.state n.state same;
  environment = λ _. same';
  breaks = λ none. either is none.0 none.1;
  settings = λ _. kept.settings_kept;
  history = λ _ _ _. kept.history_kept;
}

pub leaves_query : (payload : List ℕ) (m n : Moment) → HasSubject payload Query → n.state ≡ m.state
    → n.environment ≡ m.environment → BreaksKept m.session n.session → Leaves payload m n
leaves_query payload m n is same same' kept = record {
  asks = λ _ _. same;
  registers = λ _. memory_same m.state n.state same;
  memory = λ _. registers_same m.state n.state same;
  environment = λ _. same';
  breaks = λ _. kept;
  settings = λ other. absurd (other is);
  history = λ _ _ other. absurd (other is);
}

changes_some : (payload : List ℕ) → HasSubject payload Changed → ChangesNone payload → ⊥
changes_some payload (inl is) none = none.0 is
changes_some payload (inr (inl is)) none = none.1 is
changes_some payload (inr (inr (inl is))) none = none.2 is
changes_some payload (inr (inr (inr is))) none = none.3 is

pub leaves_changed : (payload : List ℕ) (m n : Moment) → HasSubject payload Changed → PlacesKept m.session n.session
    → n.environment ≡ m.environment → (ChangesRegister payload → MemoryKept m.state n.state)
    → (ChangesMemory payload → RegistersKept m.state n.state) → Leaves payload m n
leaves_changed payload m n is kept same registers memory = record {
  asks = λ none _. absurd (changes_some payload is none);
  registers = registers;
  memory = memory;
  environment = λ _. same;
  breaks = λ _. record { stops_kept = kept.stops_kept; watches_kept = kept.watches_kept };
  settings = λ _. kept.settings_kept;
  history = λ none _ _. absurd (changes_some payload is none);
}

-- the program may go on or back
leaves_going : (payload : List ℕ) (m n : Moment) → (RunsNone payload → ⊥) → ChangesNone payload
    → PlacesKept m.session n.session → Leaves payload m n
leaves_going payload m n runs none kept = record {
  asks = λ _ still. absurd (runs still);
  registers = λ is. either is none.0 none.1;
  memory = λ is. either is none.2 none.3;
  environment = λ still. absurd (runs still);
  breaks = λ _. record { stops_kept = kept.stops_kept; watches_kept = kept.watches_kept };
  settings = λ _. kept.settings_kept;
  history = λ _ still _. absurd (runs still);
}

runs_some : (payload : List ℕ) → HasSubject payload Run → RunsNone payload → ⊥
runs_some payload (inl is) none = none.0 is
runs_some payload (inr (inl is)) none = none.1 is
runs_some payload (inr (inr (inl is))) none = none.2 is
runs_some payload (inr (inr (inr is))) none = none.3 is

pub leaves_run : (payload : List ℕ) (m n : Moment) → HasSubject payload Run → PlacesKept m.session n.session
    → Leaves payload m n
leaves_run payload m n is kept =
    leaves_going payload m n (runs_some payload is) (changes_none payload Run (run_at payload is) (λ same. cc)) kept

pub leaves_named : (payload : List ℕ) (m n : Moment) → HasSubject payload Named → PlacesKept m.session n.session
    → Leaves payload m n
leaves_named payload m n is kept =
    leaves_going payload m n (λ none. none.4 is) (changes_none payload Named (ap subject_at is) (λ same. cc)) kept

pub leaves_back : (payload : List ℕ) (m n : Moment) → HasSubject payload Back → PlacesKept m.session n.session
    → Leaves payload m n
leaves_back payload m n is kept =
    leaves_going payload m n (λ none. none.5 is) (changes_none payload Back (ap subject_at is) (λ same. cc)) kept

-- ---- what a packet means

-- of the subjects of which nothing is said
means_none : (payload : List ℕ) (m n : Moment) → ShowsNone payload → ChangesNone payload → GoesNone payload
    → letter payload ≢ 118 → letter payload ≢ 98 → Asks payload m n
    → (letter payload ≢ 113 → IsError m.reply n.reply → Stays m n) → Means payload m n
means_none payload m n shows changes goes named back asks error = record {
  shows = no_shows payload m.state m.reply n.reply shows;
  sets = no_sets payload m.state n.state m.reply n.reply changes;
  goes = no_goes payload m n goes;
  acts = no_acts payload m n named;
  returns = no_returns payload m n back;
  asks = asks;
  forgets = no_forgets payload changes;
  error = error;
}

pub means_session : (payload : List ℕ) (m n : Moment) → HasSubject payload Session → n.state ≡ m.state
    → n.environment ≡ m.environment → SessionKept m.session n.session
    → (payload ≡ codes "?" → n.reply ≡ m.reply ++ stop_text m.session.stop) → Means payload m n
means_session payload m n is same same' kept stopped =
    let runs = is.1 in
    means_none payload m n is.2 is.0 (runs.0, runs.1, runs.2, runs.3) runs.4 runs.5
    (record {
      sets_break = λ at. absurd (is.4.0 at);
      removes_break = λ at. absurd (is.4.1 at);
      stopped = stopped;
      monitors = λ digits command at _. absurd (is.3 (first_of _ _ at));
      questions = λ at _. absurd (is.3 at);
    })
    (λ _ _. record { state_kept = same; environment_kept = same'; session_kept = kept })

means_breaks : (payload : List ℕ) (m n : Moment) → HasSubject payload Breaks → n.state ≡ m.state
    → n.environment ≡ m.environment → (IsError m.reply n.reply → SessionKept m.session n.session)
    → Asks payload m n → Means payload m n
means_breaks payload m n is same same' kept asks =
    let at = breaks_at payload is in
    means_none payload m n (shows_none payload Breaks at (λ e. cc)) (changes_none payload Breaks at (λ e. cc))
    (goes_none payload Breaks at (λ e. cc)) (not_named payload Breaks at (λ e. cc)) (not_back payload Breaks at (λ e. cc))
    asks (λ _ error. record { state_kept = same; environment_kept = same'; session_kept = kept error })

means_query : (payload : List ℕ) (m n : Moment) → HasSubject payload Query
    → ((digits command : List ℕ) → payload ≡ codes "qRcmd," ++ digits → decode_of digits ≡ Ok command
    → Monitors (before 32 command) (behind 32 command) m.session n.session m.reply n.reply)
    → (((digits : List ℕ) → payload ≢ codes "qRcmd," ++ digits) → n.session ≡ m.session) → Means payload m n
means_query payload m n is monitors questions =
    let at : subject_at (letter payload) ≡ Query = ap subject_at is in
    means_none payload m n (shows_none payload Query at (λ e. cc)) (changes_none payload Query at (λ e. cc))
    (goes_none payload Query at (λ e. cc)) (not_named payload Query at (λ e. cc)) (not_back payload Query at (λ e. cc))
    (record {
      sets_break = λ at'. absurd ((breaks_none payload Query at (λ e. cc)).0 at');
      removes_break = λ at'. absurd ((breaks_none payload Query at (λ e. cc)).1 at');
      stopped = λ at'. absurd (not_at payload Query 63 at (λ e. cc) (first_of _ _ at'));
      monitors = monitors;
      questions = λ _. questions;
    })
    (λ other _. absurd (other is))

means_shown : (payload : List ℕ) (m n : Moment) → HasSubject payload Shown → n.state ≡ m.state
    → n.environment ≡ m.environment → SessionKept m.session n.session → Shows payload m.state m.reply n.reply
    → Means payload m n
means_shown payload m n is same same' kept shows =
    let at = shown_at payload is in
    record {
      shows = shows;
      sets = no_sets payload m.state n.state m.reply n.reply (changes_none payload Shown at (λ e. cc));
      goes = no_goes payload m n (goes_none payload Shown at (λ e. cc));
      acts = no_acts payload m n (not_named payload Shown at (λ e. cc));
      returns = no_returns payload m n (not_back payload Shown at (λ e. cc));
      asks = asks_none payload m n Shown at (λ e. cc) (λ e. cc) (λ e. cc);
      forgets = no_forgets payload (changes_none payload Shown at (λ e. cc));
      error = λ _ _. record { state_kept = same; environment_kept = same'; session_kept = kept };
    }

means_changed : (payload : List ℕ) (m n : Moment) → HasSubject payload Changed → n.environment ≡ m.environment
    → Sets payload m.state n.state m.reply n.reply → ForgetsOrStays m.state n.state m.session n.session
    → (IsError m.reply n.reply → (n.state ≡ m.state) × SessionKept m.session n.session) → Means payload m n
means_changed payload m n is same sets forgets error =
    let at = changed_at payload is in
    record {
      shows = no_shows payload m.state m.reply n.reply (shows_none payload Changed at (λ e. cc));
      sets = sets;
      goes = no_goes payload m n (goes_none payload Changed at (λ e. cc));
      acts = no_acts payload m n (not_named payload Changed at (λ e. cc));
      returns = no_returns payload m n (not_back payload Changed at (λ e. cc));
      asks = asks_none payload m n Changed at (λ e. cc) (λ e. cc) (λ e. cc);
      forgets = λ _. forgets;
      error = λ _ is. record { state_kept = (error is).0; environment_kept = same; session_kept = (error is).1 };
    }

means_run : (payload : List ℕ) (m n : Moment) → HasSubject payload Run → Goes payload m n
    → (IsError m.reply n.reply → (n.state ≡ m.state) × (n.environment ≡ m.environment) × SessionKept m.session n.session)
    → Means payload m n
means_run payload m n is goes error =
    let at = run_at payload is in
    record {
      shows = no_shows payload m.state m.reply n.reply (shows_none payload Run at (λ e. cc));
      sets = no_sets payload m.state n.state m.reply n.reply (changes_none payload Run at (λ e. cc));
      goes = goes;
      acts = no_acts payload m n (not_named payload Run at (λ e. cc));
      returns = no_returns payload m n (not_back payload Run at (λ e. cc));
      asks = asks_none payload m n Run at (λ e. cc) (λ e. cc) (λ e. cc);
      forgets = no_forgets payload (changes_none payload Run at (λ e. cc));
      error = λ _ is.
          record { state_kept = (error is).0; environment_kept = (error is).1; session_kept = (error is).2 };
    }

means_named : (payload : List ℕ) (m n : Moment) → HasSubject payload Named
    → ((most : Most) × GoesOnOrStays (asked_by m.session) most (around_in m) m.state (around_in n) n.state)
    → ((actions : List ℕ) → payload ≡ 118 ∷ 67 ∷ 111 ∷ 110 ∷ 116 ∷ 59 ∷ actions → Acts actions (has_ended m.session)
    (asked_by m.session) m.session.settings.limit (around_in m) m.state (around_in n) n.state m.reply n.reply)
    → (IsError m.reply n.reply → (n.state ≡ m.state) × (n.environment ≡ m.environment) × SessionKept m.session n.session)
    → Means payload m n
means_named payload m n is goes_on acts error =
    let at : subject_at (letter payload) ≡ Named = ap subject_at is in
    record {
      shows = no_shows payload m.state m.reply n.reply (shows_none payload Named at (λ e. cc));
      sets = no_sets payload m.state n.state m.reply n.reply (changes_none payload Named at (λ e. cc));
      goes = no_goes payload m n (goes_none payload Named at (λ e. cc));
      acts = record { goes_on = λ _. goes_on; acts = acts };
      returns = no_returns payload m n (not_back payload Named at (λ e. cc));
      asks = asks_none payload m n Named at (λ e. cc) (λ e. cc) (λ e. cc);
      forgets = no_forgets payload (changes_none payload Named at (λ e. cc));
      error = λ _ is.
          record { state_kept = (error is).0; environment_kept = (error is).1; session_kept = (error is).2 };
    }

means_back : (payload : List ℕ) (m n : Moment) → HasSubject payload Back
    → Returns payload m n → (IsError m.reply n.reply → ⊥) → Means payload m n
means_back payload m n is returns no_error =
    let at : subject_at (letter payload) ≡ Back = ap subject_at is in
    record {
      shows = no_shows payload m.state m.reply n.reply (shows_none payload Back at (λ e. cc));
      sets = no_sets payload m.state n.state m.reply n.reply (changes_none payload Back at (λ e. cc));
      goes = no_goes payload m n (goes_none payload Back at (λ e. cc));
      acts = no_acts payload m n (not_named payload Back at (λ e. cc));
      returns = returns;
      asks = asks_none payload m n Back at (λ e. cc) (λ e. cc) (λ e. cc);
      forgets = no_forgets payload (changes_none payload Back at (λ e. cc));
      error = λ _ is. absurd (no_error is);
    }

-- ---- `s`, `c`, `S` and `C`

begins_at : (rest : List ℕ) (a : Around) (s : State) (a' : Around) (s' : State) → BeginsBy rest a s a' s'
    → BeginsAt a s a' s'
begins_at rest a s a' s' (Here empty same same') = inl (same, same')
begins_at rest a s a' s' (There is same same') = inr (number rest, same, same')

resumes_by : (text rest : List ℕ) (ended : Bool) (asked : Asked) (most : Most) (a a' b : Around)
    (s s' t : State) (old new : List ℕ) → rest ≡ text → BeginsBy rest a s a' s'
    → GoesOnUnless ended asked most a' s' b t → new ≡ old ++ stop_text b.stop
    → Resumes text ended asked most a s b t old new
resumes_by text rest ended asked most a a' b s s' t old new same (Here empty around at) goes told =
    resumes_here text rest ended asked most a a' b s s' t old new same (ap length empty) around at goes told
resumes_by text rest ended asked most a a' b s s' t old new same (There is around at) goes told =
    resumes_there text rest (number rest) ended asked most a a' b s s' t old new same is refl around at goes told

signals_by : (text rest : List ℕ) (by going : Going) (ended : Bool) (asked : Asked) (most : Most) (limit : ℕ)
    (a a' b : Around) (s s' t : State) (old new : List ℕ)
    → ((x : Around) (u : State) → GoesBy by ended asked limit x u b t → GoesOnUnless ended asked most x u b t)
    → BySignal text by going rest → BeginsBy rest a s a' s' → GoesBy going ended asked limit a' s' b t
    → new ≡ old ++ stop_text b.stop → Signals text ended asked most a s b t old new
signals_by text rest by going ended asked most limit a a' b s s' t old new same is (Here empty around begins) goes told =
    signals_here text rest by going ended asked most limit a a' b s s' t old new same is (ap length empty) around begins
    goes told
signals_by text rest by going ended asked most limit a a' b s s' t old new same is (There is' around begins) goes told =
    signals_there text rest (number rest) by going ended asked most limit a a' b s s' t old new same is is' refl
    around begins goes told

-- the program goes on, from the address if there is one
goes_at : (payload rest : List ℕ) (going : Going) (m n : Moment) (a' : Around) (s' : State) → HasLetter payload going
    → HasAction payload going rest → HasSignal payload going rest → BeginsBy rest (around_in m) m.state a' s'
    → GoesBy going (has_ended m.session) (asked_by m.session) m.session.settings.limit a' s' (around_in n) n.state
    → n.reply ≡ m.reply ++ stop_text n.session.stop → Goes payload m n
goes_at payload rest going m n a' s' has action signal begins goes told =
    let ended = has_ended m.session in
    let asked = asked_by m.session in
    let limit = m.session.settings.limit in
    let a = around_in m in
    let b = around_in n in
    record {
      step = λ is.
          step_from payload going ended asked limit a a' b m.state s' n.state is has
          (begins_at rest a m.state a' s' begins) goes;
      goes_on = λ is.
          go_from payload going ended asked limit a a' b m.state s' n.state is has
          (begins_at rest a m.state a' s' begins) goes;
      steps = λ is.
          let so = action.0 is in
          resumes_by _ rest ended asked one_step a a' b m.state s' n.state m.reply n.reply so.1 begins
          (subst (λ (g : Going). GoesBy g ended asked limit a' s' b n.state) so.0 goes) told;
      continues = λ is.
          let so = action.1 is in
          resumes_by _ rest ended asked (up_to limit) a a' b m.state s' n.state m.reply n.reply so.1 begins
          (subst (λ (g : Going). GoesBy g ended asked limit a' s' b n.state) so.0 goes) told;
      step_signal = λ is.
          signals_by _ rest Step going ended asked one_step limit a a' b m.state s' n.state m.reply n.reply
          (λ x u by. by) (signal.0 is) begins goes told;
      signal = λ is.
          signals_by _ rest Proceed going ended asked (up_to limit) limit a a' b m.state s' n.state m.reply n.reply
          (λ x u by. by) (signal.1 is) begins goes told;
    }

-- with what is kept before it goes on
goes_kept : (payload rest : List ℕ) (going : Going) (m n : Moment) (mid : SessionState) (s' : State)
    → HasLetter payload going → HasAction payload going rest → HasSignal payload going rest
    → PlacesKept m.session mid → BeginsBy rest (around_in m) m.state (around mid m.environment) s'
    → has_ended mid ≡ has_ended m.session
    → GoesBy going (has_ended mid) (asked_by mid) mid.settings.limit (around mid m.environment) s' (around_in n) n.state
    → n.reply ≡ m.reply ++ stop_text n.session.stop → Goes payload m n
goes_kept payload rest going m n mid s' has action signal kept begins same goes told =
    goes_at payload rest going m n (around mid m.environment) s' has action signal begins
    (goes_same going _ _ _ _ _ _ (around mid m.environment) (around_in n) s' n.state same (asked_kept m.session mid kept)
    (ap (λ (x : Settings). x.limit) kept.settings_kept) goes) told

-- a program has ended or not as before
pub ended_same : (rest : List ℕ) (session mid : SessionState) (e : Recording) (s s' : State)
    → BeginsBy rest (around session e) s (around mid e) s' → has_ended mid ≡ has_ended session
ended_same rest session mid e s s' (Here empty same same') = ap (λ (a : Around). is_end a.stop) same
ended_same rest session mid e s s' (There is same same') = ap (λ (a : Around). is_end a.stop) same

pub goes_begun : {A F : Type 0} (r : Result A F) (payload rest : List ℕ) (going : Going) (m n : Moment)
    (mid : SessionState) (s' : State) (begun : Bool) → HasLetter payload going → HasAction payload going rest
    → HasSignal payload going rest → PlacesKept m.session mid
    → begun ≡ true → OnTrue begun (BeginsBy rest (around_in m) m.state (around mid m.environment) s')
    → OnOk r (GoesBy going (has_ended mid) (asked_by mid) mid.settings.limit
    (around mid m.environment) s' (around_in n) n.state)
    → OnOk r (n.reply ≡ m.reply ++ stop_text n.session.stop) → OnOk r (Goes payload m n)
goes_begun (Ok x) payload rest going m n mid s' begun has action signal kept is begins goes told =
    let so = OnTrue_at is begins in
    goes_kept payload rest going m n mid s' has action signal kept so
    (ended_same rest m.session mid m.environment m.state s' so) goes told
goes_begun (Err f) payload rest going m n mid s' begun has action signal kept is begins goes told = tt

-- what stands after the letter is no address
pub goes_nowhere : {A F : Type 0} (r : Result A F) (payload rest : List ℕ) (going : Going) (m n : Moment)
    → HasAction payload going rest → HasSignal payload going rest → 0 < length rest → ¬ IsNumber rest
    → n.state ≡ m.state → n.environment ≡ m.environment → OnOk r (IsError m.reply n.reply)
    → OnOk r (Goes payload m n)
goes_nowhere (Ok x) payload rest going m n action signal some not same same' error = record {
  step = λ _. inl (inl (same', same));
  goes_on = λ _. inl (inl (same', same));
  steps = λ is. resumes_not _ rest _ _ _ _ _ _ _ _ _ (action.0 is).1 some not error;
  continues = λ is. resumes_not _ rest _ _ _ _ _ _ _ _ _ (action.1 is).1 some not error;
  step_signal = λ is. signals_nowhere _ rest Step going _ _ _ _ _ _ _ _ _ (signal.0 is) some not error;
  signal = λ is. signals_nowhere _ rest Proceed going _ _ _ _ _ _ _ _ _ (signal.1 is) some not error;
}
goes_nowhere (Err f) payload rest going m n action signal some not same same' error = tt

-- there is no such action, as after no signal
pub goes_refused : {A F : Type 0} (r : Result A F) (payload : List ℕ) (m n : Moment) → HasNoSignal payload
    → letter payload ≢ 115 → letter payload ≢ 99 → n.state ≡ m.state → n.environment ≡ m.environment
    → OnOk r (IsError m.reply n.reply) → OnOk r (Goes payload m n)
goes_refused (Ok x) payload m n signal no_step no_continue same same' error = record {
  step = λ _. inl (inl (same', same));
  goes_on = λ _. inl (inl (same', same));
  steps = λ is. absurd (no_step is);
  continues = λ is. absurd (no_continue is);
  step_signal = λ is. signals_not _ _ _ _ _ _ _ _ _ _ (signal.0 is) error;
  signal = λ is. signals_not _ _ _ _ _ _ _ _ _ _ (signal.1 is) error;
}
goes_refused (Err f) payload m n signal no_step no_continue same same' error = tt

-- ---- what a result says

-- an answer that is whole
pub behind_answer : {A B E F : Type 0} (P : Type 0) (r : Result A E) (answered : Result B F) → OnOk r (IsOk answered)
    → OnOk answered P → OnOk r P
behind_answer P (Ok x) (Ok y) is holds = holds
behind_answer P (Ok x) (Err f) is holds = absurd (cc)
behind_answer P (Err e) answered is holds = tt

pub always : {A E : Type 0} (P : Type 0) (r : Result A E) → P → OnOk r P
always P (Ok x) holds = holds
always P (Err e) holds = tt

pub no_such : {A F : Type 0} (r : Result A F) (P Q : Type 0) → OnOk r (P → ⊥) → OnOk r (P → Q)
no_such (Ok x) P Q none = λ is. absurd (none is)
no_such (Err f) P Q none = tt

-- what is meant of an answer that is whole
pub on_means : {A F Q : Type 0} (r : Result A F) (payload : List ℕ) (m n : Moment) → OnOk r (Means payload m n)
    → (Means payload m n → Q) → OnOk r Q
on_means (Ok x) payload m n means part = part means
on_means (Err f) payload m n means part = tt

-- ---- the same of a result

pub shows_g : {A F : Type 0} (r : Result A F) (payload : List ℕ) (s : State) (old new : List ℕ)
    → letter payload ≡ 103 → OnOk r (new ≡ old ++ registers_text s) → OnOk r (Shows payload s old new)
shows_g (Ok x) payload s old new is shown = record {
  registers = λ _. shown;
  register = λ is'. absurd (omega (arith, is, is'));
  memory = λ is'. absurd (omega (arith, is, is'));
}
shows_g (Err f) payload s old new is shown = tt

pub shows_p : {A F : Type 0} (r : Result A F) (payload text : List ℕ) (s : State) (old new : List ℕ)
    → letter payload ≡ 112 → text ≡ drop 1 payload → OnOk r (ShowsRegister text s old new)
    → OnOk r (Shows payload s old new)
shows_p (Ok x) payload text s old new is same shown = record {
  registers = λ is'. absurd (omega (arith, is, ap (λ (xs : List ℕ). slice_index xs 0) is'));
  register = λ _. subst (λ (xs : List ℕ). ShowsRegister xs s old new) same shown;
  memory = λ is'. absurd (omega (arith, is, is'));
}
shows_p (Err f) payload text s old new is same shown = tt

pub shows_m : {A F : Type 0} (r : Result A F) (payload text : List ℕ) (s : State) (old new : List ℕ)
    → letter payload ≡ 109 → text ≡ drop 1 payload → OnOk r (ShowsMemory text s old new)
    → OnOk r (Shows payload s old new)
shows_m (Ok x) payload text s old new is same shown = record {
  registers = λ is'. absurd (omega (arith, is, ap (λ (xs : List ℕ). slice_index xs 0) is'));
  register = λ is'. absurd (omega (arith, is, is'));
  memory = λ _. subst (λ (xs : List ℕ). ShowsMemory xs s old new) same shown;
}
shows_m (Err f) payload text s old new is same shown = tt

pub means_shown_ok : {A F : Type 0} (r : Result A F) (payload : List ℕ) (m n : Moment) → HasSubject payload Shown
    → n.state ≡ m.state → n.environment ≡ m.environment → SessionKept m.session n.session
    → OnOk r (Shows payload m.state m.reply n.reply) → OnOk r (Means payload m n)
means_shown_ok (Ok x) payload m n is same same' kept shows = means_shown payload m n is same same' kept shows
means_shown_ok (Err f) payload m n is same same' kept shows = tt

pub means_changed_ok : {A F : Type 0} (r : Result A F) (payload : List ℕ) (m n : Moment) → HasSubject payload Changed
    → n.environment ≡ m.environment → OnOk r (Sets payload m.state n.state m.reply n.reply)
    → OnOk r (ForgetsOrStays m.state n.state m.session n.session)
    → OnOk r (IsError m.reply n.reply → (n.state ≡ m.state) × SessionKept m.session n.session)
    → OnOk r (Means payload m n)
means_changed_ok (Ok x) payload m n is same sets forgets error = means_changed payload m n is same sets forgets error
means_changed_ok (Err f) payload m n is same sets forgets error = tt

pub means_run_ok : {A F : Type 0} (r : Result A F) (payload : List ℕ) (m n : Moment) → HasSubject payload Run
    → OnOk r (Goes payload m n)
    → OnOk r (IsError m.reply n.reply
    → (n.state ≡ m.state) × (n.environment ≡ m.environment) × SessionKept m.session n.session)
    → OnOk r (Means payload m n)
means_run_ok (Ok x) payload m n is goes error = means_run payload m n is goes error
means_run_ok (Err f) payload m n is goes error = tt

pub means_named_ok : {A F : Type 0} (r : Result A F) (payload : List ℕ) (m n : Moment) → HasSubject payload Named
    → OnOk r ((most : Most) × GoesOnOrStays (asked_by m.session) most (around_in m) m.state (around_in n) n.state)
    → ((actions : List ℕ) → payload ≡ 118 ∷ 67 ∷ 111 ∷ 110 ∷ 116 ∷ 59 ∷ actions
    → OnOk r (Acts actions (has_ended m.session) (asked_by m.session) m.session.settings.limit
    (around_in m) m.state (around_in n) n.state m.reply n.reply))
    → OnOk r (IsError m.reply n.reply
    → (n.state ≡ m.state) × (n.environment ≡ m.environment) × SessionKept m.session n.session)
    → OnOk r (Means payload m n)
means_named_ok (Ok x) payload m n is goes_on acts error = means_named payload m n is goes_on acts error
means_named_ok (Err f) payload m n is goes_on acts error = tt

pub means_back_ok : {A F : Type 0} (r : Result A F) (payload : List ℕ) (m n : Moment) → HasSubject payload Back
    → (payload ≡ codes "bs" → SessionGoesBack 1
    n.session.stop m.session m.environment m.state n.session n.environment n.state)
    → (payload ≡ codes "bc" → SessionGoesBack (2 ^ 64 - 1)
    n.session.stop m.session m.environment m.state n.session n.environment n.state)
    → ((payload ≡ codes "bs") ⊎ (payload ≡ codes "bc")
    → OnOk r (n.reply ≡ m.reply ++ stop_text n.session.stop))
    → OnOk r (IsError m.reply n.reply → ⊥) → OnOk r (Means payload m n)
means_back_ok (Ok x) payload m n is step goes_back told no_error =
    means_back payload m n is (record { step = step; goes_back = goes_back; told = told }) no_error
means_back_ok (Err f) payload m n is step goes_back told no_error = tt

-- an error is told where a breakpoint or a watchpoint could not be set
kept_both : (old new : SessionState) → SettingsKept old new → BreaksKept old new → SessionKept old new
kept_both old new settings breaks = record {
  stops_kept = breaks.stops_kept;
  watches_kept = breaks.watches_kept;
  settings_kept = settings.settings_kept;
  history_kept = settings.history_kept;
  reserved_kept = settings.reserved_kept;
}

pub means_breaks_ok : {A F : Type 0} (r : Result A F) (payload : List ℕ) (m n : Moment) → HasSubject payload Breaks
    → n.state ≡ m.state → n.environment ≡ m.environment → SettingsKept m.session n.session
    → OnOk r (IsError m.reply n.reply → BreaksKept m.session n.session)
    → (letter payload ≡ 90
    → OnOk r (SetsBreak (drop 1 payload) m.session.breaks n.session.breaks m.reply n.reply))
    → (letter payload ≡ 122
    → OnOk r (RemovesBreak (drop 1 payload) m.session.breaks n.session.breaks m.reply n.reply))
    → OnOk r (Means payload m n)
means_breaks_ok (Ok x) payload m n is same same' settings breaks sets removes =
    means_breaks payload m n is same same'
    (λ error. kept_both m.session n.session settings (breaks error))
    (record {
      sets_break = sets;
      removes_break = removes;
      stopped = λ at. absurd (not_at payload Breaks 63 (breaks_at payload is) (λ e. cc) (first_of _ _ at));
      monitors = λ digits command at _.
          absurd (not_at payload Breaks 113 (breaks_at payload is) (λ e. cc) (first_of _ _ at));
      questions = λ at _. absurd (not_at payload Breaks 113 (breaks_at payload is) (λ e. cc) at);
    })
means_breaks_ok (Err f) payload m n is same same' settings breaks sets removes = tt

pub means_query_ok : {A F : Type 0} (r : Result A F) (payload : List ℕ) (m n : Moment) → HasSubject payload Query
    → ((digits : List ℕ) → payload ≡ codes "qRcmd," ++ digits
    → OnOk r ((command : List ℕ) → decode_of digits ≡ Ok command
    → Monitors (before 32 command) (behind 32 command) m.session n.session m.reply n.reply))
    → (((digits : List ℕ) → payload ≢ codes "qRcmd," ++ digits) → n.session ≡ m.session)
    → OnOk r (Means payload m n)
means_query_ok (Ok x) payload m n is monitors questions =
    means_query payload m n is (λ digits command at. monitors digits at command) questions
means_query_ok (Err f) payload m n is monitors questions = tt

-- ---- what follows

ends_none : (payload : List ℕ) (subject : Subject) (next : Next) → subject_at (letter payload) ≡ subject
    → subject ≢ Session → EndsBy payload next
ends_none payload subject next at other = record {
  detaches = λ is. absurd (not_at payload subject 68 at other is);
  kills = λ is. absurd (not_at payload subject 107 at other (first_of _ _ is));
  restarts = λ is. absurd (not_at payload subject 82 at other is);
}

ends_ok : {F : Type 0} (r : Result Next F) (payload : List ℕ) (subject : Subject)
    → subject_at (letter payload) ≡ subject → subject ≢ Session → IfOk r (λ next. EndsBy payload next)
ends_ok (Ok next) payload subject at other = ends_none payload subject next at other
ends_ok (Err f) payload subject at other = tt

pub ends_shown : {F : Type 0} (r : Result Next F) (payload : List ℕ) → HasSubject payload Shown
    → IfOk r (λ next. EndsBy payload next)
ends_shown r payload is = ends_ok r payload Shown (shown_at payload is) (λ e. cc)

pub ends_changed : {F : Type 0} (r : Result Next F) (payload : List ℕ) → HasSubject payload Changed
    → IfOk r (λ next. EndsBy payload next)
ends_changed r payload is = ends_ok r payload Changed (changed_at payload is) (λ e. cc)

pub ends_run : {F : Type 0} (r : Result Next F) (payload : List ℕ) → HasSubject payload Run
    → IfOk r (λ next. EndsBy payload next)
ends_run r payload is = ends_ok r payload Run (run_at payload is) (λ e. cc)

pub ends_named : {F : Type 0} (r : Result Next F) (payload : List ℕ) → HasSubject payload Named
    → IfOk r (λ next. EndsBy payload next)
ends_named r payload is = ends_ok r payload Named (ap subject_at is) (λ e. cc)

pub ends_back : {F : Type 0} (r : Result Next F) (payload : List ℕ) → HasSubject payload Back
    → IfOk r (λ next. EndsBy payload next)
ends_back r payload is = ends_ok r payload Back (ap subject_at is) (λ e. cc)

pub ends_breaks : {F : Type 0} (r : Result Next F) (payload : List ℕ) → HasSubject payload Breaks
    → IfOk r (λ next. EndsBy payload next)
ends_breaks r payload is = ends_ok r payload Breaks (breaks_at payload is) (λ e. cc)

pub ends_query : {F : Type 0} (r : Result Next F) (payload : List ℕ) → HasSubject payload Query
    → IfOk r (λ next. EndsBy payload next)
ends_query r payload is = ends_ok r payload Query (ap subject_at is) (λ e. cc)

-- ---- what is told of the session

part_at : (n : ℕ) (asked : List ℕ) (word place payload : List ℕ) → payload ≡ codes "qXfer:" ++ asked
    → payload ≡ codes "qXfer:" ++ (word ++ place) → asked ≡ word ++ place
part_at n asked word place payload is at = ap (λ (xs : List ℕ). drop 6 xs) (sym is ∙ at)

other_word : (payload asked : List ℕ) → payload ≡ codes "qXfer:" ++ asked → before 58 payload ≡ codes "qXfer"
other_word payload asked is = ap (λ (xs : List ℕ). before 58 xs) is

third_of : (xs ys : List ℕ) (n : ℕ) → xs ≡ ys → slice_index xs n ≡ slice_index ys n
third_of xs ys n same = ap (λ (zs : List ℕ). slice_index zs n) same

pub tells_part : {F : Type 0} (r : Result Unit F) (target path : List ℕ) (is_extended : Bool) (payload asked old new : List ℕ)
    → payload ≡ codes "qXfer:" ++ asked
    → ((place : List ℕ) → asked ≡ codes "features:read:target.xml:" ++ place → OnOk r (ShowsPart target place old new))
    → ((rest : List ℕ) → asked ≡ codes "exec-file:read:" ++ rest → OnOk r (ShowsPart path (behind 58 rest) old new))
    → OnOk r (Tells target path is_extended payload old new)
tells_part (Ok x) target path is_extended payload asked old new is at_target at_path = record {
  thread = λ word. absurd (omega (arith, third_of _ _ 1 (sym (other_word payload asked is) ∙ word)));
  threads = λ word. absurd (omega (arith, third_of _ _ 1 (sym (other_word payload asked is) ∙ word)));
  no_more = λ word. absurd (omega (arith, third_of _ _ 1 (sym (other_word payload asked is) ∙ word)));
  attached = λ word. absurd (omega (arith, third_of _ _ 1 (sym (other_word payload asked is) ∙ word)));
  target_part = λ place whole. at_target place (part_at 6 asked (codes "features:read:target.xml:") place payload is whole);
  path_part = λ rest whole. at_path rest (part_at 6 asked (codes "exec-file:read:") rest payload is whole);
}
tells_part (Err f) target path is_extended payload asked old new is at_target at_path = tt

-- ---- which calls are caught

pub catches_or_stays : {F : Type 0} (r : Result Unit F) (is_done : Bool) (found asked : List ℕ) (s t : SessionState) (old new : List ℕ)
    → found ≡ asked → OnTrue is_done (Catches found t.caught)
    → OnFalse is_done ((t ≡ s) × ((caught : Caught) → ¬ Catches found caught))
    → OnOk r (OnTrue is_done (IsError old new → ⊥)) → OnOk r (OnFalse is_done (IsError old new))
    → OnOk r (CatchesOrStays asked s t old new)
catches_or_stays (Ok x) true found asked s t old new same caught none done refused =
    inl (subst (λ (xs : List ℕ). Catches xs t.caught) same caught, done)
catches_or_stays (Ok x) false found asked s t old new same caught none done refused =
    inr ((λ other is. none.1 other (subst (λ (xs : List ℕ). Catches xs other) (sym same) is)), none.0, refused)
catches_or_stays (Err f) is_done found asked s t old new same caught none done refused = tt

-- ---- `Q`

pub manages_set : {F : Type 0} (r : Result Unit F) (payload text : List ℕ) (s t : SessionState) (old new : List ℕ)
    (acknowledges acknowledges' : Bool) → payload ≡ 81 ∷ text
    → (text ≡ codes "StartNoAckMode" → OnOk r ((new ≡ old ++ codes "OK") × (acknowledges' ≡ false)))
    → (text ≢ codes "StartNoAckMode" → acknowledges' ≡ acknowledges)
    → ((asked : List ℕ) → text ≡ codes "CatchSyscalls:" ++ asked → OnOk r (CatchesOrStays asked s t old new))
    → OnOk r (Manages payload s t old new acknowledges acknowledges')
manages_set (Ok x) payload text s t old new acknowledges acknowledges' is silences kept catches =
    let at : letter payload ≡ 81 = first_of payload (81 ∷ text) is in
    record {
      accepts = λ other. absurd (elim other [
        | inl h ↦ omega (arith, at, h)
        | inr others ↦ elim others [
          | inl h ↦ omega (arith, at, h)
          | inr h ↦ omega (arith, at, h)
        ]
      ]);
      extends = λ whole. absurd (omega (arith, at, first_of payload (codes "!") whole));
      silences = λ whole. silences (ap (λ (xs : List ℕ). drop 1 xs) (sym is ∙ whole));
      acknowledged = λ other. kept (λ same. other (is ∙ ap (λ (xs : List ℕ). 81 ∷ xs) same));
      catches = λ asked whole. catches asked (ap (λ (xs : List ℕ). drop 1 xs) (sym is ∙ whole));
    }
manages_set (Err f) payload text s t old new acknowledges acknowledges' is silences kept catches = tt
