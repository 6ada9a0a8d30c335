-- What a watcher of a board was shown is a list of records, and what each of them makes of the watcher
-- holds of it. And a session that is watched is one that is not.
use Rattle.std.proofs.Common.{◌≡◌, ℕ, ◌+◌, ◌-◌, List, [], ◌∷◌, ◌++◌, Bool, true, false, Option, Some, None, refl, subst}
use Rattle.rrs_board.specs.declared.board.Board.{Board}
use Rattle.rrs_board.specs.declared.effects.BoardEvent.{BoardEvent}
use Rattle.rrs_board.specs.declared.runs.RecordedStep.{RecordedStep}
use Rattle.rrs_board.specs.declared.runs.WatchedRuns.{WatchedRuns}
use Rattle.rrs_board.specs.Boards.{BoardStepped, QuietSteps, BoardRun}
use Rattle.rrs_board.specs.WatchedBoards.{IsShown, QuietlyShown, NoStep, OneMore, watched_runs}
use Rattle.rrs_board.specs.declared.asking.Asking.{Asking}
use Rattle.rrs_board.specs.Inputs.{Listener}
use Rattle.rrs_board.specs.Terminals.{plain_runs, Session, EndedSession}
use Rattle.rrs_reports.specs.Records.{keeps, wants_all}
use Rattle.rrs_reports.specs.BoardRecords.{listing, BoardWithRecords}

module _ {V : Type 0} (sees : V → RecordedStep → V → Type 0) (wants : V → Bool) where
  -- ---- runs without the watcher

  quiet_plain : (made : ℕ) (v : WatchedRuns V) (old : Board) (n : ℕ) (new : Board) (w : WatchedRuns V)
      → QuietlyShown sees wants made v old n new w → QuietSteps n old new
  quiet_plain made v old _ _ _ NoStep = refl
  quiet_plain made v old _ _ _ (OneMore n mid new u w r before wanted shown none) = (
    mid,
    r.step.answer,
    quiet_plain made v old n mid u before,
    subst (λ e. BoardStepped mid new r.step.answer e) none shown.recorded.stepped,
  )

  event_plain : (v : WatchedRuns V) (made most : ℕ) (old : Board) (steps : ℕ) (event : BoardEvent) (new : Board)
      (w : WatchedRuns V)
      → watched_runs sees wants v made most old steps (Some event) new w → BoardRun most old steps (Some event) new
  event_plain v made most old steps event new w (mid, u, r, quiet, count, within, before, wanted, shown, is) = (
    mid,
    r.step.answer,
    quiet,
    count,
    within,
    quiet_plain made v old quiet mid u before,
    subst (λ e. BoardStepped mid new r.step.answer e) is shown.recorded.stepped,
  )

  run_plain : (v : WatchedRuns V) (made most : ℕ) (old : Board) (steps : ℕ) (event : Option BoardEvent) (new : Board)
      (w : WatchedRuns V) → wants w.watcher ≡ true
      → watched_runs sees wants v made most old steps event new w → BoardRun most old steps event new
  run_plain v made most old steps None new w more run = (run.1 more, quiet_plain made v old steps new w run.2)
  run_plain v made most old steps (Some event) new w more run = event_plain v made most old steps event new w run

  session_plain : {I : Type 0} (says : Listener I) (polled : Bool) (limit : ℕ) (start : Board) (begun : WatchedRuns V)
      (first : I) (steps : ℕ) (typed printed : List ℕ) (asking : Asking) (new : Board) (w : WatchedRuns V) (rest : I)
      → Session (watched_runs sees wants) says polled limit start begun first steps typed printed asking new w rest
      → Session (plain_runs {V = Unit {0}}) says polled limit start tt first steps typed printed asking new tt rest
  session_plain says polled limit start begun first _ _ _ _ _ _ _ Session.Starts = Session.Starts
  session_plain says polled limit start begun first _ _ _ _ _ _ _ (Session.Runs {steps = steps} {more = more} {typed = typed} {printed = printed} {asking = asking} {event = event} {old = old} {mid = mid} {new = new} {v = v} {w = w} {input = input} {rest = rest} answer before run heard succeeds goes arrives) =
      Session.Runs answer
      (session_plain says polled limit start begun first steps typed printed asking old v input before)
      (event_plain v steps (limit - steps) old more event mid w run) heard succeeds goes arrives

  -- ---- runs with a list for the watcher

  module _ (P : List RecordedStep → V → Type 0)
      (grows : (rs : List RecordedStep) (r : RecordedStep) (v w : V) → P rs v → sees v r w → P (rs ++ r ∷ []) w) where
    shown_kept : (number : ℕ) (v : WatchedRuns V) (old new : Board) (r : RecordedStep) (w : WatchedRuns V)
        (rs : List RecordedStep) → IsShown sees number v old new r w
        → IsShown keeps number (listing rs v.is_first) old new r (listing (rs ++ r ∷ []) w.is_first)
    shown_kept number v old new r w rs shown = record { recorded = shown.recorded; seen = refl; first = shown.first }

    quiet_kept : (made : ℕ) (v : WatchedRuns V) (old : Board) (rs : List RecordedStep) (n : ℕ) (new : Board) (w : WatchedRuns V)
        → QuietlyShown sees wants made v old n new w → P rs v.watcher
        → (all : List RecordedStep)
        × QuietlyShown keeps wants_all made (listing rs v.is_first) old n new (listing all w.is_first) × P all w.watcher
    quiet_kept made v old rs _ _ _ NoStep p = (rs, NoStep, p)
    quiet_kept made v old rs _ _ _ (OneMore n mid new u w r before wanted shown none) p =
        let b = quiet_kept made v old rs n mid u before p in
        let all = b.0 ++ r ∷ [] in (
          all,
          OneMore n mid new (listing b.0 u.is_first) (listing all w.is_first) r b.1 refl
              (shown_kept (made + n) u mid new r w b.0 shown) none,
          grows b.0 r u.watcher w.watcher b.2 shown.seen,
        )

    event_kept : (v : WatchedRuns V) (made most : ℕ) (old : Board) (rs : List RecordedStep) (steps : ℕ) (event : BoardEvent)
        (new : Board) (w : WatchedRuns V)
        → watched_runs sees wants v made most old steps (Some event) new w → P rs v.watcher
        → (all : List RecordedStep)
        × watched_runs keeps wants_all (listing rs v.is_first) made most old steps (Some event) new (listing all w.is_first)
        × P all w.watcher
    event_kept v made most old rs steps event new w (mid, u, r, quiet, count, within, before, wanted, shown, is) p =
        let b = quiet_kept made v old rs quiet mid u before p in
        let all = b.0 ++ r ∷ [] in (
          all,
          (mid, listing b.0 u.is_first, r, quiet, count, within, b.1, refl, shown_kept (made + quiet) u mid new r w b.0 shown, is),
          grows b.0 r u.watcher w.watcher b.2 shown.seen,
        )

    run_kept : (v : WatchedRuns V) (made most : ℕ) (old : Board) (rs : List RecordedStep) (steps : ℕ) (event : Option BoardEvent)
        (new : Board) (w : WatchedRuns V) → wants w.watcher ≡ true
        → watched_runs sees wants v made most old steps event new w → P rs v.watcher
        → (all : List RecordedStep)
        × watched_runs keeps wants_all (listing rs v.is_first) made most old steps event new (listing all w.is_first)
        × P all w.watcher
    run_kept v made most old rs steps None new w more run p =
        let b = quiet_kept made v old rs steps new w run.2 p in
        (b.0, (run.0, (λ _. run.1 more), b.1), b.2)
    run_kept v made most old rs steps (Some event) new w more run p = event_kept v made most old rs steps event new w run p

    session_kept : {I : Type 0} (says : Listener I) (polled : Bool) (limit : ℕ) (start : Board) (begun : WatchedRuns V)
        (first : I) (steps : ℕ) (typed printed : List ℕ) (asking : Asking) (new : Board) (w : WatchedRuns V) (rest : I)
        → Session (watched_runs sees wants) says polled limit start begun first steps typed printed asking new w rest
        → P [] begun.watcher
        → (all : List RecordedStep)
        × Session (watched_runs keeps wants_all) says polled limit start (listing [] begun.is_first) first
        steps typed printed asking new (listing all w.is_first) rest
        × P all w.watcher
    session_kept says polled limit start begun first _ _ _ _ _ _ _ Session.Starts p = ([], Session.Starts, p)
    session_kept says polled limit start begun first _ _ _ _ _ _ _ (Session.Runs {steps = steps} {more = more} {typed = typed} {printed = printed} {asking = asking} {event = event} {old = old} {mid = mid} {new = new} {v = v} {w = w} {input = input} {rest = rest} answer before run heard succeeds goes arrives) p =
        let b = session_kept says polled limit start begun first steps typed printed asking old v input before p in
        let k = event_kept v steps (limit - steps) old b.0 more event mid w run b.2 in
        (k.0, Session.Runs answer b.1 k.1 heard succeeds goes arrives, k.2)

    -- a session that was shown to a watcher which wants more at the end, and what holds of it and the records
    pub ended_kept : {I : Type 0} (says : Listener I) (remaining : I → Option (List ℕ)) (polled : Bool) (limit : ℕ)
        (start : Board) (begun : WatchedRuns V) (first rest : I) (before after : Option (List ℕ))
        (steps : ℕ) (event : Option BoardEvent) (new : Board) (w : WatchedRuns V)
        → EndedSession (watched_runs sees wants) says remaining polled limit start begun first rest before after
        steps event new w
        → wants w.watcher ≡ true → begun.is_first ≡ false → P [] begun.watcher
        → (all : List RecordedStep)
        × BoardWithRecords says remaining polled limit start first rest before after steps event new all
        × P all w.watcher
    ended_kept says remaining polled limit start begun first rest before after steps event new w ended more none p =
        let made = ended.made in
        let so_far = made.served in
        let b = session_kept says polled limit start begun first made.earlier so_far.typed so_far.printed made.asking made.mid
        made.at made.input so_far.session p in
        let k = run_kept made.at made.earlier (limit - made.earlier) made.mid b.0 made.more event new w more made.last b.2 in
        let from = λ (f : Bool). EndedSession (watched_runs keeps wants_all) says remaining polled limit start
        (listing [] f) first rest before after steps event new (listing k.0 w.is_first) in
        let all : from begun.is_first = record {
          made = record {
            earlier = made.earlier;
            more = made.more;
            asking = made.asking;
            mid = made.mid;
            at = listing b.0 made.at.is_first;
            input = made.input;
            served = record {
              typed = so_far.typed;
              printed = so_far.printed;
              session = b.1;
              consumed = so_far.consumed;
              appended = so_far.appended;
            };
            last = k.1;
            counted = made.counted;
            unread = made.unread;
          };
          answer = ended.answer;
          heard = ended.heard;
          ends = ended.ends;
        } in (
          k.0,
          record {
            plain = record {
              made = record {
                earlier = made.earlier;
                more = made.more;
                asking = made.asking;
                mid = made.mid;
                at = tt;
                input = made.input;
                served = record {
                  typed = so_far.typed;
                  printed = so_far.printed;
                  session = session_plain says polled limit start begun first made.earlier so_far.typed so_far.printed
                      made.asking made.mid made.at made.input so_far.session;
                  consumed = so_far.consumed;
                  appended = so_far.appended;
                };
                last = run_plain made.at made.earlier (limit - made.earlier) made.mid made.more event new w more made.last;
                counted = made.counted;
                unread = made.unread;
              };
              answer = ended.answer;
              heard = ended.heard;
              ends = ended.ends;
            };
            first = w.is_first;
            recorded = subst from none all;
          },
          k.2,
        )
