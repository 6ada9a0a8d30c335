-- One event more, and where it can't be served.
use Rattle.std.proofs.Common.{◌≡◌, ◌∙◌, false, true, ap, arith, rules}
use Rattle.std.proofs.lemmas.Bool.{OnTrue_at, OnFalse_at}
use Rattle.std.proofs.lemmas.Result.{err_from_is_err_and}
use Rattle.rrs_board.specs.declared.asking.Asking.{Asking}
use Rattle.rrs_board.proofs.Sessions.{session_starts, session_goes, session_ends, session_stops, session_limit, run_is, none_waits, never_waits, never_both}
use Rattle.rrs_board.proofs.terminal.run_at_terminal.Goals as goal

pub runs-init : goal.runs-init
runs-init g c =
    let new = c.new-asking.ensures in
    record {
      within = omega arith;
      served = session_starts g.V.BoardRunner.runs g.I.BoardInput.says g.I.BoardInput.remaining _ _ _ _ _ _ _ new;
      at_end = λ is. never_both _ _ is (ap (λ (a : Asking). a.has_ended) new);
      polled = λ is. (ap (λ (a : Asking). a.is_polled) new ∙ is, ap (λ (a : Asking). a.has_ended) new);
    }

pub returns-in_err-serve-in-Some-clause-stopped : goal.returns-in_err-serve-in-Some-clause-stopped
returns-in_err-serve-in-Some-clause-stopped g c =
    let p = err_from_is_err_and c.from_residual.result c.from_residual.ensures.1 in
    let run = run_is g.V.BoardRunner.runs _ _ _ _ _ _ _ _ _ c.run-end.ensures.run c.in-Some.is in
    rw (p.1, p.2) (session_stops g.V.BoardRunner.runs g.I.BoardInput.says g.I.BoardInput.remaining _ _ _ _ _ _ _ _ _ _ _ _ _ _ _ _ _ _ _ _
    c.runs.invariant.served run c.in_err-serve-in-Some.ensures.failed)

pub returns-then-not-branch : goal.returns-then-not-branch
returns-then-not-branch g c =
    let run = run_is g.V.BoardRunner.runs _ _ _ _ _ _ _ _ _ c.run-end.ensures.run c.in-Some.is in
    let no : c.in_ok-serve-in-Some.field-0 ≡ false =
    first_of (search rules, cc (c.if-not-branch.true), grind (arith, c.if-not-branch.true)) in
    let made = c.in_ok-serve-in-Some.ensures in
    let ends = OnFalse_at no made.ends in
    let both = session_ends g.V.BoardRunner.runs g.I.BoardInput.says g.I.BoardInput.remaining _ _ _ _ _ _ _ _ _ _ _ _ _ _ _ _ _ _ _ _ _ _
    c.runs.invariant.served run ends (made.at_end c.runs.invariant.at_end)
    c.finish.ensures.kept c.finish.ensures.end c.finish.ensures.error in
    record {
      session = both.0;
      stopped = both.1;
      polled = λ is.
          let before = c.runs.invariant.polled is in
          rw ends.untouched.same (never_waits c.in-Some.event _ _ _ _ ends.ends (made.polled before.0 before.1).1
          c.finish.ensures.end);
    }

pub runs-preserved : goal.runs-preserved
runs-preserved g c =
    let run = run_is g.V.BoardRunner.runs _ _ _ _ _ _ _ _ _ c.run-end.ensures.run c.in-Some.is in
    let yes : c.in_ok-serve-in-Some.field-0 ≡ true =
    first_of (search rules, cc (c.if-not-branch.false), grind (arith, c.if-not-branch.false)) in
    let made = c.in_ok-serve-in-Some.ensures in
    record {
      within = omega (arith, c.run-end.ensures.within, c.runs.invariant.within);
      served = session_goes g.V.BoardRunner.runs g.I.BoardInput.says g.I.BoardInput.remaining _ _ _ _ _ _ _ _ _ _ _ _ _ _ _ _ _ _ _ _
          c.runs.invariant.served run (OnTrue_at yes made.goes);
      at_end = made.at_end c.runs.invariant.at_end;
      polled = λ is. let before = c.runs.invariant.polled is in made.polled before.0 before.1;
    }

pub returns-in-None : goal.returns-in-None
returns-in-None g c =
    let run = run_is g.V.BoardRunner.runs _ _ _ _ _ _ _ _ _ c.run-end.ensures.run c.in-None.is in
    let both = session_limit g.V.BoardRunner.runs g.I.BoardInput.says g.I.BoardInput.remaining _ _ _ _ _ _ _ _ _ _ _ _ _ _ _ _ _
    c.runs.invariant.served run c.finish-in-None.ensures.kept
    c.finish-in-None.ensures.end c.finish-in-None.ensures.error in
    record { session = both.0; stopped = both.1; polled = λ _. none_waits c.run-end.new.board _ _ c.finish-in-None.ensures.end }
