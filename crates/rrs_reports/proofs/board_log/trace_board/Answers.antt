-- The records that the log was shown are those of the session.
use Rattle.std.proofs.Common.{◌≡◌, Bool, false, true, if◌then◌else◌, map, refl, ap, subst, sym, rules}
use Rattle.std.specs.Io.KnownBytes.{Appends}
use Rattle.rrs_reports.specs.declared.commit_log.CommitLog.{CommitLog}
use Rattle.rrs_reports.specs.CommitLogs.{Logs, wants_lines, log_text}
use Rattle.rrs_reports.specs.BoardLogs.{board_entry}
use Rattle.rrs_reports.proofs.BoardSessions.{ended_kept}
use Rattle.rrs_reports.proofs.Logging.{Held, held_of, logged_none}
use Rattle.rrs_reports.proofs.board_log.trace_board.Goals as goal

pub returns-else-is_broken : goal.returns-else-is_broken
returns-else-is_broken g c =
    let contents = g.O.Write.contents in
    let window = c.args.window in
    let before = contents c.args.out.now in
    let new = c.run_at_terminal-run.new.runner.watcher in
    let start : CommitLog g.row.O.Denot = record {
      out = record { ref_ptr = c.args.out.ref_ptr; ghost_name = c.runs-1.given; now = c.args.out.now };
      window = window;
      is_broken = false;
    } in
    let whole : new.is_broken ≡ false = c.if-is_broken.false in
    let k = ended_kept (λ old step new. Logs contents old (board_entry step) new) wants_lines
    (λ rs v. Held contents window before start (map board_entry rs) v)
    (λ rs r v w held logs. held_of contents window before start board_entry rs r v w held logs)
    g.I.BoardInput.says g.I.BoardInput.remaining _ _ _ _ _ _ _ _ _ _ _ _ c.in-Ok.ensures.session (ap (λ (b : Bool). if b then false else true) whole) refl
    (record { same_out = refl; whole = logged_none contents window _ refl }) in
    let name = k.2.same_out in
    let same : c.out-1.given.0 ≡ new.out.now = search rules in
    record {
      traced = record {
        records = k.0;
        runs = k.1;
        written = subst (λ w. Appends before (contents w) (log_text window (map board_entry k.0))) (sym same)
            (k.2.whole whole).written;
      };
      polled = c.in-Ok.ensures.polled;
    }
