-- The records that the log was shown are those of the run.
use Rattle.std.proofs.Common.{◌≡◌, Bool, false, true, if◌then◌else◌, map, refl, ap, subst, sym, rules}
use Rattle.std.specs.Io.KnownBytes.{Appends}
use Rattle.rrs_reports.specs.declared.commit_log.CommitLog.{CommitLog}
use Rattle.rrs_reports.specs.CommitLogs.{wants_lines, entry_of, log_text}
use Rattle.rrs_reports.proofs.Records.{run_kept}
use Rattle.rrs_reports.proofs.Logging.{Held, held_of, logged_none}
use Rattle.rrs_reports.proofs.commit_log.trace_process.Goals as goal

pub returns-else-is_broken : goal.returns-else-is_broken
returns-else-is_broken g c =
    let contents = g.O.Write.contents in
    let window = c.args.window in
    let before = contents c.args.out.now in
    let new = c.watch_process-run.new.watcher in
    let start : CommitLog g.row.O.Denot = record {
      out = record { ref_ptr = c.args.out.ref_ptr; ghost_name = c.log-1.given; now = c.args.out.now };
      window = window;
      is_broken = false;
    } in
    let whole : new.is_broken ≡ false = c.if-is_broken.false in
    let k = run_kept _ _ _ _ _ wants_lines (λ rs v. Held contents window before start (map entry_of rs) v)
    (λ rs r v w held logs. held_of contents window before start entry_of rs r v w held logs)
    _ _ _ _ _ _ _ _ _ _ _ _ c.in-Ok.ensures.watched (ap (λ (b : Bool). if b then false else true) whole)
    (record { same_out = refl; whole = logged_none contents window _ refl }) in
    let name = k.2.same_out in
    let same : c.out-1.given.0 ≡ new.out.now = search rules in
    record {
      traced = record {
        records = k.0;
        runs = k.1;
        written = subst (λ w. Appends before (contents w) (log_text window (map entry_of k.0))) (sym same) (k.2.whole whole).written;
      };
    }
