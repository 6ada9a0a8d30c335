use Rattle.std.proofs.Common.{inl, inr, ap, sym, ◌∙◌, rules}
use Rattle.rrs_reports.specs.BoardLogs.{board_entry}
use Rattle.rrs_reports.proofs.Logging.{logs_hidden, logs_shown}
use Rattle.rrs_reports.proofs.board_log.CommitLogBoardWatcher.see_step.Goals as goal
use Rattle.rrs_reports.proofs.board_log.CommitLogBoardWatcher.see_step.Goals.{then-not-shows-via-then-not-shows, then-not-shows-via-else-not-shows+then-self}

pub returns-then-not-shows : goal.returns-then-not-shows
returns-then-not-shows g c =
    let e = board_entry c.args.step.now in
    let was = c.shows.ensures.shown e.lines in
    logs_hidden g.W.Write.contents c.args.self.now e c.shows.new.self c.shows.ensures.log
    (elim c.then-not-shows.branch [
      | then-not-shows-via-then-not-shows w ↦ inl (sym was ∙ w.if-not-shows.true)
      | then-not-shows-via-else-not-shows+then-self w ↦ inr (sym (ap (λ log. log.is_broken) c.shows.ensures.log) ∙ w.if-self.true)
    ])

pub returns : goal.returns
returns g c =
    let e = board_entry c.args.step.now in
    let was = c.shows.ensures.shown e.lines in
    logs_shown g.W.Write.contents c.args.self.now e c.shows.new.self c.write.new.self c.as_str.result.now c.shows.ensures.log
    (sym was ∙ c.if-not-shows.false) (search rules) c.write.ensures.same_out c.write.ensures.window c.write.ensures.broken
    c.write.ensures.written
