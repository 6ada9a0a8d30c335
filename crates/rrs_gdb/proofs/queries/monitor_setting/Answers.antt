-- What there is was told.
use Rattle.std.proofs.Common.{◌++◌, ap, ◌∙◌}
use Rattle.std.proofs.lemmas.Result.{on_ok_weaker}
use Rattle.rrs_gdb.specs.Shown.{text_of}
use Rattle.rrs_gdb.proofs.queries.monitor_setting.Goals as goal

pub returns-in-Err-clause-helped : goal.returns-in-Err-clause-helped
returns-in-Err-clause-helped c =
    let old = c.args.reply.now.items in
    on_ok_weaker c.push_bytes.result (λ pushed some none. pushed ∙ ap (λ bytes. old ++ text_of bytes) (c.in-Err.ensures.helped none))
    c.push_bytes.ensures
