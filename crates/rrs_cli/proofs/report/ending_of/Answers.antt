use Rattle.std.proofs.Common.{◌++◌, ap, ◌∙◌}
use Rattle.rrs_lib.specs.Machine.{state_of}
use Rattle.rrs_cli.specs.Texts.{ending_lines}
use Rattle.rrs_cli.proofs.report.ending_of.Goals as goal

pub returns-in-Ok-clause-text : goal.returns-in-Ok-clause-text
returns-in-Ok-clause-text c = λ bytes writable.
    let text = ending_lines c.args.end.now.steps c.args.end.now.exception (state_of c.args.hart.now bytes writable) in
    c.in-Ok.ensures bytes writable ∙ ap (λ old. old ++ text) c.new-text.ensures.items
