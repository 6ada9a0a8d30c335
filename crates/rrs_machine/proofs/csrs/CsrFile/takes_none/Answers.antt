-- If all were pending, none would be taken.
use Rattle.std.proofs.Common.{◌≡◌, true, false, not, None, sym, ap, ◌∙◌}
use Rattle.std.specs.Option.{is_some}
use Rattle.std.proofs.lemmas.Bool.{OnFalse_from}
use Rattle.rrs_machine.specs.Runs.{TakesNone}
use Rattle.rrs_machine.proofs.Standing.{all_pending}
use Rattle.rrs_machine.proofs.csrs.CsrFile.takes_none.Goals as goal

pub returns-clause-open : goal.returns-clause-open
returns-clause-open c = OnFalse_from c.is_none.result (¬ TakesNone c.args.self.now) (λ some. λ takes.
    let nothing : c.interrupt_due.result ≡ None = c.interrupt_due.ensures ∙ takes all_pending in
    let sides : false ≡ true = ap is_some (sym nothing) ∙ c.is_none.ensures ∙ ap not some in
    cc (sides))
