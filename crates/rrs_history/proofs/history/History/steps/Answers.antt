-- A state for each change with which a step or a call began.
use Rattle.std.proofs.Common.{rules, ◌≡◌, count_by, sym, ◌∙◌}
use Rattle.rrs_history.specs.declared.change.Change.{Change}
use Rattle.rrs_history.specs.Histories.{changes}
use Rattle.rrs_history.proofs.Keeping.{past-count}
use Rattle.rrs_history.proofs.history.History.steps.Goals as goal

pub returns-clause-states : goal.returns-clause-states
returns-clause-states c =
    let cs = changes c.args.self.now in
    let begun : c.count.result ≡ count_by (λ (x : Change). x.starts) cs = search rules in
    λ s. past-count cs s ∙ sym begun
