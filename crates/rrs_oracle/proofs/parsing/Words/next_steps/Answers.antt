use Rattle.std.proofs.Common.{◌∙◌}
use Rattle.rrs_oracle.proofs.Pieces.{reads_first, reads_none, stops_alike, stops_anyway}
use Rattle.rrs_oracle.proofs.parsing.Words.next_steps.Goals as goal

pub returns-in_err-registers : goal.returns-in_err-registers
returns-in_err-registers c = λ follows.
    stops_anyway _ c.from_residual-in_err-registers.result c.from_residual-in_err-registers.ensures.0
    (reads_first _ _ _ _ _ c.in_ok-count.ensures.read ∙ (reads_first _ _ _ _ _ c.in_ok-pc.ensures ∙ (reads_first _ _ _ _ _ c.in_ok-last.ensures ∙ reads_none _ _ _ c.in_err-registers.ensures)))

pub returns-in_err-memory : goal.returns-in_err-memory
returns-in_err-memory c = λ follows.
    stops_alike _ c.from_residual-in_err-memory.result c.in_err-memory.field-0.0 c.from_residual-in_err-memory.ensures.1
    (λ none. reads_first _ _ _ _ _ c.in_ok-count.ensures.read ∙ (reads_first _ _ _ _ _ c.in_ok-pc.ensures ∙ (reads_first _ _ _ _ _ c.in_ok-last.ensures ∙ (reads_first _ _ _ _ _ c.in_ok-registers.ensures ∙ reads_none _ _ _ none))))
    c.in_err-memory.ensures
