use Rattle.std.proofs.Common.{◌∙◌}
use Rattle.rrs_oracle.proofs.Pieces.{reads_first, reads_none, stops_alike, stops_anyway}
use Rattle.rrs_oracle.proofs.parsing.Words.next_question.Goals as goal

pub returns-in_err-next_hex-in-Some-decode : goal.returns-in_err-next_hex-in-Some-decode
returns-in_err-next_hex-in-Some-decode c = λ follows.
    stops_anyway _ c.from_residual.result c.from_residual.ensures.0
    (rw (c.in-Some-decode.ensures, c.in-Some-decode.is-decode)
    (reads_none _ _ _ c.in_err-next_hex-in-Some-decode.ensures))

pub returns-in_err-next_hex-in-Some-text : goal.returns-in_err-next_hex-in-Some-text
returns-in_err-next_hex-in-Some-text c = λ follows.
    stops_anyway _ c.from_residual-in_err-next_hex-in-Some-text.result c.from_residual-in_err-next_hex-in-Some-text.ensures.0
    (rw (c.in-Some-text.ensures, c.in-Some-text.is-text) (reads_none _ _ _ c.in_err-next_hex-in-Some-text.ensures))

pub returns-in_err-next_hex-in-Some-text-2 : goal.returns-in_err-next_hex-in-Some-text-2
returns-in_err-next_hex-in-Some-text-2 c = λ follows.
    stops_anyway _ c.from_residual-in_err-next_hex-in-Some-text-2.result c.from_residual-in_err-next_hex-in-Some-text-2.ensures.0
    (rw (c.in-Some-text.ensures, c.in-Some-text.is-text)
    (reads_first _ _ _ _ _ c.in_ok-next_hex-in-Some-text.ensures
    ∙ reads_none _ _ _ c.in_err-next_hex-in-Some-text-2.ensures))

pub returns-in_err-next_steps-in-Some-steps : goal.returns-in_err-next_steps-in-Some-steps
returns-in_err-next_steps-in-Some-steps c = λ follows.
    stops_alike _ c.from_residual-in_err-next_steps-in-Some-steps.result c.in_err-next_steps-in-Some-steps.field-0.0 c.from_residual-in_err-next_steps-in-Some-steps.ensures.1
    (λ none. rw (c.in-Some-steps.ensures, c.in-Some-steps.is-steps) none)
    (c.in_err-next_steps-in-Some-steps.ensures follows)
