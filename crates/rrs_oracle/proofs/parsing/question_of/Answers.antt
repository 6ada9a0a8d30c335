use Rattle.std.proofs.Common.{◌∙◌, sym}
use Rattle.rrs_oracle.specs.Questions.{ends}
use Rattle.rrs_oracle.proofs.Pieces.{ends_not, fails_alike}
use Rattle.rrs_oracle.proofs.parsing.question_of.Goals as goal

pub returns-in_err-question-clause-refused : goal.returns-in_err-question-clause-refused
returns-in_err-question-clause-refused c =
    fails_alike c.from_residual.result c.in_err-question.field-0.0 c.from_residual.ensures.1 (λ none. none) (c.in_err-question.ensures ends)

pub returns-then-is_some-clause-refused : goal.returns-then-is_some-clause-refused
returns-then-is_some-clause-refused c =
    c.in_ok-question.ensures ends ∙ ends_not _ _ (sym c.if-is_some.true ∙ c.is_some.ensures)
