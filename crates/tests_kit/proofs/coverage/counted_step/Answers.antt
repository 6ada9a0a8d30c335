use Rattle.rrs_lib.proofs.Programs.{step-from_same}
use Rattle.tests_kit.proofs.coverage.counted_step.Goals as goal

-- src/coverage.rt:19:1
pub returns-clause-step : goal.returns-clause-step
returns-clause-step g c = step-from_same _ _ _ _ c.word_at_pc.ensures.kept c.step.ensures.step
