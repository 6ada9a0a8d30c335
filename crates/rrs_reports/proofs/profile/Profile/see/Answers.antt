-- A step that is Ok is counted, and an ecall; another exception is not.
use Rattle.std.proofs.lemmas.Bool.{OnTrue_at, OnFalse_at}
use Rattle.rrs_exec.specs.Protection.{protected_bytes}
use Rattle.rrs_reports.specs.Coverages.{Counts}
use Rattle.rrs_reports.proofs.Unrecorded.{seen_ok, seen_call, seen_fault}
use Rattle.rrs_reports.proofs.profile.Profile.see.Goals as goal

pub returns-in-Ok-clause-counts : goal.returns-in-Ok-clause-counts
returns-in-Ok-clause-counts c = λ p n s t r words at same step retires.
    seen_ok c.args.pc (λ r'. Counts c.args.self.now.coverage r' c.count.new.self.coverage) c.count.ensures
    c.args.answer c.in-Ok.is p n s t r words at step retires

pub returns-then-is_ecall_at-clause-counts : goal.returns-then-is_ecall_at-clause-counts
returns-then-is_ecall_at-clause-counts c = λ p n s t r words at same step retires.
    seen_call c.args.pc (protected_bytes c.args.memory.now) (λ r'. Counts c.args.self.now.coverage r' c.count-then-is_ecall_at.new.self.coverage)
    c.count-then-is_ecall_at.ensures c.args.answer _ c.in-Err.is (OnTrue_at c.if-is_ecall_at.true c.is_ecall_at.ensures.yes) p n s t r words at same step retires

pub returns-else-is_ecall_at-clause-counts : goal.returns-else-is_ecall_at-clause-counts
returns-else-is_ecall_at-clause-counts c = λ p n s t r words at same step retires.
    seen_fault c.args.pc (protected_bytes c.args.memory.now) c.args.self.now.coverage
    c.args.answer _ c.in-Err.is (OnFalse_at c.if-is_ecall_at.false c.is_ecall_at.ensures.no) p n s t r words at same step retires
