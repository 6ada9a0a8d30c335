use Rattle.std.proofs.Common.{◌≡◌, refl, sym, ◌∙◌, Ok, Err, arith}
use Rattle.rrs_elf.specs.Refusals.{first_refusal, checks_in}
use Rattle.rrs_elf.proofs.Accepted.{accepted_from, passed_in}
use Rattle.rrs_elf.proofs.accepting.Executable.parse_in.Goals as goal

pub returns-in_err-check-clause-accepted : goal.returns-in_err-check-clause-accepted
returns-in_err-check-clause-accepted c =
    let failed : first_refusal (checks_in c.args.unit c.args.addresses c.args.file.now) ≡ Err c.in_err-check.field-0.0 = sym c.check.ensures ∙ c.in_err-check.was in
    let is_err = c.from_residual.ensures.0 in
    ((λ ok. absurd (grind (arith, ok, is_err))), (λ is. let passed = passed_in c.args.unit c.args.addresses c.args.file.now is in absurd (cc)))

pub returns-clause-accepted : goal.returns-clause-accepted
returns-clause-accepted c =
    let passed : first_refusal (checks_in c.args.unit c.args.addresses c.args.file.now) ≡ Ok tt = sym c.check.ensures ∙ c.in_ok-check.was in
    ((λ _. accepted_from c.args.unit c.args.addresses c.args.file.now passed), (λ _. refl))
