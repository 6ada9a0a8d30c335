-- The accesses and the exception of a row, and of an illegal instruction.
use Rattle.std.proofs.Common.{◌≡◌, ◌%◌, refl, rules}
use Rattle.rrs_lib.specs.Machine.{hart_of}
use Rattle.rrs_lib.specs.Steps.{Illegal}
use Rattle.rrs_trace.proofs.OutsideSteps.{requests_row, foretells_row}
use Rattle.rrs_trace.proofs.outside.request_parts.Goals as goal

pub returns-in-Some-clause-access : goal.returns-in-Some-clause-access
returns-in-Some-clause-access c = λ last.
    let found = c.in-Some.ensures.decoded in
    requests_row (hart_of c.args.registers.now c.args.pc last) _ _ _ _ (search rules) found.is (found.holds last)

pub returns-in-Some-clause-foretold : goal.returns-in-Some-clause-foretold
returns-in-Some-clause-foretold c = λ last.
    let found = c.in-Some.ensures.decoded in
    foretells_row (hart_of c.args.registers.now c.args.pc last) _ _ _ _ (search rules) found.is (found.holds last)

pub returns-in-None-clause-foretold : goal.returns-in-None-clause-foretold
returns-in-None-clause-foretold c = λ last bytes writable has.
    let aligned : c.args.pc % 4 ≡ 0 = search rules in
    Illegal _ aligned (has aligned) c.in-None.ensures.outside refl refl
