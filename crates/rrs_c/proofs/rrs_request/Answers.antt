-- The answer is the kit's, for the same hart.
use Rattle.std.proofs.Common.{refl}
use Rattle.rrs_trace.specs.Outside.{AccessesAfterFetch, requested, Foretells}
use Rattle.rrs_c.specs.Harts.{hart_in, register_in}
use Rattle.rrs_c.specs.Asking.{request_answer}
use Rattle.rrs_c.proofs.Carrying.{asked}
use Rattle.rrs_c.proofs.rrs_request.Goals as goal

pub returns-clause-access : goal.returns-clause-access
returns-clause-access c =
    asked (λ s answer. AccessesAfterFetch s (requested s answer)) (hart_in c.args.hart.now) _ c.args.word
    c.request_parts.result (request_answer c.access_or_fault.result)
    refl c.access_or_fault.ensures.same (c.request_parts.ensures.access (register_in c.args.hart.now.last))

pub returns-clause-foretold : goal.returns-clause-foretold
returns-clause-foretold c =
    asked Foretells (hart_in c.args.hart.now) _ c.args.word
    c.request_parts.result (request_answer c.access_or_fault.result)
    refl c.access_or_fault.ensures.same (c.request_parts.ensures.foretold (register_in c.args.hart.now.last))
