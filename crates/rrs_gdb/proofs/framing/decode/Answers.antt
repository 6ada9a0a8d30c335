use Rattle.std.proofs.Common.{arith}
use Rattle.rrs_gdb.proofs.PacketLemmas.{sum_of_packet, ok_inverse, error_inverse}
use Rattle.rrs_gdb.proofs.framing.decode.Goals as goal

pub returns-then-not-has_sum-clause-inverse : goal.returns-then-not-has_sum-clause-inverse
returns-then-not-has_sum-clause-inverse c = λ payload e d.
    let yes = c.has_sum.ensures.1 (sum_of_packet payload _ _ e d) in
    let no = c.if-not-has_sum.true in
    grind arith

pub returns-in-Ok-clause-inverse : goal.returns-in-Ok-clause-inverse
returns-in-Ok-clause-inverse c = λ payload e d. ok_inverse _ _ payload e c.in-Ok.ensures.payload

pub returns-in-Err-clause-inverse : goal.returns-in-Err-clause-inverse
returns-in-Err-clause-inverse c = λ payload e d. error_inverse _ payload _ e c.in-Err.ensures.error
