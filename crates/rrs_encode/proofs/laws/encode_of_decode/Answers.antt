use Rattle.rrs_encode.proofs.laws.encode_of_decode.Goals as goal

pub returns-clause-same : goal.returns-clause-same
returns-clause-same c = (c.encode-encoded.ensures _).1 c.in_ok-instruction.ensures.decoded
