-- The word is the instruction, and so it is its word.
use Rattle.rrs_words.proofs.laws.bits_encode_of_decode.Goals as goal

pub returns-clause-same : goal.returns-clause-same
returns-clause-same c = (c.encode_bits-encoded.ensures _).1 c.in_ok-bits.ensures.decoded
