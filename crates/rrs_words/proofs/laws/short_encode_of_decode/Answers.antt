-- The half-word is the instruction, and so it is its half-word.
use Rattle.rrs_words.proofs.laws.short_encode_of_decode.Goals as goal

pub returns-clause-same : goal.returns-clause-same
returns-clause-same c = (c.encode_short-encoded.ensures _).1 c.in_ok-short.ensures.decoded
