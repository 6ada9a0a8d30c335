-- The word is the instruction, and so it is decoded to it.
use Rattle.std.proofs.Common.{ℕ, refl}
use Rattle.std.proofs.lemmas.Option.{none-some}
use Rattle.rrs_words.specs.BitInstructions.{IsBits}
use Rattle.rrs_words.proofs.BitPlaces.{bit_decoded_again}
use Rattle.rrs_words.proofs.SystemDecoding.{at_none}
use Rattle.rrs_words.proofs.laws.bits_decode_of_encode.Goals as goal

pub returns-clause-word : goal.returns-clause-word
returns-clause-word c = (c.in_ok-word.ensures _).0 refl

pub returns-clause-same : goal.returns-clause-same
returns-clause-same c =
    bit_decoded_again _ _ _ ((c.in_ok-word.ensures _).0 refl) c.decode_bits.ensures.outside c.decode_bits.ensures.only

pub returns-in_err-word-clause-no_word : goal.returns-in_err-word-clause-no_word
returns-in_err-word-clause-no_word c =
    let no_word : (w : ℕ) → ¬ IsBits w c.args.instruction.now.row c.args.instruction.now.fields =
    λ w is. none-some w ((c.in_err-word.ensures w).1 is) in
    at_none _ _ no_word
