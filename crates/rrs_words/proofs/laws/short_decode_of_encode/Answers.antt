-- The half-word is the instruction, and so it is decoded to it.
use Rattle.std.proofs.Common.{ℕ, refl}
use Rattle.std.proofs.lemmas.Option.{none-some}
use Rattle.rrs_words.specs.Forms.{IsShort}
use Rattle.rrs_words.proofs.ShortDecoding.{short_decoded_again}
use Rattle.rrs_words.proofs.SystemDecoding.{at_none}
use Rattle.rrs_words.proofs.laws.short_decode_of_encode.Goals as goal

pub returns-clause-half : goal.returns-clause-half
returns-clause-half c = (c.in_ok-half.ensures _).0 refl

pub returns-clause-same : goal.returns-clause-same
returns-clause-same c =
    short_decoded_again _ _ _ ((c.in_ok-half.ensures _).0 refl) c.decode_short.ensures.outside c.decode_short.ensures.only

pub returns-in_err-half-clause-no_half : goal.returns-in_err-half-clause-no_half
returns-in_err-half-clause-no_half c =
    let no_half : (h : ℕ) → ¬ IsShort h c.args.short.now.form c.args.short.now.operands =
    λ h is. none-some h ((c.in_err-half.ensures h).1 is) in
    at_none _ _ no_half
