-- A half-word that is a form has the bits that tell it.
use Rattle.std.proofs.Common.{rules, ◌≡◌, None, subst}
use Rattle.rrs_words.specs.Forms.{IsShort}
use Rattle.rrs_words.proofs.FormBits.{form_bits}
use Rattle.rrs_words.proofs.short_decoding.decode_short.Goals as goal

pub returns-in_err-form-clause-outside : goal.returns-in_err-form-clause-outside
returns-in_err-form-clause-outside c =
    let answer : c.from_residual.result ≡ None = search rules in
    rw answer (λ form o is. c.in_err-form.ensures.none form (form_bits _ form o is))

pub returns-clause-only : goal.returns-clause-only
returns-clause-only c = λ form o is.
    let same = c.in_ok-form.ensures.only form (form_bits _ form o is) in
    (same, c.operands_of-operands.ensures.only o (subst (λ f. IsShort c.args.half f o) same is))
