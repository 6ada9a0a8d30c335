-- A word that is no instruction of extension A is not this one.
use Rattle.std.proofs.Common.{rules, ◌≡◌, None, sym, subst, ◌∙◌}
use Rattle.std.proofs.lemmas.Option.{none-some}
use Rattle.rrs_words.specs.AtomicInstructions.{IsAtomic}
use Rattle.rrs_words.proofs.encoding.encode_atomic.Goals as goal

pub returns-in_err-read : goal.returns-in_err-read
returns-in_err-read c w =
    let row = c.args.instruction.now.row in
    let f = c.args.instruction.now.fields in
    let nothing : c.from_residual.result ≡ None = search rules in (
      λ e. absurd (none-some w (sym nothing ∙ e)),
      λ is. absurd (c.in_err-read.ensures.outside row f
          (subst (λ v. IsAtomic v row f) (is.encoded ∙ sym c.word_of-word.ensures) is)),
    )
