-- A half-word that is none is not this instruction.
use Rattle.std.proofs.Common.{rules, ◌≡◌, None, sym, subst, ◌∙◌}
use Rattle.std.proofs.lemmas.Option.{none-some}
use Rattle.rrs_words.specs.Forms.{IsShort}
use Rattle.rrs_words.proofs.short_encoding.encode_short.Goals as goal

pub returns-in_err-found : goal.returns-in_err-found
returns-in_err-found c h =
    let form = c.args.short.now.form in
    let o = c.args.short.now.operands in
    let nothing : c.from_residual.result ≡ None = search rules in (
      λ e. absurd (none-some h (sym nothing ∙ e)),
      λ is. absurd (c.in_err-found.ensures.outside form o
          (subst (λ v. IsShort v form o) (c.half_of-half.ensures h is) is)),
    )

pub returns-else-is_same : goal.returns-else-is_same
returns-else-is_same c h =
    let form = c.args.short.now.form in
    let o = c.args.short.now.operands in (
      λ e. absurd (none-some h e),
      λ is.
          let same = c.in_ok-found.ensures.only form o
          (subst (λ v. IsShort v form o) (c.half_of-half.ensures h is) is) in
          absurd (c.if-is_same.ensures.no (sym same.0) (sym same.1)),
    )
