-- The two numbers, with the words between.
use Rattle.std.proofs.Common.{◌≡◌, ◌++◌, codes, string_bytes, false, ap, ap₂, ◌∙◌}
use Rattle.std.specs.Fmt.{digits}
use Rattle.rrs_gdb.specs.Sessions.{steps_kept}
use Rattle.rrs_gdb.proofs.queries.steps_text.Goals as goal

pub returns : goal.returns
returns c =
    let kept : string_bytes c.in_ok-kept.kept ≡ digits 10 false (steps_kept c.args.state.now.history) =
    c.in_ok-kept.ensures ∙ ap (digits 10 false) c.steps.ensures.begun in
    c.in_ok-push_str-3.ensures.bytes ∙ ap (λ xs. xs ++ codes " can be taken back") (c.in_ok-push_str-2.ensures.bytes
    ∙ ap₂ (λ xs ys. xs ++ ys) (c.in_ok-push_str.ensures.bytes ∙ ap (λ xs. xs ++ codes ", of which ") c.in_ok-text.ensures)
    (c.deref.ensures ∙ kept))
