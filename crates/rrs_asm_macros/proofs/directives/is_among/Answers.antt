use Rattle.std.proofs.Common.{ℕ, List, [], Bor, sym, ◌∙◌}
use Rattle.std.specs.Str.{str_eq_ignore_ascii_case}
use Rattle.std.proofs.lemmas.List.Folds.{list_any_at, list_any_more}
use Rattle.rrs_asm_macros.specs.declared.directives.Directive.{Directive}
use Rattle.rrs_asm_macros.proofs.directives.is_among.Goals as goal

pub returns-then-are_same : goal.returns-then-are_same
returns-then-are_same c =
    sym (list_any_at (λ (e : Bor (List ℕ) × Directive). str_eq_ignore_ascii_case c.args.word.now e.0.now) c.args.table.now c.loop-name.name-index (record { ref_ptr = (0, 0); now = [] }, Directive.Macro) c.loop-name-test.true (sym c.are_same.ensures ∙ c.if-are_same.true))

pub loop-name-preserved : goal.loop-name-preserved
loop-name-preserved c =
    let more = list_any_more (λ (e : Bor (List ℕ) × Directive). str_eq_ignore_ascii_case c.args.word.now e.0.now) c.args.table.now c.loop-name.name-index (record { ref_ptr = (0, 0); now = [] }, Directive.Macro) c.loop-name-test.true in
    more ∙ (rw (c.loop-name.invariant) (sym c.are_same.ensures ∙ c.if-are_same.false))
