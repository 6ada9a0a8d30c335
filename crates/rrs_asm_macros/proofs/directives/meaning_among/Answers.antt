use Rattle.std.proofs.Common.{ℕ, List, [], Bor, sym, ◌∙◌}
use Rattle.std.specs.Str.{str_eq_ignore_ascii_case}
use Rattle.rrs_asm_macros.proofs.Finding.{lookup-found, lookup-passed}
use Rattle.rrs_asm_macros.specs.declared.directives.Directive.{Directive}
use Rattle.rrs_asm_macros.proofs.directives.meaning_among.Goals as goal

pub returns-then-are_same : goal.returns-then-are_same
returns-then-are_same c =
    sym (c.loop-name.invariant ∙ lookup-found (λ (name : Bor (List ℕ)). str_eq_ignore_ascii_case c.args.word.now name.now) c.args.table.now c.loop-name.name-index (record { ref_ptr = (0, 0); now = [] }, Directive.Macro) c.loop-name-test.true (sym c.are_same.ensures ∙ c.if-are_same.true))

pub loop-name-preserved : goal.loop-name-preserved
loop-name-preserved c =
    c.loop-name.invariant ∙ lookup-passed (λ (name : Bor (List ℕ)). str_eq_ignore_ascii_case c.args.word.now name.now) c.args.table.now c.loop-name.name-index (record { ref_ptr = (0, 0); now = [] }, Directive.Macro) c.loop-name-test.true (sym c.are_same.ensures ∙ c.if-are_same.false)
