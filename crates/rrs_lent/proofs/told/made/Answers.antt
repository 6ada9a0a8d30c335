use Rattle.std.proofs.Common.{ℕ, List, refl, ap, ◌∙◌}
use Rattle.std.specs.Prelude.{unwrap_or}
use Rattle.rrs_asm.specs.declared.sections.Section.{Section}
use Rattle.rrs_asm.specs.Sections.{flat}
use Rattle.rrs_asm_output.specs.Executables.{entry_of}
use Rattle.rrs_lent.specs.Telling.{all_symbols_from, all_names_of}
use Rattle.rrs_lent.specs.Steps.{IsProgram, AreAllAsLong}
use Rattle.rrs_lent.proofs.More.{tell-all}
use Rattle.rrs_lent.proofs.told.made.Goals as goal

-- all is told of the sections of the program
pub returns : goal.returns
returns g c = λ source text are.
    let sections = c.args.program.now.sections.items in
    let numbers = c.args.expanded.now.lines.items in
    let long : AreAllAsLong numbers sections c.in_ok-statements_of.field-0.items = rw (← c.deref-4.ensures.value, ← c.deref-5.ensures.value) c.in_ok-statements_of.ensures in
    IsProgram refl c.new.ensures.items (
      c.args.expanded.now,
      sections,
      record {
        text_of = text;
        sections_of = are;
        image = c.in_ok-image.ensures.at_addresses (flat c.args.start) refl are.placed;
        statements_of = tell-all numbers sections _ c.requires.short c.requires.laid_out long;
        symbols_of = c.in_ok-symbols.ensures.symbols ∙ ap (λ (xs : List (Section _)). all_symbols_from c.deref-2.result.now 0 xs) c.deref.ensures.value ∙ ap (λ (ns : List ℕ). all_symbols_from ns 0 sections) c.deref-2.ensures.value;
        names = c.in_ok-symbols.ensures.names ∙ ap (λ (xs : List (Section _)). all_names_of xs) c.deref.ensures.value;
        entry_of = c.unwrap_or.ensures ∙ ap (λ o. unwrap_or o c.args.start) (c.entry_of.ensures ∙ ap (λ (xs : List (Section _)). entry_of xs) c.deref-3.ensures.value);
      },
    )
