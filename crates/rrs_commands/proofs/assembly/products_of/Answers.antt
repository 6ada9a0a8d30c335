use Rattle.std.proofs.Common.{◌≡◌, ℕ, subst, sym, ap}
use Rattle.rrs_asm.specs.declared.sections.Layout.{Layout}
use Rattle.rrs_asm.specs.Source.{items_of}
use Rattle.rrs_asm.specs.Sections.{AreSectionsOf, IsImage}
use Rattle.rrs_run_commands.specs.Requests.{wanted_of}
use Rattle.rrs_commands.specs.Assembly.{layout_of}
use Rattle.rrs_commands.proofs.assembly.products_of.Goals as goal

pub returns-clause-bytes : goal.returns-clause-bytes
returns-clause-bytes g c = λ form none.
    let layout = layout_of (wanted_of c.args.request) in
    let sections = c.in_ok-program.program.sections.items in
    let same : c.layout_of-layout.result ≡ layout = c.layout_of-layout.ensures in
    let P : Layout → Type 0 = λ l. AreSectionsOf l (items_of c.in_ok-whole.whole.text.items) sections in
    let made : AreSectionsOf layout (items_of c.in_ok-whole.whole.text.items) sections = subst P same c.in_ok-program.ensures in
    let start : layout.text_start ≡ c.layout_of-layout.result.text_start = ap (λ l. l.text_start) (sym same) in
    let Q : ℕ → Type 0 = λ a. IsImage a sections c.in_ok-text.text.items in
    (c.in_ok-expanded.expanded.text.items, c.in_ok-expanded.ensures, c.in_ok-whole.whole.text.items, c.in_ok-whole.ensures, sections, made, subst Q (sym start) (c.in_ok-text.ensures.bytes form none layout start made.placed))
