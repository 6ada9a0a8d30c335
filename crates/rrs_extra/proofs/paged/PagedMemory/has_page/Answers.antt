-- The map has the number exactly where a page that is seen has it.
use Rattle.std.proofs.Common.{◌↔◌, List, IsTrue, IsSome, subst, sym, ◌∙◌}
use Rattle.rrs_extra.specs.Pages.{Page, page_at}
use Rattle.rrs_extra.proofs.PageMaps.{is_there}
use Rattle.rrs_extra.proofs.paged.PagedMemory.has_page.Goals as goal

pub returns : goal.returns
returns c =
    let P : List Page → Type 0 = λ pages. IsTrue c.contains_key.result ↔ IsSome (page_at pages c.args.number) in
    let same = c.contains_key.ensures ∙ sym (is_there c.self.inside.pages.entries c.args.number) in
    subst P c.self.view_is (λ yes_it_has. sym same ∙ yes_it_has, λ there. same ∙ there)
