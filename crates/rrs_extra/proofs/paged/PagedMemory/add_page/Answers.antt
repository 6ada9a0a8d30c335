-- What the map says of its entries, said of the pages that are seen.
use Rattle.std.proofs.Common.{◌≡◌, length, map, option_map, Some, sym, ap, ◌∙◌, arith}
use Rattle.rrs_extra.specs.Pages.{contents, page_at, inserted, page}
use Rattle.rrs_extra.specs.PageFields.{contents_of, page_of}
use Rattle.rrs_extra.proofs.PageLists.{at_other}
use Rattle.rrs_extra.proofs.PageMaps.{map-insert_entry, page_at_lookup, no_page, insert_are_pages}
use Rattle.rrs_extra.proofs.paged.PagedMemory.add_page.Goals as goal

pub invariant_of-self : goal.invariant_of-self
invariant_of-self c =
    let long : length c.new.result.mem.items ≡ 1024 = rw c.new.ensures (omega (arith, c.args.words.ok, c.requires.words_long)) in
    insert_are_pages c.self.inside.pages.entries _ c.args.number _ c.self.invariant c.in-Ok.ensures.entries c.insert.ensures.ordered c.requires.number_fits (record {
      words_long = long;
      marks_long = omega (arith, c.args.read_only.ok, c.requires.marks_long);
    })

pub returns-in-Ok-clause-accepted : goal.returns-in-Ok-clause-accepted
returns-in-Ok-clause-accepted c = no_page c.args.self.now c.args.number _ c.if-has_page.false c.has_page.ensures

pub returns-in-Ok-clause-ok : goal.returns-in-Ok-clause-ok
returns-in-Ok-clause-ok c =
    let es = c.self.inside.pages.entries in
    ap (map page_of) c.in-Ok.ensures.entries
    ∙ map-insert_entry contents_of es c.args.number _
    ∙ ap (λ words. inserted (page c.args.number words c.args.read_only.items) (map page_of es)) (ap (λ v. v.items) c.new.ensures)
    ∙ ap (inserted (page c.args.number c.args.words.items c.args.read_only.items)) c.self.view_is

pub returns-in-Ok-clause-added : goal.returns-in-Ok-clause-added
returns-in-Ok-clause-added c =
    page_at_lookup _ c.args.number
    ∙ ap (option_map contents_of) c.in-Ok.ensures.updates.1
    ∙ ap (λ v. Some (contents v.items c.args.read_only.items)) c.new.ensures

pub returns-in-Ok-clause-others_kept : goal.returns-in-Ok-clause-others_kept
returns-in-Ok-clause-others_kept c = λ other apart.
    page_at_lookup _ other
    ∙ ap (option_map contents_of) (c.in-Ok.ensures.updates.2 other (at_other c.args.number other apart))
    ∙ sym (page_at_lookup c.self.inside.pages.entries other)
    ∙ ap (λ pages. page_at pages other) c.self.view_is

pub returns-in-Ok-clause-pages : goal.returns-in-Ok-clause-pages
returns-in-Ok-clause-pages c = invariant_of-self c
