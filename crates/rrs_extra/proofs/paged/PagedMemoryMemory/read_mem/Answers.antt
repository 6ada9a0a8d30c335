-- The page that was lent is read and seen as it was; where there is none there is nothing to read.
use Rattle.std.proofs.Common.{◌≡◌, ◌+◌, ◌/◌, map, Some, None, refl, sym, subst, ap, ◌∙◌}
use Rattle.std.specs.Option.{option_copied_mut}
use Rattle.std.specs.Ordering.{nat_cmp}
use Rattle.std.specs.BTreeMap.{is_at}
use Rattle.std.proofs.lemmas.Nat.{and_mask}
use Rattle.std.proofs.lemmas.Map.Steps.{set_value_same}
use Rattle.rrs_lib.specs.Bytes.{width, little_endian}
use Rattle.rrs_lib.specs.VecBytes.{bytes_of_words}
use Rattle.rrs_lib.proofs.VecWords.{aligned_in_word}
use Rattle.rrs_lib.proofs.Regions.{little_endian-unmapped, width_pos}
use Rattle.rrs_extra.specs.Pages.{IsFull, ArePages, page_at, paged_bytes, paged_writable, paged_layout}
use Rattle.rrs_extra.specs.PageFields.{contents_of, page_of}
use Rattle.rrs_extra.proofs.PageLists.{holds_at, value_in_page, byte_nowhere, found_on, lawful_pages, pages_end}
use Rattle.rrs_extra.proofs.PageMaps.{page_at_lookup}
use Rattle.rrs_extra.proofs.paged.PagedMemoryMemory.read_mem.Goals.{in-Some, in-None}
use Rattle.rrs_extra.proofs.paged.PagedMemoryMemory.read_mem.Goals as goal

pub returns-clause-did : goal.returns-clause-did
returns-clause-did c =
    let es = c.self.inside.pages.entries in
    elim c.match-get_mut.branch [
      | in-Some w ↦
          let found = sym c.get_mut.ensures.value ∙ ap option_copied_mut w.in-Some.is in
          ap (λ s. map page_of s.pages.entries) w.self-inside-is
          ∙ ap (map page_of) ((c.get_mut.follows.holds w.read.new.self).0 ∙ set_value_same (is_at (nat_cmp (c.args.addr / 4096))) es w.read.new.self (found ∙ ap Some (sym w.read.ensures.kept)))
          ∙ c.self.view_is
      | in-None w ↦
          ap (λ s. map page_of s.pages.entries) w.self-inside-is
          ∙ ap (λ m. map page_of m.entries) c.get_mut.follows.holds-at-none
          ∙ c.self.view_is
    ]

pub invariant_of-self : goal.invariant_of-self
invariant_of-self c =
    subst ArePages (sym (returns-clause-did c)) (subst ArePages c.self.view_is c.self.invariant)

pub returns-clause-laws : goal.returns-clause-laws
returns-clause-laws c =
    let kept = returns-clause-did c in
    let old = c.args.self.now in
    let a = c.args.addr in
    let n = width c.args.size in
    let es = c.self.inside.pages.entries in
    let pages = subst ArePages c.self.view_is c.self.invariant in
    let seen = sym (ap (λ pages. page_at pages (a / 4096)) c.self.view_is) ∙ page_at_lookup es (a / 4096) in
    let within = aligned_in_word a c.args.size c.requires in
    let value : c.match-get_mut.result ≡ little_endian (paged_bytes old) a n = elim c.match-get_mut.branch [
      | in-Some w ↦
          let p = contents_of w.in-Some.page.now in
          let found = sym c.get_mut.ensures.value ∙ ap option_copied_mut w.in-Some.is in
          let at : page_at old (a / 4096) ≡ Some p = seen ∙ rw found refl in
          w.result-is ∙ w.read.ensures.value
          ∙ ap (λ x. little_endian (bytes_of_words p.words) x n) (and_mask a 12)
          ∙ sym (value_in_page old p a n at (holds_at IsFull old (a / 4096) p pages.full at).words_long within)
      | in-None w ↦
          let none = sym c.get_mut.ensures.value ∙ ap option_copied_mut w.in-None.is in
          let at : page_at old (a / 4096) ≡ None = seen ∙ rw none refl in
          w.result-is
          ∙ sym (little_endian-unmapped (paged_bytes old) a n (width_pos c.args.size) (byte_nowhere old (a + 0) (found_on old None a n 0 within (width_pos c.args.size) at)))
    ] in
    record {
      value = value;
      bytes_kept = ap paged_bytes kept;
      writable_kept = ap paged_writable kept;
      layout_kept = ap paged_layout kept;
      lawful = lawful_pages old a n;
      ends = pages_end old pages.numbers_fit;
    }
