-- The write went into the page that was lent, or nowhere.
use Rattle.std.proofs.Common.{◌≡◌, ℕ, Bool, ◌/◌, ◌%◌, List, map, Some, None, option_map, bit_and, sym, subst, ap, ◌∙◌, arith}
use Rattle.std.specs.Option.{option_copied_mut}
use Rattle.std.specs.Ordering.{nat_cmp}
use Rattle.std.specs.Map.{lookup, set_value}
use Rattle.std.specs.BTreeMap.{is_at}
use Rattle.std.proofs.lemmas.Bool.{OnFalse_from, OnFalse_at}
use Rattle.std.proofs.lemmas.Nat.{and_mask}
use Rattle.rrs_lib.specs.Bytes.{width}
use Rattle.rrs_extra.specs.declared.paged.PageContents.{PageContents}
use Rattle.rrs_extra.specs.Pages.{Page, IsFull, ArePages, page_at}
use Rattle.rrs_extra.specs.PageFields.{contents_of, page_of}
use Rattle.rrs_extra.proofs.PageLists.{holds_at}
use Rattle.rrs_extra.proofs.PageMaps.{map-set_value, page_at_lookup}
use Rattle.rrs_extra.proofs.PageWrites.{Wrote, Did, into, nowhere}
use Rattle.rrs_extra.proofs.paged.PagedMemoryMemory.write_mem.Goals.{Joined-get_mut, in-Some, in-None}
use Rattle.rrs_extra.proofs.paged.PagedMemoryMemory.write_mem.Goals as goal

-- the page that was lent is the one of the address, and full
lent : (es : List (ℕ × PageContents)) (old : List Page) (k : ℕ) (c : PageContents) → map page_of es ≡ old → ArePages (map page_of es) → lookup (is_at (nat_cmp k)) es ≡ Some c → (page_at old k ≡ Some (contents_of c)) × IsFull (contents_of c)
lent es old k c seen pages found =
    let at : page_at (map page_of es) k ≡ Some (contents_of c) = page_at_lookup es k ∙ ap (option_map contents_of) found in
    (subst (λ xs. page_at xs k ≡ Some (contents_of c)) seen at, holds_at IsFull (map page_of es) k (contents_of c) pages.full at)

pub write-requires-clause-words_long : goal.write-requires-clause-words_long
write-requires-clause-words_long c =
    let found = sym c.get_mut.ensures.value ∙ ap option_copied_mut c.in-Some.is in
    let full = (lent _ _ (c.args.addr / 4096) c.in-Some.page.now c.self.view_is c.self.invariant found).1 in
    omega (arith, full.words_long, c.in-Some.page.now.words.mem.ok)

pub write-requires-clause-marks_long : goal.write-requires-clause-marks_long
write-requires-clause-marks_long c =
    let found = sym c.get_mut.ensures.value ∙ ap option_copied_mut c.in-Some.is in
    let full = (lent _ _ (c.args.addr / 4096) c.in-Some.page.now c.self.view_is c.self.invariant found).1 in
    omega (arith, full.marks_long, c.in-Some.page.now.read_only.ok)

-- what the code did
did : (c : Joined-get_mut) → Did c.args.self.now (map page_of c.match-get_mut.self-inside.pages.entries) c.args.addr c.args.size c.args.store_data c.match-get_mut.result
did c =
    let pages = subst ArePages c.self.view_is c.self.invariant in
    let es = c.self.inside.pages.entries in
    let k = c.args.addr / 4096 in
    let n = width c.args.size in
    elim c.match-get_mut.branch [
      | in-Some w ↦
          let old = contents_of w.in-Some.page.now in
          let new = contents_of w.write.new.self in
          let found = sym c.get_mut.ensures.value ∙ ap option_copied_mut w.in-Some.is in
          let set = ap (λ s. map page_of s.pages.entries) w.self-inside-is ∙ ap (map page_of) (c.get_mut.follows.holds w.write.new.self).0 ∙ map-set_value contents_of (is_at (nat_cmp k)) es w.write.new.self ∙ ap (λ pages. set_value (is_at (nat_cmp k)) pages new) c.self.view_is in
          let wrote : Wrote old new (bit_and c.args.addr 4095) n c.args.store_data w.write.result = record {
            granted = w.write.ensures.answer;
            written = w.write.ensures.written;
            refused = OnFalse_from w.write.result _ (λ no_answer. ap contents_of (OnFalse_at no_answer w.write.ensures.refused));
            marks_same = ap (λ v. v.items) w.write.ensures.marks_kept;
            long = omega (arith, w.write.ensures.length_kept, w.write.new.self.words.mem.ok);
            others = w.write.ensures.others_kept;
          } in
          let P : ℕ → Type 0 = λ place. Wrote old new place n c.args.store_data w.write.result in
          let Q : Bool → Type 0 = λ answer. Wrote old new (c.args.addr % 4096) n c.args.store_data answer in
          into c.args.self.now _ c.args.addr c.args.size _ _ pages c.requires old new (lent _ _ k w.in-Some.page.now c.self.view_is c.self.invariant found).0 set (subst Q (sym w.result-is) (subst P (and_mask c.args.addr 12) wrote))
      | in-None w ↦
          let none = sym c.get_mut.ensures.value ∙ ap option_copied_mut w.in-None.is in
          let P : List Page → Type 0 = λ pages. page_at pages k ≡ None in
          let same = ap (λ s. map page_of s.pages.entries) w.self-inside-is ∙ ap (λ m. map page_of m.entries) c.get_mut.follows.holds-at-none ∙ c.self.view_is in
          nowhere c.args.self.now _ c.args.addr c.args.size _ _ pages c.requires (subst P c.self.view_is (page_at_lookup es k ∙ ap (option_map contents_of) none)) same w.result-is
    ]

pub invariant_of-self : goal.invariant_of-self
invariant_of-self c = (did c).are

pub returns-clause-laws : goal.returns-clause-laws
returns-clause-laws c = (did c).laws

pub returns-clause-did : goal.returns-clause-did
returns-clause-did c = (did c).did

pub returns-clause-pages : goal.returns-clause-pages
returns-clause-pages c = (did c).are
