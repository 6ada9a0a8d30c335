-- What a write leaves of a memory of pages: it goes into one page, or there is none for it.
use Rattle.std.proofs.Common.{◌≡◌, ℕ, ◌/◌, ◌%◌, ◌+◌, ◌^◌, ◌<◌, List, length, slice_index, slice_index_or, All, Some, None, option_map, Bool, true, false, not, refl, sym, subst, ap, ◌∙◌}
use Rattle.std.specs.Bool.{OnTrue, OnFalse}
use Rattle.std.specs.List.Sorted.{IsStrictlyIncreasing}
use Rattle.std.specs.Ordering.{nat_cmp}
use Rattle.std.specs.Map.{set_value, values_of}
use Rattle.std.specs.BTreeMap.{is_at}
use Rattle.std.proofs.lemmas.Bool.{true≢false, OnTrue_at, OnFalse_at, OnTrue_from, OnFalse_from}
use Rattle.std.proofs.lemmas.Map.{keys-set_value}
use Rattle.std.proofs.lemmas.Map.Made.{lookup-map_values}
use Rattle.std.proofs.lemmas.Map.Steps.{set_value_same}
use Rattle.std.proofs.lemmas.Map.Views.{All-values-set_value}
use Rattle.rrs_lib.specs.Bytes.{width, all_writable, store, Writes}
use Rattle.rrs_lib.specs.declared.MemAccessSize.{MemAccessSize}
use Rattle.rrs_lib.specs.VecBytes.{bytes_of_words}
use Rattle.rrs_lib.proofs.Regions.{all_writable-refused, width_pos}
use Rattle.rrs_lib.proofs.VecWords.{aligned_in_word}
use Rattle.rrs_extra.specs.Pages.{Contents, Page, page_at, word_at, paged_bytes, paged_writable, paged_layout, marks, IsFull, ArePages, PagedWrites}
use Rattle.rrs_extra.proofs.PageLists.{holds_at, set_here, set_there, found_on, all_writable_in_page, writable_nowhere, lawful_pages, pages_end, Replaced, written_in_page, writable_kept, words_kept}
use Rattle.rrs_extra.proofs.PageMaps.{map-set_value}

-- a write of the contents c of a page, which became new
pub record Wrote (c new : Contents) (place n value : ℕ) (answer : Bool) : Type 0 where
  pub granted : answer ≡ not (slice_index_or c.read_only (place / 4) true)
  pub written : OnTrue answer (bytes_of_words new.words ≡ store (bytes_of_words c.words) place n value)
  pub refused : OnFalse answer (new ≡ c)
  pub marks_same : new.read_only ≡ c.read_only
  pub long : length new.words ≡ 1024
  pub others : (i : ℕ) → (i ≡ place / 4 → ⊥) → slice_index new.words i ≡ slice_index c.words i

-- what a write leaves of the pages, for every memory and for this one
pub record Did (old new : List Page) (a : ℕ) (size : MemAccessSize) (value : ℕ) (answer : Bool) : Type 0 where
  pub laws : Writes paged_bytes paged_writable paged_layout old new a (width size) value answer
  pub did : PagedWrites old a size value new answer
  pub are : ArePages new

module _ (old new : List Page) (a : ℕ) (size : MemAccessSize) (value : ℕ) (answer : Bool) (pages : ArePages old)
    (aligned : a % width size ≡ 0) where
  -- by what was written and refused, and what stays
  did_by : (answer ≡ all_writable (paged_writable old) a (width size))
      → (answer ≡ true → paged_bytes new ≡ store (paged_bytes old) a (width size) value) → (answer ≡ false → new ≡ old)
      → paged_writable new ≡ paged_writable old → paged_layout new ≡ paged_layout old → marks new ≡ marks old
      → ((b : ℕ) → (b / 4 ≡ a / 4 → ⊥) → word_at new b ≡ word_at old b) → All IsFull (values_of new)
      → Did old new a size value answer
  did_by granted written refused writable layout marks others full = record {
    laws = record {
      granted = granted;
      written = OnTrue_from answer _ written;
      refused = OnFalse_from answer _ (λ no_answer. ap paged_bytes (refused no_answer));
      writable_kept = writable;
      layout_kept = layout;
      lawful = lawful_pages old a (width size);
      ends = pages_end old pages.numbers_fit;
    };
    did = record {
      written = OnTrue_from answer _ written;
      refused = OnFalse_from answer _ refused;
      layout_kept = layout;
      marks_kept = marks;
      others_kept = others;
    };
    are = record {
      full = full;
      numbers_fit = subst (All (λ n. n < 2 ^ 20)) (sym layout) pages.numbers_fit;
      rising = subst IsStrictlyIncreasing (sym layout) pages.rising;
    };
  }

  -- into the page that was found
  pub into : (c d : Contents) → page_at old (a / 4096) ≡ Some c → new ≡ set_value (is_at (nat_cmp (a / 4096))) old d
      → Wrote c d (a % 4096) (width size) value answer → Did old new a size value answer
  into c d found set wrote =
      let test = is_at (nat_cmp (a / 4096)) in
      let within = aligned_in_word a size aligned in
      let was = holds_at IsFull old (a / 4096) c pages.full found in
      let marks_long = ap length wrote.marks_same ∙ was.marks_long in
      let full : IsFull d = record { words_long = wrote.long; marks_long = marks_long } in
      let replaced : Replaced old new (a / 4096) c d = record {
        was = found;
        becomes = ap (λ xs. page_at xs (a / 4096)) set ∙ set_here old (a / 4096) c d found;
        others = λ m apart. ap (λ xs. page_at xs m) set ∙ set_there old (a / 4096) c d found m apart;
        words_were_long = was.words_long;
        words_long = wrote.long;
        marks_kept = wrote.marks_same;
      } in
      let marks_of : Contents → List Bool = λ x. x.read_only in
      did_by (wrote.granted
      ∙ sym (all_writable_in_page old c a (width size) found was.marks_long (width_pos size) within))
      (λ granted. written_in_page replaced a (width size) value refl within (OnTrue_at granted wrote.written))
      (λ no_answer. set ∙ set_value_same test old d (found ∙ ap Some (sym (OnFalse_at no_answer wrote.refused))))
      (writable_kept replaced) (ap paged_layout set ∙ keys-set_value test old d)
      (ap marks set ∙ map-set_value marks_of test old d ∙ set_value_same test (marks old) d.read_only
      (lookup-map_values marks_of test old ∙ ap (option_map marks_of) found ∙ ap Some (sym wrote.marks_same)))
      (λ b apart. words_kept replaced a b refl wrote.others apart)
      (subst (λ xs. All IsFull (values_of xs)) (sym set) (All-values-set_value test IsFull old d pages.full full))

  -- where there is none
  pub nowhere : page_at old (a / 4096) ≡ None → new ≡ old → answer ≡ false → Did old new a size value answer
  nowhere none same no_answer =
      let some = width_pos size in
      let closed = writable_nowhere old (a + 0) (found_on old None a _ 0 (aligned_in_word a size aligned) some none) in
      did_by (no_answer ∙ sym (all_writable-refused (paged_writable old) a (width size) some closed))
      (λ granted. absurd (true≢false (sym granted ∙ no_answer))) (λ _. same) (ap paged_writable same)
      (ap paged_layout same) (ap marks same) (λ b apart. ap (λ pages. word_at pages b) same)
      (subst (λ xs. All IsFull (values_of xs)) (sym same) pages.full)
