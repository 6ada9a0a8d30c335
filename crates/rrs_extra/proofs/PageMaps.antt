-- The entries of the code's map, and the pages that contracts see of them.
use Rattle.std.proofs.Common.{◌≡◌, ◌↔◌, ℕ, ◌^◌, ◌<◌, List, [], ◌∷◌, map, All, Option, Some, None, option_map, is_some, Bool, true, false, IsTrue, IsSome, cond, refl, sym, subst, ap, ◌∙◌}
use Rattle.std.specs.declared.cmp.Ordering.TheVariants.{Less, Equal, Greater}
use Rattle.std.specs.Ordering.{nat_cmp, match_ordering}
use Rattle.std.specs.List.Sorted.{IsStrictlySortedBy, IsStrictlyIncreasing}
use Rattle.std.specs.Map.{lookup, set_value, keys_of, values_of}
use Rattle.std.specs.BTreeMap.{is_at, insert_entry}
use Rattle.std.proofs.lemmas.Bool.{true≢false}
use Rattle.std.proofs.lemmas.Map.Keys.{IsStrictlyIncreasing-from_sorted}
use Rattle.std.proofs.lemmas.Map.Made.{lookup-map_values, keys_of-map_values}
use Rattle.std.proofs.lemmas.Map.Views.{All-values-insert_entry, All-keys-insert_entry}
use Rattle.rrs_extra.specs.declared.paged.PageContents.{PageContents}
use Rattle.rrs_extra.specs.Pages.{Contents, Page, page_at, IsFull, ArePages, inserted}
use Rattle.rrs_extra.specs.PageFields.{contents_of, page_of}

-- ---- each value of a map changed alike

module _ {X Y : Type 0} (g : X → Y) where
  pub map-set_value : (test : ℕ → Bool) (es : List (ℕ × X)) (w : X) → map (λ e. (e.0, g e.1)) (set_value test es w) ≡ set_value test (map (λ e. (e.0, g e.1)) es) (g w)
  map-set_value test [] w = refl
  map-set_value test (e ∷ es) w =
      let changed : List (ℕ × X) → List (ℕ × Y) = map (λ e. (e.0, g e.1)) in
      elim (test e.0) as (λ b. changed (cond b ((e.0, w) ∷ es) (e ∷ set_value test es w)) ≡ cond b ((e.0, g w) ∷ changed es) ((e.0, g e.1) ∷ set_value test (changed es) (g w))) [
        | true ↦ refl
        | false ↦ ap (λ xs. (e.0, g e.1) ∷ xs) (map-set_value test es w)
      ]

  pub map-insert_entry : (es : List (ℕ × X)) (k : ℕ) (v : X) → map (λ e. (e.0, g e.1)) (insert_entry nat_cmp es k v) ≡ insert_entry nat_cmp (map (λ e. (e.0, g e.1)) es) k (g v)
  map-insert_entry [] k v = refl
  map-insert_entry (e ∷ es) k v =
      let changed : List (ℕ × X) → List (ℕ × Y) = map (λ e. (e.0, g e.1)) in
      elim (nat_cmp k e.0) as (λ o. changed (match_ordering o ((k, v) ∷ e ∷ es) ((e.0, v) ∷ es) (e ∷ insert_entry nat_cmp es k v)) ≡ match_ordering o ((k, g v) ∷ (e.0, g e.1) ∷ changed es) ((e.0, g v) ∷ changed es) ((e.0, g e.1) ∷ insert_entry nat_cmp (changed es) k (g v))) [
        | Less ↦ refl
        | Equal ↦ refl
        | Greater ↦ ap (λ xs. (e.0, g e.1) ∷ xs) (map-insert_entry es k v)
      ]

-- ---- the pages that are seen

-- what a look-up finds is the page that is seen
pub page_at_lookup : (es : List (ℕ × PageContents)) (k : ℕ) → page_at (map page_of es) k ≡ option_map contents_of (lookup (is_at (nat_cmp k)) es)
page_at_lookup es k = lookup-map_values contents_of (is_at (nat_cmp k)) es

-- there is a page exactly where a look-up finds one
pub is_there : (es : List (ℕ × PageContents)) (k : ℕ) → is_some (page_at (map page_of es) k) ≡ is_some (lookup (is_at (nat_cmp k)) es)
is_there es k = ap is_some (page_at_lookup es k) ∙ mapped (lookup (is_at (nat_cmp k)) es)
  where
    mapped : (o : Option PageContents) → is_some (option_map contents_of o) ≡ is_some o
    mapped None = refl
    mapped (Some c) = refl

-- a number that no page has is found nowhere
pub no_page : (pages : List Page) (k : ℕ) (there : Bool) → there ≡ false → IsTrue there ↔ IsSome (page_at pages k) → page_at pages k ≡ None
no_page pages k there not_there same = none (page_at pages k) (λ found. true≢false (sym (same.1 found) ∙ not_there))
  where
    none : (o : Option Contents) → (IsSome o → ⊥) → o ≡ None
    none None refuted = refl
    none (Some c) refuted = absurd (refuted refl)

-- what every memory of pages keeps, where one was added
pub insert_are_pages : (es new_es : List (ℕ × PageContents)) (k : ℕ) (new : PageContents) → ArePages (map page_of es) → new_es ≡ insert_entry nat_cmp es k new → IsStrictlySortedBy nat_cmp (keys_of new_es) → k < 2 ^ 20 → IsFull (contents_of new) → ArePages (map page_of new_es)
insert_are_pages es new_es k new pages is ordered fits full =
    let seen : map page_of new_es ≡ inserted (page_of (k, new)) (map page_of es) = ap (map page_of) is ∙ map-insert_entry contents_of es k new in
    record {
      full = subst (λ xs. All IsFull (values_of xs)) (sym seen) (All-values-insert_entry nat_cmp k (contents_of new) IsFull (map page_of es) pages.full full);
      numbers_fit = subst (λ xs. All (λ n. n < 2 ^ 20) (keys_of xs)) (sym seen) (All-keys-insert_entry nat_cmp k (contents_of new) (λ n. n < 2 ^ 20) (map page_of es) pages.numbers_fit fits);
      rising = subst IsStrictlyIncreasing (sym (keys_of-map_values contents_of new_es)) (IsStrictlyIncreasing-from_sorted (keys_of new_es) ordered);
    }
