-- Lists of pages: what a look-up finds, the bytes of one page, and what a write into it leaves.
use Rattle.std.proofs.Common.{◌≡◌, ℕ, zero, suc, ◌/◌, ◌%◌, ◌^◌, ◌+◌, ◌-◌, ◌<◌, ◌≤◌, List, [], ◌∷◌, length, All, slice_get, slice_index, slice_index_or, Option, Some, None, option_map, option_and_then, unwrap_or, is_some, Bool, true, false, ◌&&◌, not, IsTrue, IsSome, IfSome, cond, inl, inr, refl, sym, subst, ap, ◌∙◌, arith}
use Rattle.std.specs.Ordering.{nat_cmp, eq_by_cmp}
use Rattle.std.specs.Cmp.{nat_cmp_total, eq_by_cmp_equiv}
use Rattle.std.specs.Map.{set_value, keys_of, values_of}
use Rattle.std.specs.BTreeMap.{is_at}
use Rattle.std.proofs.Math.Path.{fun_ext}
use Rattle.std.proofs.lemmas.Bool.{false≢true, cases_eq, cases_lt}
use Rattle.std.proofs.lemmas.Bool.Decides.{nat_tests}
use Rattle.std.proofs.lemmas.List.Elements.{All-head, All-tail}
use Rattle.std.proofs.lemmas.Map.{lookup-set_value}
use Rattle.std.proofs.lemmas.Map.Entries.{lookup_head, lookup_tail}
use Rattle.std.proofs.lemmas.Map.Views.{IfSome-lookup_from_All}
use Rattle.std.proofs.lemmas.Option.{none-some, same_Some, slice_get-get_or}
use Rattle.rrs_lib.specs.Bytes.{ByteMap, little_endian, all_writable, store, IsLawful, EndsAtLastAddress}
use Rattle.rrs_lib.specs.VecBytes.{bytes_of_words}
use Rattle.rrs_lib.proofs.VecWords.{byte_at}
use Rattle.rrs_lib.proofs.Regions.{little_endian-moved, store_inside, store_outside}
use Rattle.rrs_extra.specs.Pages.{Contents, Page, page_at, word_at, place_of, paged_bytes, paged_writable}

-- ---- look-ups

-- the test of a look-up is equality
at_same : (k n : ℕ) → n ≡ k → is_at (nat_cmp k) n ≡ true
at_same k n same = grind (arith, nat_tests)

pub at_other : (k n : ℕ) → (n ≡ k → ⊥) → is_at (nat_cmp k) n ≡ false
at_other k n apart = grind (arith, nat_tests)

-- the first page, where it has the number
pub page_first : (p : Page) (pages : List Page) (n : ℕ) → p.0 ≡ n → page_at (p ∷ pages) n ≡ Some p.1
page_first p pages n same = lookup_head (is_at (nat_cmp n)) p pages (at_same n p.0 same)

-- and the later ones, where it has not
pub page_later : (p : Page) (pages : List Page) (n : ℕ) → (p.0 ≡ n → ⊥) → page_at (p ∷ pages) n ≡ page_at pages n
page_later p pages n apart = lookup_tail (is_at (nat_cmp n)) p pages (at_other n p.0 apart)

-- what holds of what each page holds, holds of what is found
pub holds_at : (P : Contents → Type 0) (pages : List Page) (n : ℕ) (c : Contents) → All P (values_of pages) → page_at pages n ≡ Some c → P c
holds_at P pages n c all found =
    subst (λ (o : Option Contents). IfSome o P) found (IfSome-lookup_from_All P (is_at (nat_cmp n)) pages all)

-- no page has a number from 2 ^ 20 on
pub no_page_past : (pages : List Page) (n : ℕ) → All (λ number. number < 2 ^ 20) (keys_of pages) → 2 ^ 20 ≤ n → page_at pages n ≡ None
no_page_past [] n fit past = refl
no_page_past (p ∷ pages) n fit past =
    let below = All-head (λ number. number < 2 ^ 20) p.0 (keys_of pages) fit in
    page_later p pages n (λ same. omega (arith, below, same, past))
    ∙ no_page_past pages n (All-tail (λ number. number < 2 ^ 20) p.0 (keys_of pages) fit) past

-- ---- one page replaced

-- a key for which the test holds is the one
is_key : (k x y : ℕ) → is_at (nat_cmp k) x ≡ true → is_at (nat_cmp k) y ≡ eq_by_cmp nat_cmp x y
is_key k x y same = grind (arith, nat_tests)

module _ (pages : List Page) (k : ℕ) (c new : Contents) (found : page_at pages k ≡ Some c) where
  -- what is found then
  set_at : (m : ℕ) → page_at (set_value (is_at (nat_cmp k)) pages new) m ≡ cond (is_at (nat_cmp k) m) (Some new) (page_at pages m)
  set_at m = lookup-set_value (eq_by_cmp_equiv nat_cmp_total) (is_at (nat_cmp k)) (is_key k) m new pages (ap is_some found)

  -- the page is found with its new contents, and the others as they were
  pub set_here : page_at (set_value (is_at (nat_cmp k)) pages new) k ≡ Some new
  set_here = set_at k ∙ ap (λ b. cond b (Some new) (page_at pages k)) (at_same k k refl)

  pub set_there : (m : ℕ) → (m ≡ k → ⊥) → page_at (set_value (is_at (nat_cmp k)) pages new) m ≡ page_at pages m
  set_there m apart = set_at m ∙ ap (λ b. cond b (Some new) (page_at pages m)) (at_other k m apart)

-- ---- the bytes of one page

-- a byte of a page is one of its words
pub byte_in_page : (pages : List Page) (p : Contents) (b : ℕ) → page_at pages (b / 4096) ≡ Some p → length p.words ≡ 1024 → paged_bytes pages b ≡ bytes_of_words p.words (b % 4096)
byte_in_page pages p b found long =
    let place : b % 4 ≡ b % 4096 % 4 = omega arith in
    rw found (ap (λ x. Some (slice_index p.words (b % 4096 / 4) / 256 ^ x % 256)) place)
    ∙ sym (byte_at p.words (b % 4096) (omega arith) (omega arith))

-- there is none where there is no page
pub byte_nowhere : (pages : List Page) (b : ℕ) → page_at pages (b / 4096) ≡ None → paged_bytes pages b ≡ None
byte_nowhere pages b none = rw none refl

-- it is writable where its word is not read-only
pub writable_in_page : (pages : List Page) (p : Contents) (b : ℕ) → page_at pages (b / 4096) ≡ Some p → length p.read_only ≡ 1024 → paged_writable pages b ≡ not (slice_index_or p.read_only (b % 4096 / 4) true)
writable_in_page pages p b found long =
    let there : slice_get p.read_only (b % 4096 / 4) ≡ Some (slice_index_or p.read_only (b % 4096 / 4) true) = slice_get-get_or p.read_only (b % 4096 / 4) true (omega arith) in
    rw (found, there) refl

-- nothing is where there is no page
pub writable_nowhere : (pages : List Page) (b : ℕ) → page_at pages (b / 4096) ≡ None → paged_writable pages b ≡ false
writable_nowhere pages b none = rw none refl

-- ---- an access

-- the bytes of an access are in the page of the first
pub found_on : (pages : List Page) (o : Option Contents) (a n i : ℕ) → a % 4 + n ≤ 4 → i < n → page_at pages (a / 4096) ≡ o → page_at pages ((a + i) / 4096) ≡ o
found_on pages o a n i within below found =
    let same : (a + i) / 4096 ≡ a / 4096 = omega arith in
    ap (page_at pages) same ∙ found

-- the value of some bytes of a word is that in its page
pub value_in_page : (pages : List Page) (p : Contents) (a n : ℕ) → page_at pages (a / 4096) ≡ Some p → length p.words ≡ 1024 → a % 4 + n ≤ 4 → little_endian (paged_bytes pages) a n ≡ little_endian (bytes_of_words p.words) (a % 4096) n
value_in_page pages p a n found long within =
    little_endian-moved (paged_bytes pages) (bytes_of_words p.words) a (a % 4096) n (λ i below.
    let on : (a + i) % 4096 ≡ a % 4096 + i = omega arith in
    byte_in_page pages p (a + i) (found_on pages _ a n i within below found) long ∙ ap (bytes_of_words p.words) on)

-- addresses that are all writable, or all not
all_alike : (f : ℕ → Bool) (a n : ℕ) (w : Bool) → 0 < n → ((i : ℕ) → i < n → f (a + i) ≡ w) → all_writable f a n ≡ w
all_alike f a zero w some same = absurd (omega (arith, some))
all_alike f a (suc zero) w some same = same 0 (omega arith)
all_alike f a (suc (suc n)) w some same =
    rw (all_alike f a (suc n) w (omega arith) (λ i below. same i (omega arith)), same (suc n) (omega arith)) (twice w)
  where
    twice : (x : Bool) → (x && x) ≡ x
    twice true = refl
    twice false = refl

-- the bytes of one word are writable alike
pub all_writable_in_page : (pages : List Page) (p : Contents) (a n : ℕ) → page_at pages (a / 4096) ≡ Some p → length p.read_only ≡ 1024 → 0 < n → a % 4 + n ≤ 4 → all_writable (paged_writable pages) a n ≡ not (slice_index_or p.read_only (a % 4096 / 4) true)
all_writable_in_page pages p a n found long some within =
    all_alike (paged_writable pages) a n _ some (λ i below.
    let same : (a + i) % 4096 / 4 ≡ a % 4096 / 4 = omega arith in
    writable_in_page pages p (a + i) (found_on pages _ a n i within below found) long
    ∙ ap (λ x. not (slice_index_or p.read_only x true)) same)

-- ---- the laws that need no look-up

-- a byte of a word, where there is one, is below 256
byte_fits : (o : Option ℕ) (k byte : ℕ) → option_map (λ word. word / k % 256) o ≡ Some byte → byte < 256
byte_fits None k byte e = absurd (none-some _ e)
byte_fits (Some word) k byte e = omega (arith, same_Some _ _ e)

-- where there is a mark there is a byte
marked_is_mapped : (o : Option Contents) (i k : ℕ) → IsTrue (unwrap_or (option_map not (option_and_then (λ p. slice_get p.read_only i) o)) false) → IsSome (option_map (λ word. word / k % 256) (option_map (λ p. slice_index p.words i) o))
marked_is_mapped None i k t = absurd (false≢true t)
marked_is_mapped (Some p) i k t = refl

-- pages are a lawful memory, at any addresses
pub lawful_pages : (pages : List Page) (a n : ℕ) → IsLawful (paged_bytes pages) (paged_writable pages) a n
lawful_pages pages a n = record {
  values = λ i byte below is. byte_fits (word_at pages (a + i)) (256 ^ ((a + i) % 4)) byte is;
  mapped = λ i below t. marked_is_mapped (page_at pages ((a + i) / 4096)) (place_of (a + i)) (256 ^ ((a + i) % 4)) t;
}

-- and end at the last address
pub pages_end : (pages : List Page) → All (λ number. number < 2 ^ 20) (keys_of pages) → EndsAtLastAddress (paged_bytes pages) (paged_writable pages)
pages_end pages fit a past =
    let none = no_page_past pages (a / 4096) fit (omega arith) in
    (byte_nowhere pages a none, writable_nowhere pages a none)

-- ---- a write into one page

-- the page p of number k became q, and the others stay
pub record Replaced (old new : List Page) (k : ℕ) (p q : Contents) : Type 0 where
  pub was : page_at old k ≡ Some p
  pub becomes : page_at new k ≡ Some q
  pub others : (m : ℕ) → (m ≡ k → ⊥) → page_at new m ≡ page_at old m
  pub words_were_long : length p.words ≡ 1024
  pub words_long : length q.words ≡ 1024
  pub marks_kept : q.read_only ≡ p.read_only

module _ {old new : List Page} {k : ℕ} {p q : Contents} (r : Replaced old new k p q) where
  -- a byte of the page after bytes of one of its words were stored
  written_inside : (a n v b : ℕ) → a / 4096 ≡ k → a % 4 + n ≤ 4 → bytes_of_words q.words ≡ store (bytes_of_words p.words) (a % 4096) n v → b / 4096 ≡ k → paged_bytes new b ≡ store (paged_bytes old) a n v b
  written_inside a n v b here within stored same =
      let after : paged_bytes new b ≡ bytes_of_words q.words (b % 4096) = byte_in_page new q b (ap (page_at new) same ∙ r.becomes) r.words_long in
      let before : paged_bytes old b ≡ bytes_of_words p.words (b % 4096) = byte_in_page old p b (ap (page_at old) same ∙ r.was) r.words_were_long in
      let moved : bytes_of_words q.words (b % 4096) ≡ store (bytes_of_words p.words) (a % 4096) n v (b % 4096) = ap (λ (f : ByteMap). f (b % 4096)) stored in
      let kept : (a ≤ b → a + n ≤ b) → paged_bytes new b ≡ store (paged_bytes old) a n v b = λ outside.
      after ∙ moved ∙ store_outside (bytes_of_words p.words) (a % 4096) n v (b % 4096) (λ le. omega (arith, le, outside))
      ∙ sym before ∙ sym (store_outside (paged_bytes old) a n v b outside) in
      elim (cases_lt b a) [
        | inl below ↦ kept (λ le. absurd (omega (arith, le, below)))
        | inr from ↦ elim (cases_lt b (a + n)) [
          | inl to ↦
              let far : b % 4096 - a % 4096 ≡ b - a = omega arith in
              after ∙ moved ∙ store_inside (bytes_of_words p.words) (a % 4096) n v (b % 4096) (omega arith) (omega arith)
              ∙ ap (λ x. Some (v / 256 ^ x % 256)) far
              ∙ sym (store_inside (paged_bytes old) a n v b from to)
          | inr above ↦ kept (λ le. above)
        ]
      ]

  -- what is said of a page stays where it stays of the one that was replaced
  said_kept : {T : Type 0} (says : Option Contents → T) (b : ℕ) → (b / 4096 ≡ k → says (Some q) ≡ says (Some p))
      → says (page_at new (b / 4096)) ≡ says (page_at old (b / 4096))
  said_kept says b inside =
      elim (cases_eq (b / 4096) k) [
        | inl same ↦ ap says (ap (page_at new) same ∙ r.becomes) ∙ inside same
            ∙ sym (ap says (ap (page_at old) same ∙ r.was))
        | inr apart ↦ ap says (r.others (b / 4096) apart)
      ]

  -- bytes that were stored in one word of the page are stored in the memory
  pub written_in_page : (a n v : ℕ) → a / 4096 ≡ k → a % 4 + n ≤ 4 → bytes_of_words q.words ≡ store (bytes_of_words p.words) (a % 4096) n v → paged_bytes new ≡ store (paged_bytes old) a n v
  written_in_page a n v here within stored =
      fun_ext (λ b. elim (cases_eq (b / 4096) k) [
        | inl same ↦ written_inside a n v b here within stored same
        | inr apart ↦
            said_kept (λ o. option_map (λ word. word / 256 ^ (b % 4) % 256) (option_map (λ (x : Contents). slice_index x.words (place_of b)) o))
            b (λ same. absurd (apart same)) ∙ sym (store_outside (paged_bytes old) a n v b (λ le. omega arith))
      ])

  -- what is writable stays
  pub writable_kept : paged_writable new ≡ paged_writable old
  writable_kept =
      fun_ext (λ b. said_kept (λ o. unwrap_or (option_map not (option_and_then (λ (x : Contents). slice_get x.read_only (place_of b)) o)) false)
      b (λ same. ap (λ xs. unwrap_or (option_map not (slice_get xs (place_of b))) false) r.marks_kept))

  -- the words stay, but one of the page
  pub words_kept : (a b : ℕ) → a / 4096 ≡ k → ((i : ℕ) → (i ≡ a % 4096 / 4 → ⊥) → slice_index q.words i ≡ slice_index p.words i) → (b / 4 ≡ a / 4 → ⊥) → word_at new b ≡ word_at old b
  words_kept a b here others apart =
      said_kept (λ o. option_map (λ (x : Contents). slice_index x.words (place_of b)) o) b
      (λ same. ap Some (others (b % 4096 / 4) (λ e. omega arith)))
