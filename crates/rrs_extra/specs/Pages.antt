-- What a memory of pages means. Page p holds 1,024 words, of which word i lies at 4096 p + 4 i, as
-- four bytes, lowest first; a word is writable unless it is marked read-only.
use Rattle.std.specs.Prelude.{◌≡◌, ◌≢◌, ℕ, ◌/◌, ◌%◌, ◌^◌, ◌<◌, Bool, false, not, List, length, map, All, slice_get, slice_index, Option, option_map, option_and_then, unwrap_or, refl}
use Rattle.std.specs.List.Sorted.{IsStrictlyIncreasing}
use Rattle.std.specs.Coded.{Coded, code_by, coded×, coded_ℕ, coded_bool, coded_list}
use Rattle.std.specs.Bool.{OnTrue, OnFalse}
use Rattle.std.specs.Ordering.{nat_cmp}
use Rattle.std.specs.Map.{lookup, keys_of, values_of}
use Rattle.std.specs.BTreeMap.{is_at, insert_entry}
use Rattle.rrs_lib.specs.declared.MemAccessSize.{MemAccessSize}
use Rattle.rrs_lib.specs.Bytes.{ByteMap, width, store}

-- what a page holds: its words, and for each word whether it is read-only
pub record Contents : Type 0 where
  pub words : List ℕ
  pub read_only : List Bool

abbrev pub contents : List ℕ → List Bool → Contents
contents words read_only = record { words = words; read_only = read_only }

-- a page: its number, and what it holds
abbrev pub Page : Type 0
Page = ℕ × Contents

abbrev pub page : ℕ → List ℕ → List Bool → Page
page number words read_only = (number, contents words read_only)

-- contents are stored as the pair of their fields
abbrev pub page_code : Coded Page
page_code =
    coded×
    coded_ℕ
    (code_by
    (List ℕ × List Bool)
    (coded× (coded_list coded_ℕ) (coded_list coded_bool))
    (λ c. (c.words, c.read_only))
    (λ p. contents p.0 p.1)
    (λ _. refl))

-- ---- the meaning

-- what the page of a number holds: pages are entries of a map, by their numbers
abbrev pub page_at : List Page → ℕ → Option Contents
page_at pages number = lookup (is_at (nat_cmp number)) pages

-- where in its page the word lies to which address a belongs
abbrev pub place_of : ℕ → ℕ
place_of a = a % 4096 / 4

-- the word to which address a belongs: that of its place in page a / 4096
abbrev pub word_at : List Page → ℕ → Option ℕ
word_at pages a = option_map (λ p. slice_index p.words (place_of a)) (page_at pages (a / 4096))

-- whether that word is read-only
abbrev pub read_only_at : List Page → ℕ → Option Bool
read_only_at pages a =
    option_and_then (λ p. slice_get p.read_only (place_of a)) (page_at pages (a / 4096))

-- the byte at address a is byte a % 4 of its word
abbrev pub paged_bytes : List Page → ByteMap
paged_bytes pages a = option_map (λ word. word / 256 ^ (a % 4) % 256) (word_at pages a)

-- it is writable where there is a word that is not read-only
abbrev pub paged_writable : List Page → ℕ → Bool
paged_writable pages a = unwrap_or (option_map not (read_only_at pages a)) false

-- the layout is the page numbers, in order
abbrev pub paged_layout : List Page → List ℕ
paged_layout pages = keys_of pages

-- the read-only marks of each page, in order, with its number
abbrev pub marks : List Page → List (ℕ × List Bool)
marks pages = map (λ p. (p.0, p.1.read_only)) pages

-- ---- what every memory of pages keeps

-- a page has 1,024 words, with a mark for each
pub record IsFull (c : Contents) : Type 0 where
  pub words_long : length c.words ≡ 1024
  pub marks_long : length c.read_only ≡ 1024

-- addresses are below 2 ^ 32, and the pages are in the order of their numbers, of which each is
-- there once
pub record ArePages (pages : List Page) : Type 0 where
  pub full : All IsFull (values_of pages)
  pub numbers_fit : All (λ number. number < 2 ^ 20) (keys_of pages)
  pub rising : IsStrictlyIncreasing (keys_of pages)

-- ---- what calls leave

-- the pages with one more, in the place of its number
abbrev pub inserted : Page → List Page → List Page
inserted new pages = insert_entry nat_cmp pages new.0 new.1

-- a read leaves the pages
abbrev pub paged_reads : List Page → ℕ → MemAccessSize → List Page → Option ℕ → Type 0
paged_reads old address size new answer = new ≡ old

-- a write that is granted stores its bytes, in one word; one that is refused leaves the pages
pub record PagedWrites (old : List Page) (address : ℕ) (size : MemAccessSize) (value : ℕ)
    (new : List Page) (answer : Bool) : Type 0 where
  pub written : OnTrue answer
      (paged_bytes new ≡ store (paged_bytes old) address (width size) value)
  pub refused : OnFalse answer (new ≡ old)
  pub layout_kept : paged_layout new ≡ paged_layout old
  pub marks_kept : marks new ≡ marks old
  pub others_kept : (a : ℕ) → a / 4 ≢ address / 4 → word_at new a ≡ word_at old a
