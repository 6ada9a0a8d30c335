-- Pages without a gap and with no read-only word: their words one after another.
use Rattle.std.proofs.Common.{◌≡◌, ℕ, zero, suc, ◌+◌, ◌*◌, ◌/◌, ◌%◌, ◌^◌, ◌<◌, ◌≤◌, List, [], ◌∷◌, ◌++◌, length, All, slice_get, slice_index, slice_index_or, replicate, Option, Some, None, option_map, is_some, Bool, true, false, not, if◌then◌else◌, inl, inr, refl, sym, ap, ◌∙◌, arith, length-append}
use Rattle.std.specs.List.{range_with_len}
use Rattle.std.specs.Map.{values_of}
use Rattle.std.proofs.Math.Path.{fun_ext}
use Rattle.std.proofs.lemmas.Bool.{cases_lt, and_right, le-ltb, cond-false}
use Rattle.std.proofs.lemmas.List.{get_or_append_left}
use Rattle.std.proofs.lemmas.List.Elements.{All-head, All-tail, All-cons, All-nil, All-same, All-replicate, All-get_or}
use Rattle.std.proofs.lemmas.Option.{slice_get-get_or, slice_get_past}
use Rattle.rrs_lib.specs.VecBytes.{bytes_of_words, lies_in_words}
use Rattle.rrs_lib.proofs.VecWords.{byte_at, byte_past}
use Rattle.rrs_extra.specs.Pages.{Contents, contents, Page, page, page_at, paged_bytes, paged_writable, paged_layout, IsFull, ArePages}
use Rattle.rrs_extra.specs.Agreement.{AreOpenPages, words_of}
use Rattle.rrs_extra.proofs.PageLists.{page_first, page_later, holds_at, byte_nowhere, writable_in_page, writable_nowhere, pages_end}

-- ---- an element of two lists, one after another

pub get_left : (xs ys : List ℕ) (i : ℕ) → i < length xs → slice_get (xs ++ ys) i ≡ Some (slice_index xs i)
get_left xs ys i within =
    slice_get-get_or (xs ++ ys) i 0 (omega (arith, length-append xs ys)) ∙ ap Some (get_or_append_left xs ys 0 i within)

pub get_right : (xs ys : List ℕ) (i : ℕ) → slice_get (xs ++ ys) (length xs + i) ≡ slice_get ys i
get_right [] ys i =
    let e : 0 + i ≡ i = omega arith in
    ap (slice_get ys) e
get_right (x ∷ xs) ys i =
    let e : length (x ∷ xs) + i ≡ suc (length xs + i) = omega arith in
    ap (slice_get ((x ∷ xs) ++ ys)) e ∙ get_right xs ys i

-- ---- the words

-- word i of page n + d, of pages from n on without a gap, is word 1024 d + i of all
word_of_page : (pages : List Page) (n k d i : ℕ) → All IsFull (values_of pages) → paged_layout pages ≡ range_with_len n k → i < 1024 → option_map (λ p. slice_index p.words i) (page_at pages (n + d)) ≡ slice_get (words_of pages) (1024 * d + i)
word_of_page [] n k d i full numbers within = refl
word_of_page (p ∷ pages) n zero d i full numbers within = absurd (cc)
word_of_page (p ∷ pages) n (suc k) zero i full numbers within =
    let is = All-head IsFull p.1 (values_of pages) full in
    let number : p.0 ≡ n = cc in
    let start : 1024 * 0 + i ≡ i = omega arith in
    let word_here : slice_get (words_of (p ∷ pages)) (1024 * 0 + i) ≡ Some (slice_index p.1.words i) = ap (slice_get (words_of (p ∷ pages))) start ∙ get_left p.1.words (words_of pages) i (omega (arith, is.words_long, within)) in
    ap (option_map (λ p. slice_index p.words i)) (page_first p pages (n + 0) (omega (arith, number))) ∙ sym word_here
word_of_page (p ∷ pages) n (suc k) (suc d) i full numbers within =
    let is = All-head IsFull p.1 (values_of pages) full in
    let number : p.0 ≡ n = cc in
    let place : 1024 * suc d + i ≡ length p.1.words + (1024 * d + i) = omega (arith, is.words_long) in
    let next : n + suc d ≡ n + 1 + d = omega arith in
    let rest : paged_layout pages ≡ range_with_len (n + 1) k = cc in
    ap (option_map (λ p. slice_index p.words i)) (page_later p pages (n + suc d) (λ same. omega (arith, number, same)) ∙ ap (page_at pages) next)
    ∙ word_of_page pages (n + 1) k d i (All-tail IsFull p.1 (values_of pages) full) rest within
    ∙ sym (ap (slice_get (words_of (p ∷ pages))) place ∙ get_right p.1.words (words_of pages) (1024 * d + i))

-- a byte of words, by the word
pub byte_of_word : (words : List ℕ) (a : ℕ) → a < 2 ^ 32 → bytes_of_words words a ≡ option_map (λ word. word / 256 ^ (a % 4) % 256) (slice_get words (a / 4))
byte_of_word words a low =
    elim (cases_lt (a / 4) (length words)) [
      | inl there ↦ byte_at words a low there ∙ sym (ap (option_map (λ word. word / 256 ^ (a % 4) % 256)) (slice_get-get_or words (a / 4) 0 there))
      | inr past ↦ byte_past words a past ∙ sym (ap (option_map (λ word. word / 256 ^ (a % 4) % 256)) (slice_get_past words (a / 4) past))
    ]

-- no byte of words is past the last address
pub past_words : (words : List ℕ) (a : ℕ) → 2 ^ 32 ≤ a → bytes_of_words words a ≡ None
past_words words a high =
    cond-false (lies_in_words words a) (Some (slice_index words (a / 4) / 256 ^ (a % 4) % 256)) None (and_right _ _ (le-ltb a (2 ^ 32) high))

-- the same byte at each address
same_byte : (pages : List Page) (k a : ℕ) → ArePages pages → AreOpenPages k pages → paged_bytes pages a ≡ bytes_of_words (words_of pages) a
same_byte pages k a are whole =
    elim (cases_lt a (2 ^ 32)) [
      | inl low ↦
          let place : 1024 * (a / 4096) + a % 4096 / 4 ≡ a / 4 = omega arith in
          let zero_on : a / 4096 ≡ 0 + a / 4096 = omega arith in
          ap (option_map (λ word. word / 256 ^ (a % 4) % 256))
          (ap (λ m. option_map (λ (p : Contents). slice_index p.words (a % 4096 / 4)) (page_at pages m)) zero_on
          ∙ word_of_page pages 0 k (a / 4096) (a % 4096 / 4) are.full whole.numbers (omega arith)
          ∙ ap (slice_get (words_of pages)) place)
          ∙ sym (byte_of_word (words_of pages) a low)
      | inr high ↦ (pages_end pages are.numbers_fit a high).0 ∙ sym (past_words (words_of pages) a high)
    ]

-- the bytes are equal
pub same_pages_bytes : (pages : List Page) (k : ℕ) → ArePages pages → AreOpenPages k pages → paged_bytes pages ≡ bytes_of_words (words_of pages)
same_pages_bytes pages k are whole = fun_ext (λ a. same_byte pages k a are whole)

-- ---- what is writable

-- with no word that is read-only an address is writable where it has a byte
writable_where_mapped : (pages : List Page) (k a : ℕ) (o : Option Contents) → page_at pages (a / 4096) ≡ o → ArePages pages → AreOpenPages k pages → paged_writable pages a ≡ is_some (paged_bytes pages a)
writable_where_mapped pages k a None found are whole =
    writable_nowhere pages a found ∙ sym (ap is_some (byte_nowhere pages a found))
writable_where_mapped pages k a (Some p) found are whole =
    let is = holds_at IsFull pages (a / 4096) p are.full found in
    let marks = holds_at (λ p. All (λ mark. mark ≡ false) p.read_only) pages (a / 4096) p whole.open_words found in
    let mark : slice_index_or p.read_only (a % 4096 / 4) true ≡ false = All-get_or (λ mark. mark ≡ false) p.read_only (a % 4096 / 4) true (omega (arith, is.marks_long)) marks in
    let yes_byte : is_some (paged_bytes pages a) ≡ true = rw found refl in
    writable_in_page pages p a found is.marks_long ∙ ap not mark ∙ sym yes_byte

-- words have a byte where they lie
pub lies_where_mapped : (words : List ℕ) (a : ℕ) → is_some (bytes_of_words words a) ≡ lies_in_words words a
lies_where_mapped words a = some_if (lies_in_words words a) (slice_index words (a / 4) / 256 ^ (a % 4) % 256)
  where
    some_if : (b : Bool) (x : ℕ) → is_some (if b then Some x else None) ≡ b
    some_if true x = refl
    some_if false x = refl

-- the writable addresses are equal
pub same_pages_writable : (pages : List Page) (k : ℕ) → ArePages pages → AreOpenPages k pages → paged_writable pages ≡ lies_in_words (words_of pages)
same_pages_writable pages k are whole =
    fun_ext (λ a.
    writable_where_mapped pages k a (page_at pages (a / 4096)) refl are whole
    ∙ ap is_some (same_byte pages k a are whole)
    ∙ lies_where_mapped (words_of pages) a)

-- page 0 alone, with no word that is read-only
pub one_open_page : (pages : List Page) (words : List ℕ) (marks : List Bool) (n : ℕ) → pages ≡ page 0 words marks ∷ [] → marks ≡ replicate n false → AreOpenPages 1 pages
one_open_page pages words marks n is unmarked =
    let shut : All (λ mark. mark ≡ false) marks = All-same (λ mark. mark ≡ false) marks (replicate n false) unmarked (All-replicate (λ mark. mark ≡ false) n false refl) in
    let P : Contents → Type 0 = λ c. All (λ mark. mark ≡ false) c.read_only in
    record {
      numbers = ap paged_layout is;
      open_words = All-same P (values_of pages) (contents words marks ∷ []) (ap values_of is) (All-cons P (contents words marks) [] shut (All-nil P));
    }
