-- Words one after another, and a byte of a memory.
use Rattle.std.proofs.Common.{◌≡◌, ℕ, ◌+◌, ◌<◌, ◌%◌, ◌/◌, ◌^◌, ◌-◌, List, [], ◌∷◌, ◌++◌, Option, Some, None, Bool, true, false, refl, sym, ap, ◌∙◌, append_assoc, append-nil, length, slice_index, arith}
use Rattle.std.specs.Bool.{OnTrue, OnFalse}
use Rattle.rrs_lib.specs.Bytes.{ByteMap, little_endian, sum_if_both, at_place, store}
use Rattle.rrs_lib.proofs.ByteLemmas.{store_by}
use Rattle.rrs_gdb.specs.Packets.{digits_of}
use Rattle.rrs_gdb.specs.Shown.{HasBytes, text_of, word_bytes, words_text}
use Rattle.std.proofs.lemmas.List.{get_or_append_left, get_or_push, length_push}
use borrow.Author.Count.{below_more}

pub words_text-append : (xs ys : List ℕ) → words_text (xs ++ ys) ≡ words_text xs ++ words_text ys
words_text-append [] ys = refl
words_text-append (w ∷ xs) ys =
    ap (λ r. text_of (word_bytes w) ++ r) (words_text-append xs ys)
    ∙ sym (append_assoc (text_of (word_bytes w)) (words_text xs) (words_text ys))

pub words_text-one : (w : ℕ) → words_text (w ∷ []) ≡ text_of (word_bytes w)
words_text-one w = append-nil (text_of (word_bytes w))

-- bytes as digits, one after another
pub text_of-append : (xs ys : List ℕ) → text_of (xs ++ ys) ≡ text_of xs ++ text_of ys
text_of-append [] ys = refl
text_of-append (b ∷ xs) ys =
    ap (λ r. digits_of b ++ r) (text_of-append xs ys) ∙ sym (append_assoc (digits_of b) (text_of xs) (text_of ys))

pub text_of-one : (b : ℕ) → text_of (b ∷ []) ≡ digits_of b
text_of-one b = append-nil (digits_of b)

first_place : (o : Option ℕ) → sum_if_both (Some 0) (at_place 0 o) ≡ o
first_place None = refl
first_place (Some x) = ap Some (omega arith)

-- a byte that is read
pub byte_read : (bytes mid : ByteMap) (a : ℕ) (answer : Option ℕ) → mid ≡ bytes → answer ≡ little_endian mid a 1
    → answer ≡ bytes a
byte_read bytes mid a answer kept value =
    let here : a + 0 ≡ a = omega arith in
    value ∙ first_place (mid (a + 0)) ∙ ap mid here ∙ ap (λ f. f a) kept

-- the bytes that were read, and the next one
pub byte_more : (bytes : ByteMap) (a i : ℕ) (values new : List ℕ) (byte : ℕ) → HasBytes bytes a values
    → length values ≡ i → bytes (a + i) ≡ Some byte → new ≡ values ++ byte ∷ []
    → HasBytes bytes a new × (length new ≡ i + 1)
byte_more bytes a i values new byte has long there is =
    let longer : length new ≡ i + 1 = omega (arith, ap length is, length_push values byte, long) in
    let before : (k : ℕ) → k < i → bytes (a + k) ≡ Some (slice_index new k) = λ k below.
    has k (omega (arith, below, long))
    ∙ ap Some (sym (ap (λ (xs : List ℕ). slice_index xs k) is
    ∙ get_or_append_left values (byte ∷ []) 0 k (omega (arith, below, long)))) in
    let here : bytes (a + i) ≡ Some (slice_index new i) =
    there ∙ ap Some (sym (ap (λ (xs : List ℕ). slice_index xs i) is ∙ get_or_push values byte 0 i long)) in (
      λ k below. below_more (λ (j : ℕ). bytes (a + j) ≡ Some (slice_index new j)) i before here k
          (omega (arith, below, longer)),
      longer,
    )

-- a byte that is written as it is
pub byte_kept : (bytes : ByteMap) (a v : ℕ) → v < 256 → bytes a ≡ Some v → store bytes a 1 v ≡ bytes
byte_kept bytes a v small there = sym (store_by bytes bytes a 1 v
    (λ b from to.
    let same : b ≡ a = omega (arith, from, to) in
    let value : v / 256 ^ (b - a) % 256 ≡ v = grind (arith, same) in
    ap bytes same ∙ there ∙ ap Some (sym value))
    (λ b out. refl))

-- what is written as it is, or not written
pub either_kept : (answer : Bool) (old mid new : ByteMap) (a v : ℕ) → mid ≡ old → old a ≡ Some v → v < 256
    → OnTrue answer (new ≡ store mid a 1 v) → OnFalse answer (new ≡ mid) → new ≡ old
either_kept true old mid new a v kept there small written refused =
    written ∙ byte_kept mid a v small (ap (λ f. f a) kept ∙ there) ∙ kept
either_kept false old mid new a v kept there small written refused = refused ∙ kept

pub on_true : (p : Type 0) (answer : Bool) → answer ≡ true → OnTrue answer p → p
on_true p true e h = h
on_true p false e h = absurd (cc)

three_more : (text z r p a b c : List ℕ) → a ≡ text ++ z → b ≡ a ++ r → c ≡ b ++ p → c ≡ text ++ (z ++ (r ++ p))
three_more text z r p a b c ea eb ec =
    ec ∙ ap (λ (x : List ℕ). x ++ p) (eb ∙ ap (λ (x : List ℕ). x ++ r) ea) ∙ append_assoc (text ++ z) r p
    ∙ append_assoc text z (r ++ p)

-- x0, the others, and the pc, one after another
pub registers_appended : (text a b c rs : List ℕ) (pc : ℕ) → a ≡ text ++ text_of (word_bytes 0)
    → b ≡ a ++ words_text rs → c ≡ b ++ text_of (word_bytes pc) → c ≡ text ++ words_text (0 ∷ rs ++ pc ∷ [])
registers_appended text a b c rs pc ea eb ec =
    rw (words_text-append rs (pc ∷ []), words_text-one pc)
    (three_more text (text_of (word_bytes 0)) (words_text rs) (text_of (word_bytes pc)) a b c ea eb ec)
