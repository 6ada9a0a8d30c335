-- Words in a memory.
use Rattle.std.proofs.Common.{◌≡◌, ℕ, zero, suc, ◌+◌, ◌-◌, ◌*◌, ◌%◌, ◌^◌, ◌<◌, ◌≤◌, ◌==◌, nat_lt, Bool, true, false, List, length, slice_index, slice_set, ℤ, Option, Some, None, IsSome, IsTrue, Ok, refl, sym, ap, subst, ◌∙◌, arith}
use Rattle.std.proofs.lemmas.Bool.{agree_below, agree_below_at, eqb-true, ltb-true, lt-ltb, false≢true}
use Rattle.std.proofs.lemmas.Option.{none-some}
use Rattle.rrs_lib.specs.Encodings.{Fields}
use Rattle.rrs_lib.specs.Table.{Row}
use Rattle.rrs_lib.specs.Bytes.{ByteMap, little_endian, sum_if_both, at_place, EndsAtLastAddress}
use Rattle.rrs_lib.proofs.ByteLemmas.{Outside, read-mapped, read-kept, outside_from_none}
use Rattle.rrs_lib.specs.Machine.{State, execute, result_outcome}
use Rattle.rrs_lib.specs.Words.{word}
use Rattle.rrs_lib.specs.Steps.{Step, RunsOk}
use Rattle.rrs_lib.proofs.Decoder.{decode, decodes}
use Rattle.rrs_lib.proofs.Programs
use Rattle.rrs_lib.proofs.Programs.{Fetches, fetches, at, Others, registers_by, opened}
use Rattle.rrs_extra.specs.Programs.{HoldsWords, IsMapped, IsWritable, AreApart, or_zero, word_at}

is_its_value : (o : Option ℕ) → IsSome o → o ≡ Some (or_zero o)
is_its_value None some = cc
is_its_value (Some x) some = refl

-- the word at an address is read where its bytes are mapped
pub word_read : (bytes : ByteMap) (a : ℕ) → IsMapped bytes a 4 → little_endian bytes a 4 ≡ Some (word_at bytes a)
word_read bytes a mapped = is_its_value (little_endian bytes a 4) (read-mapped bytes a 4 mapped)

-- ---- addresses end at 2 ^ 32

-- what is mapped lies below
pub value-small : (bytes : ByteMap) (writable : ℕ → Bool) (b x : ℕ) → EndsAtLastAddress bytes writable → bytes b ≡ Some x → b < 2 ^ 32
value-small bytes writable b x ends is =
    let past : 2 ^ 32 ≤ b → ⊥ = λ from. none-some x (sym (ends b from).0 ∙ is) in omega arith

pub mapped-small : (bytes : ByteMap) (writable : ℕ → Bool) (a : ℕ) → EndsAtLastAddress bytes writable
    → IsMapped bytes a 4 → a < 2 ^ 32
mapped-small bytes writable a ends mapped =
    let is = is_its_value (bytes (a + 0)) (mapped 0 (omega arith)) in
    omega (arith, value-small bytes writable (a + 0) _ ends is)

-- so does what is writable
pub writable-small : (bytes : ByteMap) (writable : ℕ → Bool) (b : ℕ) → EndsAtLastAddress bytes writable
    → IsTrue (writable b) → b < 2 ^ 32
writable-small bytes writable b ends test =
    let past : 2 ^ 32 ≤ b → ⊥ = λ from. false≢true (sym (ends b from).1 ∙ test) in omega arith

-- n places from a on, where nothing is so at 2 ^ 32 or past it
ends_by : (P : ℕ → Type 0) (a n : ℕ) → ((b : ℕ) → 2 ^ 32 ≤ b → P b → ⊥) → ((i : ℕ) → i < n → P (a + i)) → a ≤ 2 ^ 32
    → a + n ≤ 2 ^ 32
ends_by P a zero none all small = omega (arith, small)
ends_by P a (suc n) none all small =
    let past : 2 ^ 32 ≤ a + n → ⊥ = λ from. none (a + n) from (all n (omega arith)) in omega (arith, past)

-- n bytes that are mapped end there at the latest
pub mapped-ends : (bytes : ByteMap) (writable : ℕ → Bool) (a n : ℕ) → EndsAtLastAddress bytes writable → IsMapped bytes a n → a ≤ 2 ^ 32 → a + n ≤ 2 ^ 32
mapped-ends bytes writable a n ends =
    ends_by (λ b. IsSome (bytes b)) a n (λ b from mapped. none-some _ (sym (ends b from).0
    ∙ is_its_value (bytes b) mapped))

-- so do n bytes that are writable
pub writable-ends : (bytes : ByteMap) (writable : ℕ → Bool) (a n : ℕ) → EndsAtLastAddress bytes writable → IsWritable writable a n → a ≤ 2 ^ 32 → a + n ≤ 2 ^ 32
writable-ends bytes writable a n ends =
    ends_by (λ b. IsTrue (writable b)) a n (λ b from test. false≢true (sym (ends b from).1 ∙ test))

sum-none : (o : Option ℕ) → sum_if_both o None ≡ None
sum-none None = refl
sum-none (Some x) = refl

word-small : (bytes : ByteMap) (writable : ℕ → Bool) (a w : ℕ) → EndsAtLastAddress bytes writable → little_endian bytes a 4 ≡ Some w → a + 3 < 2 ^ 32
word-small bytes writable a w ends read =
    let with_last : Option ℕ → Option ℕ = λ o. sum_if_both (little_endian bytes a 3) (at_place 3 o) in
    let past : 2 ^ 32 ≤ a + 3 → ⊥ = λ from. none-some w (sym (ap with_last (ends (a + 3) from).0 ∙ sum-none (little_endian bytes a 3)) ∙ read) in
    omega arith

-- and words that stand
pub words-end : (bytes : ByteMap) (writable : ℕ → Bool) (a : ℕ) (words : List ℕ) → EndsAtLastAddress bytes writable → HoldsWords bytes a words → 1 ≤ length words → a + 4 * length words ≤ 2 ^ 32
words-end bytes writable a words ends holds some =
    let less = word-small bytes writable (a + 4 * (length words - 1)) _ ends (holds.each (length words - 1) (omega arith)) in
    omega (arith, less)

-- ---- programs

-- where word i of a program at p stands
abbrev pub place : ℕ → ℕ → ℕ
place p zero = p
place p (suc i) = p + 4 * suc i

place-is : (p i : ℕ) → p + 4 * i ≡ place p i
place-is p zero = omega arith
place-is p (suc i) = refl

-- word i of a program is fetched at its place, where the decoder computes the row and the fields
pub at_word : {bytes : ByteMap} {p : ℕ} {words : List ℕ} {row : Row} {f : Fields}
    → HoldsWords bytes p words → p % 4 ≡ 0 → (i : ℕ) → nat_lt i (length words) ≡ true
    → decode (slice_index words i) ≡ Some (record { row = row; fields = f }) → Fetches bytes (place p i) row f
at_word {bytes = bytes} {p = p} {words = words} holds aligned i within is =
    let P : ℕ → Type 0 = λ b. little_endian bytes b 4 ≡ Some (slice_index words i) in
    let there = subst P (place-is p i) (holds.each i (ltb-true i _ within)) in
    fetches (omega (arith, place-is p i)) there (decodes _ _ _ is)

-- it writes z, which is x modulo 2 ^ 32, to a register that is not x0, and another word is behind it
pub writes : {bytes : ByteMap} {p : ℕ} {words : List ℕ} {row : Row} {f : Fields} {registers : List ℕ}
    {last : Option ℕ} {writable : ℕ → Bool}
    → HoldsWords bytes p words → p % 4 ≡ 0 → p + 4 * length words ≤ 2 ^ 32 → (i r x : ℕ) (z : ℤ)
    → nat_lt (suc i) (length words) ≡ true → decode (slice_index words i) ≡ Some (record { row = row; fields = f })
    → execute row f (at registers (place p i) None bytes writable)
    ≡ Some (result_outcome (suc r) z (at registers (place p i) None bytes writable)) → word z ≡ x
    → Step (at registers (place p i) last bytes writable)
    (at (slice_set registers r x) (place p (suc i)) (Some (suc r)) bytes writable) (Ok tt)
writes {p = p} {words = words} holds aligned fits i r x z within is executes value =
    let behind = ltb-true (suc i) (length words) within in
    Programs.step-writes (p + 4 * suc i) r x z (at_word holds aligned i (lt-ltb i _ (omega arith)) is) executes value
    (omega (arith, place-is p i))

-- a chain of n steps that are all Ok, to be written a line for each
pub record Chain (n : ℕ) (s t : State) : Type 0 where
  pub runs : RunsOk n s t

infixr 5 ◌▸◌
pub ◌▸◌ : {n : ℕ} {s m t : State} → Step s m (Ok tt) → Chain n m t → Chain (suc n) s t
step ▸ chain = record { runs = (_, step, chain.runs) }

pub done : {s : State} → Chain 0 s s
done = record { runs = refl }

-- what holds of each state whose registers are written out holds of each state that has as many
pub by_registers : (P : State → Type 0) → ((o : Others) (x1 x10 x11 x12 x13 x14 x15 pc : ℕ) (last : Option ℕ) (bytes : ByteMap) (writable : ℕ → Bool) → P (at (registers_by o x1 x10 x11 x12 x13 x14 x15) pc last bytes writable))
    → (s : State) → 15 ≤ length s.registers → P s
by_registers P each s long = let open_s = opened s long in subst P (sym open_s.same) (each open_s.others _ _ _ _ _ _ _ _ _ _ _)

-- what is read apart from a range is as before where all bytes outside it are
pub read_after : (old new : ByteMap) (a n b m from count : ℕ) → ((c : ℕ) → Outside a n c → new c ≡ old c) → AreApart a n b m → b ≤ from → from + count ≤ b + m → little_endian new from count ≡ little_endian old from count
read_after old new a n b m from count others apart low high =
    read-kept old new a n from count others (λ j h. outside_from_none a n (from + j) (λ i less same. apart i (from + j - b) less (omega arith) (omega (arith, same))))

-- so a program stands as before
pub holds_after : (old new : ByteMap) (a n p m : ℕ) (words : List ℕ) → ((c : ℕ) → Outside a n c → new c ≡ old c) → AreApart a n p m → 4 * length words ≤ m → HoldsWords old p words → HoldsWords new p words
holds_after old new a n p m words others apart fits holds = record { each = λ i h. read_after old new a n p m (p + 4 * i) 4 others apart (omega arith) (omega arith) ∙ holds.each i h }

-- what holds of each of m places holds of each of n of them
pub part : (P : ℕ → Type 0) (a m k n : ℕ) → ((i : ℕ) → i < m → P (a + i)) → k + n ≤ m → (i : ℕ) → i < n → P (a + k + i)
part P a m k n all fits i less = let there : a + (k + i) ≡ a + k + i = omega arith in subst P there
    (all (k + i) (omega arith))

-- ---- premises over memories that are known, by computation

abbrev pub is_value : Option ℕ → ℕ → Bool
is_value None w = false
is_value (Some x) w = x == w

pub value_is : (o : Option ℕ) (w : ℕ) → is_value o w ≡ true → o ≡ Some w
value_is None w test = cc
value_is (Some x) w test = ap Some (eqb-true x w test)

-- whether the words stand from a on
abbrev pub holds_test : ByteMap → ℕ → List ℕ → Bool
holds_test bytes a words =
    agree_below (λ i. is_value (little_endian bytes (a + 4 * i) 4) (slice_index words i)) (λ i. true) (length words)

-- so they stand in each memory that is equal
pub holds_by_test : {bytes known : ByteMap} {a : ℕ} {words : List ℕ} → bytes ≡ known → holds_test known a words ≡ true
    → HoldsWords bytes a words
holds_by_test {known = known} {a = a} {words = words} same test = record {
  each = λ i less. ap (λ b. little_endian b (a + 4 * i) 4) same
      ∙ value_is (little_endian known (a + 4 * i) 4) (slice_index words i)
      (agree_below_at (λ i. is_value (little_endian known (a + 4 * i) 4) (slice_index words i)) (λ i. true)
      (length words) i test less);
}
