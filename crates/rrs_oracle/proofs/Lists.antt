-- Lists of entries, read one after another.
use Rattle.std.proofs.Common.{◌≡◌, ℕ, ◌+◌, ◌<◌, ◌≤◌, List, [], ◌∷◌, ◌++◌, length, drop, get_or, slice_set, Option, Some, None, true, false, nat_lt, refl, sym, ap, ◌∙◌, append_assoc, append-nil, arith}
use Rattle.std.proofs.lemmas.Bool.Decides.{nat_tests}
use Rattle.std.specs.Prelude.{option_map}
use Rattle.std.proofs.lemmas.List.{at_drop_more, at_drop_all}
use Rattle.rrs_oracle.specs.Numerals.{word_of}
use Rattle.rrs_oracle.specs.Questions.{entries, entry_of, memory_of, registers_of, registers_with, words_of}

-- x is entry i of a list
abbrev pub IsEntry : List (List ℕ) → ℕ → List ℕ → Type 0
IsEntry es i x = (i < length es) × (x ≡ get_or es i x)

-- ---- the words of a memory

-- the words so far, and then those that the entries from i on are
abbrev pub words_from : List ℕ → List ℕ → ℕ → Option (List ℕ)
words_from text memory i = option_map (λ ws. memory ++ ws) (words_of (drop i (entries text)))

put_before_both : (xs : List ℕ) (w : ℕ) (o : Option (List ℕ)) → option_map (λ ws. xs ++ ws) (option_map (λ ws. w ∷ ws) o) ≡ option_map (λ ws. (xs ++ w ∷ []) ++ ws) o
put_before_both xs w None = refl
put_before_both xs w (Some ws) = ap Some (sym (append_assoc xs (w ∷ []) ws))

pub memory_more : (text memory : List ℕ) (i w : ℕ) (x : List ℕ) → IsEntry (entries text) i x → word_of x ≡ Some w → memory_of text ≡ words_from text memory i → memory_of text ≡ words_from text (memory ++ w ∷ []) (i + 1)
memory_more text memory i w x next is before =
    let one : words_of (drop i (entries text)) ≡ option_map (λ ws. w ∷ ws) (words_of (drop (i + 1) (entries text))) = at_drop_more words_of (entries text) i x next.0 ∙ rw (← next.1, is) refl in
    before ∙ (ap (option_map (λ ws. memory ++ ws)) one ∙ put_before_both memory w (words_of (drop (i + 1) (entries text))))

pub memory_fails : (text memory : List ℕ) (i : ℕ) (x : List ℕ) → IsEntry (entries text) i x → word_of x ≡ None → memory_of text ≡ words_from text memory i → memory_of text ≡ None
memory_fails text memory i x next is before =
    let none : words_of (drop i (entries text)) ≡ None = at_drop_more words_of (entries text) i x next.0 ∙ rw (← next.1, is) refl in
    before ∙ ap (option_map (λ ws. memory ++ ws)) none

pub memory_end : (text memory : List ℕ) (i : ℕ) → length (entries text) ≤ i → memory_of text ≡ words_from text memory i → memory_of text ≡ Some memory
memory_end text memory i all before =
    before ∙ (ap (option_map (λ ws. memory ++ ws)) (at_drop_all words_of (entries text) i all) ∙ ap Some (append-nil memory))

-- ---- registers

-- what the entries from i on make of the registers so far
abbrev pub registers_from : List ℕ → ℕ → List ℕ → ℕ → Option (List ℕ)
registers_from text least registers i = registers_with least registers (drop i (entries text))

pub registers_more : (text : List ℕ) (least : ℕ) (registers : List ℕ) (i r v : ℕ) (x : List ℕ) → IsEntry (entries text) i x → entry_of x ≡ Some (r, v) → least ≤ r → registers_of text ≡ registers_from text least registers i → registers_of text ≡ registers_from text (r + 1) (slice_set registers r v) (i + 1)
registers_more text least registers i r v x next is order before =
    let in_order : nat_lt r least ≡ false = grind (arith, nat_tests) in
    before ∙ (at_drop_more (registers_with least registers) (entries text) i x next.0 ∙ rw (← next.1, is, in_order) refl)

pub registers_fail : (text : List ℕ) (least : ℕ) (registers : List ℕ) (i : ℕ) (x : List ℕ) → IsEntry (entries text) i x → entry_of x ≡ None → registers_of text ≡ registers_from text least registers i → registers_of text ≡ None
registers_fail text least registers i x next is before =
    before ∙ (at_drop_more (registers_with least registers) (entries text) i x next.0 ∙ rw (← next.1, is) refl)

pub registers_out_of_order : (text : List ℕ) (least : ℕ) (registers : List ℕ) (i r v : ℕ) (x : List ℕ) → IsEntry (entries text) i x → entry_of x ≡ Some (r, v) → r < least → registers_of text ≡ registers_from text least registers i → registers_of text ≡ None
registers_out_of_order text least registers i r v x next is order before =
    let lower : nat_lt r least ≡ true = grind (arith, nat_tests) in
    before ∙ (at_drop_more (registers_with least registers) (entries text) i x next.0 ∙ rw (← next.1, is, lower) refl)

pub registers_end : (text : List ℕ) (least : ℕ) (registers : List ℕ) (i : ℕ) → length (entries text) ≤ i → registers_of text ≡ registers_from text least registers i → registers_of text ≡ Some registers
registers_end text least registers i all before = before ∙ at_drop_all (registers_with least registers) (entries text) i all
