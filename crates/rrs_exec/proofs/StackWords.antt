-- The block of a stack, as it is put together.
use Rattle.std.proofs.Common.{◌≡◌, ℕ, suc, ◌+◌, ◌*◌, ◌<◌, List, [], ◌∷◌, ◌++◌, length, replicate, drop, get_or, refl, sym, ap, ◌∙◌, arith, add-one, drop-cons, append_assoc, length-append}
use Rattle.rrs_exec.specs.declared.stack.ProgramHeaders.{ProgramHeaders}
use Rattle.rrs_exec.specs.InitialStack.{word_bytes, bytes_of_words, strings, addresses, auxiliary_vector, arguments_at, random_at, variables_at, stack_block, stack_bytes, stack_words}

pub bytes_of_append : (xs ys : List ℕ) → bytes_of_words (xs ++ ys) ≡ bytes_of_words xs ++ bytes_of_words ys
bytes_of_append [] ys = refl
bytes_of_append (x ∷ xs) ys = ap (λ l. word_bytes x ++ l) (bytes_of_append xs ys)

-- words, a word and more words
word_between : (xs ys : List ℕ) (w : ℕ)
    → bytes_of_words xs ++ word_bytes w ++ bytes_of_words ys ≡ bytes_of_words (xs ++ w ∷ ys)
word_between xs ys w =
    append_assoc (bytes_of_words xs) (word_bytes w) (bytes_of_words ys) ∙ sym (bytes_of_append xs (w ∷ ys))

-- a word, words and 0, words and 0, and more words, and then what is after them
pub put_together : (n : ℕ) (ws vs zs r s t block : List ℕ)
    → block ≡ word_bytes n ++ bytes_of_words ws ++ word_bytes 0 ++ bytes_of_words vs ++ word_bytes 0
    ++ bytes_of_words zs ++ r ++ s ++ t
    → block ≡ bytes_of_words (n ∷ ws ++ 0 ∷ vs ++ 0 ∷ zs) ++ r ++ s ++ t
put_together n ws vs zs r s t block is =
    is
    ∙ ap (λ l. l ++ word_bytes 0 ++ bytes_of_words zs ++ r ++ s ++ t) (word_between (n ∷ ws) vs 0)
    ∙ ap (λ l. l ++ r ++ s ++ t) (word_between (n ∷ ws ++ 0 ∷ vs) zs 0)

-- the rest of a list from an element on
pub cut_at : {A : Type 0} (xs : List A) (i : ℕ) (x : A) → i < length xs → x ≡ get_or xs i x
    → drop i xs ≡ x ∷ drop (i + 1) xs
cut_at xs i x below is =
    rw add-one (drop-cons xs i x below ∙ ap (λ y. y ∷ drop (suc i) xs) (sym is))

module _ (x : List ℕ) (old rest : List (List ℕ)) (cut : old ≡ x ∷ rest) where
  -- one more string, and what is left
  pub string_pushed : (b b1 b2 bytes whole : List ℕ) → b ++ strings old ≡ whole → bytes ≡ x
      → b1 ≡ b ++ bytes → b2 ≡ b1 ++ 0 ∷ [] → b2 ++ strings rest ≡ whole
  string_pushed b b1 b2 bytes whole so is first second =
      rw (second, first, is) (simp append_assoc (rw cut at so))

  -- one more address, and what is left
  pub address_pushed : (b b1 whole : List ℕ) (a n : ℕ) → n ≡ length x
      → b ++ bytes_of_words (addresses a old) ≡ whole → b1 ≡ b ++ word_bytes a
      → b1 ++ bytes_of_words (addresses (a + (n + 1)) rest) ≡ whole
  address_pushed b b1 whole a n count so first =
      let next : a + (n + 1) ≡ a + length x + 1 = omega arith in
      rw (first, next) (append_assoc b (word_bytes a) _ ∙ (rw cut at so))

  pub string_counted : (a n whole : ℕ) → n ≡ length x → a + length (strings old) ≡ whole
      → a + (n + 1) + length (strings rest) ≡ whole
  string_counted a n whole count so =
      omega (arith, (rw cut at so), length-append x (0 ∷ strings rest))

-- how many bytes a stack has
words-length : (words : List ℕ) → length (bytes_of_words words) ≡ 4 * length words
words-length [] = refl
words-length (w ∷ words) = omega (arith, words-length words, length-append (word_bytes w) (bytes_of_words words))

addresses-length : (a : ℕ) (texts : List (List ℕ)) → length (addresses a texts) ≡ length texts
addresses-length a [] = refl
addresses-length a (x ∷ others) = ap suc (addresses-length (a + length x + 1) others)

words-counted : (n x y : ℕ) (arguments variables : List (List ℕ)) (zs : List ℕ)
    → length (n ∷ addresses x arguments ++ 0 ∷ addresses y variables ++ 0 ∷ zs)
    ≡ length arguments + length variables + 3 + length zs
words-counted n x y arguments variables zs =
    let first = n ∷ addresses x arguments in
    let second = 0 ∷ addresses y variables in
    omega (
      arith,
      addresses-length x arguments,
      addresses-length y variables,
      length-append first second,
      length-append (first ++ second) (0 ∷ zs),
    )

pub block_length : (sp : ℕ) (arguments variables : List (List ℕ)) (headers : ProgramHeaders)
    → length (stack_block sp arguments variables headers) ≡ stack_bytes arguments variables
block_length sp arguments variables headers =
    let words = stack_words sp arguments variables headers in
    let zeros : List ℕ = replicate 16 0 in
    omega (
      arith,
      words-counted (length arguments) (arguments_at sp arguments variables) (variables_at sp arguments variables) arguments variables
          (auxiliary_vector headers (random_at sp arguments variables)),
      words-length words,
      length-append (bytes_of_words words) zeros,
      length-append (bytes_of_words words ++ zeros) (strings arguments),
      length-append (bytes_of_words words ++ zeros ++ strings arguments) (strings variables),
    )
