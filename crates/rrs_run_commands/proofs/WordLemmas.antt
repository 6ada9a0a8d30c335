-- The number that short digits are; the bytes of words, and what words ask for, from what those after the first ask for.
use Rattle.std.proofs.Common.{◌≡◌, ℕ, ◌^◌, ◌-◌, ◌<◌, ◌≤◌, List, [], ◌∷◌, ◌++◌, take, drop, codes, Option, Some, None, MatchOption, take-append-drop, Result, Ok, Err, map, length, string_bytes, String, Global, ap, subst, sym, ◌∙◌, refl, inl, inr, arith}
use Rattle.std.proofs.Math.Nat.{pow-le-pow_right}
use Rattle.std.proofs.lemmas.Int.Digits.{digits_value-lt}
use Rattle.std.specs.Str.Parse.{AllDigits, digits_value}
use Rattle.std.specs.List.{IsFirstAndRest}
use Rattle.rrs_run_commands.specs.declared.options.Task.{Task}
use Rattle.rrs_run_commands.specs.Words.{IsInUnit, IsNumber, IsSize}
use Rattle.rrs_run_commands.specs.Requests.{AsksFor, Fault, Missing, Wanted, Reading, Takes, Refuses, IsProgram, IsWhole, Taken, Refused, Ended}

-- the number that at most eight hexadecimal digits are
pub short_fits : (digits : List ℕ) → AllDigits 16 digits → length digits ≤ 8 → digits_value 16 digits < 2 ^ 32
short_fits digits all short =
    let most : 16 ^ length digits ≤ 16 ^ 8 = pow-le-pow_right (omega arith) short in
    omega (arith, digits_value-lt 16 digits all, most)

-- a word without the letter of a unit, or without a number before it, is not so many of that
pub no_letter : (word letter : List ℕ) (unit n : ℕ) → ((front : List ℕ) → word ≡ front ++ letter → ⊥) → IsInUnit letter unit word n → ⊥
no_letter word letter unit n none is =
    let e : drop (length word - length letter) word ≡ letter = is.1.1 in
    none _ (sym (take-append-drop (length word - length letter) word) ∙ ap (λ l. take (length word - length letter) word ++ l) e)

pub no_count : (word letter digits : List ℕ) (k unit n : ℕ) → k ≡ length letter → digits ≡ take (length word - k) word → ((m : ℕ) → IsNumber digits m → ⊥) → IsInUnit letter unit word n → ⊥
no_count word letter digits k unit n same front none is =
    none is.1.0 (subst (λ l. IsNumber l is.1.0) (sym (front ∙ ap (λ i. take (length word - i) word) same)) is.1.2)

no_size : (word : List ℕ) (n : ℕ) → ((m : ℕ) → IsNumber word m → ⊥)
    → ((m : ℕ) → IsInUnit (codes "K") (2 ^ 10) word m → ⊥) → ((m : ℕ) → IsInUnit (codes "M") (2 ^ 20) word m → ⊥)
    → ((m : ℕ) → IsInUnit (codes "G") (2 ^ 30) word m → ⊥) → IsSize word n → ⊥
no_size word n a k m g (inl is) = a n is
no_size word n a k m g (inr (inl is)) = k n is
no_size word n a k m g (inr (inr (inl is))) = m n is
no_size word n a k m g (inr (inr (inr is))) = g n is

-- a word that is no other size is one of GiB, or none
pub last_size : (word : List ℕ) (r : Option ℕ) → ((m : ℕ) → IsNumber word m → ⊥)
    → ((m : ℕ) → IsInUnit (codes "K") (2 ^ 10) word m → ⊥) → ((m : ℕ) → IsInUnit (codes "M") (2 ^ 20) word m → ⊥)
    → MatchOption r ((m : ℕ) → IsInUnit (codes "G") (2 ^ 30) word m → ⊥) (IsInUnit (codes "G") (2 ^ 30) word)
    → MatchOption r ((m : ℕ) → IsSize word m → ⊥) (IsSize word)
last_size word None a k m g = λ n is. no_size word n a k m g is
last_size word (Some n) a k m g = inr (inr (inr g))

-- the bytes of the first word, and of those after it
pub first_bytes : (words : List (String Global)) (word : String Global) (others : List (String Global)) (bytes : List ℕ)
    → IsFirstAndRest words word others → bytes ≡ string_bytes word → map string_bytes words ≡ bytes ∷ map string_bytes others
first_bytes words word others bytes h e = ap (map string_bytes) h.0 ∙ ap (λ b. b ∷ map string_bytes others) (sym e)

pub asks-taken : (task : Task) (old new : Reading) (words : List (List ℕ)) (word : List ℕ) (behind left : List (List ℕ)) (asked : Result Wanted Fault)
    → words ≡ word ∷ behind → (IsProgram task old word → ⊥) → Takes task word old behind new left → AsksFor task new left asked
    → AsksFor task old words asked
asks-taken task old new words word behind left asked e other takes asks =
    subst (λ w. AsksFor task old w asked) (sym e) (Taken old new word behind left asked other takes asks)

pub asks-wrong : (task : Task) (reading : Reading) (words : List (List ℕ)) (word : List ℕ) (behind : List (List ℕ)) (fault : Fault)
    → words ≡ word ∷ behind → (IsProgram task reading word → ⊥) → Refuses task word reading behind fault
    → AsksFor task reading words (Err fault)
asks-wrong task reading words word behind fault e other refuses =
    subst (λ w. AsksFor task reading w (Err fault)) (sym e) (Refused reading word behind fault other refuses)

pub asks-program : (task : Task) (reading : Reading) (words : List (List ℕ)) (word : List ℕ) (arguments : List (List ℕ))
    → words ≡ word ∷ arguments → IsProgram task reading word
    → AsksFor task reading words (Ok (record reading.wanted { file = Some word; program = words }))
asks-program task reading words word arguments e program =
    subst (λ w. AsksFor task reading w (Ok (record reading.wanted { file = Some word; program = w }))) (sym e)
    (Ended reading (word ∷ arguments) _ (program, refl))

pub asks-whole : (task : Task) (reading : Reading) (words : List (List ℕ)) → words ≡ [] → IsWhole task reading.wanted
    → AsksFor task reading words (Ok reading.wanted)
asks-whole task reading words e whole =
    subst (λ w. AsksFor task reading w (Ok reading.wanted)) (sym e) (Ended reading [] _ (inl (whole, refl)))

pub asks-lacking : (task : Task) (reading : Reading) (words : List (List ℕ)) → words ≡ [] → (IsWhole task reading.wanted → ⊥)
    → AsksFor task reading words (Err Missing)
asks-lacking task reading words e lacking =
    subst (λ w. AsksFor task reading w (Err Missing)) (sym e) (Ended reading [] _ (inr (lacking, refl)))
