-- Where a load at address 0 can end, and one into 16,384 words.
use Rattle.std.proofs.Common.{◌≡◌, ℕ, ◌+◌, ◌*◌, ◌<◌, ◌≤◌, true, false, List, [], ◌∷◌, ◌++◌, length, Option, Err, sym, ◌∙◌, arith}
use Rattle.std.proofs.lemmas.Bool.{false≢true}
use Rattle.std.proofs.lemmas.Bool.Decides.{nat_tests}
use Rattle.std.proofs.lemmas.List.{length-append}
use Rattle.std.specs.Io.KnownBytes.{Consumes}
use Rattle.rrs_lib.specs.declared.memories.LoadFault.TheVariants.{Refused}
use Rattle.rrs_lib.specs.Bytes.{ByteMap}
use Rattle.rrs_lib.specs.VecBytes.{lies_in_words}
use Rattle.rrs_lib.specs.Loading.{Loaded, Loads}
use Rattle.rrs_cli.specs.declared.fault.RunFault.TheVariants as RunFault
use Rattle.rrs_cli.specs.Faults.{StopsLoad}

-- no address past the words lies in them
lies_past_all : (words : List ℕ) (n a : ℕ) → length words ≡ n → 4 * n ≤ a → lies_in_words words a ≡ false
lies_past_all words n a long past = grind (arith, nat_tests)

-- a load into less than 2^30 words does not come to the last address
pub not_to_the_end : (words : List ℕ) (n k : ℕ) → length words ≡ n
    → ((i : ℕ) → i < k → lies_in_words words (0 + i) ≡ true) → 4 * n < k → ⊥
not_to_the_end words n k long writable past =
    false≢true (sym (lies_past_all words n (0 + 4 * n) long (omega arith)) ∙ writable (4 * n) past)

-- the addresses of 16,384 words, and the first one past them
lies_inside : (words : List ℕ) (a : ℕ) → length words ≡ 16384 → a < 65536 → lies_in_words words a ≡ true
lies_inside words a e h = grind (arith, nat_tests)

-- A refused byte is the one at address 65536, and the one after the first 65,536.
pub refused_at_end : (before after : Option (List ℕ)) (old new : ByteMap) (words : List ℕ) (a : ℕ) → length words ≡ 16384 → Loads before after old new (lies_in_words words) 0 (Err (Refused a)) → StopsLoad before after (RunFault.Refused a)
refused_at_end before after old new words a e loads =
    let not_past : 65536 < length loads.input → ⊥ = not_to_the_end words 16384 (length loads.input) e loads.loaded.writable_there in
    let not_inside : a < 65536 → ⊥ = λ inside. false≢true (sym loads.answered.1 ∙ lies_inside words a e inside) in
    let at_end : a ≡ 65536 = omega (arith, loads.answered.0, not_past, not_inside) in
    let byte = loads.answered.2.0 in
    let count : length (loads.input ++ byte ∷ []) ≡ 65537 = omega (arith, at_end, loads.answered.0, length-append loads.input (byte ∷ [])) in
    (at_end, (loads.input ++ byte ∷ [], loads.answered.2.1, count))

-- No more than 65,536 bytes were read before a read failed.
pub fails_in_time : (before after : Option (List ℕ)) (old new : ByteMap) (words input : List ℕ) → length words ≡ 16384 → Loaded old new (lies_in_words words) 0 input → Consumes before after input → StopsLoad before after RunFault.Reader
fails_in_time before after old new words input e loaded read =
    let not_past : 65536 < length input → ⊥ = not_to_the_end words 16384 (length input) e loaded.writable_there in
    (input, read, omega (arith, not_past))
