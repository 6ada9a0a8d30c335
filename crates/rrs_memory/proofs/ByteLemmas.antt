-- Bytes at addresses: what is read where, what a store leaves of a byte and of a read, and when a write is allowed.
use Rattle.std.proofs.Common.{◌≡◌, ◌≢◌, ◌⊎◌, ℕ, zero, suc, ◌+◌, ◌-◌, ◌*◌, ◌/◌, ◌%◌, ◌^◌, ◌<◌, ◌≤◌, Bool, true, false, ◌&&◌, nat_lt, nat_le, Option, Some, None, IsSome, IsTrue, refl, sym, ap, ◌∙◌, arith}
use Rattle.std.proofs.Math.Path.{fun_ext}
use Rattle.std.proofs.Math.Nat.{pow-suc, pow-succ', mod-one}
use Rattle.std.proofs.Math.Arith.{mod-mul}
use Rattle.std.proofs.lemmas.Nat.{pow-add, pow_pos}
use Rattle.std.proofs.lemmas.Bool.{lt-ltb, le-leb, and_from, cond-true}
use Rattle.std.proofs.lemmas.Bool.Decides.{nat_tests}
use Rattle.rrs_memory.specs.Bytes.{ByteMap, little_endian, all_writable, store, sum_if_both, at_place, IsLawful}

-- ---- powers of 256

-- a power of 256 as a power of 2
pub pow-256 : (k : ℕ) → 256 ^ k ≡ 2 ^ (8 * k)
pow-256 zero = refl
pow-256 (suc k) = pow-suc 256 k ∙ ap (λ x. x * 256) (pow-256 k) ∙ sym (pow-add 2 (8 * k) 8) ∙ ap (λ x. 2 ^ x) (omega arith)

-- no power of 256 is 0
pub pow-256_pos : (k : ℕ) → 0 < 256 ^ k
pow-256_pos k = omega (arith, pow-256 k, pow_pos (8 * k))

-- one more byte of a number
pub one_more_byte : (x n : ℕ) → x % 256 ^ n + x / 256 ^ n % 256 * 256 ^ n ≡ x % 256 ^ suc n
one_more_byte x n =
    let both : x % (256 * 256 ^ n) ≡ (x / 256 ^ n % 256) * 256 ^ n + x % 256 ^ n = mod-mul x {m = 256} {c = 256 ^ n} (omega arith) (pow-256_pos n) in
    let whole : x % 256 ^ suc n ≡ x % (256 * 256 ^ n) = ap (λ y. x % y) (pow-succ' 256 n) in
    omega arith

-- ---- stored bytes

-- a stored byte
pub store_inside : (bytes : ByteMap) (a n v b : ℕ) → a ≤ b → b < a + n → store bytes a n v b ≡ Some (v / 256 ^ (b - a) % 256)
store_inside bytes a n v b from to = cond-true (nat_le a b && nat_lt b (a + n)) (Some (v / 256 ^ (b - a) % 256)) (bytes b) (and_from _ _ (le-leb a b from) (lt-ltb b (a + n) to))

-- every other address has what it had
pub store_outside : (f : ByteMap) (a n v b : ℕ) → (a ≤ b → a + n ≤ b) → store f a n v b ≡ f b
store_outside f a n v b h =
    let test : (nat_le a b && nat_lt b (a + n)) ≡ false = grind (arith, nat_tests) in
    rw test refl

-- a map is what a store leaves where it has the stored bytes, and all others as before
pub store_by : (old new : ByteMap) (a n v : ℕ) → ((b : ℕ) → a ≤ b → b < a + n → new b ≡ Some (v / 256 ^ (b - a) % 256))
    → ((b : ℕ) → (a ≤ b → a + n ≤ b) → new b ≡ old b) → new ≡ store old a n v
store_by old new a n v inside outside = fun_ext (λ b. grind (arith, nat_tests, inside b, outside b))

-- ---- the bytes of an access in two maps

-- equal bytes have one little-endian value
pub little_endian-moved : (f g : ByteMap) (a b n : ℕ) → ((i : ℕ) → i < n → f (a + i) ≡ g (b + i)) → little_endian f a n ≡ little_endian g b n
little_endian-moved f g a b zero h = refl
little_endian-moved f g a b (suc n) h =
    rw (little_endian-moved f g a b n (λ i below. h i (omega arith)), h n (omega arith)) refl

-- addresses that are writable alike are all writable alike
pub all_writable-moved : (f g : ℕ → Bool) (a b n : ℕ) → ((i : ℕ) → i < n → f (a + i) ≡ g (b + i)) → all_writable f a n ≡ all_writable g b n
all_writable-moved f g a b zero h = refl
all_writable-moved f g a b (suc n) h =
    rw (all_writable-moved f g a b n (λ i below. h i (omega arith)), h n (omega arith)) refl

-- what is lawful of an access is lawful of the same bytes elsewhere
pub IsLawful-moved : (f g : ByteMap) (v w : ℕ → Bool) (a b n : ℕ) → ((i : ℕ) → i < n → f (a + i) ≡ g (b + i)) → ((i : ℕ) → i < n → v (a + i) ≡ w (b + i)) → IsLawful g w b n → IsLawful f v a n
IsLawful-moved f g v w a b n same_bytes same_writable law = record {
  values = λ i byte below e. law.values i byte below (sym (same_bytes i below) ∙ e);
  mapped = λ i below t. rw (same_bytes i below) (law.mapped i below (rw (same_writable i below) at t));
}

-- an access whose first byte is not mapped has no value
pub little_endian-unmapped : (f : ByteMap) (a n : ℕ) → 0 < n → f (a + 0) ≡ None → little_endian f a n ≡ None
little_endian-unmapped f a zero p e = absurd (omega (arith, p))
little_endian-unmapped f a (suc zero) p e = rw e refl
little_endian-unmapped f a (suc (suc n)) p e = rw (little_endian-unmapped f a (suc n) (omega arith) e) refl

-- an access whose first byte is not writable is not writable
pub all_writable-refused : (f : ℕ → Bool) (a n : ℕ) → 0 < n → f (a + 0) ≡ false → all_writable f a n ≡ false
all_writable-refused f a zero p e = absurd (omega (arith, p))
all_writable-refused f a (suc zero) p e = rw e refl
all_writable-refused f a (suc (suc n)) p e = rw (all_writable-refused f a (suc n) (omega arith) e) refl

-- an access of which no byte is mapped or writable is lawful
pub IsLawful-unmapped : (f : ByteMap) (w : ℕ → Bool) (a n : ℕ) → ((i : ℕ) → i < n → f (a + i) ≡ None) → ((i : ℕ) → i < n → w (a + i) ≡ false) → IsLawful f w a n
IsLawful-unmapped f w a n no_byte not_writable = record {
  values = λ i byte below e. grind (arith, no_byte i below);
  mapped = λ i below t. grind (arith, not_writable i below);
}

-- ---- reads and writes

-- what lies outside [a, a + n)
abbrev pub Outside : ℕ → ℕ → ℕ → Type 0
Outside a n b = (b < a) ⊎ (a + n ≤ b)

-- what is read is the same where the bytes are
pub same_bytes : (bytes bytes' : ByteMap) (a n : ℕ) → ((i : ℕ) → i < n → bytes' (a + i) ≡ bytes (a + i)) → little_endian bytes' a n ≡ little_endian bytes a n
same_bytes bytes bytes' a n same = little_endian-moved bytes' bytes a a n same

-- what is read where all bytes are mapped
both_some : (o p : Option ℕ) (n : ℕ) → IsSome o → IsSome p → IsSome (sum_if_both o (at_place n p))
both_some (Some x) (Some y) n some some' = some
both_some (Some x) None n some some' = some'
both_some None p n some some' = some

pub read-mapped : (bytes : ByteMap) (a n : ℕ) → ((i : ℕ) → i < n → IsSome (bytes (a + i))) → IsSome (little_endian bytes a n)
read-mapped bytes a zero mapped = refl
read-mapped bytes a (suc n) mapped = both_some (little_endian bytes a n) (bytes (a + n)) n (read-mapped bytes a n (λ i h. mapped i (omega arith))) (mapped n (omega arith))

-- a write is allowed where all bytes are writable
pub write-allowed : (writable : ℕ → Bool) (a n : ℕ) → ((i : ℕ) → i < n → IsTrue (writable (a + i))) → all_writable writable a n ≡ true
write-allowed writable a zero each = refl
write-allowed writable a (suc n) each = and_from _ _ (write-allowed writable a n (λ i h. each i (omega arith))) (each n (omega arith))

-- a byte outside a store is as before
pub store-outside : (bytes : ByteMap) (a n v b : ℕ) → Outside a n b → store bytes a n v b ≡ bytes b
store-outside bytes a n v b out = store_outside bytes a n v b (grind (arith, out))

-- what is read outside a range is as before where all bytes outside it are
pub read-kept : (old new : ByteMap) (a n b m : ℕ) → ((c : ℕ) → Outside a n c → new c ≡ old c) → ((i : ℕ) → i < m → Outside a n (b + i)) → little_endian new b m ≡ little_endian old b m
read-kept old new a n b m others outside = same_bytes old new b m (λ i h. others (b + i) (outside i h))

-- an address lies outside a range that has no address equal to it
pub outside_from_none : (a n b : ℕ) → ((i : ℕ) → i < n → a + i ≢ b) → Outside a n b
outside_from_none a n b none = grind (arith, none (b - a))

-- what is read of a store, from its lowest byte on
read-low : (bytes : ByteMap) (a n v m : ℕ) → m ≤ n → little_endian (store bytes a n v) a m ≡ Some (v % 256 ^ m)
read-low bytes a n v zero within = ap Some (sym (mod-one v))
read-low bytes a n v (suc m) within =
    let digit : ℕ → Option ℕ = λ k. Some (v / 256 ^ k % 256) in
    let byte : store bytes a n v (a + m) ≡ Some (v / 256 ^ m % 256) = store_inside bytes a n v (a + m) (omega arith) (omega arith) ∙ ap digit (omega arith) in
    ap (λ o. sum_if_both o (at_place m (store bytes a n v (a + m)))) (read-low bytes a n v m (omega arith))
    ∙ ap (λ o. sum_if_both (Some (v % 256 ^ m)) (at_place m o)) byte
    ∙ ap Some (one_more_byte v m)

-- what was stored is read
pub read-stored : (bytes : ByteMap) (a n v : ℕ) → little_endian (store bytes a n v) a n ≡ Some (v % 256 ^ n)
read-stored bytes a n v = read-low bytes a n v n (omega arith)
