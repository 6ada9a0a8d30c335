-- A store is taken back by a store of what was read before it, and registers by the one that was written.
use Rattle.std.proofs.Common.{◌≡◌, ℕ, zero, suc, ◌+◌, ◌-◌, ◌*◌, ◌/◌, ◌%◌, ◌^◌, ◌<◌, ◌≤◌, inl, inr, Bool, true, false, ◌&&◌, Option, Some, None, IsSome, IsTrue, unwrap_or, refl, sym, subst, ap, ◌∙◌, arith}
use Rattle.std.proofs.lemmas.Option.{same_Some, none-some}
use Rattle.std.proofs.lemmas.Nat.{div-mul-add}
use Rattle.std.proofs.Math.Nat.{pow-succ', mul-le-mul_right, eq-or-lt_of_le}
use Rattle.std.specs.Bool.{OnTrue}
use Rattle.rrs_lib.specs.Bytes.{ByteMap, little_endian, all_writable, store, sum_if_both, at_place, IsLawful}
use Rattle.rrs_lib.proofs.ByteLemmas.{store_by, store_outside, read-mapped}
use Rattle.rrs_lib.proofs.VecWords.{low_byte}

-- ---- the bytes that were read

-- a value of one byte more is a value and that byte
split : (o p : Option ℕ) (n w : ℕ) → sum_if_both o (at_place n p) ≡ Some w
    → (x : ℕ) × (y : ℕ) × (o ≡ Some x) × (p ≡ Some y) × (w ≡ x + y * 256 ^ n)
split None p n w e = absurd (none-some _ e)
split (Some x) None n w e = absurd (none-some _ e)
split (Some x) (Some y) n w e = (x, y, refl, refl, sym (same_Some _ _ e))

-- a value that was read has the bytes that are there
record Digits (bytes : ByteMap) (a n w : ℕ) : Type 0 where
  below : w < 256 ^ n
  digit : (i : ℕ) → i < n → bytes (a + i) ≡ Some (w / 256 ^ i % 256)

-- a byte more above a value below 256 ^ n
more_below : (x y n : ℕ) → x < 256 ^ n → y < 256 → x + y * 256 ^ n < 256 ^ suc n
more_below x y n less byte =
    let whole : 256 ^ suc n ≡ 256 * 256 ^ n = pow-succ' 256 n in
    let bound : (y + 1) * 256 ^ n ≤ 256 * 256 ^ n = mul-le-mul_right (256 ^ n) (omega (arith, byte)) in
    omega (arith, whole, bound, less)

top_byte : (x y n : ℕ) → x < 256 ^ n → y < 256 → (x + y * 256 ^ n) / 256 ^ n % 256 ≡ y
top_byte x y n less byte =
    let turned : x + y * 256 ^ n ≡ y * 256 ^ n + x = omega arith in
    ap (λ z. z / 256 ^ n % 256) turned ∙ ap (λ z. z % 256) (div-mul-add y (256 ^ n) x less) ∙ omega (arith, byte)

digits : (bytes : ByteMap) (a n w : ℕ) → ((i byte : ℕ) → i < n → bytes (a + i) ≡ Some byte → byte < 256)
    → little_endian bytes a n ≡ Some w → Digits bytes a n w
digits bytes a zero w values e =
    let none : 0 ≡ w = same_Some _ _ e in
    record { below = omega (arith, none); digit = λ i h. absurd (omega (arith, h)) }
digits bytes a (suc n) w values e =
    let p = split (little_endian bytes a n) (bytes (a + n)) n w e in
    let x = p.0 in
    let y = p.1 in
    let byte : y < 256 = values n y (omega arith) p.3 in
    let lower = digits bytes a n x (λ i b h. values i b (omega (arith, h))) p.2 in
    record {
      below = subst (λ z. z < 256 ^ suc n) (sym p.4) (more_below x y n lower.below byte);
      digit = λ i h. elim (eq-or-lt_of_le {n = i} {m = n} (omega (arith, h))) as (λ _. bytes (a + i) ≡ Some (w / 256 ^ i % 256)) [
        | inl same ↦ ap (λ j. bytes (a + j)) same ∙ p.3
            ∙ ap Some (sym (top_byte x y n lower.below byte)) ∙ ap (λ z. Some (z / 256 ^ n % 256)) (sym p.4)
            ∙ ap (λ j. Some (w / 256 ^ j % 256)) (sym same)
        | inr less ↦ lower.digit i less ∙ ap Some (sym (low_byte x y n i less)) ∙ ap (λ z. Some (z / 256 ^ i % 256)) (sym p.4)
      ];
    }

-- ---- a store that is taken back

-- each of the addresses is writable
and_parts : (x y : Bool) → (x && y) ≡ true → (x ≡ true) × (y ≡ true)
and_parts true y e = (refl, e)
and_parts false y e = absurd (cc)

each_writable : (w : ℕ → Bool) (a n : ℕ) → all_writable w a n ≡ true → (i : ℕ) → i < n → IsTrue (w (a + i))
each_writable w a zero all i h = absurd (omega (arith, h))
each_writable w a (suc n) all i h =
    let both = and_parts (all_writable w a n) (w (a + n)) all in
    elim (eq-or-lt_of_le {n = i} {m = n} (omega (arith, h))) as (λ _. IsTrue (w (a + i))) [
      | inl same ↦ ap (λ j. w (a + j)) same ∙ both.1
      | inr less ↦ each_writable w a n both.0 i less
    ]

-- what was read is the value that is kept of it
read_value : (o : Option ℕ) → IsSome o → o ≡ Some (unwrap_or o 0)
read_value (Some x) some = refl
read_value None some = absurd (cc)

-- a store, and then a store of the bytes that were there
pub store_back : (bytes : ByteMap) (writable : ℕ → Bool) (a n v : ℕ) (read : Option ℕ)
    → IsLawful bytes writable a n → all_writable writable a n ≡ true → read ≡ little_endian bytes a n
    → store (store bytes a n v) a n (unwrap_or read 0) ≡ bytes
store_back bytes writable a n v read law allowed is =
    let mapped = read-mapped bytes a n (λ i h. law.mapped i h (each_writable writable a n allowed i h)) in
    let value : little_endian bytes a n ≡ Some (unwrap_or read 0) =
    read_value (little_endian bytes a n) mapped ∙ ap (λ o. Some (unwrap_or o 0)) (sym is) in
    let d = digits bytes a n (unwrap_or read 0) law.values value in
    sym (store_by (store bytes a n v) bytes a n (unwrap_or read 0)
    (λ b from to. ap bytes (omega (arith, from)) ∙ d.digit (b - a) (omega (arith, from, to)))
    (λ b out. sym (store_outside bytes a n v b out)))

-- so a write that was granted is taken back
pub write_back_if : (old mid new : ByteMap) (writable : ℕ → Bool) (a n v w : ℕ) (read : Option ℕ) (granted : Bool)
    → IsLawful old writable a n → granted ≡ all_writable writable a n → read ≡ little_endian old a n → w ≡ unwrap_or read 0
    → OnTrue granted (new ≡ store mid a n v) → mid ≡ old → OnTrue granted (store new a n w ≡ old)
write_back_if old mid new writable a n v w read true law allowed is value written same =
    ap (λ m. store m a n w) (written ∙ ap (λ m. store m a n v) same) ∙ ap (store (store old a n v) a n) value
    ∙ store_back old writable a n v read law (sym allowed) is
write_back_if old mid new writable a n v w read false law allowed is value written same = tt
