-- Bytes of which those below an address are of one map and the others of a second.
use Rattle.std.proofs.Common.{◌≡◌, ℕ, ◌+◌, ◌-◌, ◌%◌, ◌<◌, ◌≤◌, nat_lt, Bool, true, false, if◌then◌else◌, Option, Some, ap, ◌∙◌, arith}
use Rattle.std.specs.Prelude.{IsTrue, IsSome}
use Rattle.std.proofs.lemmas.Bool.{cond-true, cond-false, lt-ltb}
use Rattle.std.proofs.lemmas.Bool.Decides.{nat_tests}
use Rattle.rrs_memory.specs.declared.MemAccessSize.{MemAccessSize}
use Rattle.rrs_memory.specs.Bytes.{ByteMap, width, little_endian, all_writable, store, IsLawful, EndsAtLastAddress}
use Rattle.rrs_memory.proofs.ByteLemmas.{little_endian-moved, all_writable-moved, store_by, store_inside, store_outside}
use Rattle.rrs_memory.proofs.Regions.{aligned_below, width_pos}
use Rattle.rrs_board.specs.Registers.{ram_start}

abbrev split : ByteMap → ByteMap → ByteMap
split low high a = if nat_lt a ram_start then low a else high a

abbrev split_writable : (ℕ → Bool) → (ℕ → Bool) → ℕ → Bool
split_writable low high a = if nat_lt a ram_start then low a else high a

is_low : (a : ℕ) → a < ram_start → nat_lt a ram_start ≡ true
is_low a below = lt-ltb a ram_start below

is_high : (a : ℕ) → ram_start ≤ a → nat_lt a ram_start ≡ false
is_high a from = grind (arith, nat_tests)

-- ---- an access below

module _ (low high : ByteMap) (wlow whigh : ℕ → Bool) (a : ℕ) (size : MemAccessSize) (aligned : a % width size ≡ 0)
    (below : a < ram_start) where
  stays : (i : ℕ) → i < width size → a + i < ram_start
  stays i within = aligned_below ram_start a i size (omega arith) aligned within below

  pub low_value : little_endian (split low high) a (width size) ≡ little_endian low a (width size)
  low_value = little_endian-moved (split low high) low a a (width size)
      (λ i within. cond-true _ _ _ (is_low (a + i) (stays i within)))

  pub low_writable : all_writable (split_writable wlow whigh) a (width size) ≡ all_writable wlow a (width size)
  low_writable = all_writable-moved (split_writable wlow whigh) wlow a a (width size)
      (λ i within. cond-true _ _ _ (is_low (a + i) (stays i within)))

  end_low : a + width size ≤ ram_start
  end_low = omega (arith, stays (width size - 1) (omega (arith, width_pos size)), width_pos size)

  pub low_store : (low' : ByteMap) (v : ℕ) → low' ≡ store low a (width size) v
      → split low' high ≡ store (split low high) a (width size) v
  low_store low' v e = store_by (split low high) (split low' high) a (width size) v
      (λ b from to. cond-true _ _ _ (is_low b (omega (arith, end_low))) ∙ ap (λ f. f b) e ∙ store_inside low a (width size) v b from to)
      (λ b apart. ap (λ x. if nat_lt b ram_start then x else high b) (ap (λ f. f b) e ∙ store_outside low a (width size) v b apart))

-- ---- an access above

module _ (low high : ByteMap) (wlow whigh : ℕ → Bool) (a n : ℕ) (from : ram_start ≤ a) where
  pub high_value : little_endian (split low high) a n ≡ little_endian high a n
  high_value = little_endian-moved (split low high) high a a n
      (λ i within. cond-false _ _ _ (is_high (a + i) (omega arith)))

  pub high_writable : all_writable (split_writable wlow whigh) a n ≡ all_writable whigh a n
  high_writable = all_writable-moved (split_writable wlow whigh) whigh a a n
      (λ i within. cond-false _ _ _ (is_high (a + i) (omega arith)))

  pub high_store : (high' : ByteMap) (v : ℕ) → high' ≡ store high a n v
      → split low high' ≡ store (split low high) a n v
  high_store high' v e = store_by (split low high) (split low high') a n v
      (λ b begin to. cond-false _ _ _ (is_high b (omega arith)) ∙ ap (λ f. f b) e ∙ store_inside high a n v b begin to)
      (λ b apart. ap (λ x. if nat_lt b ram_start then low b else x) (ap (λ f. f b) e ∙ store_outside high a n v b apart))

-- ---- laws

side_value : (b : Bool) (x y : Option ℕ) (byte : ℕ) → (x ≡ Some byte → byte < 256) → (y ≡ Some byte → byte < 256)
    → (if b then x else y) ≡ Some byte → byte < 256
side_value true x y byte p q e = p e
side_value false x y byte p q e = q e

side_mapped : (b u v : Bool) (x y : Option ℕ) → (IsTrue u → IsSome x) → (IsTrue v → IsSome y)
    → IsTrue (if b then u else v) → IsSome (if b then x else y)
side_mapped true u v x y p q t = p t
side_mapped false u v x y p q t = q t

pub split_lawful : (low high : ByteMap) (wlow whigh : ℕ → Bool) (a n : ℕ)
    → IsLawful low wlow a n → IsLawful high whigh a n
    → IsLawful (split low high) (split_writable wlow whigh) a n
split_lawful low high wlow whigh a n p q = record {
  values = λ i byte below. side_value (nat_lt (a + i) ram_start) (low (a + i)) (high (a + i)) byte
      (p.values i byte below) (q.values i byte below);
  mapped = λ i below. side_mapped (nat_lt (a + i) ram_start) (wlow (a + i)) (whigh (a + i)) (low (a + i)) (high (a + i))
      (p.mapped i below) (q.mapped i below);
}

pub split_ends : (low high : ByteMap) (wlow whigh : ℕ → Bool) → EndsAtLastAddress high whigh
    → EndsAtLastAddress (split low high) (split_writable wlow whigh)
split_ends low high wlow whigh ends a past =
    let side = is_high a (omega arith) in
    (cond-false _ _ _ side ∙ (ends a past).0, cond-false _ _ _ side ∙ (ends a past).1)
