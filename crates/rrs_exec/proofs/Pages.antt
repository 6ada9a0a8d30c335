-- An access that is aligned lies in one page, so all of its bytes have one mark.
use Rattle.std.proofs.Common.{◌≡◌, ◌⊎◌, ℕ, ◌+◌, ◌-◌, ◌/◌, ◌%◌, ◌<◌, Bool, true, false, if◌then◌else◌, List, slice_index_or, Option, Some, None, IsTrue, IsSome, refl, sym, ap, subst, ◌∙◌, arith}
use Rattle.rrs_memory.specs.declared.MemAccessSize.{MemAccessSize}
use Rattle.rrs_memory.specs.declared.MemAccessSize.TheVariants.{Byte, HalfWord, Word}
use Rattle.rrs_memory.specs.Bytes.{ByteMap, width, little_endian, all_writable, store, IsLawful, EndsAtLastAddress}
use Rattle.rrs_memory.proofs.ByteLemmas.{little_endian-moved, all_writable-moved, little_endian-unmapped, all_writable-refused, store_inside, store_outside, store_by}
use Rattle.rrs_memory.proofs.Regions.{width_pos}
use Rattle.rrs_exec.specs.declared.marks.Protection.{Protection}
use Rattle.rrs_exec.specs.declared.marks.Protection.TheVariants.{Unmapped, ReadOnly, Writable}
use Rattle.rrs_exec.specs.Protection.{mark_at, is_mapped, is_writable, bytes_under, writable_under}

-- the page of each byte of an aligned access is that of its first
one_page : (size : MemAccessSize) (a i : ℕ) → a % width size ≡ 0 → i < width size → (a + i) / 4096 ≡ a / 4096
one_page Byte a i aligned below = omega arith
one_page HalfWord a i aligned below = omega arith
one_page Word a i aligned below = omega arith

mapped_if_writable : (m : Protection) → is_writable m ≡ true → is_mapped m ≡ true
mapped_if_writable Writable t = refl
mapped_if_writable ReadOnly t = cc
mapped_if_writable Unmapped t = cc

pub mapped_either : (m : Protection) → (m ≡ ReadOnly) ⊎ (m ≡ Writable) → is_mapped m ≡ true
mapped_either Writable one = refl
mapped_either ReadOnly one = refl
mapped_either Unmapped one = grind (arith, one)

pub refused_either : (m : Protection) → (m ≡ Unmapped) ⊎ (m ≡ ReadOnly) → is_writable m ≡ false
refused_either Writable one = grind (arith, one)
refused_either ReadOnly one = refl
refused_either Unmapped one = refl

-- of a byte, and of whether it is writable, what a mark leaves
left_some : (b : Bool) (o : Option ℕ) (byte : ℕ) → (if b then o else None) ≡ Some byte → o ≡ Some byte
left_some true o byte e = e
left_some false o byte e = cc

left_none : (b : Bool) (o : Option ℕ) → o ≡ None → (if b then o else None) ≡ None
left_none true o e = e
left_none false o e = refl

left_true : (b t : Bool) → IsTrue (if b then t else false) → (b ≡ true) × IsTrue t
left_true true t e = (refl, e)
left_true false t e = cc

left_false : (b t : Bool) → t ≡ false → (if b then t else false) ≡ false
left_false true t e = e
left_false false t e = refl

module _ (marks : List Protection) (a : ℕ) (size : MemAccessSize) (aligned : a % width size ≡ 0) where
  one_mark : (i : ℕ) → i < width size → mark_at marks (a + i) ≡ mark_at marks a
  one_mark i below = ap (λ p. slice_index_or marks p Unmapped) (one_page size a i aligned below)

  -- the bytes of an access whose page is mapped
  byte_mapped : (f : ByteMap) → is_mapped (mark_at marks a) ≡ true → (i : ℕ) → i < width size → bytes_under marks f (a + i) ≡ f (a + i)
  byte_mapped f mapped i below = rw (one_mark i below, mapped) refl

  byte_unmapped : (f : ByteMap) → is_mapped (mark_at marks a) ≡ false → (i : ℕ) → i < width size → bytes_under marks f (a + i) ≡ None
  byte_unmapped f none i below = rw (one_mark i below, none) refl

  byte_writable : (v : ℕ → Bool) → is_writable (mark_at marks a) ≡ true → (i : ℕ) → i < width size → writable_under marks v (a + i) ≡ v (a + i)
  byte_writable v writable i below = rw (one_mark i below, writable) refl

  byte_refused : (v : ℕ → Bool) → is_writable (mark_at marks a) ≡ false → (i : ℕ) → i < width size → writable_under marks v (a + i) ≡ false
  byte_refused v refused i below = rw (one_mark i below, refused) refl

  -- what is read
  pub value_mapped : (f : ByteMap) → is_mapped (mark_at marks a) ≡ true → little_endian (bytes_under marks f) a (width size) ≡ little_endian f a (width size)
  value_mapped f mapped = little_endian-moved (bytes_under marks f) f a a (width size) (byte_mapped f mapped)

  pub value_unmapped : (f : ByteMap) → is_mapped (mark_at marks a) ≡ false → little_endian (bytes_under marks f) a (width size) ≡ None
  value_unmapped f none = little_endian-unmapped (bytes_under marks f) a (width size) (width_pos size) (byte_unmapped f none 0 (width_pos size))

  -- what is granted
  pub granted_writable : (v : ℕ → Bool) → is_writable (mark_at marks a) ≡ true → all_writable (writable_under marks v) a (width size) ≡ all_writable v a (width size)
  granted_writable v writable = all_writable-moved (writable_under marks v) v a a (width size) (byte_writable v writable)

  pub granted_refused : (v : ℕ → Bool) → is_writable (mark_at marks a) ≡ false → all_writable (writable_under marks v) a (width size) ≡ false
  granted_refused v refused = all_writable-refused (writable_under marks v) a (width size) (width_pos size) (byte_refused v refused 0 (width_pos size))

  -- what a store leaves
  pub stored : (f g : ByteMap) (value : ℕ) → is_writable (mark_at marks a) ≡ true → g ≡ store f a (width size) value → bytes_under marks g ≡ store (bytes_under marks f) a (width size) value
  stored f g value writable wrote =
      store_by (bytes_under marks f) (bytes_under marks g) a (width size) value
      (λ b from to.
      let at : a + (b - a) ≡ b = omega arith in
      let same : bytes_under marks g b ≡ g b = subst (λ x. bytes_under marks g x ≡ g x) at (byte_mapped g (mapped_if_writable (mark_at marks a) writable) (b - a) (omega arith)) in
      same ∙ ap (λ h. h b) wrote ∙ store_inside f a (width size) value b from to)
      (λ b apart.
      let same : g b ≡ f b = ap (λ h. h b) wrote ∙ store_outside f a (width size) value b apart in
      ap (λ x. if is_mapped (mark_at marks b) then x else None) same)

-- the bytes that are left are lawful, and end where all do
pub lawful_under : (marks : List Protection) (f : ByteMap) (v : ℕ → Bool) (a n : ℕ) → IsLawful f v a n → IsLawful (bytes_under marks f) (writable_under marks v) a n
lawful_under marks f v a n law = record {
  values = λ i byte below e. law.values i byte below (left_some (is_mapped (mark_at marks (a + i))) (f (a + i)) byte e);
  mapped = λ i below t.
      let both = left_true (is_writable (mark_at marks (a + i))) (v (a + i)) t in
      let there : bytes_under marks f (a + i) ≡ f (a + i) = rw (mapped_if_writable (mark_at marks (a + i)) both.0) refl in
      subst IsSome (sym there) (law.mapped i below both.1);
}

pub ends_under : (marks : List Protection) (f : ByteMap) (v : ℕ → Bool) → EndsAtLastAddress f v → EndsAtLastAddress (bytes_under marks f) (writable_under marks v)
ends_under marks f v ends a past =
    (left_none (is_mapped (mark_at marks a)) (f a) (ends a past).0, left_false (is_writable (mark_at marks a)) (v a) (ends a past).1)
