-- What an access of a process's memory reads and leaves.
use Rattle.std.proofs.Common.{◌≡◌, ℕ, ◌+◌, ◌-◌, ◌*◌, ◌/◌, ◌%◌, ◌^◌, ◌<◌, ◌≤◌, true, false, List, length, Option, Some, None, refl, sym, ap, ◌∙◌, arith}
use Rattle.std.proofs.lemmas.Bool.Decides.{nat_tests}
use Rattle.rrs_memory.specs.declared.MemAccessSize.{MemAccessSize}
use Rattle.rrs_memory.specs.Bytes.{width, little_endian, all_writable, store, Reads, Writes, IsLawful, EndsAtLastAddress}
use Rattle.rrs_fast.specs.ZeroWords.{bytes_or_zero}
use Rattle.rrs_exec.specs.ProcessPlaces.{distance, distance_below}
use Rattle.rrs_exec.specs.ProcessMemories.{lies_between, place_below, process_bytes, process_writable, process_layout}
use Rattle.rrs_exec.specs.declared.process_memory.ProcessMemory.{ProcessMemory}
use Rattle.rrs_exec.proofs.ProcessBytes as Parts

-- the bytes are lawful everywhere, and end where addresses do
pub lawful_anywhere : (m : ProcessMemory) (a n : ℕ) → IsLawful (process_bytes m) (process_writable m) a n
lawful_anywhere m a n = Parts.lawful_parts m.base m.split m.end m.low.words.mem.items m.high.words.mem.items a n

pub ends_anywhere : (m : ProcessMemory) → EndsAtLastAddress (process_bytes m) (process_writable m)
ends_anywhere m = Parts.ends_parts m.base m.split m.end m.low.words.mem.items m.high.words.mem.items (omega (arith, m.top))

module _ (m : ProcessMemory) (a : ℕ) (size : MemAccessSize) (aligned : a % width size ≡ 0) (in_range : a < 2 ^ 32) where
  top : m.end < 2 ^ 32
  top = m.top

  low_fits : m.base + 4 * length m.low.words.mem.items ≤ m.split
  low_fits = omega (arith, m.lower, m.low.within, m.low.words.mem.ok)

  high_fits : m.split + 4 * length m.high.words.mem.items ≤ m.end
  high_fits = omega (arith, m.upper, m.high.within, m.high.words.mem.ok)

  split-al : m.split % 4 ≡ 0
  split-al = omega (arith, m.lower, m.aligned)

  end-al : m.end % 4 ≡ 0
  end-al = omega (arith, m.upper, split-al)

  ordered : m.base ≤ m.split
  ordered = omega (arith, low_fits)

  upward : m.split ≤ m.end
  upward = omega (arith, high_fits)

  -- the bytes of a memory with the same words
  pub kept : (lower upper : List ℕ) → lower ≡ m.low.words.mem.items → upper ≡ m.high.words.mem.items
      → Parts.parts m.base m.split m.end lower upper ≡ process_bytes m
  kept lower upper l h = ap (λ ws. Parts.parts m.base m.split m.end ws upper) l ∙ ap (Parts.parts m.base m.split m.end m.low.words.mem.items) h

  -- a read
  pub reads : (new : ProcessMemory) (answer : Option ℕ) → process_bytes new ≡ process_bytes m → process_writable new ≡ process_writable m
      → process_layout new ≡ process_layout m → answer ≡ little_endian (process_bytes m) a (width size)
      → Reads process_bytes process_writable process_layout m new a (width size) answer
  reads new answer bytes writable layout value = record {
    value = value;
    bytes_kept = bytes;
    writable_kept = writable;
    layout_kept = layout;
    lawful = lawful_anywhere m a (width size);
    ends = ends_anywhere m;
  }

  pub low_value : (place value : ℕ) → place ≡ distance m.base a → place / 4 < length m.low.words.mem.items
      → little_endian (bytes_or_zero m.low.words.mem.items) place (width size) ≡ Some value
      → Some value ≡ little_endian (process_bytes m) a (width size)
  low_value place value is there read =
      let hit : distance m.base a / 4 < length m.low.words.mem.items = omega (arith, is, there) in
      sym (Parts.value_low m.base m.split m.end m.low.words.mem.items m.high.words.mem.items m.aligned split-al end-al top low_fits high_fits a size aligned in_range hit
      ∙ ap (λ p. little_endian (bytes_or_zero m.low.words.mem.items) p (width size)) (sym is) ∙ read)

  module _ (place : ℕ) (is : place ≡ distance_below m.end a) (there : place / 4 < length m.high.words.mem.items) where
    hit : distance_below m.end a / 4 < length m.high.words.mem.items
    hit = omega (arith, is, there)

    before : a < m.end
    before = Parts.before_end m.base m.split m.end m.low.words.mem.items m.high.words.mem.items m.aligned split-al end-al top low_fits high_fits a size aligned in_range hit

    from : m.split ≤ a
    from = Parts.from_split m.base m.split m.end m.low.words.mem.items m.high.words.mem.items m.aligned split-al end-al top low_fits high_fits a size aligned in_range hit

    at : place ≡ place_below m.end a
    at = is ∙ Parts.place_is m.base m.split m.end m.low.words.mem.items m.high.words.mem.items m.aligned split-al end-al top low_fits high_fits a size aligned in_range hit

    pub high_value : (value : ℕ) → little_endian (bytes_or_zero m.high.words.mem.items) place (width size) ≡ Some value
        → Some value ≡ little_endian (process_bytes m) a (width size)
    high_value value read =
        sym (Parts.value_high m.base m.split m.end m.low.words.mem.items m.high.words.mem.items m.aligned split-al end-al top low_fits high_fits a size aligned in_range before from
        ∙ ap (λ p. little_endian (bytes_or_zero m.high.words.mem.items) p (width size)) (sym at) ∙ read)

  pub zero_value : lies_between m.base m.end a ≡ true → length m.low.words.mem.items ≤ distance m.base a / 4
      → length m.high.words.mem.items ≤ distance_below m.end a / 4 → Some 0 ≡ little_endian (process_bytes m) a (width size)
  zero_value lies no_low no_high =
      let from : m.base ≤ a = grind (arith, nat_tests, lies) in
      let before : a < m.end = grind (arith, nat_tests, lies) in
      sym (Parts.value_past m.base m.split m.end m.low.words.mem.items m.high.words.mem.items m.aligned split-al end-al top low_fits high_fits a size aligned in_range before from no_low no_high)

  pub no_value : lies_between m.base m.end a ≡ false → None ≡ little_endian (process_bytes m) a (width size)
  no_value out = sym (Parts.value_out m.base m.split m.end m.low.words.mem.items m.high.words.mem.items m.aligned split-al end-al top low_fits high_fits a size aligned in_range out)

  -- a write that is granted
  granted : (new : ProcessMemory) (value : ℕ) → all_writable (lies_between m.base m.end) a (width size) ≡ true
      → process_bytes new ≡ store (process_bytes m) a (width size) value
      → process_writable new ≡ process_writable m → process_layout new ≡ process_layout m
      → Writes process_bytes process_writable process_layout m new a (width size) value true
  granted new value writable wrote w l = record {
    granted = sym writable;
    written = wrote;
    refused = tt;
    writable_kept = w;
    layout_kept = l;
    lawful = lawful_anywhere m a (width size);
    ends = ends_anywhere m;
  }

  -- one that leaves lower words with these bytes
  pub low_write : (new : ProcessMemory) (lower : List ℕ) (place value : ℕ) → m.base ≤ a → a < m.split → place ≡ distance m.base a
      → bytes_or_zero lower ≡ store (bytes_or_zero m.low.words.mem.items) place (width size) value
      → process_bytes new ≡ Parts.parts m.base m.split m.end lower m.high.words.mem.items
      → process_writable new ≡ process_writable m → process_layout new ≡ process_layout m
      → Writes process_bytes process_writable process_layout m new a (width size) value true
  low_write new lower place value start below is wrote bytes w l =
      let to : a + width size ≤ m.split = Parts.to_bound a size aligned m.split split-al below in
      let at : place ≡ a - m.base = omega (arith, is, start, below, upward, top, in_range) in
      let stored = Parts.store_low m.base m.split m.end m.low.words.mem.items m.high.words.mem.items m.aligned split-al end-al top low_fits high_fits a size aligned in_range
      lower value start to (wrote ∙ ap (λ p. store (bytes_or_zero m.low.words.mem.items) p (width size) value) at) in
      granted new value (Parts.granted_high m.base m.split m.end m.low.words.mem.items m.high.words.mem.items m.aligned split-al end-al top low_fits high_fits a size aligned in_range (omega (arith, below, upward)) start)
      (bytes ∙ stored) w l

  -- and one that leaves upper words with these bytes
  pub high_write : (new : ProcessMemory) (upper : List ℕ) (place value : ℕ) → m.split ≤ a → a < m.end → place ≡ distance_below m.end a
      → bytes_or_zero upper ≡ store (bytes_or_zero m.high.words.mem.items) place (width size) value
      → process_bytes new ≡ Parts.parts m.base m.split m.end m.low.words.mem.items upper
      → process_writable new ≡ process_writable m → process_layout new ≡ process_layout m
      → Writes process_bytes process_writable process_layout m new a (width size) value true
  high_write new upper place value above below is wrote bytes w l =
      let at : place ≡ place_below m.end a = is ∙ omega (arith, below, in_range, top) in
      let stored = Parts.store_high m.base m.split m.end m.low.words.mem.items m.high.words.mem.items m.aligned split-al end-al top low_fits high_fits a size aligned in_range below
      upper value above (wrote ∙ ap (λ p. store (bytes_or_zero m.high.words.mem.items) p (width size) value) at) in
      granted new value (Parts.granted_high m.base m.split m.end m.low.words.mem.items m.high.words.mem.items m.aligned split-al end-al top low_fits high_fits a size aligned in_range below (omega (arith, above, ordered)))
      (bytes ∙ stored) w l

  -- a write of a word that is there
  pub low_put : (new : ProcessMemory) (lower : List ℕ) (place value : ℕ) → place ≡ distance m.base a → place / 4 < length m.low.words.mem.items
      → bytes_or_zero lower ≡ store (bytes_or_zero m.low.words.mem.items) place (width size) value
      → process_bytes new ≡ Parts.parts m.base m.split m.end lower m.high.words.mem.items
      → process_writable new ≡ process_writable m → process_layout new ≡ process_layout m
      → Writes process_bytes process_writable process_layout m new a (width size) value true
  low_put new lower place value is there wrote bytes w l =
      let there : distance m.base a / 4 < length m.low.words.mem.items = omega (arith, is, there) in
      let start = Parts.from_base m.base m.split m.end m.low.words.mem.items m.high.words.mem.items m.aligned split-al end-al top low_fits high_fits a size aligned in_range there in
      let to = Parts.to_split m.base m.split m.end m.low.words.mem.items m.high.words.mem.items m.aligned split-al end-al top low_fits high_fits a size aligned in_range there in
      low_write new lower place value start (omega (arith, to, Parts.some_width size)) is wrote bytes w l

  pub high_put : (new : ProcessMemory) (upper : List ℕ) (place value : ℕ) → place ≡ distance_below m.end a → place / 4 < length m.high.words.mem.items
      → bytes_or_zero upper ≡ store (bytes_or_zero m.high.words.mem.items) place (width size) value
      → process_bytes new ≡ Parts.parts m.base m.split m.end m.low.words.mem.items upper
      → process_writable new ≡ process_writable m → process_layout new ≡ process_layout m
      → Writes process_bytes process_writable process_layout m new a (width size) value true
  high_put new upper place value is there wrote bytes w l =
      high_write new upper place value (from place is there) (before place is there) is wrote bytes w l

  -- a write outside
  pub refused : (value : ℕ) → lies_between m.base m.end a ≡ false
      → Writes process_bytes process_writable process_layout m m a (width size) value false
  refused value out = record {
    granted = sym (Parts.refused_out m.base m.split m.end m.low.words.mem.items m.high.words.mem.items m.aligned split-al end-al top low_fits high_fits a size aligned in_range out);
    written = tt;
    refused = refl;
    writable_kept = refl;
    layout_kept = refl;
    lawful = lawful_anywhere m a (width size);
    ends = ends_anywhere m;
  }
