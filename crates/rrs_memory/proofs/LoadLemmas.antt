-- How a load goes on by one byte.
use Rattle.std.proofs.Common.{◌≡◌, ◌≢◌, ◌⊎◌, ℕ, ◌+◌, ◌^◌, ◌<◌, ◌≤◌, Bool, true, false, List, [], ◌∷◌, ◌++◌, length, slice_index, Option, Some, is_some, Err, nat_lt, if◌then◌else◌, refl, sym, subst, ap, ◌∙◌, arith, inl, inr, below_more}
use Rattle.std.proofs.lemmas.List.{get_or_append_left, get_or_push, length_push}
use Rattle.std.specs.Io.KnownBytes.{Consumes}
use Rattle.std.proofs.KnownBytes.{Consumes-trans}
use Rattle.std.proofs.lemmas.Bool.{lt-ltb}
use Rattle.std.proofs.lemmas.Bool.Decides.{nat_tests}
use Rattle.rrs_memory.specs.declared.MemAccessSize.{MemAccessSize}
use Rattle.rrs_memory.specs.declared.MemAccessSize.TheVariants.{Byte}
use Rattle.rrs_memory.specs.Bytes.{ByteMap, store, IsLawful}
use Rattle.rrs_memory.specs.AccessLists.{Write, Makes}
use Rattle.rrs_memory.specs.declared.memories.load.LoadFault.{LoadFault}
use Rattle.rrs_memory.specs.declared.memories.load.LoadFault.TheVariants.{Refused}
use Rattle.rrs_memory.specs.Loading.{Loaded, Loads, byte_writes}

-- a byte store, at its place and elsewhere
store-here : (bytes : ByteMap) (a v : ℕ) → v < 256 → store bytes a 1 v a ≡ Some v
store-here bytes a v small = grind (arith, nat_tests)

store-there : (bytes : ByteMap) (a v b : ℕ) → b ≢ a → store bytes a 1 v b ≡ bytes b
store-there bytes a v b other = grind (arith, nat_tests)

store-mapped : (bytes : ByteMap) (a v b : ℕ) → is_some (bytes a) ≡ true → is_some (store bytes a 1 v b) ≡ is_some (bytes b)
store-mapped bytes a v b there = grind (arith, nat_tests)

-- one byte more, from what a write says
pub Loaded-next : (old mid new : ByteMap) (writable writable' : ℕ → Bool) (start byte value addr : ℕ) (input : List ℕ) → Loaded old mid writable start input → start + length input ≡ addr → addr < 2 ^ 32 → byte < 256 → value ≡ byte → writable' ≡ writable → true ≡ writable' (addr + 0) → IsLawful mid writable' addr 1 → new ≡ store mid addr 1 value → Loaded old new writable start (input ++ byte ∷ [])
Loaded-next old mid new writable writable' start byte value addr input so_far placed within small same kept answer lawful written =
    let zero_more : addr + 0 ≡ start + length input = omega (arith, placed) in
    let allowed : writable (start + length input) ≡ true = ap writable (sym zero_more) ∙ sym (ap (λ w. w (addr + 0)) kept) ∙ sym answer in
    let there : is_some (mid (start + length input)) ≡ true = ap (λ a. is_some (mid a)) (sym zero_more) ∙ lawful.mapped 0 (omega arith) (sym answer) in
    let stored : new ≡ store mid (start + length input) 1 byte = written ∙ ap (λ a. store mid a 1 value) (sym placed) ∙ ap (λ v. store mid (start + length input) 1 v) same in
    let at = λ (b : ℕ). ap (λ f. f b) stored in
    let more : length (input ++ byte ∷ []) ≡ length input + 1 = length_push input byte in
    record {
      writable_there = λ i h. below_more (λ k. writable (start + k) ≡ true) (length input) so_far.writable_there allowed i (omega (arith, h, more));
      loaded = λ i h. below_more (λ k. new (start + k) ≡ Some (slice_index (input ++ byte ∷ []) k)) (length input)
          (λ k below. at (start + k) ∙ store-there mid (start + length input) byte (start + k) (omega arith) ∙ so_far.loaded k below ∙ ap Some (sym (get_or_append_left input (byte ∷ []) 0 k below)))
          (at (start + length input) ∙ store-here mid (start + length input) byte small ∙ ap Some (sym (get_or_push input byte 0 (length input) refl)))
          i (omega (arith, h, more));
      others = λ a h.
          let apart : (a ≢ start + length input) × ((a < start) ⊎ (start + length input ≤ a)) =
          elim h [ inl below ↦ (omega (arith, below), inl below) | inr above ↦ (omega (arith, more, above), inr (omega (arith, more, above))) ] in
          at a ∙ store-there mid (start + length input) byte a apart.0 ∙ so_far.others a apart.1;
      mapped = λ a. ap is_some (at a) ∙ store-mapped mid (start + length input) byte a there ∙ so_far.mapped a;
      in_range = omega (arith, within, placed, more);
    }

-- a byte that the memory refused: it is read, and the load ends there
pub Loads-refused : (before between after : Option (List ℕ)) (old mid new : ByteMap) (writable writable' : ℕ → Bool) (start byte addr : ℕ) (input : List ℕ) (fault : LoadFault) → Loaded old mid writable start input → start + length input ≡ addr → Consumes before between input → Consumes between after (byte ∷ []) → writable' ≡ writable → false ≡ writable' (addr + 0) → new ≡ mid → fault ≡ Refused addr → Loads before after old new writable start (Err fault)
Loads-refused before between after old mid new writable writable' start byte addr input fault so_far placed consumed more kept answer same is =
    let zero_more : addr + 0 ≡ addr = omega arith in
    let shut : writable addr ≡ false = ap writable (sym zero_more) ∙ sym (ap (λ w. w (addr + 0)) kept) ∙ sym answer in
    rw (is, same) (record {
      input = input;
      loaded = so_far;
      answered = (sym placed, shut, (byte, Consumes-trans _ _ _ _ _ consumed more));
    })

-- ---- the writes of a load

-- a byte that is read past the last address is not written
byte_writes-past : (writable : ℕ → Bool) (a byte : ℕ) (input : List ℕ) → a + length input ≡ 2 ^ 32 → byte_writes writable a (input ++ byte ∷ []) ≡ byte_writes writable a input
byte_writes-past writable a byte [] past = grind (arith, nat_tests)
byte_writes-past writable a byte (x ∷ input) past =
    ap (λ rest. if nat_lt a (2 ^ 32) then Write a Byte x (writable a) ∷ rest else [])
    (byte_writes-past writable (a + 1) byte input (omega arith))

module _ {M : Type 0} (reads : M → ℕ → MemAccessSize → M → Option ℕ → Type 0) (writes : M → ℕ → MemAccessSize → ℕ → M → Bool → Type 0) (writable : ℕ → Bool) where
  -- one write more
  writes-more : (a addr byte : ℕ) (input : List ℕ) (old mid new : M) → Makes reads writes (byte_writes writable a input) old mid → a + length input ≡ addr → addr < 2 ^ 32 → writes mid addr Byte byte new (writable addr) → Makes reads writes (byte_writes writable a (input ++ byte ∷ [])) old new
  writes-more a addr byte [] old mid new made placed low did =
      let low_a : nat_lt a (2 ^ 32) ≡ true = lt-ltb a (2 ^ 32) (omega arith) in
      let here : addr ≡ a = omega arith in
      let at_a = subst (λ b. writes mid b Byte byte new (writable b)) here did in
      rw low_a (new, subst (λ (m : M). writes m a Byte byte new (writable a)) made at_a, refl)
  writes-more a addr byte (x ∷ input) old mid new made placed low did =
      let low_a : nat_lt a (2 ^ 32) ≡ true = lt-ltb a (2 ^ 32) (omega arith) in
      let parts = rw low_a at made in
      rw low_a (parts.0, parts.1, writes-more (a + 1) addr byte input parts.0 mid new parts.2 (omega arith) low did)

  -- one write more, from what a write says
  pub writes-next : (a addr byte value : ℕ) (answer : Bool) (writable' : ℕ → Bool) (input : List ℕ) (old mid new : M) → Makes reads writes (byte_writes writable a input) old mid → a + length input ≡ addr → addr < 2 ^ 32 → value ≡ byte → writable' ≡ writable → answer ≡ writable' (addr + 0) → writes mid addr Byte value new answer → Makes reads writes (byte_writes writable a (input ++ byte ∷ [])) old new
  writes-next a addr byte value answer writable' input old mid new made placed low same kept granted did =
      let zero_more : addr + 0 ≡ addr = omega arith in
      let answered : answer ≡ writable addr = granted ∙ ap writable' zero_more ∙ ap (λ w. w addr) kept in
      let of_byte = subst (λ v. writes mid addr Byte v new answer) same did in
      writes-more a addr byte input old mid new made placed low (subst (λ b. writes mid addr Byte byte new b) answered of_byte)

  -- no write more, past the last address
  pub writes-past : (a byte : ℕ) (input : List ℕ) (old new : M) → Makes reads writes (byte_writes writable a input) old new → a + length input ≡ 2 ^ 32 → Makes reads writes (byte_writes writable a (input ++ byte ∷ [])) old new
  writes-past a byte input old new made past =
      subst (λ xs. Makes reads writes xs old new) (sym (byte_writes-past writable a byte input past)) made
