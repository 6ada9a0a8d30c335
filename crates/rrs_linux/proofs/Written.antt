-- Bytes of the memory that are read one after another, and written to a stream.
use Rattle.std.proofs.Common.{◌≡◌, ◌≢◌, ℕ, zero, suc, ◌+◌, ◌-◌, ◌<◌, ◌≤◌, Bool, List, [], ◌∷◌, ◌++◌, length, take, get_or, set, Option, None, Some, refl, sym, subst, ap, ◌∙◌, add-one, append_assoc, append-nil, arith, below_more, inl, inr, get_or-set_other, get_or-set_same}
use Rattle.std.proofs.lemmas.List.{get_or-take, length-take, length-take-le, length-append, get_or_append_left, get_or-append_right}
use Rattle.std.proofs.lemmas.Bool.{cases_lt}
use Rattle.std.proofs.KnownBytes.{Appends-nil, Appends-trans}
use Rattle.std.specs.Io.KnownBytes.{Appends}
use Rattle.rrs_lib.specs.declared.MemAccessSize.{MemAccessSize}
use Rattle.rrs_lib.specs.declared.MemAccessSize.TheVariants.{Byte}
use Rattle.rrs_lib.specs.Bytes.{ByteMap, little_endian, sum_if_both, at_place}
use Rattle.rrs_lib.specs.AccessLists.{Access, Read, Makes}
use Rattle.rrs_lib.proofs.Making.{Makes-append}
use Rattle.rrs_fast.specs.Serving.{MakesSome}
use Rattle.rrs_linux.specs.Transfers.{Stands, byte_reads, WriteEnds, WritesText}

-- ---- one byte

first_place : (o : Option ℕ) → sum_if_both (Some 0) (at_place 0 o) ≡ o
first_place None = refl
first_place (Some x) = ap Some (omega arith)

-- a read of a byte gives the byte
pub byte_read : (bytes mid : ByteMap) (a : ℕ) (answer : Option ℕ) → mid ≡ bytes → answer ≡ little_endian mid a 1
    → answer ≡ bytes a
byte_read bytes mid a answer kept value =
    let here : a + 0 ≡ a = omega arith in
    value ∙ first_place (mid (a + 0)) ∙ ap mid here ∙ ap (λ f. f a) kept

-- one byte more stands in a chunk
pub chunk_more : (bytes : ByteMap) (a n byte : ℕ) (chunk : List ℕ)
    → ((i : ℕ) → i < n → bytes (a + i) ≡ Some (get_or chunk i 0)) → n < length chunk → bytes (a + n) ≡ Some byte
    → (i : ℕ) → i < n + 1 → bytes (a + i) ≡ Some (get_or (set chunk n byte) i 0)
chunk_more bytes a n byte chunk so_far room there =
    below_more _ _
    (λ k h. let ne : k ≢ n = omega arith in rw get_or-set_other (so_far k h)) (rw get_or-set_same there)

-- ---- several

pub Stands-take : (bytes : ByteMap) (a n : ℕ) (text : List ℕ) → n ≤ length text → Stands bytes a text
    → Stands bytes a (take n text)
Stands-take bytes a n text short stands =
    λ i h. let long : length (take n text) ≡ n = length-take-le n text short in
    stands i (omega (arith, h, long, short)) ∙ ap Some (sym (get_or-take n text i 0 (omega (arith, h, long))))

pub Stands-append : (bytes : ByteMap) (a n : ℕ) (xs ys : List ℕ) → length xs ≡ n → Stands bytes a xs
    → Stands bytes (a + n) ys → Stands bytes a (xs ++ ys)
Stands-append bytes a n xs ys long first later = λ i h.
    let both : length (xs ++ ys) ≡ length xs + length ys = length-append xs ys in
    elim (cases_lt i n) [
      | inl low ↦ first i (omega (arith, low, long)) ∙ ap Some
          (sym (get_or_append_left xs ys 0 i (omega (arith, low, long))))
      | inr high ↦
          let place : a + n + (i - n) ≡ a + i = omega (arith, high) in
          ap bytes (sym place) ∙ later (i - n) (omega (arith, h, high, long, both)) ∙ ap Some
          (sym (get_or-append_right xs ys n i 0 long high))
    ]

byte_reads-append : (bytes : ByteMap) (a n m : ℕ)
    → byte_reads bytes a (n + m) ≡ byte_reads bytes a n ++ byte_reads bytes (a + n) m
byte_reads-append bytes a n zero =
    let all : n + 0 ≡ n = omega arith in
    ap (byte_reads bytes a) all ∙ sym (append-nil (byte_reads bytes a n))
byte_reads-append bytes a n (suc m) =
    let all : n + suc m ≡ suc (n + m) = omega arith in
    let place : a + (n + m) ≡ a + n + m = omega arith in
    let last : ℕ → List Access = λ k. Read k Byte (bytes k) ∷ [] in
    ap (byte_reads bytes a) all ∙ ap (λ l. l ++ last (a + (n + m))) (byte_reads-append bytes a n m)
    ∙ append_assoc (byte_reads bytes a n) (byte_reads bytes (a + n) m) (last (a + (n + m)))
    ∙ ap (λ k. byte_reads bytes a n ++ (byte_reads bytes (a + n) m ++ last k)) place

module _ {M : Type 0} (reads : M → ℕ → MemAccessSize → M → Option ℕ → Type 0)
    (writes : M → ℕ → MemAccessSize → ℕ → M → Bool → Type 0) (bytes : ByteMap) (a : ℕ) where
  -- one read more, which gives the byte there
  pub reads_more : {at : ByteMap} {answer : Option ℕ} {mid new : M} (n : ℕ) (old : M) → at ≡ bytes
      → answer ≡ little_endian at (a + n) 1 → Makes reads writes (byte_reads bytes a n) old mid
      → reads mid (a + n) Byte new answer
      → (answer ≡ bytes (a + n)) × Makes reads writes (byte_reads bytes a (n + 1)) old new
  reads_more {at = at} {answer = answer} {mid = mid} {new = new} n old kept value made did =
      let there = byte_read bytes at (a + n) answer kept value in
      let all = Makes-append reads writes (byte_reads bytes a n) (Read (a + n) Byte (bytes (a + n)) ∷ []) old mid new
      made (new, rw there at did, refl) in
      (there, rw add-one all)

  -- so many bytes were read from a on, and this text of them is written
  pub record Written (before after : Option (List ℕ)) (text : List ℕ) (n : ℕ) (old new : M) : Type 0 where
    pub stands : Stands bytes a text
    pub appended : Appends before after text
    pub made : Makes reads writes (byte_reads bytes a n) old new

module _ {M : Type 0} {reads : M → ℕ → MemAccessSize → M → Option ℕ → Type 0}
    {writes : M → ℕ → MemAccessSize → ℕ → M → Bool → Type 0} {bytes : ByteMap} {a : ℕ} where
  -- nothing was read
  pub none_written : {before : Option (List ℕ)} {m : M} → Written reads writes bytes a before before [] 0 m m
  none_written {before = before} =
      record { stands = λ i h. absurd (omega (arith, h)); appended = Appends-nil before; made = refl }

  -- A chunk of which `copied` bytes were read, and then perhaps one that is not there, and `taken` of these written.
  pub chunk_written : {before mid : Option (List ℕ)} {text : List ℕ} {n : ℕ} {at : ByteMap} {m0 m1 : M}
      (after : Option (List ℕ)) (chunk : List ℕ) (copied reading taken : ℕ) (m2 : M)
      → Written reads writes bytes a before mid text n m0 m1 → length text ≡ n → at ≡ bytes
      → taken ≤ length (take copied chunk) → Stands at (a + n) (take copied chunk)
      → Appends mid after (take taken (take copied chunk)) → Makes reads writes (byte_reads at (a + n) reading) m1 m2
      → Written reads writes bytes a before after (text ++ take taken (take copied chunk)) (n + reading) m0 m2
      × (length (text ++ take taken (take copied chunk)) ≡ n + taken) × (copied ≤ taken → taken ≡ copied)
  chunk_written {before = before} {mid = mid} {text = text} {n = n} {m0 = m0} {m1 = m1} after chunk copied reading taken
      m2 so_far long kept short stands appended made =
      let front = take copied chunk in
      let there = subst (λ f. Stands f (a + n) front) kept stands in
      let read = subst (λ f. Makes reads writes (byte_reads f (a + n) reading) m1 m2) kept made in
      let whole : length (take taken front) ≡ taken = length-take-le taken front short in
      let written : Written reads writes bytes a before after (text ++ take taken front) (n + reading) m0 m2 = record {
        stands = Stands-append bytes a n text (take taken front) long so_far.stands
            (Stands-take bytes (a + n) taken front short there);
        appended = Appends-trans before mid after text (take taken front) so_far.appended appended;
        made = rw (byte_reads-append bytes a n reading)
            (Makes-append reads writes (byte_reads bytes a n) _ m0 m1 m2 so_far.made read);
      } in
      (written, omega (arith, length-append text (take taken front)), λ all. omega (arith, length-take copied chunk))

  -- what was written, by how it ended
  pub writes_text : {before after : Option (List ℕ)} {text : List ℕ} {count short short' n answer : ℕ} {broken : Bool}
      {old new : M}
      → Written reads writes bytes a before after text n old new
      → WriteEnds bytes a count text short short' broken n answer
      → MakesSome reads writes (WritesText bytes a count before after short short' broken answer) old new
  writes_text {before = before} {after = after} {text = text} {count = count} {short = short} {short' = short'} {n = n}
      {answer = answer} {broken = broken} w ended =
      let these : WritesText bytes a count before after short short' broken answer (byte_reads bytes a n) =
      record { text = text; stands = w.stands; appended = w.appended; reads = n; ended = ended; accessed = refl } in
      record { accesses = byte_reads bytes a n; these = these; made = w.made }
