-- What a traced memory has seen of a step of a hart, and what is told of an access by bytes.
use Rattle.std.proofs.Common.{◌≡◌, ℕ, ◌%◌, ◌==◌, ◌≤◌, ℤ, Bool, true, false, if◌then◌else◌, List, [], ◌∷◌, ◌++◌, Option, Some, None, Result, Ok, Err, IfOk, IfSome, refl, sym, subst, ap, ◌∙◌}
use Rattle.std.proofs.lemmas.Bool.{eq-eqb, ne_eqb, false≢true}
use Rattle.std.proofs.lemmas.Option.{none-some, same_Some}
use Rattle.rrs_lib.specs.declared.MemAccessSize.{MemAccessSize}
use Rattle.rrs_lib.specs.declared.MemAccessSize.TheVariants.{Word}
use Rattle.rrs_lib.specs.Bytes.{little_endian, width}
use Rattle.rrs_instruction.specs.declared.instruction_formats.RType.{RType}
use Rattle.rrs_instruction.specs.Encodings.{Fields, I, S}
use Rattle.rrs_instruction.specs.Table.{Row, table, Action, Load, Store, Decodes, IsIllegal}
use Rattle.rrs_lib.specs.declared.instruction_executor.InstructionException.{InstructionException}
use Rattle.rrs_lib.specs.declared.instruction_executor.InstructionException.TheVariants.{AlignmentFault}
use Rattle.rrs_lib.specs.Machine.{State, Outcome, reg, plus_immediate, read_outcome}
use Rattle.rrs_lib.specs.Steps.{Step, StepAnswer, Misaligned, Unmapped, Illegal, Legal, next_word, cleared, answered}
use Rattle.rrs_lib.specs.Accesses.{Access, Read, Write, Makes, AccessesOf, OfNone, OfFetch, OfRow, fetch, read_in, write_in, read_if_aligned, write_if_aligned, size_of, accesses_by, accesses_of_row}
use Rattle.rrs_instruction.proofs.Rows.{one_row_at_most}
use Rattle.rrs_words.specs.declared.atomics.AtomicRow.{AtomicRow}
use Rattle.rrs_words.specs.declared.atomics.AtomicRow.TheVariants.{LrW, ScW}
use Rattle.rrs_words.specs.declared.layers.LayerInstruction.{LayerInstruction}
use Rattle.rrs_words.specs.declared.layers.LayerInstruction.TheVariants.{System, Atomic, Bits}
use Rattle.rrs_hart.specs.declared.bytes.ByteAccess.{ByteAccess}
use Rattle.rrs_words.specs.declared.csrs.HartProfile.{HartProfile}
use Rattle.rrs_hart.specs.Anywhere.{anywhere_by, told_load, told_anywhere}
use Rattle.rrs_hart.specs.Atomics.{AtomicOutcome, holds, combined, swap_accesses, aligned_accesses}
use Rattle.rrs_hart.specs.Harts.{Hart, whole, word_fetched, fetched_in, fetch_reads_in, layer_accesses, IsOfProfile, LayerAt, BytesAt, IsKits, HartStep, OfKit, OfLayer, ByBytes, TellsBytes, AccessesOfHart, KitAccesses, LayerAccesses, ByteAccesses, HalvesAccesses, OfHalves}
use Rattle.rrs_hart.specs.declared.halves.Encoding.{Encoding}
use Rattle.rrs_hart.specs.declared.halves.Encoding.TheVariants.{Long}
use Rattle.rrs_hart.specs.Halves.{bits_of, fetched, fetch_reads, StandsFor, IsNoRow, IsLayers, IsIllegalIn, IsCarriedOut, IsNothing, AccessesOfRowStep, OfRow, OfBytes, AccessesOfHalves, FetchAlone, FetchAndRow, FetchAndLayer, TellsHalves}
use Rattle.rrs_hart.proofs.Fetches.{fetched_by_words, reads_by_words, reads_by_halves}
use Rattle.rrs_hart.proofs.HalvesSteps.{AccessesOfHalves-unique, same_Ok, not_both}
use Rattle.rrs_hart.proofs.HartSteps.{AccessesOfHart-unique, next_stands, one_instruction, tells_none}
use Rattle.rrs_trace.specs.declared.traced.MemoryAccess.{MemoryAccess}
use Rattle.rrs_trace.specs.declared.traced.TracedMemory.{TracedMemory}
use Rattle.rrs_trace.specs.Retired.{no_access, log_of, followed, later_access, after_fetch, first_source, second_source}
use Rattle.rrs_trace.specs.Traced.{Traces, traced_reads, traced_writes}
use Rattle.rrs_trace.specs.HartRecords.{whole_of, first_of_layer, second_of_layer, HasSourcesIn, HasSourcesByHalves, IsWhole, IsWholeByHalves, Tells, Sees, HasAccess, bits_fetched, bits_at}

-- ---- accesses of a traced memory after the fetch

abbrev pub followed_by : MemoryAccess → List Access → MemoryAccess
followed_by m [] = m
followed_by m (x ∷ xs) = followed_by (followed m x) xs

module _ {M : Type 0} (reads : M → ℕ → MemAccessSize → M → Option ℕ → Type 0)
    (writes : M → ℕ → MemAccessSize → ℕ → M → Bool → Type 0) where
  pub record Followed (xs : List Access) (old new : TracedMemory M) : Type 0 where
    pub inner : Makes reads writes xs old.memory.now new.memory.now
    pub same_memory : new.memory.ghost_name ≡ old.memory.ghost_name
    pub access : new.access ≡ followed_by old.access xs

  latest : (x : Access) (old mid : TracedMemory M) → old.is_fetch ≡ false → Traces x old mid → mid.access ≡ followed old.access x
  latest x old mid fetched t = t.latest ∙ (λ k. if fetched k then old.access else followed old.access x)

  pub followed_made : (xs : List Access) (old new : TracedMemory M) → old.is_fetch ≡ false
      → Makes (traced_reads reads) (traced_writes writes) xs old new → Followed xs old new
  followed_made [] old new fetched made = record {
    inner = ap (λ m. m.memory.now) made;
    same_memory = ap (λ m. m.memory.ghost_name) made;
    access = ap (λ m. m.access) made;
  }
  followed_made (Read a size answer ∷ xs) old new fetched (mid, did, made) =
      let rest = followed_made xs mid new did.1.past_fetch made in
      record {
        inner = (mid.memory.now, did.0, rest.inner);
        same_memory = rest.same_memory ∙ did.1.same_memory;
        access = rest.access ∙ ap (λ m. followed_by m xs) (latest (Read a size answer) old mid fetched did.1);
      }
  followed_made (Write a size value answer ∷ xs) old new fetched (mid, did, made) =
      let rest = followed_made xs mid new did.1.past_fetch made in
      record {
        inner = (mid.memory.now, did.0, rest.inner);
        same_memory = rest.same_memory ∙ did.1.same_memory;
        access = rest.access ∙ ap (λ m. followed_by m xs) (latest (Write a size value answer) old mid fetched did.1);
      }

-- ---- the bits of an instruction

pub words_at : (p : HartProfile) (s : State) → p.compressed ≡ false → bits_at p s ≡ next_word s
words_at p s words = ap (λ b. if b then bits_fetched (fetched s.bytes s.pc) else next_word s) words

halves_at : (p : HartProfile) (s : State) → p.compressed ≡ true → bits_at p s ≡ bits_fetched (fetched s.bytes s.pc)
halves_at p s halves = ap (λ b. if b then bits_fetched (fetched s.bytes s.pc) else next_word s) halves

in_words : (p : HartProfile) (s : State) → p.compressed ≡ false → fetched_in p s.bytes s.pc ≡ word_fetched s.bytes s.pc
in_words p s words = ap (λ b. if b then fetched s.bytes s.pc else word_fetched s.bytes s.pc) words

in_halves : (p : HartProfile) (s : State) → p.compressed ≡ true → fetched_in p s.bytes s.pc ≡ fetched s.bytes s.pc
in_halves p s halves = ap (λ b. if b then fetched s.bytes s.pc else word_fetched s.bytes s.pc) halves

next_of : (b : Bool) (pc : ℕ) (o : Option ℕ) → (if b then o else None) ≡ bits_fetched (if b then whole pc o else Err (AlignmentFault pc))
next_of true pc None = refl
next_of true pc (Some w) = refl
next_of false pc o = refl

next_in : (p : HartProfile) (s : State) → p.compressed ≡ false → next_word s ≡ bits_fetched (fetched_in p s.bytes s.pc)
next_in p s words = next_of (s.pc % 4 == 0) s.pc (little_endian s.bytes s.pc 4) ∙ sym (ap bits_fetched (in_words p s words))

bits_by : (p : HartProfile) (s : State) (b : Bool) → p.compressed ≡ b → bits_at p s ≡ bits_fetched (fetched_in p s.bytes s.pc)
bits_by p s true halves = halves_at p s halves ∙ sym (ap bits_fetched (in_halves p s halves))
bits_by p s false words = words_at p s words ∙ next_in p s words

pub bits_in : (p : HartProfile) (s : State) → bits_at p s ≡ bits_fetched (fetched_in p s.bytes s.pc)
bits_in p s = bits_by p s p.compressed refl

-- ---- of a row, and of an instruction of a layer

abbrev AsOne : Access → List Access → Type 0
AsOne x xs = followed_by no_access xs ≡ after_fetch (x ∷ xs)

followed_first : (y : Access) → followed no_access y ≡ log_of y
followed_first (Read a size answer) = refl
followed_first (Write a size v true) = refl
followed_first (Write a size v false) = refl

if_one : (x : Access) (b : Bool) (xs ys : List Access) → AsOne x xs → AsOne x ys → AsOne x (if b then xs else ys)
if_one x true xs ys p q = p
if_one x false xs ys p q = q

swap_one : (x : Access) (row : AtomicRow) (f : RType) (a : ℕ) (s : State) (o : Option ℕ) → AsOne x (swap_accesses row f a s o)
swap_one x row f a s None = followed_first (read_in s a Word)
swap_one x row f a s (Some old) =
    ap (λ m. followed m (write_in s a Word (combined row old (reg s f.rs2)))) (followed_first (read_in s a Word))

aligned_one : (x : Access) (row : AtomicRow) (f : RType) (a : ℕ) (s : State) (r : Option ℕ) → AsOne x (aligned_accesses row f a s r)
aligned_one x LrW f a s r = followed_first (read_in s a Word)
aligned_one x ScW f a s r = if_one x (holds r a) _ _ (followed_first (write_in s a Word (reg s f.rs2))) refl
aligned_one x row f a s r = swap_one x row f a s (little_endian s.bytes a 4)

layer_one : (x : Access) (i : LayerInstruction) (s : State) (r : Option ℕ) → AsOne x (layer_accesses i s r)
layer_one x (System i) s r = refl
layer_one x (Bits i) s r = refl
layer_one x (Atomic i) s r =
    if_one x (reg s i.fields.rs1 % 4 == 0) _ _ (aligned_one x i.row i.fields (reg s i.fields.rs1) s r) refl

read_one : (x : Access) (s : State) (a : ℕ) (size : MemAccessSize) → AsOne x (read_if_aligned s a size)
read_one x s a size = if_one x (a % width size == 0) (read_in s a size ∷ []) [] (followed_first (read_in s a size)) refl

write_one : (x : Access) (s : State) (a : ℕ) (size : MemAccessSize) (value : ℕ) → AsOne x (write_if_aligned s a size value)
write_one x s a size value = if_one x (a % width size == 0) (write_in s a size value ∷ []) [] (followed_first (write_in s a size value)) refl

row_one : (x : Access) (action : Action) (f : Fields) (s : State) → AsOne x (accesses_by action f s)
row_one x (Load n extended) (I f) s = read_one x s (plus_immediate (reg s f.rs1) f.imm) (size_of n)
row_one x (Store n) (S f) s = write_one x s (plus_immediate (reg s f.rs1) f.imm) (size_of n) (reg s f.rs2)
row_one x _ _ s = refl

behind : (x : Access) (xs ys : List Access) → AsOne x ys → x ∷ xs ≡ x ∷ ys → AsOne x xs
behind x xs ys one same = let rest : xs ≡ ys = cc (same) in subst (AsOne x) (sym rest) one

kit_one : (s : State) (xs : List Access) → AccessesOf s (fetch s ∷ xs) → AsOne (fetch s) xs
kit_one s xs (OfNone odd are) = absurd (cc (are))
kit_one s xs (OfFetch aligned outside are) = behind (fetch s) xs [] refl are
kit_one s xs (OfRow w row f aligned read is are) = behind (fetch s) xs _ (row_one (fetch s) (table row).action f s) are

pub not_halves : (p : HartProfile) → p.compressed ≡ false → p.compressed ≡ true → ⊥
not_halves p words halves = false≢true (sym words ∙ halves)

hart_one : (p : HartProfile) (s : Hart) (xs : List Access) → p.compressed ≡ false → AccessesOfHart p s (fetch s.state ∷ xs) → IsWhole p s.state → AsOne (fetch s.state) xs
hart_one p s xs words (KitAccesses kits of) whole = kit_one s.state xs of
hart_one p s xs words (LayerAccesses w i at are) whole = behind (fetch s.state) xs _ (layer_one (fetch s.state) i _ s.reserved) are
hart_one p s xs words (ByteAccesses w row f a o at are) whole = absurd (whole w row f a o at)
hart_one p s xs words (HalvesAccesses halves of) whole = absurd (not_halves p words halves)

seen_as : (p : HartProfile) (s : Hart) (xs ys : List Access) (m : MemoryAccess) → p.compressed ≡ false → AccessesOfHart p s (fetch s.state ∷ xs)
    → m ≡ followed_by no_access xs → AccessesOfHart p s ys → IsWhole p s.state → m ≡ after_fetch ys
seen_as p s xs ys m words these is others whole =
    is ∙ hart_one p s xs words these whole ∙ ap after_fetch (AccessesOfHart-unique p s (fetch s.state ∷ xs) ys these others)

-- ---- of a step by half-words

same_rest : (xs ys zs : List Access) → xs ++ ys ≡ xs ++ zs → ys ≡ zs
same_rest [] ys zs same = same
same_rest (x ∷ xs) ys zs same =
    let rest : xs ++ ys ≡ xs ++ zs = cc (same) in
    same_rest xs ys zs rest

same_alone : (xs ys : List Access) → xs ++ ys ≡ xs → ys ≡ []
same_alone [] ys same = same
same_alone (x ∷ xs) ys same =
    let rest : xs ++ ys ≡ xs = cc (same) in
    same_alone xs ys rest

row_whole : (p : HartProfile) (row : Row) (f : Fields) (s : State) (xs : List Access) → AccessesOfRowStep p row f s xs
    → ((a : ℕ) (o : Outcome) → ¬ IsCarriedOut p row f s a o) → xs ≡ accesses_of_row row f s
row_whole p row f s xs (OfRow none are) whole = are
row_whole p row f s xs (OfBytes a o is are) whole = absurd (whole a o is)

halves_one : (p : HartProfile) (s : Hart) (xs ys : List Access) → AccessesOfHalves p s ys → ys ≡ fetch_reads s.state.bytes s.state.pc ++ xs
    → IsWholeByHalves p s.state → AsOne (fetch s.state) xs
halves_one p s xs ys (FetchAlone nothing are) same whole =
    subst (AsOne (fetch s.state)) (sym (same_alone (fetch_reads s.state.bytes s.state.pc) xs (sym same ∙ are))) refl
halves_one p s xs ys (FetchAndRow x row f later is stands of are) same whole =
    let rest = same_rest (fetch_reads s.state.bytes s.state.pc) xs later (sym same ∙ are) in
    let alone = row_whole p row f (cleared s.state) later of (whole x row f is stands) in
    subst (AsOne (fetch s.state)) (sym (rest ∙ alone)) (row_one (fetch s.state) (table row).action f (cleared s.state))
halves_one p s xs ys (FetchAndLayer x i is none layers are) same whole =
    let rest = same_rest (fetch_reads s.state.bytes s.state.pc) xs _ (sym same ∙ are) in
    subst (AsOne (fetch s.state)) (sym rest) (layer_one (fetch s.state) i (cleared s.state) s.reserved)

seen_in_halves : (p : HartProfile) (s : Hart) (xs later : List Access) (m : MemoryAccess)
    → AccessesOfHalves p s (fetch_reads s.state.bytes s.state.pc ++ xs) → m ≡ followed_by no_access xs
    → AccessesOfHalves p s (fetch_reads s.state.bytes s.state.pc ++ later) → IsWholeByHalves p s.state → m ≡ later_access later
seen_in_halves p s xs later m these is others whole =
    let reads = fetch_reads s.state.bytes s.state.pc in
    is ∙ halves_one p s xs _ these refl whole
    ∙ ap later_access (same_rest reads xs later (AccessesOfHalves-unique p s (reads ++ xs) (reads ++ later) these others))

of_halves : (p : HartProfile) (s : Hart) (xs : List Access) → p.compressed ≡ true → AccessesOfHart p s xs → AccessesOfHalves p s xs
of_halves p s xs halves (KitAccesses kits of) = absurd (not_halves p kits.words halves)
of_halves p s xs halves (LayerAccesses w i at are) = absurd (not_halves p at.words halves)
of_halves p s xs halves (ByteAccesses w row f a o at are) = absurd (not_halves p at.words halves)
of_halves p s xs halves (HalvesAccesses _ of) = of

pub seen_behind : (p : HartProfile) (s : Hart) (x : Encoding) (xs : List Access) (m : MemoryAccess) → fetched_in p s.state.bytes s.state.pc ≡ Ok x
    → AccessesOfHart p s (fetch_reads_in p s.state.bytes s.state.pc ++ xs) → m ≡ followed_by no_access xs → Sees p s m
seen_behind p s x xs m there these is =
    let bytes = s.state.bytes in
    let pc = s.state.pc in
    record {
      by_words = λ ys words others whole.
          seen_as p s xs ys m words
          (subst (λ reads. AccessesOfHart p s (reads ++ xs)) (reads_by_words p bytes pc words (fetched_by_words p bytes pc x words there).0) these) is others whole;
      by_halves = λ later halves others whole.
          seen_in_halves p s xs later m
          (of_halves p s _ halves (subst (λ reads. AccessesOfHart p s (reads ++ xs)) (reads_by_halves p bytes pc halves) these)) is others whole;
    }

-- ---- the access of a step

whole_layer : (p : HartProfile) (s : State) (w : ℕ) (i : LayerInstruction) → LayerAt p s w i → IsWhole p s
whole_layer p s w i at = λ w' row f a o bytes.
    at.outside row f (subst (λ x. Decodes x row f) (same_Some _ _ (sym bytes.fetched ∙ at.fetched)) bytes.decoded)

access_seen : (p : HartProfile) (s : Hart) (m : MemoryAccess) (told : Option ByteAccess) → p.compressed ≡ false → told ≡ None → TellsBytes p s.state told
    → ((ys : List Access) → AccessesOfHart p s ys → IsWhole p s.state → m ≡ after_fetch ys) → HasAccess p s (Ok tt) m
access_seen p s m told words none tells seen = record {
  of_fault = tt;
  of_kit = λ ys ok kits of. seen ys (KitAccesses kits of) kits.no_bytes;
  of_layer = λ w i ok at. seen _ (LayerAccesses w i at refl) (whole_layer p s.state w i at);
  by_bytes = λ w row f a o ok at. let b = tells.by_bytes w row f a o at in absurd (none-some b.0 (sym none ∙ b.1));
  of_halves = λ later ok halves whole of. absurd (not_halves p words halves);
  halves_by_bytes = λ x row f a o ok halves is stands at. absurd (not_halves p words halves);
}

access_told : (p : HartProfile) (s : Hart) (m : MemoryAccess) (told : Option ByteAccess) (x : ByteAccess) → p.compressed ≡ false → told ≡ Some x
    → TellsBytes p s.state told → m ≡ whole_of x → HasAccess p s (Ok tt) m
access_told p s m told x words some tells is = record {
  of_fault = tt;
  of_kit = λ ys ok kits of. absurd (none-some x (sym (tells.of_others kits.no_bytes) ∙ some));
  of_layer = λ w i ok at. absurd (none-some x (sym (tells.of_others (whole_layer p s.state w i at)) ∙ some));
  by_bytes = λ w row f a o ok at.
      let b = tells.by_bytes w row f a o at in
      (b.0, b.2, is ∙ ap whole_of (same_Some _ _ (sym some ∙ b.1)));
  of_halves = λ later ok halves whole of. absurd (not_halves p words halves);
  halves_by_bytes = λ y row f a o ok halves there stands at. absurd (not_halves p words halves);
}

-- by half-words
halves_seen : (p : HartProfile) (s : Hart) (m : MemoryAccess) (told : Option ByteAccess) → p.compressed ≡ true → told ≡ None → TellsHalves p s.state told
    → ((later : List Access) → AccessesOfHalves p s (fetch_reads s.state.bytes s.state.pc ++ later) → IsWholeByHalves p s.state → m ≡ later_access later)
    → HasAccess p s (Ok tt) m
halves_seen p s m told halves none tells seen = record {
  of_fault = tt;
  of_kit = λ ys ok kits of. absurd (not_halves p kits.words halves);
  of_layer = λ w i ok at. absurd (not_halves p at.words halves);
  by_bytes = λ w row f a o ok at. absurd (not_halves p at.words halves);
  of_halves = λ later ok _ whole of. seen later of whole;
  halves_by_bytes = λ x row f a o ok _ is stands at.
      let b = (tells.of_row x row f is stands).by_bytes a o at in
      absurd (none-some b.0 (sym none ∙ b.1));
}

-- what is told is of a row that is carried out by bytes
told_not_whole : (p : HartProfile) (s : Hart) (told : Option ByteAccess) (y : ByteAccess) (xs : List Access) → told ≡ Some y → TellsHalves p s.state told
    → (x : Encoding) → fetched s.state.bytes s.state.pc ≡ Ok x → AccessesOfHalves p s xs → IsWholeByHalves p s.state → ⊥
told_not_whole p s told y xs some tells x there (FetchAlone nothing are) whole =
    let illegal = subst (IsNothing p) there nothing in
    none-some y (sym (tells.of_others x there illegal.no_row) ∙ some)
told_not_whole p s told y xs some tells x there (FetchAndRow x' row f later is stands of are) whole =
    none-some y (sym ((tells.of_row x' row f is stands).of_others (whole x' row f is stands)) ∙ some)
told_not_whole p s told y xs some tells x there (FetchAndLayer x' i is none layers are) whole =
    none-some y (sym (tells.of_others x' is none) ∙ some)

halves_told : (p : HartProfile) (s : Hart) (m : MemoryAccess) (told : Option ByteAccess) (y : ByteAccess) (x : Encoding) → p.compressed ≡ true
    → fetched s.state.bytes s.state.pc ≡ Ok x → told ≡ Some y → TellsHalves p s.state told → m ≡ whole_of y → HasAccess p s (Ok tt) m
halves_told p s m told y x halves there some tells is = record {
  of_fault = tt;
  of_kit = λ ys ok kits of. absurd (not_halves p kits.words halves);
  of_layer = λ w i ok at. absurd (not_halves p at.words halves);
  by_bytes = λ w row f a o ok at. absurd (not_halves p at.words halves);
  of_halves = λ later ok _ whole of. absurd (told_not_whole p s told y _ some tells x there of whole);
  halves_by_bytes = λ x' row f a o ok _ at stands carried.
      let b = (tells.of_row x' row f at stands).by_bytes a o carried in
      (b.0, b.2, is ∙ ap whole_of (same_Some _ _ (sym some ∙ b.1)));
}

pub access_fault : (p : HartProfile) (s : Hart) (e : InstructionException) (m : MemoryAccess) → m ≡ no_access → HasAccess p s (Err e) m
access_fault p s e m is = record {
  of_fault = is;
  of_kit = λ ys ok kits of. absurd (cc (ok));
  of_layer = λ w i ok at. absurd (cc (ok));
  by_bytes = λ w row f a o ok at. absurd (cc (ok));
  of_halves = λ later ok halves whole of. absurd (cc (ok));
  halves_by_bytes = λ x row f a o ok halves there stands at. absurd (cc (ok));
}

-- of a hart that fetches words or half-words
seen_by : (p : HartProfile) (s : Hart) (m : MemoryAccess) (told : Option ByteAccess) (b : Bool) → p.compressed ≡ b → told ≡ None → Tells p s.state told → Sees p s m
    → HasAccess p s (Ok tt) m
seen_by p s m told true halves none tells sees =
    halves_seen p s m told halves none (tells.by_halves halves) (λ later of whole. sees.by_halves later halves of whole)
seen_by p s m told false words none tells sees = access_seen p s m told words none (tells.by_words words) (λ ys of whole. sees.by_words ys words of whole)

pub seen_alone : (p : HartProfile) (s : Hart) (m : MemoryAccess) (told : Option ByteAccess) → told ≡ None → Tells p s.state told → Sees p s m → HasAccess p s (Ok tt) m
seen_alone p s m told none tells sees = seen_by p s m told p.compressed refl none tells sees

told_by : (p : HartProfile) (s : Hart) (m : MemoryAccess) (told : Option ByteAccess) (y : ByteAccess) (x : Encoding) (b : Bool) → p.compressed ≡ b
    → fetched_in p s.state.bytes s.state.pc ≡ Ok x → told ≡ Some y → Tells p s.state told → m ≡ whole_of y → HasAccess p s (Ok tt) m
told_by p s m told y x true halves there some tells is =
    halves_told p s m told y x halves (sym (in_halves p s.state halves) ∙ there) some (tells.by_halves halves) is
told_by p s m told y x false words there some tells is = access_told p s m told y words some (tells.by_words words) is

pub told_of_bytes : (p : HartProfile) (s : Hart) (m : MemoryAccess) (told : Option ByteAccess) (y : ByteAccess) (x : Encoding)
    → fetched_in p s.state.bytes s.state.pc ≡ Ok x → told ≡ Some y → Tells p s.state told → m ≡ whole_of y → HasAccess p s (Ok tt) m
told_of_bytes p s m told y x there some tells is = told_by p s m told y x p.compressed refl there some tells is

within_by : (p : HartProfile) (s : State) (told : Option ByteAccess) (b : Bool) → p.compressed ≡ b → Tells p s told → IfSome told (λ y. y.size ≤ 4)
within_by p s told true halves tells = (tells.by_halves halves).within
within_by p s told false words tells = (tells.by_words words).within

pub within_told : (p : HartProfile) (s : State) (told : Result (Option ByteAccess) InstructionException) → IfOk told (Tells p s)
    → IfOk told (λ x. IfSome x (λ y. y.size ≤ 4))
within_told p s (Err e) tells = tt
within_told p s (Ok told) tells = within_by p s told p.compressed refl tells

-- ---- the source registers

sources_unfetched : (p : HartProfile) (word : Option ℕ) → word ≡ None → HasSourcesIn p word 0 0
sources_unfetched p word none = record {
  of_row = λ w row f is decodes. absurd (none-some w (sym none ∙ is));
  of_layer = λ w i is outside of. absurd (none-some w (sym none ∙ is));
  of_illegal = λ w is outside other. (refl, refl);
  of_none = λ _. (refl, refl);
}

sources_fetched : (p : HartProfile) (word : Option ℕ) (w rs1 rs2 : ℕ) → word ≡ Some w
    → ((row : Row) (f : Fields) → Decodes w row f → (rs1 ≡ first_source f) × (rs2 ≡ second_source f))
    → ((i : LayerInstruction) → IsIllegal w → IsOfProfile p w i → (rs1 ≡ first_of_layer i) × (rs2 ≡ second_of_layer i))
    → (IsIllegal w → ((i : LayerInstruction) → ¬ IsOfProfile p w i) → (rs1 ≡ 0) × (rs2 ≡ 0))
    → HasSourcesIn p word rs1 rs2
sources_fetched p word w rs1 rs2 is of_row of_layer of_illegal = record {
  of_row = λ x row f same decodes. of_row row f (subst (λ v. Decodes v row f) (same_Some _ _ (sym same ∙ is)) decodes);
  of_layer = λ x i same outside of.
      let one = same_Some _ _ (sym same ∙ is) in
      of_layer i (subst IsIllegal one outside) (subst (λ v. IsOfProfile p v i) one of);
  of_illegal = λ x same outside other.
      let one = same_Some _ _ (sym same ∙ is) in
      of_illegal (subst IsIllegal one outside) (λ i of. other i (subst (λ v. IsOfProfile p v i) (sym one) of));
  of_none = λ none. absurd (none-some w (sym none ∙ is));
}

-- of an encoding
sources_not_fetched : (p : HartProfile) (o : Result Encoding InstructionException) (e : InstructionException) → o ≡ Err e → HasSourcesByHalves p o 0 0
sources_not_fetched p o e none = record {
  of_row = λ x row f is stands. absurd (not_both x e o is none);
  of_layer = λ x i is outside of. absurd (not_both x e o is none);
  of_illegal = λ x is illegal. (refl, refl);
  of_none = λ e' is. (refl, refl);
}

sources_by_halves : (p : HartProfile) (o : Result Encoding InstructionException) (x : Encoding) (rs1 rs2 : ℕ) → o ≡ Ok x
    → ((row : Row) (f : Fields) → StandsFor x row f → (rs1 ≡ first_source f) × (rs2 ≡ second_source f))
    → ((i : LayerInstruction) → IsNoRow x → IsLayers p x i → (rs1 ≡ first_of_layer i) × (rs2 ≡ second_of_layer i))
    → (IsIllegalIn p x → (rs1 ≡ 0) × (rs2 ≡ 0))
    → HasSourcesByHalves p o rs1 rs2
sources_by_halves p o x rs1 rs2 is of_row of_layer of_illegal = record {
  of_row = λ y row f there stands. of_row row f (subst (λ v. StandsFor v row f) (same_Ok y x o there is) stands);
  of_layer = λ y i there outside of.
      let one = same_Ok y x o there is in
      of_layer i (subst IsNoRow one outside) (subst (λ v. IsLayers p v i) one of);
  of_illegal = λ y there illegal. of_illegal (subst (IsIllegalIn p) (same_Ok y x o there is) illegal);
  of_none = λ e none. absurd (not_both x e o is none);
}

-- those of what the hart fetches
pub word_sources_unfetched : (p : HartProfile) (s : State) (e : InstructionException) → p.compressed ≡ false → fetched_in p s.bytes s.pc ≡ Err e
    → HasSourcesIn p (next_word s) 0 0
word_sources_unfetched p s e words none = sources_unfetched p (next_word s) (next_in p s words ∙ ap bits_fetched none)

pub halves_sources_unfetched : (p : HartProfile) (s : State) (e : InstructionException) → p.compressed ≡ true → fetched_in p s.bytes s.pc ≡ Err e
    → HasSourcesByHalves p (fetched s.bytes s.pc) 0 0
halves_sources_unfetched p s e halves none = sources_not_fetched p (fetched s.bytes s.pc) e (sym (in_halves p s halves) ∙ none)

whole_long : (b : Bool) (pc : ℕ) (o : Option ℕ) (x : Encoding) → (if b then whole pc o else Err (AlignmentFault pc)) ≡ Ok x → x ≡ Long (bits_of x)
whole_long true pc None x is = absurd (cc (is))
whole_long true pc (Some w) x is =
    let long : x ≡ Long w = cc (is) in
    long ∙ ap (λ y. Long (bits_of y)) (sym long)
whole_long false pc o x is = absurd (cc (is))

module _ (p : HartProfile) (s : State) (x : Encoding) (rs1 rs2 : ℕ) (there : fetched_in p s.bytes s.pc ≡ Ok x)
    (of_row : (row : Row) (f : Fields) → StandsFor x row f → (rs1 ≡ first_source f) × (rs2 ≡ second_source f))
    (of_layer : (i : LayerInstruction) → IsNoRow x → IsLayers p x i → (rs1 ≡ first_of_layer i) × (rs2 ≡ second_of_layer i))
    (of_illegal : IsIllegalIn p x → (rs1 ≡ 0) × (rs2 ≡ 0)) where
  pub word_sources : p.compressed ≡ false → HasSourcesIn p (next_word s) rs1 rs2
  word_sources words =
      let long = whole_long (s.pc % 4 == 0) s.pc (little_endian s.bytes s.pc 4) x (sym (in_words p s words) ∙ there) in
      sources_fetched p (next_word s) (bits_of x) rs1 rs2 (next_in p s words ∙ ap bits_fetched there)
      (λ row f decodes. of_row row f (subst (λ y. StandsFor y row f) (sym long) decodes))
      (λ i outside of. of_layer i (subst IsNoRow (sym long) outside) (subst (λ y. IsLayers p y i) (sym long) of))
      (λ outside other. of_illegal (subst (IsIllegalIn p) (sym long) (record { no_row = outside; no_layer = other })))

  pub halves_sources : p.compressed ≡ true → HasSourcesByHalves p (fetched s.bytes s.pc) rs1 rs2
  halves_sources halves =
      sources_by_halves p (fetched s.bytes s.pc) x rs1 rs2 (sym (in_halves p s halves) ∙ there) of_row of_layer of_illegal

-- those of the word of a step
pub record Sources (p : HartProfile) (o : Option ℕ) : Type 0 where
  pub rs1 : ℕ
  pub rs2 : ℕ
  pub these : HasSourcesIn p o rs1 rs2

sources_row : (p : HartProfile) (o : Option ℕ) (w : ℕ) (row : Row) (f : Fields) → o ≡ Some w → Decodes w row f → Sources p o
sources_row p o w row f is decodes = record {
  rs1 = first_source f;
  rs2 = second_source f;
  these = sources_fetched p o w _ _ is
      (λ row' f' other.
      let one = one_row_at_most w row row' f f' decodes other in
      (ap first_source one.1, ap second_source one.1))
      (λ i outside of. absurd (outside row f decodes)) (λ outside other. absurd (outside row f decodes));
}

sources_layer : (p : HartProfile) (o : Option ℕ) (w : ℕ) (i : LayerInstruction) → o ≡ Some w → IsIllegal w → IsOfProfile p w i → Sources p o
sources_layer p o w i is outside of = record {
  rs1 = first_of_layer i;
  rs2 = second_of_layer i;
  these = sources_fetched p o w _ _ is (λ row f decodes. absurd (outside row f decodes))
      (λ j other it.
      let one = one_instruction p w i j of it in
      (ap first_of_layer one, ap second_of_layer one))
      (λ other none. absurd (none i of));
}

sources_illegal : (p : HartProfile) (o : Option ℕ) (w : ℕ) → o ≡ Some w → IsIllegal w → ((i : LayerInstruction) → ¬ IsOfProfile p w i) → Sources p o
sources_illegal p o w is outside none = record {
  rs1 = 0;
  rs2 = 0;
  these = sources_fetched p o w _ _ is (λ row f decodes. absurd (outside row f decodes)) (λ i other of. absurd (none i of))
      (λ other it. (refl, refl));
}

sources_kit : (p : HartProfile) (s t : State) (answer : StepAnswer) → IsKits p s → Step s t answer → Sources p (next_word s)
sources_kit p s t answer kits (Misaligned odd same answers) =
    record { rs1 = 0; rs2 = 0; these = sources_unfetched p (next_word s) (ap (λ b. if b then little_endian s.bytes s.pc 4 else None) (ne_eqb (s.pc % 4) 0 odd)) }
sources_kit p s t answer kits (Unmapped even none same answers) =
    record { rs1 = 0; rs2 = 0; these = sources_unfetched p (next_word s) (ap (λ b. if b then little_endian s.bytes s.pc 4 else None) (eq-eqb (s.pc % 4) 0 even) ∙ none) }
sources_kit p s t answer kits (Illegal w even read outside same answers) =
    let next = next_stands s w even read in
    sources_illegal p (next_word s) w next outside (λ i of. kits.no_layer w i (record { words = kits.words; fetched = next; outside = outside; is = of }))
sources_kit p s t answer kits (Legal w row f u a even read decodes executes after answers) =
    sources_row p (next_word s) w row f (next_stands s w even read) decodes

pub sources_at : (p : HartProfile) (s t : Hart) (answer : StepAnswer) → p.compressed ≡ false → HartStep p s t answer → Sources p (next_word s.state)
sources_at p s t answer words (OfKit kits step kept) = sources_kit p s.state t.state answer kits step
sources_at p s t answer words (OfLayer w i at left) = sources_layer p (next_word s.state) w i at.fetched at.outside at.is
sources_at p s t answer words (ByBytes w row f a o at left) = sources_row p (next_word s.state) w row f at.fetched at.decoded
sources_at p s t answer words (OfHalves halves step) = absurd (not_halves p words halves)

-- ---- the access of a step of which nothing was told

told_read : (extended : ℕ → ℤ) (n rd a : ℕ) (s : State) (value : Option ℕ) → Ok tt ≡ answered (read_outcome extended rd a s value).answer
    → (x : ByteAccess) × (told_load n a value ≡ Some x)
told_read extended n rd a s None is = absurd (cc (is))
told_read extended n rd a s (Some value) is = (_, refl)

told_ok : (action : Action) (f : Fields) (s : State) (o : Outcome) → anywhere_by action f s ≡ Some o → Ok tt ≡ answered o.answer
    → (x : ByteAccess) × (told_anywhere action f s ≡ Some x)
told_ok (Load n extended) (I f) s o is ok =
    told_read extended n f.rd (plus_immediate (reg s f.rs1) f.imm) s (little_endian s.bytes (plus_immediate (reg s f.rs1) f.imm) n)
    (ok ∙ ap (λ (x : Outcome). answered x.answer) (sym (same_Some _ _ is)))
told_ok (Store n) (S f) s o is ok = (_, refl)
told_ok _ _ s o is ok = absurd (none-some o is)

pub record Told (p : HartProfile) (s : Hart) (answer : StepAnswer) : Type 0 where
  pub access : MemoryAccess
  pub told : HasAccess p s answer access

told_whole : (p : HartProfile) (s : Hart) (xs : List Access) → p.compressed ≡ false → ((others : List Access) → AccessesOfHart p s others → others ≡ xs)
    → IsWhole p s.state → Told p s (Ok tt)
told_whole p s xs words only whole = record {
  access = after_fetch xs;
  told = access_seen p s (after_fetch xs) None words refl (tells_none p s.state None whole refl) (λ ys of _. ap after_fetch (sym (only ys of)));
}

told_bytes : (p : HartProfile) (s : Hart) (w : ℕ) (row : Row) (f : Fields) (a : ℕ) (o : Outcome) → BytesAt p s.state w row f a o
    → (x : ByteAccess) → told_anywhere (table row).action f (cleared s.state) ≡ Some x → Told p s (Ok tt)
told_bytes p s w row f a o at x is = record {
  access = whole_of x;
  told = record {
    of_fault = tt;
    of_kit = λ ys ok kits of. absurd (kits.no_bytes w row f a o at);
    of_layer = λ w' i ok other. absurd (whole_layer p s.state w' i other w row f a o at);
    by_bytes = λ w' row' f' a' o' ok at'.
        let words : w' ≡ w = same_Some _ _ (sym at'.fetched ∙ at.fetched) in
        let same = one_row_at_most w row row' f f' at.decoded (subst (λ y. Decodes y row' f') words at'.decoded) in
        (x, (λ k. told_anywhere (table (sym same.0 k)).action (sym same.1 k) (cleared s.state)) ∙ is, refl);
    of_halves = λ later ok halves whole of. absurd (not_halves p at.words halves);
    halves_by_bytes = λ y row' f' a' o' ok halves there stands carried. absurd (not_halves p at.words halves);
  };
}

pub told_of : (p : HartProfile) (s t : Hart) (answer : StepAnswer) (xs : List Access) → p.compressed ≡ false → HartStep p s t answer
    → ((others : List Access) → AccessesOfHart p s others → others ≡ xs) → Told p s answer
told_of p s t (Err e) xs words step only = record { access = no_access; told = access_fault p s e no_access refl }
told_of p s t (Ok v) xs words (OfKit kits step kept) only = told_whole p s xs words only kits.no_bytes
told_of p s t (Ok v) xs words (OfLayer w i at left) only = told_whole p s xs words only (whole_layer p s.state w i at)
told_of p s t (Ok v) xs words (ByBytes w row f a o at left) only =
    let found = told_ok (table row).action f (cleared s.state) o at.carried (ap (λ (y : AtomicOutcome). y.answer) left) in
    told_bytes p s w row f a o at found.0 found.1
told_of p s t (Ok v) xs words (OfHalves halves step) only = absurd (not_halves p words halves)
