-- What a hart fetches, and its step where it fetches nothing.
use Rattle.std.proofs.Common.{◌≡◌, ℕ, ◌%◌, ◌==◌, if◌then◌else◌, [], ◌∷◌, Bool, true, false, Option, Some, None, Result, Ok, Err, refl, sym, subst, ap, ◌∙◌, IfErr}
use Rattle.std.proofs.lemmas.Bool.{eqb-true, eq-eqb, ne_eqb}
use Rattle.std.proofs.lemmas.Option.{none-some}
use Rattle.rrs_memory.specs.declared.MemAccessSize.TheVariants.{Word}
use Rattle.rrs_memory.specs.Bytes.{ByteMap, little_endian}
use Rattle.rrs_lib.specs.declared.instruction_executor.InstructionException.{InstructionException}
use Rattle.rrs_lib.specs.declared.instruction_executor.InstructionException.TheVariants.{AlignmentFault, FetchError}
use Rattle.rrs_lib.specs.declared.HartState.{HartState}
use Rattle.rrs_lib.specs.Machine.{State, state_of}
use Rattle.rrs_lib.specs.Steps.{Step, StepAnswer, Misaligned, Unmapped, Illegal, Legal, next_word, cleared, answered}
use Rattle.rrs_lib.specs.Accesses.{Read}
use Rattle.rrs_words.specs.declared.csrs.HartProfile.{HartProfile}
use Rattle.rrs_hart.specs.declared.halves.Encoding.{Encoding}
use Rattle.rrs_hart.specs.declared.halves.Encoding.TheVariants.{Short, Long}
use Rattle.rrs_hart.specs.Profiles.{Hart, hart_with}
use Rattle.rrs_hart.specs.Halves.{bits_of, fetched, fetch_reads, NotFetched}
use Rattle.rrs_hart.specs.Harts.{whole, word_fetched, fetched_in, word_read, fetch_reads_in, HartStep, OfHalves}
use Rattle.rrs_hart.proofs.HartSteps.{next_stands}

-- a state over some bytes
abbrev pub over : ℕ → ByteMap → (ℕ → Bool) → State
over pc bytes writable = record { registers = []; pc = pc; last = None; bytes = bytes; writable = writable }

fault_is : (e e' : InstructionException) → answered (Err e) ≡ Err e' → e ≡ e'
fault_is e e' h = cc

-- where no word is there, the exception of the kit's step is that of the fetch
pub word_unfetched : (s : State) (e : InstructionException) → next_word s ≡ None → Step s (cleared s) (Err e) → Err e ≡ word_fetched s.bytes s.pc
word_unfetched s e none (Misaligned odd after is) =
    let same : e ≡ AlignmentFault s.pc = fault_is e (AlignmentFault s.pc) is in
    ap Err same ∙ ap (λ b. if b then whole s.pc (little_endian s.bytes s.pc 4) else Err (AlignmentFault s.pc)) (sym (ne_eqb (s.pc % 4) 0 odd))
word_unfetched s e none (Unmapped even unmapped after is) =
    let same : e ≡ FetchError s.pc = fault_is e (FetchError s.pc) is in
    ap Err same ∙ sym (ap (λ b. if b then whole s.pc (little_endian s.bytes s.pc 4) else Err (AlignmentFault s.pc)) (eq-eqb (s.pc % 4) 0 even) ∙ ap (whole s.pc) unmapped)
word_unfetched s e none (Illegal w even read outside after is) = absurd (none-some w (sym none ∙ next_stands s w even read))
word_unfetched s e none (Legal w row f u a even read decodes does after is) = absurd (none-some w (sym none ∙ next_stands s w even read))

-- a word that is fetched
whole_is : (pc : ℕ) (o : Option ℕ) (x : Encoding) → whole pc o ≡ Ok x → o ≡ Some (bits_of x)
whole_is pc None x is = absurd (cc)
whole_is pc (Some w) (Short h) is = absurd (cc)
whole_is pc (Some w) (Long v) is = cc

chosen : (b : Bool) (pc : ℕ) (o : Option ℕ) (x : Encoding) → (if b then whole pc o else Err (AlignmentFault pc)) ≡ Ok x → (b ≡ true) × (o ≡ Some (bits_of x))
chosen true pc o x is = (refl, whole_is pc o x is)
chosen false pc o x is = absurd (cc)

pub fetched_by_words : (p : HartProfile) (bytes : ByteMap) (pc : ℕ) (x : Encoding) → p.compressed ≡ false → fetched_in p bytes pc ≡ Ok x
    → (pc % 4 ≡ 0) × (little_endian bytes pc 4 ≡ Some (bits_of x))
fetched_by_words p bytes pc x words is =
    let there = subst (λ b. (if b then fetched bytes pc else word_fetched bytes pc) ≡ Ok x) words is in
    let parts = chosen (pc % 4 == 0) pc (little_endian bytes pc 4) x there in
    (eqb-true (pc % 4) 0 parts.0, parts.1)

-- the reads
pub reads_by_halves : (p : HartProfile) (bytes : ByteMap) (pc : ℕ) → p.compressed ≡ true → fetch_reads_in p bytes pc ≡ fetch_reads bytes pc
reads_by_halves p bytes pc halves = ap (λ b. if b then fetch_reads bytes pc else word_read bytes pc) halves

pub reads_by_words : (p : HartProfile) (bytes : ByteMap) (pc : ℕ) → p.compressed ≡ false → pc % 4 ≡ 0
    → fetch_reads_in p bytes pc ≡ Read pc Word (little_endian bytes pc 4) ∷ []
reads_by_words p bytes pc words even =
    ap (λ b. if b then fetch_reads bytes pc else word_read bytes pc) words
    ∙ ap (λ b. if b then Read pc Word (little_endian bytes pc 4) ∷ [] else []) (eq-eqb (pc % 4) 0 even)

-- where no half-word is there, the step ends with the exception of the fetch
pub unfetched_by_halves : (p : HartProfile) (bytes : ByteMap) (pc : ℕ) (x : Result Encoding InstructionException) → p.compressed ≡ true → x ≡ fetched bytes pc
    → IfErr x (λ e. (s : Hart) → s.state.pc ≡ pc → s.state.bytes ≡ bytes → HartStep p s (hart_with (cleared s.state) s.reserved) (Err e))
unfetched_by_halves p bytes pc (Ok x) halves is = tt
unfetched_by_halves p bytes pc (Err e) halves is = λ s at same.
    OfHalves halves (NotFetched e ((λ k. fetched (same k) (at k)) ∙ sym is) refl)

-- ---- a step in two parts

-- the fetch leaves bytes and what is writable
pub begun_at_read : (p : HartProfile) (h : HartState) (bytes bytes' : ByteMap) (writable writable' : ℕ → Bool) (r : Option ℕ) (t : Hart) (answer : StepAnswer)
    → bytes' ≡ bytes → writable' ≡ writable → HartStep p (hart_with (state_of h bytes' writable') r) t answer
    → HartStep p (hart_with (state_of h bytes writable) r) t answer
begun_at_read p h bytes bytes' writable writable' r t answer same kept step =
    subst (λ (x : State). HartStep p (hart_with x r) t answer) (λ k. state_of h (same k) (kept k)) step
