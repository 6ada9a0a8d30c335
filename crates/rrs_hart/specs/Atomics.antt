-- What the instructions of extension A do (RISC-V unprivileged specification, "Load-Reserved/
-- Store-Conditional Instructions" and "Atomic Memory Operations"), on one hart. The reservation is
-- the address of the last lr.w. A sc.w at another address fails, and each sc.w takes the reservation
-- away ("Regardless of success or failure, executing an SC.W instruction invalidates any reservation
-- held by this hart"). aq and rl order accesses of several harts, and do nothing here. The pc stays:
-- the caller moves it.
use Rattle.std.specs.Prelude.{ℕ, ◌%◌, ◌==◌, if◌then◌else◌, Bool, false, List, [], ◌∷◌, Option, Some, None, pos, Ok, Err}
use Rattle.rrs_memory.specs.declared.MemAccessSize.TheVariants.{Word}
use Rattle.rrs_memory.specs.Bytes.{little_endian, all_writable, store}
use Rattle.rrs_instruction.specs.declared.instruction_formats.RType.{RType}
use Rattle.rrs_instruction.specs.Words.{word}
use Rattle.rrs_instruction.specs.Results.{add, xor, or, and, less, less_unsigned}
use Rattle.rrs_lib.specs.declared.instruction_executor.InstructionException.TheVariants.{AlignmentFault, LoadAccessFault, StoreAccessFault}
use Rattle.rrs_lib.specs.Machine.{State, reg, put}
use Rattle.rrs_lib.specs.Steps.{StepAnswer}
use Rattle.rrs_lib.specs.Accesses.{Access, read_in, write_in}
use Rattle.rrs_words.specs.declared.atomics.AtomicRow.{AtomicRow}
use Rattle.rrs_words.specs.declared.atomics.AtomicRow.TheVariants.{LrW, ScW, AmoSwap, AmoAdd, AmoXor, AmoAnd, AmoOr, AmoMin, AmoMax, AmoMinu, AmoMaxu}

-- ---- what an AMO stores, from the word that was there and the operand

abbrev pub combined : AtomicRow → ℕ → ℕ → ℕ
combined AmoSwap old x = x
combined AmoAdd old x = word (add old x)
combined AmoXor old x = word (xor old x)
combined AmoAnd old x = word (and old x)
combined AmoOr old x = word (or old x)
combined AmoMin old x = if less x old then x else old
combined AmoMax old x = if less old x then x else old
combined AmoMinu old x = if less_unsigned x old then x else old
combined AmoMaxu old x = if less_unsigned old x then x else old
combined _ old x = old

-- ---- outcomes

pub record AtomicOutcome : Type 0 where
  pub after : State
  pub reservation : Option ℕ
  pub answer : StepAnswer

abbrev pub leaves : State → Option ℕ → StepAnswer → AtomicOutcome
leaves s r answer = record { after = s; reservation = r; answer = answer }

-- whether an address is reserved
abbrev pub holds : Option ℕ → ℕ → Bool
holds None a = false
holds (Some r) a = r == a

abbrev pub stored : ℕ → ℕ → State → State
stored a value s = record s { bytes = store s.bytes a 4 value }

-- lr.w: rd gets the word, and its address is reserved. Where it can't be read, the reservation stays.
abbrev pub reserved : ℕ → ℕ → State → Option ℕ → Option ℕ → AtomicOutcome
reserved rd a s r None = leaves s r (Err (LoadAccessFault a))
reserved rd a s r (Some value) = leaves (put s rd (pos value)) (Some a) (Ok tt)

-- sc.w: where the address is reserved the operand is stored, and rd gets 0; otherwise rd gets 1
abbrev pub conditional : RType → ℕ → State → Option ℕ → AtomicOutcome
conditional f a s r =
    if holds r a
    then (if all_writable s.writable a 4
    then leaves (put (stored a (reg s f.rs2) s) f.rd (pos 0)) None (Ok tt)
    else leaves s None (Err (StoreAccessFault a)))
    else leaves (put s f.rd (pos 1)) None (Ok tt)

-- an AMO: rd gets the word, and in its place stands what it is combined to. Where it can't be read
-- or not be written, that is the exception of a store, and nothing is stored.
abbrev pub swapped : AtomicRow → RType → ℕ → State → Option ℕ → Option ℕ → AtomicOutcome
swapped row f a s r None = leaves s r (Err (StoreAccessFault a))
swapped row f a s r (Some old) =
    if all_writable s.writable a 4
    then leaves (put (stored a (combined row old (reg s f.rs2)) s) f.rd (pos old)) r (Ok tt)
    else leaves s r (Err (StoreAccessFault a))

abbrev pub aligned_outcome : AtomicRow → RType → ℕ → State → Option ℕ → AtomicOutcome
aligned_outcome LrW f a s r = reserved f.rd a s r (little_endian s.bytes a 4)
aligned_outcome ScW f a s r = conditional f a s r
aligned_outcome row f a s r = swapped row f a s r (little_endian s.bytes a 4)

-- the reservation after an instruction that is refused before its access
abbrev pub kept_reservation : AtomicRow → Option ℕ → Option ℕ
kept_reservation ScW r = None
kept_reservation row r = r

-- alignment first, then the access
abbrev pub atomic_outcome : AtomicRow → RType → State → Option ℕ → AtomicOutcome
atomic_outcome row f s r =
    if reg s f.rs1 % 4 == 0 then aligned_outcome row f (reg s f.rs1) s r
    else leaves s (kept_reservation row r) (Err (AlignmentFault (reg s f.rs1)))

-- ---- accesses, each of a word

abbrev pub swap_accesses : AtomicRow → RType → ℕ → State → Option ℕ → List Access
swap_accesses row f a s None = read_in s a Word ∷ []
swap_accesses row f a s (Some old) =
    read_in s a Word ∷ write_in s a Word (combined row old (reg s f.rs2)) ∷ []

abbrev pub aligned_accesses : AtomicRow → RType → ℕ → State → Option ℕ → List Access
aligned_accesses LrW f a s r = read_in s a Word ∷ []
aligned_accesses ScW f a s r = if holds r a then write_in s a Word (reg s f.rs2) ∷ [] else []
aligned_accesses row f a s r = swap_accesses row f a s (little_endian s.bytes a 4)

-- one that is misaligned makes none
abbrev pub accesses_of_atomic : AtomicRow → RType → State → Option ℕ → List Access
accesses_of_atomic row f s r =
    if reg s f.rs1 % 4 == 0 then aligned_accesses row f (reg s f.rs1) s r else []
