-- Runs of these programs, over registers that are written out: 10 to 17 but 16, which a program with a call uses, and
-- the others by a function of their numbers.
use Rattle.std.proofs.Common.{◌≡◌, ℕ, ◌+◌, ◌%◌, ◌<◌, nat_lt, List, ◌∷◌, length, slice_index, Bool, true, Option, Some, None, Err, refl, ap}
use Rattle.rrs_lib.specs.declared.instruction_executor.InstructionException.TheVariants.{EnvironmentCall}
use Rattle.rrs_lib.specs.Table.{Row}
use Rattle.rrs_lib.specs.Bytes.{ByteMap}
use Rattle.rrs_lib.specs.Machine.{State, reg}
use Rattle.rrs_lib.specs.Steps.{RunUntil}
use Rattle.rrs_lib.proofs.Decoder.{decode}
use Rattle.rrs_lib.proofs.Programs
use Rattle.rrs_lib.proofs.Programs.{at, listed, opened_all}
use Rattle.rrs_extra.specs.Programs.{HoldsWords}
use Rattle.rrs_extra.proofs.Words.{place, at_word, Chain}

abbrev pub registers_by : (ℕ → ℕ) → (x10 x11 x12 x13 x14 x15 x17 : ℕ) → List ℕ
registers_by r x10 x11 x12 x13 x14 x15 x17 =
    r 1 ∷ r 2 ∷ r 3 ∷ r 4 ∷ r 5 ∷ r 6 ∷ r 7 ∷ r 8 ∷ r 9 ∷ x10 ∷ x11 ∷ x12 ∷ x13 ∷ x14 ∷ x15 ∷ r 16 ∷ x17
    ∷ listed 14 (λ i. r (18 + i))

-- a state with its registers written out
pub opened : (s : State) → length s.registers ≡ 31
    → s ≡ at (registers_by (reg s) (reg s 10) (reg s 11) (reg s 12) (reg s 13) (reg s 14) (reg s 15) (reg s 17))
    s.pc s.last s.bytes s.writable
opened s long = opened_all s long

-- n steps, and then word i, which is an ecall
pub to_call : {bytes : ByteMap} {p : ℕ} {words registers : List ℕ} {s : State} {last : Option ℕ} {writable : ℕ → Bool}
    → HoldsWords bytes p words → p % 4 ≡ 0 → (limit n i : ℕ) → n < limit → nat_lt i (length words) ≡ true
    → slice_index words i ≡ 0x73 → Chain n s (at registers (place p i) last bytes writable)
    → RunUntil limit s n (Some (EnvironmentCall (place p i))) (at registers (place p i) None bytes writable)
to_call {bytes = bytes} {p = p} {registers = registers} {writable = writable} holds aligned limit n i less within is
    chain =
    Programs.RunUntil-fault limit n _ _ _ (EnvironmentCall (place p i)) less chain.runs
    (Programs.step-executed _ (at registers (place p i) None bytes writable) _ Row.Ecall _
    (Err (EnvironmentCall (place p i))) _ (at_word holds aligned i within (ap decode is)) refl refl refl)
