-- A loop that counts x1 down to 0.
use Rattle.std.proofs.Common.{◌≡◌, ℕ, zero, suc, ◌+◌, ◌*◌, ◌^◌, ◌<◌, ◌==◌, List, ◌∷◌, slice_index, pos, neg_ℤ, not, Bool, false, Option, Some, None, refl, ap, subst, arith}
use Rattle.std.proofs.lemmas.Bool.Decides.{nat_tests}
use Rattle.rrs_lib.specs.declared.instruction_executor.InstructionException.{InstructionException}
use Rattle.rrs_lib.specs.Table.{Row, Decodes}
use Rattle.rrs_lib.specs.Bytes.{ByteMap, little_endian}
use Rattle.rrs_lib.specs.Machine.{State, reg}
use Rattle.rrs_lib.specs.Steps.{RunsOk, IsOnlyRunUntil}
use Rattle.rrs_lib.proofs.Formats.{of_I, of_B}
use Rattle.rrs_lib.proofs.Decoder.{decodes}
use Rattle.rrs_lib.proofs.Programs.{at, at_pc, fetches, step-writes, step-branches, step-stays, RunsOk-join, returned-limit}

addi : Decodes 0xfff08093 Row.Addi (of_I (neg_ℤ (pos 1)) 1 0 1)
addi = decodes _ _ _ refl

bne : Decodes 0xfe009ee3 Row.Bne (of_B (neg_ℤ (pos 4)) 0 1 1)
bne = decodes _ _ _ refl

module _ (bytes : ByteMap) (writable : ℕ → Bool) (first : little_endian bytes 0 4 ≡ Some 0xfff08093) (second : little_endian bytes 4 4 ≡ Some 0xfe009ee3) where
  -- a state by x1 and the other registers, the program counter, and the last written register
  abbrev loop : ℕ → List ℕ → ℕ → Option ℕ → State
  loop x1 rest pc last = at (x1 ∷ rest) pc last bytes writable

  -- the last round, and one before it
  last_round : (rest : List ℕ) (last : Option ℕ) → RunsOk 2 (loop 1 rest 0 last) (loop 0 rest 8 None)
  last_round rest last = (
    _,
    step-writes 4 0 0 (pos (1 + 4294967295)) (fetches refl first addi) refl refl refl,
    (_, step-stays {registers = 0 ∷ rest} 8 false (neg_ℤ (pos 4)) (fetches refl second bne) refl refl refl, refl),
  )

  round : (n : ℕ) (rest : List ℕ) (last : Option ℕ) → suc (suc n) < 2 ^ 32 → RunsOk 2 (loop (suc (suc n)) rest 0 last) (loop (suc n) rest 0 None)
  round n rest last small = (
    _,
    step-writes 4 0 (suc n) (pos (suc (suc n) + 4294967295)) (fetches refl first addi) refl (omega arith) refl,
    (_, step-branches 0 (not (suc n == 0)) (neg_ℤ (pos 4)) (fetches refl second bne) refl (grind (arith, nat_tests)) refl, refl),
  )

  -- all rounds
  rounds : (n : ℕ) (rest : List ℕ) (last : Option ℕ) → suc n < 2 ^ 32 → RunsOk (2 * suc n) (loop (suc n) rest 0 last) (loop 0 rest 8 None)
  rounds zero rest last small = last_round rest last
  rounds (suc n) rest last small =
      RunsOk-join 2 (2 * suc n) (2 * suc (suc n)) _ _ _ (omega arith) (round n rest last small) (rounds n rest None (omega arith))

  counts_down : (registers : List ℕ) (last : Option ℕ) → 0 < slice_index registers 0 → slice_index registers 0 < 2 ^ 32
      → (rest : List ℕ) × RunsOk (2 * slice_index registers 0) (at registers 0 last bytes writable) (loop 0 rest 8 None)
  counts_down (suc n ∷ rest) last some small = (rest, rounds n rest last small)
  counts_down _ last some small = absurd (omega (arith, some))

-- what a call of `run` returned and left
pub record CountsDown (s t : State) (steps : ℕ) (e : Option InstructionException) : Type 0 where
  pub steps_made : steps ≡ 2 * reg s 1
  pub no_fault : e ≡ None
  pub x1 : reg t 1 ≡ 0
  pub pc : t.pc ≡ 8
  pub bytes_kept : t.bytes ≡ s.bytes

pub counted : (s t : State) (limit steps : ℕ) (e : Option InstructionException) → s.pc ≡ 0 → 0 < reg s 1 → reg s 1 < 2 ^ 32
    → little_endian s.bytes 0 4 ≡ Some 0xfff08093 → little_endian s.bytes 4 4 ≡ Some 0xfe009ee3 → limit ≡ 2 * reg s 1 → IsOnlyRunUntil limit s steps e t → CountsDown s t steps e
counted s t limit steps e start some small first second limit_is only =
    let run = counts_down s.bytes s.writable first second s.registers s.last some small in
    let only_from : State → Type 0 = λ x. IsOnlyRunUntil limit x steps e t in
    let same = returned-limit (2 * reg s 1) (at (0 ∷ run.0) 8 None s.bytes s.writable) (subst only_from (at_pc s 0 start) only) limit_is run.1 in
    record {
      steps_made = same.0;
      no_fault = same.1;
      x1 = ap (λ (x : State). reg x 1) same.2;
      pc = ap (λ (x : State). x.pc) same.2;
      bytes_kept = ap (λ (x : State). x.bytes) same.2;
    }
