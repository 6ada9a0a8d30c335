-- The program of the greatest common divisor, as a run.
use Rattle.std.proofs.Common.{◌≡◌, ℕ, zero, suc, ◌+◌, ◌*◌, ◌%◌, ◌^◌, ◌<◌, ◌≤◌, ◌==◌, length, pos, not, Bool, false, Option, Some, None, refl, ap, ◌∙◌, arith}
use Rattle.std.specs.Int.{IsGcd}
use Rattle.std.proofs.lemmas.Nat.Gcd.{IsGcd-from_zero, IsGcd-from_mod}
use Rattle.std.proofs.lemmas.Bool.{cond-false}
use Rattle.std.proofs.lemmas.Bool.Decides.{nat_tests}
use Rattle.rrs_lib.specs.declared.instruction_executor.InstructionException.{InstructionException}
use Rattle.rrs_lib.specs.declared.instruction_executor.InstructionException.TheVariants.{IllegalInstruction}
use Rattle.rrs_lib.specs.Words.{word}
use Rattle.rrs_lib.specs.Bytes.{ByteMap, EndsAtLastAddress}
use Rattle.rrs_lib.specs.Results.{remu}
use Rattle.rrs_lib.specs.Machine.{State, reg, made_even}
use Rattle.rrs_lib.specs.Steps.{RunsOk, IsOnlyRunUntil}
use Rattle.rrs_lib.proofs.Programs
use Rattle.rrs_lib.proofs.Programs.{at, Others, registers_by}
use Rattle.rrs_extra.specs.Programs.{HoldsWords, word_at}
use Rattle.rrs_programs.specs.Computing.{IsCalled, gcd_program}
use Rattle.rrs_extra.proofs.Words.{word_read, at_word, Chain, ◌▸◌, done, by_registers, mapped-small, words-end}

-- ---- one round

remainder : (a m : ℕ) → suc m < 2 ^ 32 → word (remu a (suc m)) ≡ a % suc m
remainder a m small =
    let not_zero : (suc m == 0) ≡ false = grind (arith, nat_tests) in
    ap word (cond-false (suc m == 0) (pos a) (pos (a % suc m)) not_zero) ∙ omega arith

round : (o : Others) (x1 a m p x12 x13 x14 x15 : ℕ) (last : Option ℕ) (bytes : ByteMap) (writable : ℕ → Bool)
    → HoldsWords bytes p gcd_program → p % 4 ≡ 0 → p + 24 ≤ 2 ^ 32 → suc m < 2 ^ 32
    → Chain 5 (at (registers_by o x1 a (suc m) x12 x13 x14 x15) p last bytes writable) (at (registers_by o x1 (suc m) (a % suc m) x12 x13 x14 (a % suc m)) p None bytes writable)
round o x1 a m p x12 x13 x14 x15 last bytes writable holds aligned fits small =
    Programs.step-branches (p + 8) (not (suc m == 0)) (pos 8) (at_word holds aligned 0 refl refl) refl (grind (arith, nat_tests)) (omega arith)
    ▸ Programs.step-writes (p + 12) 14 (a % suc m) (remu a (suc m)) (at_word holds aligned 2 refl refl) refl (remainder a m small) (omega arith)
    ▸ Programs.step-writes (p + 16) 9 (suc m) (pos (suc m + 0)) (at_word holds aligned 3 refl refl) refl (omega arith) (omega arith)
    ▸ Programs.step-writes (p + 20) 10 (a % suc m) (pos (a % suc m + 0)) (at_word holds aligned 4 refl refl) refl (omega arith) (omega arith)
    ▸ Programs.step-jumps p 0 (word (pos (p + 20 + 4294967276))) (at_word holds aligned 5 refl refl) refl (omega arith)
    ▸ done

-- where there is nothing to divide by, the program returns
leaves : (o : Others) (x1 g p x12 x13 x14 x15 : ℕ) (last : Option ℕ) (bytes : ByteMap) (writable : ℕ → Bool)
    → HoldsWords bytes p gcd_program → p % 4 ≡ 0 → p + 24 ≤ 2 ^ 32 → x1 % 4 ≡ 0 → x1 < 2 ^ 32
    → Chain 2 (at (registers_by o x1 g 0 x12 x13 x14 x15) p last bytes writable) (at (registers_by o x1 g 0 x12 x13 x14 x15) x1 None bytes writable)
leaves o x1 g p x12 x13 x14 x15 last bytes writable holds aligned fits return_aligned small =
    Programs.step-stays {registers = registers_by o x1 g 0 x12 x13 x14 x15} (p + 4) false (pos 8) (at_word holds aligned 0 refl refl) refl refl (omega arith)
    ▸ Programs.step-jumps x1 0 (made_even (word (pos (x1 + 0)))) (at_word holds aligned 1 refl refl) refl (omega arith)
    ▸ done

-- ---- all rounds, and the return

record Rounds (o : Others) (x1 a b p x12 x13 x14 x15 : ℕ) (last : Option ℕ) (bytes : ByteMap) (writable : ℕ → Bool) : Type 0 where
  count : ℕ
  at_most : count ≤ b
  divisor : ℕ
  is_gcd : IsGcd a b divisor
  value : ℕ
  runs : RunsOk (5 * count + 2) (at (registers_by o x1 a b x12 x13 x14 x15) p last bytes writable) (at (registers_by o x1 divisor 0 x12 x13 x14 value) x1 None bytes writable)

-- the count of rounds is bounded by the divisor of the first one, since each remainder is below its divisor
rounds : (bound b : ℕ) → b ≤ bound → (o : Others) (x1 a p x12 x13 x14 x15 : ℕ) (last : Option ℕ) (bytes : ByteMap) (writable : ℕ → Bool)
    → HoldsWords bytes p gcd_program → p % 4 ≡ 0 → p + 24 ≤ 2 ^ 32 → x1 % 4 ≡ 0 → x1 < 2 ^ 32 → b < 2 ^ 32
    → Rounds o x1 a b p x12 x13 x14 x15 last bytes writable
rounds bound zero within o x1 a p x12 x13 x14 x15 last bytes writable holds aligned fits even x1_small small =
    let out = leaves o x1 a p x12 x13 x14 x15 last bytes writable holds aligned fits even x1_small in
    record { count = 0; at_most = omega arith; divisor = a; is_gcd = IsGcd-from_zero a 0 refl; value = x15; runs = out.runs }
rounds zero (suc m) within o x1 a p x12 x13 x14 x15 last bytes writable holds aligned fits even x1_small small =
    absurd (omega (arith, within))
rounds (suc bound) (suc m) within o x1 a p x12 x13 x14 x15 last bytes writable holds aligned fits even x1_small small =
    let less : a % suc m < suc m = omega arith in
    let one = round o x1 a m p x12 x13 x14 x15 last bytes writable holds aligned fits small in
    let rest = rounds bound (a % suc m) (omega arith) o x1 (suc m) p x12 x13 x14 (a % suc m) None bytes writable holds
    aligned fits even x1_small (omega arith) in
    record {
      count = suc rest.count;
      at_most = omega (arith, rest.at_most, less);
      divisor = rest.divisor;
      is_gcd = IsGcd-from_mod a (suc m) rest.divisor rest.is_gcd;
      value = rest.value;
      runs = Programs.RunsOk-join 5 (5 * rest.count + 2) _ _ _ _ (omega arith) one.runs rest.runs;
    }

-- what a call of `run` returned
pub record Divided (s : State) (steps : ℕ) (e : Option InstructionException) (t : State) : Type 0 where
  pub steps_made : (k : ℕ) × (k ≤ reg s 11) × (steps ≡ 5 * k + 2)
  pub fault : e ≡ Some (IllegalInstruction (reg s 1) (word_at s.bytes (reg s 1)))
  pub divisor : IsGcd (reg s 10) (reg s 11) (reg t 10)
  pub bytes_kept : t.bytes ≡ s.bytes

-- what the program does from a state
abbrev Divides : (limit steps : ℕ) → Option InstructionException → State → State → Type 0
Divides limit steps e t s = IsCalled gcd_program s → reg s 11 < 2 ^ 32 → EndsAtLastAddress s.bytes s.writable → limit ≡ 5 * reg s 11 + 3 → IsOnlyRunUntil limit s steps e t → Divided s steps e t

divides : (limit steps : ℕ) (e : Option InstructionException) (t : State) (o : Others) (x1 a b x12 x13 x14 x15 p : ℕ) (last : Option ℕ) (bytes : ByteMap) (writable : ℕ → Bool)
    → Divides limit steps e t (at (registers_by o x1 a b x12 x13 x14 x15) p last bytes writable)
divides limit steps e t o x1 a b x12 x13 x14 x15 p last bytes writable called small ends limit_is only =
    let fits = words-end bytes writable p gcd_program ends called.program_there (omega arith) in
    let all = rounds b b (omega arith) o x1 a p x12 x13 x14 x15 last bytes writable called.program_there called.aligned fits
    called.return_aligned (mapped-small bytes writable x1 ends called.stops.mapped) small in
    let fault = Programs.step-illegal {registers = registers_by o x1 all.divisor 0 x12 x13 x14 all.value} {pc = x1} {last = None} {bytes = bytes} {writable = writable} called.return_aligned (word_read bytes x1 called.stops.mapped) called.stops.outside in
    let same = Programs.returned only limit_is (Programs.RunUntil-fault (5 * b + 3) (5 * all.count + 2) _ _ _ _ (omega (arith, all.at_most)) all.runs fault) in
    record { steps_made = (all.count, all.at_most, same.0); fault = same.1; divisor = rw same.2 all.is_gcd; bytes_kept = ap (λ x. x.bytes) same.2 }

pub divided : (s t : State) (limit steps : ℕ) (e : Option InstructionException) → 15 ≤ length s.registers → Divides limit steps e t s
divided s t limit steps e long = by_registers (Divides limit steps e t) (divides limit steps e t) s long
