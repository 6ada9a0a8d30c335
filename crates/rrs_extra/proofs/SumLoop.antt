-- The program that adds up words, as a run.
use Rattle.std.proofs.Common.{◌≡◌, ℕ, zero, suc, ◌+◌, ◌*◌, ◌%◌, ◌^◌, ◌<◌, ◌≤◌, ◌==◌, length, pos, Bool, true, Option, Some, None, IsSome, refl, ap, subst, ◌∙◌, arith}
use Rattle.rrs_lib.specs.declared.instruction_executor.InstructionException.{InstructionException}
use Rattle.rrs_lib.specs.declared.instruction_executor.InstructionException.TheVariants.{IllegalInstruction}
use Rattle.rrs_lib.specs.Words.{word}
use Rattle.rrs_lib.specs.Bytes.{ByteMap, little_endian, EndsAtLastAddress}
use Rattle.rrs_lib.specs.Machine.{State, reg}
use Rattle.rrs_lib.specs.Steps.{RunsOk, IsOnlyRunUntil}
use Rattle.rrs_lib.proofs.Programs
use Rattle.rrs_lib.proofs.Programs.{at, Fetches, fetches, Others, registers_by}
use Rattle.rrs_extra.specs.Programs.{HoldsWords, IsMapped, word_at, sum_of_words, sum_loop_program, SumLoopStarts}
use Rattle.rrs_extra.proofs.Words.{word_read, at_word, Chain, ◌▸◌, done, by_registers, mapped-ends}

-- ---- one round

round : (o : Others) (x1 a n sum x x13 x14 x15 : ℕ) (last : Option ℕ) (bytes : ByteMap) (writable : ℕ → Bool)
    → HoldsWords bytes 0 sum_loop_program → a % 4 ≡ 0 → a < 2 ^ 32 → suc n < 2 ^ 32 → little_endian bytes a 4 ≡ Some x
    → Chain 6 (at (registers_by o x1 a (suc n) sum x13 x14 x15) 4 last bytes writable) (at (registers_by o x1 (word (pos (a + 4))) n (word (pos (sum + word (pos x)))) (word (pos x)) x14 x15) 4 None bytes writable)
round o x1 a n sum x x13 x14 x15 last bytes writable holds aligned small few read =
    Programs.step-stays 8 (suc n == 0) (pos 24) (at_word holds refl 1 refl refl) refl (grind arith) refl
    ▸ Programs.step-loads 12 4 pos a x (word (pos x)) (at_word holds refl 2 refl refl) refl (omega arith) aligned read refl refl
    ▸ Programs.step-writes 16 11 _ (pos (sum + word (pos x))) (at_word holds refl 3 refl refl) refl refl refl
    ▸ Programs.step-writes 20 9 _ (pos (a + 4)) (at_word holds refl 4 refl refl) refl refl refl
    ▸ Programs.step-writes 24 10 n (pos (suc n + 4294967295)) (at_word holds refl 5 refl refl) refl (omega arith) refl
    ▸ Programs.step-jumps 4 0 4 (at_word holds refl 6 refl refl) refl refl
    ▸ done

-- ---- all rounds

-- where words are left, the next one is where the sum of the addresses is
next_words : (bytes : ByteMap) (a n : ℕ) → a + 4 * suc n ≤ 2 ^ 32 → sum_of_words bytes (word (pos (a + 4))) n ≡ sum_of_words bytes (a + 4) n
next_words bytes a zero fits = refl
next_words bytes a (suc n) fits = let same : word (pos (a + 4)) ≡ a + 4 = omega arith in ap (λ b. sum_of_words bytes b (suc n)) same

next_mapped : (bytes : ByteMap) (a n : ℕ) → a + 4 * suc n ≤ 2 ^ 32 → IsMapped bytes a (4 * suc n) → IsMapped bytes (word (pos (a + 4))) (4 * n)
next_mapped bytes a n fits mapped i less =
    let same : a + (4 + i) ≡ word (pos (a + 4)) + i = omega arith in
    subst (λ (b : ℕ). IsSome (bytes b)) same (mapped (4 + i) (omega arith))

-- a sum modulo 2 ^ 32 may be taken modulo 2 ^ 32 on the way
same_sum : (sum x rest : ℕ) → (word (pos (sum + word (pos x))) + rest) % 2 ^ 32 ≡ (sum + (x + rest)) % 2 ^ 32
same_sum sum x rest = omega arith

record Rounds (o : Others) (x1 a n sum total x13 x14 x15 : ℕ) (last : Option ℕ) (bytes : ByteMap) (writable : ℕ → Bool) : Type 0 where
  end : ℕ
  value : ℕ
  runs : RunsOk (6 * n + 1) (at (registers_by o x1 a n sum x13 x14 x15) 4 last bytes writable) (at (registers_by o x1 end 0 total value x14 x15) 0x1c None bytes writable)

rounds : (n : ℕ) (o : Others) (x1 a sum total x13 x14 x15 : ℕ) (last : Option ℕ) (bytes : ByteMap) (writable : ℕ → Bool)
    → HoldsWords bytes 0 sum_loop_program → a % 4 ≡ 0 → a + 4 * n ≤ 2 ^ 32 → IsMapped bytes a (4 * n) → sum < 2 ^ 32 → (sum + sum_of_words bytes a n) % 2 ^ 32 ≡ total
    → Rounds o x1 a n sum total x13 x14 x15 last bytes writable
rounds zero o x1 a sum total x13 x14 x15 last bytes writable holds aligned fits mapped small is =
    let same : sum ≡ total = omega (arith, is) in
    let out = Programs.step-branches {registers = registers_by o x1 a 0 sum x13 x14 x15} {last = last} 0x1c true (pos 24) (at_word holds refl 1 refl refl) refl refl refl in
    record { end = a; value = x13; runs = rw (← same) (Programs.RunsOk-one _ _ out) }
rounds (suc n) o x1 a sum total x13 x14 x15 last bytes writable holds aligned fits mapped small is =
    let x = word_at bytes a in
    let read : little_endian bytes a 4 ≡ Some x = word_read bytes a (λ i h. mapped i (omega arith)) in
    let total_is : (word (pos (sum + word (pos x))) + sum_of_words bytes (word (pos (a + 4))) n) % 2 ^ 32 ≡ total =
    ap (λ y. (word (pos (sum + word (pos x))) + y) % 2 ^ 32) (next_words bytes a n fits) ∙ same_sum sum x (sum_of_words bytes (a + 4) n) ∙ is in
    let others = rounds n o x1 (word (pos (a + 4))) (word (pos (sum + word (pos x)))) total (word (pos x)) x14 x15 None bytes writable holds (omega arith) (omega arith) (next_mapped bytes a n fits mapped) (omega arith) total_is in
    let one = round o x1 a n sum x x13 x14 x15 last bytes writable holds aligned (omega arith) (omega arith) read in
    record { end = others.end; value = others.value; runs = Programs.RunsOk-join 6 (6 * n + 1) (6 * suc n + 1) _ _ _ (omega arith) one.runs others.runs }

-- ---- the run

-- what a call of `run` returned
pub record Summed (s : State) (steps : ℕ) (e : Option InstructionException) (t : State) : Type 0 where
  pub steps_made : steps ≡ 6 * reg s 11 + 2
  pub fault : e ≡ Some (IllegalInstruction 0x1c (word_at s.bytes 0x1c))
  pub sum : reg t 12 ≡ sum_of_words s.bytes (reg s 10) (reg s 11) % 2 ^ 32
  pub bytes_kept : t.bytes ≡ s.bytes

-- what the program does from a state
abbrev Sums : (limit steps : ℕ) → Option InstructionException → State → State → Type 0
Sums limit steps e t s = SumLoopStarts s → reg s 10 < 2 ^ 32 → EndsAtLastAddress s.bytes s.writable → limit ≡ 6 * reg s 11 + 3 → IsOnlyRunUntil limit s steps e t → Summed s steps e t

sums : (limit steps : ℕ) (e : Option InstructionException) (t : State) (o : Others) (x1 a n x12 x13 x14 x15 pc : ℕ) (last : Option ℕ) (bytes : ByteMap) (writable : ℕ → Bool)
    → Sums limit steps e t (at (registers_by o x1 a n x12 x13 x14 x15) pc last bytes writable)
sums limit steps e t o x1 a n x12 x13 x14 x15 pc last bytes writable starts small ends limit_is only =
    let all = rounds n o x1 a 0 (sum_of_words bytes a n % 2 ^ 32) x13 x14 x15 (Some 12) bytes writable starts.program starts.aligned (mapped-ends bytes writable a (4 * n) ends starts.mapped (omega arith)) starts.mapped (omega arith) (ap (λ y. y % 2 ^ 32) (omega arith)) in
    let first = Programs.step-writes {registers = registers_by o x1 a n x12 x13 x14 x15} {pc = 0} {last = last} {bytes = bytes} {writable = writable} 4 11 0 (pos 0) (at_word starts.program refl 0 refl refl) refl refl refl in
    let chain = Programs.RunsOk-as (suc (6 * n + 1)) (6 * n + 2) _ _ (omega arith) (Programs.RunsOk-then (6 * n + 1) _ _ _ first all.runs) in
    let fault = Programs.step-illegal {registers = registers_by o x1 all.end 0 (sum_of_words bytes a n % 2 ^ 32) all.value x14 x15} {pc = 0x1c} {last = None} {bytes = bytes} {writable = writable} refl (word_read bytes 0x1c starts.behind.mapped) starts.behind.outside in
    let from = rw (starts.pc) at only in
    let same = Programs.returned from limit_is (Programs.RunUntil-fault (6 * n + 3) (6 * n + 2) _ _ _ _ (omega arith) chain fault) in
    record { steps_made = same.0; fault = same.1; sum = ap (λ x. reg x 12) same.2; bytes_kept = ap (λ x. x.bytes) same.2 }

pub summed : (s t : State) (limit steps : ℕ) (e : Option InstructionException) → 15 ≤ length s.registers → Sums limit steps e t s
summed s t limit steps e long = by_registers (Sums limit steps e t) (sums limit steps e t) s long
