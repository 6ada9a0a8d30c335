-- The program that copies words, as a run.
use Rattle.std.proofs.Common.{◌≡◌, ◌≢◌, ℕ, zero, suc, ◌+◌, ◌-◌, ◌*◌, ◌%◌, ◌^◌, ◌<◌, ◌≤◌, ◌==◌, List, length, pos, neg_ℤ, not, Bool, true, Option, Some, None, IsTrue, IsSome, inl, inr, refl, sym, ap, subst, ◌∙◌, arith}
use Rattle.std.proofs.lemmas.Option.{same_Some}
use Rattle.std.proofs.lemmas.Bool.{cases_lt}
use Rattle.std.proofs.lemmas.Bool.Decides.{nat_tests}
use Rattle.rrs_lib.specs.declared.instruction_executor.InstructionException.{InstructionException}
use Rattle.rrs_lib.specs.declared.instruction_executor.InstructionException.TheVariants.{IllegalInstruction}
use Rattle.rrs_lib.specs.Words.{word}
use Rattle.rrs_lib.specs.Bytes.{ByteMap, little_endian, store, EndsAtLastAddress}
use Rattle.rrs_lib.specs.Machine.{State, reg, made_even}
use Rattle.rrs_lib.specs.Steps.{RunsOk, IsOnlyRunUntil}
use Rattle.rrs_lib.proofs.Programs
use Rattle.rrs_lib.proofs.Programs.{at, Others, registers_by}
use Rattle.rrs_lib.proofs.ByteLemmas.{read-stored, read-kept, store-outside, write-allowed}
use Rattle.rrs_extra.specs.Programs.{HoldsWords, word_at}
use Rattle.rrs_programs.specs.Computing.{CopyWordsStarts, CopiesWords, copy_steps, copy_words_program}
use Rattle.rrs_extra.proofs.Words.{word_read, at_word, writes, Chain, ◌▸◌, done, by_registers, read_after, holds_after, part, mapped-small, mapped-ends, writable-ends, words-end}

-- a word that is copied is one more
copies_more : (bytes old : ByteMap) (to from k v : ℕ) → little_endian bytes (from + 4 * k) 4 ≡ Some v
    → CopiesWords bytes old to from k → CopiesWords bytes (store old (to + 4 * k) 4 (word (pos v))) to from (suc k)
copies_more bytes old to from k v read before =
    let stored = store-outside old (to + 4 * k) 4 (word (pos v)) in
    record {
      words = λ i x less small is. elim (cases_lt i k) [
        | inl earlier ↦
            read-kept old _ _ 4 (to + 4 * i) 4 stored (λ j h. inl (omega arith)) ∙ before.words i x earlier small is
        | inr late ↦
            let here : i ≡ k = omega arith in
            let same : v ≡ x = same_Some _ _ (sym read ∙ rw here at is) in
            let value : word (pos v) % 256 ^ 4 ≡ x = omega arith in
            rw here (read-stored old (to + 4 * k) 4 (word (pos v)) ∙ ap Some value)
      ];
      others = λ a outside. elim outside [
        | inl below ↦ stored a (inl (omega arith)) ∙ before.others a (inl below)
        | inr above ↦ stored a (inr (omega arith)) ∙ before.others a (inr (omega arith))
      ];
    }

differs : (a b : ℕ) → a ≢ b → not (a == b) ≡ true
differs a b apart = grind (arith, nat_tests)

-- the program from its first instruction to its return
record Called (s : State) (x1 to from n : ℕ) : Type 0 where
  registers_after : List ℕ
  bytes_after : ByteMap
  copies : CopiesWords s.bytes bytes_after to from n
  runs : RunsOk (copy_steps n) s (at registers_after x1 None bytes_after s.writable)

module _ (o : Others) (x1 to from n x13 x14 x15 p : ℕ) (last : Option ℕ) (bytes : ByteMap) (writable : ℕ → Bool)
    (starts : CopyWordsStarts (at (registers_by o x1 to from n x13 x14 x15) p last bytes writable))
    (x1_small : x1 < 2 ^ 32) (to_small : to < 2 ^ 32) (from_small : from < 2 ^ 32) (fits : p + 36 ≤ 2 ^ 32)
    (to_fits : to + 4 * n ≤ 2 ^ 32) (from_fits : from + 4 * n ≤ 2 ^ 32) where
  -- the state at the start, and where k words were copied
  abbrev start : State
  start = at (registers_by o x1 to from n x13 x14 x15) p last bytes writable

  abbrev loop : (k x15 pc : ℕ) → Option ℕ → ByteMap → State
  loop k x15 pc last bytes =
      at (registers_by o x1 (word (pos (to + 4 * k))) (word (pos (from + 4 * k))) (word (pos (n * 4))) x13
      (word (pos (from + 4 * n))) x15) pc last bytes writable

  record Reached (k pc steps : ℕ) : Type 0 where
    value : ℕ
    written : Option ℕ
    now : ByteMap
    copies : CopiesWords bytes now to from k
    runs : RunsOk steps start (loop k value pc written now)

  -- the program stands as before
  holds : (k : ℕ) (now : ByteMap) → k ≤ n → CopiesWords bytes now to from k → HoldsWords now p copy_words_program
  holds k now less copies =
      holds_after bytes now to (4 * k) p 36 copy_words_program copies.others
      (λ i j h h'. starts.apart_from_program i j (omega arith) h') (omega arith) starts.called.program_there

  -- where there is no word, the program returns
  returns_soon : n ≡ 0 → Called start x1 to from n
  returns_soon none =
      let registers = registers_by o x1 to from n x13 x14 x15 in
      let there = starts.called.program_there in
      let two : Chain 2 start (at registers x1 None bytes writable) =
      Programs.step-branches (p + 32) (n == 0) (pos 32) (at_word there starts.called.aligned 0 refl refl) refl
      (grind (arith, nat_tests)) (omega arith)
      ▸ Programs.step-jumps {registers = registers} x1 0 (made_even (word (pos (x1 + 0))))
      (at_word there starts.called.aligned 8 refl refl) refl (omega (arith, starts.called.return_aligned))
      ▸ done in
      record {
        registers_after = registers;
        bytes_after = bytes;
        copies = record { words = λ i x less. absurd (omega arith); others = λ a h. refl };
        runs = Programs.RunsOk-as _ _ _ _ (ap copy_steps (sym none)) two.runs;
      }

  -- the four instructions that copy a word
  body : (k : ℕ) → k < n → Reached k (p + 12) (5 * k + 3) → Reached (suc k) (p + 28) (5 * k + 7)
  body k less r =
      let v = word_at bytes (from + 4 * k) in
      let mapped = part (λ b. IsSome (bytes b)) from (4 * n) (4 * k) 4 starts.from_mapped (omega arith) in
      let allowed = write-allowed writable (to + 4 * k) 4
      (part (λ b. IsTrue (writable b)) to (4 * n) (4 * k) 4 starts.to_writable (omega arith)) in
      let read = read_after bytes r.now to (4 * k) from (4 * n) (from + 4 * k) 4 r.copies.others
      (λ i j h h'. starts.apart_from_source i j (omega arith) h') (omega arith) (omega arith)
      ∙ word_read bytes (from + 4 * k) mapped in
      let aligned = starts.called.aligned in
      let there = holds k r.now (omega arith) r.copies in
      let four : Chain 4 (loop k r.value (p + 12) r.written r.now)
      (loop (suc k) (word (pos v)) (p + 28) None (store r.now (to + 4 * k) 4 (word (pos v)))) =
      Programs.step-loads (p + 16) 4 pos (from + 4 * k) v (word (pos v)) (at_word there aligned 3 refl refl) refl
      (omega arith) (omega (arith, starts.from_aligned)) read refl (omega arith)
      ▸ writes there aligned fits 4 10 _ (pos (word (pos (from + 4 * k)) + 4)) refl refl refl (omega arith)
      ▸ writes there aligned fits 5 9 _ (pos (word (pos (to + 4 * k)) + 4)) refl refl refl (omega arith)
      ▸ Programs.step-stores (p + 28) 4 (to + 4 * k) (word (pos v)) (at_word there aligned 6 refl refl) refl
      (omega arith) refl (omega (arith, starts.to_aligned)) allowed (omega arith)
      ▸ done in
      record {
        value = word (pos v);
        written = None;
        now = _;
        copies = copies_more bytes r.now to from k v (word_read bytes (from + 4 * k) mapped) r.copies;
        runs = Programs.RunsOk-join (5 * k + 3) 4 (5 * k + 7) _ _ _ (omega arith) r.runs four.runs;
      }

  -- the three instructions before the first round, and each round but the last
  head : (k : ℕ) → k < n → Reached k (p + 12) (5 * k + 3)
  head zero some =
      let there = starts.called.program_there in
      let aligned = starts.called.aligned in
      let to_is : to ≡ word (pos (to + 4 * 0)) = omega arith in
      let from_is : from ≡ word (pos (from + 4 * 0)) = omega arith in
      let three : Chain 3 start (at (registers_by o x1 to from (word (pos (n * 4))) x13 (word (pos (from + 4 * n))) x15)
      (p + 12) (Some 14) bytes writable) =
      Programs.step-stays (p + 4) (n == 0) (pos 32) (at_word there aligned 0 refl refl) refl (grind (arith, nat_tests))
      (omega arith)
      ▸ writes there aligned fits 1 11 _ (pos (n * 4)) refl refl refl refl
      ▸ writes there aligned fits 2 13 _ (pos (from + word (pos (n * 4)))) refl refl refl (omega arith)
      ▸ done in
      record {
        value = x15;
        written = Some 14;
        now = bytes;
        copies = record { words = λ i x less. absurd (omega arith); others = λ a h. refl };
        runs = subst (RunsOk 3 start) (λ i. at (registers_by o x1 (to_is i) (from_is i) (word (pos (n * 4))) x13
            (word (pos (from + 4 * n))) x15) (p + 12) (Some 14) bytes writable) three.runs;
      }
  head (suc k) less =
      let r = body k (omega arith) (head k (omega arith)) in
      let there = holds (suc k) r.now (omega arith) r.copies in
      let on = Programs.step-branches (p + 12) (not (word (pos (from + 4 * suc k)) == word (pos (from + 4 * n))))
      (neg_ℤ (pos 16)) (at_word there starts.called.aligned 7 refl refl) refl
      (differs _ _ (λ same. omega (arith, same))) (omega arith) in
      record {
        value = r.value;
        written = None;
        now = r.now;
        copies = r.copies;
        runs = Programs.RunsOk-join (5 * k + 7) 1 _ _ _ _ (omega arith) r.runs (Programs.RunsOk-one _ _ on);
      }

  returns_late : (m : ℕ) → n ≡ suc m → Called start x1 to from n
  returns_late m is =
      let r = body m (omega arith) (head m (omega arith)) in
      let there = holds (suc m) r.now (omega arith) r.copies in
      let sum : 5 * m + 7 + 2 ≡ 5 * suc m + 4 = omega arith in
      let two : Chain 2 (loop (suc m) r.value (p + 28) r.written r.now) (loop (suc m) r.value x1 None r.now) =
      Programs.step-stays (p + 32) (not (word (pos (from + 4 * suc m)) == word (pos (from + 4 * n)))) (neg_ℤ (pos 16))
      (at_word there starts.called.aligned 7 refl refl) refl (rw is (grind (arith, nat_tests))) (omega arith)
      ▸ Programs.step-jumps x1 0 (made_even (word (pos (x1 + 0)))) (at_word there starts.called.aligned 8 refl refl)
      refl (omega (arith, starts.called.return_aligned))
      ▸ done in
      record {
        registers_after = _;
        bytes_after = r.now;
        copies = subst (CopiesWords bytes r.now to from) (sym is) r.copies;
        runs = Programs.RunsOk-join (5 * m + 7) 2 (copy_steps n) start _ (loop (suc m) r.value x1 None r.now)
            (sum ∙ ap copy_steps (sym is)) r.runs two.runs;
      }

  calls : Called start x1 to from n
  calls = elim (cases_lt 0 n) [
    | inl some ↦ returns_late (n - 1) (omega arith)
    | inr none ↦ returns_soon (omega arith)
  ]

-- ---- the run

-- what a call of `run` returned
pub record Copied (s : State) (steps : ℕ) (e : Option InstructionException) (t : State) : Type 0 where
  pub steps_made : steps ≡ copy_steps (reg s 12)
  pub fault : e ≡ Some (IllegalInstruction (reg s 1) (word_at s.bytes (reg s 1)))
  pub copies_words : CopiesWords s.bytes t.bytes (reg s 10) (reg s 11) (reg s 12)

-- what the program does from a state
abbrev Copies : (limit steps : ℕ) → Option InstructionException → State → State → Type 0
Copies limit steps e t s = CopyWordsStarts s → reg s 10 < 2 ^ 32 → reg s 11 < 2 ^ 32 → EndsAtLastAddress s.bytes s.writable → limit ≡ 5 * reg s 12 + 5 → IsOnlyRunUntil limit s steps e t → Copied s steps e t

few_steps : (n : ℕ) → copy_steps n < 5 * n + 5
few_steps zero = omega arith
few_steps (suc n) = omega arith

copies : (limit steps : ℕ) (e : Option InstructionException) (t : State) (o : Others) (x1 to from n x13 x14 x15 p : ℕ) (last : Option ℕ) (bytes : ByteMap) (writable : ℕ → Bool)
    → Copies limit steps e t (at (registers_by o x1 to from n x13 x14 x15) p last bytes writable)
copies limit steps e t o x1 to from n x13 x14 x15 p last bytes writable starts to_small from_small ends limit_is only =
    let called = starts.called in
    let all = calls o x1 to from n x13 x14 x15 p last bytes writable starts
    (mapped-small bytes writable x1 ends called.stops.mapped) to_small from_small
    (words-end bytes writable p copy_words_program ends called.program_there (omega arith))
    (writable-ends bytes writable to (4 * n) ends starts.to_writable (omega arith))
    (mapped-ends bytes writable from (4 * n) ends starts.from_mapped (omega arith)) in
    let read = read_after bytes all.bytes_after to (4 * n) x1 4 x1 4 all.copies.others starts.apart_from_return (omega arith) (omega arith) ∙ word_read bytes x1 called.stops.mapped in
    let fault = Programs.step-illegal {registers = all.registers_after} {pc = x1} {last = None} {bytes = all.bytes_after} {writable = writable} called.return_aligned read called.stops.outside in
    let same = Programs.returned only limit_is (Programs.RunUntil-fault (5 * n + 5) (copy_steps n) _ _ _ _ (few_steps n) all.runs fault) in
    record { steps_made = same.0; fault = same.1; copies_words = rw same.2 all.copies }

pub copied : (s t : State) (limit steps : ℕ) (e : Option InstructionException) → 15 ≤ length s.registers → Copies limit steps e t s
copied s t limit steps e long = by_registers (Copies limit steps e t) (copies limit steps e t) s long
