-- For proofs of programs whose accesses count: a step with the accesses that it makes, chains of such steps, and the accesses of the run that a chain
-- is. docs/PROGRAMS.md shows how.
use Rattle.std.proofs.Common.{◌≡◌, ℕ, suc, ◌+◌, ◌%◌, ◌==◌, List, [], ◌∷◌, ◌++◌, length, slice_set, Bool, true, if◌then◌else◌, ℤ, pos, Option, Some, None, Ok, Err, refl, sym, ap, subst, ◌∙◌, append_assoc, append-nil, eq-eqb}
use Rattle.std.proofs.lemmas.Bool.{cond-true}
use Rattle.rrs_memory.specs.declared.MemAccessSize.{MemAccessSize}
use Rattle.rrs_lib.specs.declared.instruction_executor.InstructionException.{InstructionException}
use Rattle.rrs_instruction.specs.Words.{word}
use Rattle.rrs_instruction.specs.Encodings.{Fields}
use Rattle.rrs_instruction.specs.Table.{Row}
use Rattle.rrs_memory.specs.Bytes.{ByteMap, width, little_endian, all_writable, store}
use Rattle.rrs_lib.specs.Machine.{State, reg, plus_immediate, execute, load_outcome, store_outcome}
use Rattle.rrs_lib.specs.Steps.{Step, RunsOk}
use Rattle.rrs_lib.specs.Accesses.{Access, Read, Write, read_in, write_in, read_if_aligned, write_if_aligned, accesses_of_row, fetch, AccessesOf, OfRow, AccessesOfRun, answers_of_run}
use Rattle.rrs_instruction.proofs.Formats.{of_I, of_S}
use Rattle.rrs_lib.proofs.Programs.{at, Fetches, step-loads, step-stores}

-- ---- steps

-- a step that is Ok, and the accesses that it makes
pub record StepMaking (s t : State) (accesses : List Access) : Type 0 where
  pub step : Step s t (Ok tt)
  pub makes : AccessesOf s accesses

-- The step at a known instruction, by a lemma that makes it of the fetch. Its accesses are the fetch, and then those of the row: none, if it is no
-- load and no store.
pub making : {s t : State} {row : Row} {f : Fields} {rest : List Access} → Fetches s.bytes s.pc row f → (Fetches s.bytes s.pc row f → Step s t (Ok tt)) → accesses_of_row row f s ≡ rest → StepMaking s t (fetch s ∷ rest)
making {s = s} {row = row} {f = f} fetched steps are = record {
  step = steps fetched;
  makes = OfRow fetched.word_there row f fetched.aligned fetched.read fetched.decodes (ap (λ r. fetch s ∷ r) (sym are));
}

module _ {row : Row} {registers : List ℕ} {pc : ℕ} {last : Option ℕ} {bytes : ByteMap} {writable : ℕ → Bool} where
  -- a load of an address, whose value is y, to a register that is not x0
  pub making-loads : (next : ℕ) (size : MemAccessSize) (extended : ℕ → ℤ) (from y x : ℕ) {imm : ℤ} {rs1 funct3 r : ℕ}
      → Fetches bytes pc row (of_I imm rs1 funct3 (suc r))
      → execute row (of_I imm rs1 funct3 (suc r)) (at registers pc None bytes writable) ≡ Some (load_outcome (width size) extended (suc r) (plus_immediate (reg (at registers pc None bytes writable) rs1) imm) (at registers pc None bytes writable))
      → accesses_of_row row (of_I imm rs1 funct3 (suc r)) (at registers pc last bytes writable) ≡ read_if_aligned (at registers pc last bytes writable) (plus_immediate (reg (at registers pc last bytes writable) rs1) imm) size
      → plus_immediate (reg (at registers pc None bytes writable) rs1) imm ≡ from → from % width size ≡ 0
      → little_endian bytes from (width size) ≡ Some y → word (extended y) ≡ x → word (pos (pc + 4)) ≡ next
      → StepMaking (at registers pc last bytes writable) (at (slice_set registers r x) next (Some (suc r)) bytes writable) (fetch (at registers pc last bytes writable) ∷ Read from size (Some y) ∷ [])
  making-loads next size extended from y x fetched executes is_load there aligned read value goes =
      let s = at registers pc last bytes writable in
      let of_address : ℕ → List Access = λ a. if a % width size == 0 then read_in s a size ∷ [] else [] in
      let of_test = cond-true (from % width size == 0) (read_in s from size ∷ []) [] (eq-eqb _ _ aligned) in
      making fetched (λ f. step-loads next (width size) extended from y x f executes there aligned read value goes)
      (is_load ∙ ap of_address there ∙ of_test ∙ ap (λ (o : Option ℕ). Read from size o ∷ []) read)

  -- a store of the low bytes of y, the value of rs2, to an address
  pub making-stores : (next : ℕ) (size : MemAccessSize) (to y : ℕ) {imm : ℤ} {rs2 rs1 funct3 : ℕ}
      → Fetches bytes pc row (of_S imm rs2 rs1 funct3)
      → execute row (of_S imm rs2 rs1 funct3) (at registers pc None bytes writable) ≡ Some (store_outcome (width size) (reg (at registers pc None bytes writable) rs2) (plus_immediate (reg (at registers pc None bytes writable) rs1) imm) (at registers pc None bytes writable))
      → accesses_of_row row (of_S imm rs2 rs1 funct3) (at registers pc last bytes writable) ≡ write_if_aligned (at registers pc last bytes writable) (plus_immediate (reg (at registers pc last bytes writable) rs1) imm) size (reg (at registers pc last bytes writable) rs2)
      → plus_immediate (reg (at registers pc None bytes writable) rs1) imm ≡ to
      → reg (at registers pc None bytes writable) rs2 ≡ y → to % width size ≡ 0
      → all_writable writable to (width size) ≡ true → word (pos (pc + 4)) ≡ next
      → StepMaking (at registers pc last bytes writable) (at registers next None (store bytes to (width size) y) writable) (fetch (at registers pc last bytes writable) ∷ Write to size y true ∷ [])
  making-stores next size to y {rs2 = rs2} fetched executes is_store there value aligned allowed goes =
      let s = at registers pc last bytes writable in
      let of_address : ℕ → List Access = λ a. if a % width size == 0 then write_in s a size (reg s rs2) ∷ [] else [] in
      let of_test = cond-true (to % width size == 0) (write_in s to size (reg s rs2) ∷ []) [] (eq-eqb _ _ aligned) in
      let of_value : ℕ → List Access = λ v. write_in s to size v ∷ [] in
      making fetched (λ f. step-stores next (width size) to y f executes there value aligned allowed goes)
      (is_store ∙ ap of_address there ∙ of_test ∙ ap of_value value ∙ ap (λ (b : Bool). Write to size y b ∷ []) allowed)

-- ---- chains

-- the accesses of steps, one step's after the other's
abbrev pub joined : List (List Access) → List Access
joined [] = []
joined (first ∷ later) = first ++ joined later

-- s goes to t by steps that are all Ok, and these are the accesses of each
abbrev pub RunsMaking : State → List (List Access) → State → Type 0
RunsMaking s [] t = t ≡ s
RunsMaking s (first ∷ later) t = (m : State) × StepMaking s m first × RunsMaking m later t

-- it is a chain of as many steps
pub RunsMaking-runs : (each : List (List Access)) (s t : State) → RunsMaking s each t → RunsOk (length each) s t
RunsMaking-runs [] s t run = run
RunsMaking-runs (first ∷ later) s t run = (run.0, run.1.step, RunsMaking-runs later run.0 t run.2)

-- two chains, one after the other
pub RunsMaking-append : (each each' : List (List Access)) (s u t : State)
    → RunsMaking s each u → RunsMaking u each' t → RunsMaking s (each ++ each') t
RunsMaking-append [] each' s u t run run' = subst (λ x. RunsMaking x each' t) run run'
RunsMaking-append (first ∷ later) each' s u t run run' = (run.0, run.1, RunsMaking-append later each' run.0 u t run.2 run')

pub joined-append : (each each' : List (List Access)) → joined (each ++ each') ≡ joined each ++ joined each'
joined-append [] each' = refl
joined-append (first ∷ later) each' = ap (λ xs. first ++ xs) (joined-append later each') ∙ sym (append_assoc first (joined later) (joined each'))

-- ---- the accesses of a run

-- a chain that is followed by one more step, which ends in an exception, is a run that makes its accesses
pub RunsMaking-fault : (each : List (List Access)) (s m t : State) (e : InstructionException) (last : List Access)
    → RunsMaking s each m → Step m t (Err e) → AccessesOf m last
    → AccessesOfRun s (answers_of_run (length each) (Some e)) (joined each ++ last)
RunsMaking-fault [] s m t e last run fault makes =
    let step = subst (λ x. Step x t (Err e)) run fault in
    (t, last, [], step, subst (λ x. AccessesOf x last) run makes, refl, sym (append-nil last))
RunsMaking-fault (first ∷ later) s m t e last run fault makes =
    let rest = RunsMaking-fault later run.0 m t e last run.2 fault makes in
    (run.0, first, joined later ++ last, run.1.step, run.1.makes, rest, append_assoc first (joined later) last)
