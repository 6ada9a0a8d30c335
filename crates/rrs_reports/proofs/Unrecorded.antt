-- A step that was made without a record retires what a record says.
use Rattle.std.proofs.Common.{◌≡◌, ◌≢◌, ℕ, zero, suc, ◌+◌, ◌*◌, ◌==◌, ◌%◌, List, cond, length, get_or, Bool, true, false, if◌then◌else◌, Option, Some, None, Ok, Err, refl, sym, subst, ap, ◌∙◌, ne_eqb, arith}
use Rattle.std.proofs.lemmas.Bool.{eq-eqb}
use Rattle.rrs_lib.specs.declared.instruction_executor.InstructionException.{InstructionException}
use Rattle.rrs_lib.specs.Bytes.{ByteMap, little_endian}
use Rattle.rrs_lib.specs.Machine.{State, reg}
use Rattle.rrs_lib.specs.Accesses.{Access}
use Rattle.rrs_lib.specs.Steps.{Step, StepAnswer, Misaligned, Unmapped, Illegal, Legal, next_word, LastIsRegister}
use Rattle.rrs_elf.specs.Executables.{bytes_of}
use Rattle.rrs_words.specs.declared.csrs.HartProfile.{HartProfile}
use Rattle.rrs_hart.specs.Harts.{Hart, HartStep, OfKit, OfLayer, ByBytes, OfHalves, AccessesOfHart}
use Rattle.rrs_hart.proofs.HartLast.{HartStep-last}
use Rattle.rrs_hart.proofs.HartFaults.{fault_keeps_bytes}
use Rattle.rrs_trace.specs.declared.retired.Retired.{Retired}
use Rattle.rrs_trace.specs.Retired.{last_of, is_fault}
use Rattle.rrs_trace.specs.HartRecords.{HartRetires}
use Rattle.rrs_trace.proofs.HartAccesses.{told_of, sources_at, words_at, not_halves}
use Rattle.rrs_reports.specs.CommitLogs.{ecall}
use Rattle.rrs_reports.specs.Coverages.{is_step, word_of, Counts, counted, begins_at, begins_elsewhere, has_unit}
use Rattle.rrs_reports.specs.declared.coverage.Coverage.{Coverage}

-- ---- the register that was written last

abbrev number_of : Option ℕ → ℕ
number_of None = 0
number_of (Some r) = r

numbered : (last : Option ℕ) → LastIsRegister last → last ≡ last_of (number_of last)
numbered None fine = refl
numbered (Some zero) fine = absurd (omega (arith, fine.0))
numbered (Some (suc r)) fine = refl

-- ---- the record

pub recorded : (p : HartProfile) (n : ℕ) (s t : Hart) (answer : StepAnswer) (accesses : List Access) → p.compressed ≡ false → HartStep p s t answer
    → ((others : List Access) → AccessesOfHart p s others → others ≡ accesses)
    → (r : Retired) × HartRetires p n s t answer r
recorded p n s t answer accesses words step only =
    let sources = sources_at p s t answer words step in
    let rd = number_of t.state.last in
    let mem = told_of p s t answer accesses words step only in (
      record {
        order = n;
        insn = next_word s.state;
        trap = is_fault answer;
        pc_rdata = s.state.pc;
        pc_wdata = t.state.pc;
        rs1_addr = sources.rs1;
        rs1_rdata = reg s.state sources.rs1;
        rs2_addr = sources.rs2;
        rs2_rdata = reg s.state sources.rs2;
        rd_addr = rd;
        rd_wdata = reg t.state rd;
        mem = mem.access;
      },
      record {
        order_is = refl;
        insn_is = sym (words_at p s.state words);
        trap_is = refl;
        pc_before = refl;
        pc_after = refl;
        sources = λ _. sources.these;
        halves_sources = λ halves. absurd (not_halves p words halves);
        first_value = refl;
        second_value = refl;
        written = numbered t.state.last (HartStep-last p s t answer step);
        written_value = refl;
        access = mem.told;
      },
    )

-- ---- whether a word was committed

aligned_word : (s : State) → s.pc % 4 ≡ 0 → next_word s ≡ little_endian s.bytes s.pc 4
aligned_word s even = ap (λ b. if b then little_endian s.bytes s.pc 4 else None) (eq-eqb (s.pc % 4) 0 even)

-- a step that is Ok has a word
kit_word : (s t : State) → Step s t (Ok tt) → (w : ℕ) × (next_word s ≡ Some w)
kit_word s t (Misaligned odd same is) = absurd (cc is)
kit_word s t (Unmapped even none same is) = absurd (cc is)
kit_word s t (Illegal w even read outside same is) = absurd (cc is)
kit_word s t (Legal w row f u a even read is executes after answers) = (w, aligned_word s even ∙ read)

word_of_ok : (p : HartProfile) (s t : Hart) → p.compressed ≡ false → HartStep p s t (Ok tt) → (w : ℕ) × (next_word s.state ≡ Some w)
word_of_ok p s t words (OfKit kits step kept) = kit_word s.state t.state step
word_of_ok p s t words (OfLayer w i at left) = (w, at.fetched)
word_of_ok p s t words (ByBytes w row f a o at left) = (w, at.fetched)
word_of_ok p s t words (OfHalves halves step) = absurd (not_halves p words halves)

-- the word of a record
word_in : (p : HartProfile) (n : ℕ) (s t : Hart) (answer : StepAnswer) (r : Retired) → p.compressed ≡ false → HartRetires p n s t answer r
    → r.insn ≡ next_word s.state
word_in p n s t answer r words retires = retires.insn_is ∙ words_at p s.state words

ok_is_step : (p : HartProfile) (n : ℕ) (s t : Hart) (r : Retired) → p.compressed ≡ false → HartStep p s t (Ok tt) → HartRetires p n s t (Ok tt) r → is_step r ≡ true
ok_is_step p n s t r words step retires =
    let found = word_of_ok p s t words step in
    let word = word_in p n s t (Ok tt) r words retires in
    rw (retires.trap_is, word, found.1) refl

-- an exception leaves the word at the pc
word_there : (p : HartProfile) (s t : Hart) (e : InstructionException) (pc : ℕ) (bytes : ByteMap) → HartStep p s t (Err e) → s.state.pc ≡ pc
    → t.state.bytes ≡ bytes → next_word s.state ≡ word_of bytes pc
word_there p s t e pc bytes step at is =
    let same : s.state.bytes ≡ bytes = sym (fault_keeps_bytes p s t e step) ∙ is in
    ap (word_of s.state.bytes) at ∙ ap (λ b. word_of b pc) same

call_is_step : (p : HartProfile) (n : ℕ) (s t : Hart) (e : InstructionException) (r : Retired) → p.compressed ≡ false → HartRetires p n s t (Err e) r
    → next_word s.state ≡ Some ecall → is_step r ≡ true
call_is_step p n s t e r words retires is =
    let word : r.insn ≡ Some ecall = word_in p n s t (Err e) r words retires ∙ is in
    rw (retires.trap_is, word) refl

of_other : (r : Retired) (o : Option ℕ) → r.trap ≡ true → r.insn ≡ o → o ≢ Some ecall → is_step r ≡ false
of_other r None trap is apart = rw (trap, is) refl
of_other r (Some w) trap is apart = rw (trap, is, ne_eqb w ecall (λ same. apart (ap Some same))) refl

fault_is_none : (p : HartProfile) (n : ℕ) (s t : Hart) (e : InstructionException) (r : Retired) → p.compressed ≡ false → HartRetires p n s t (Err e) r
    → next_word s.state ≢ Some ecall → is_step r ≡ false
fault_is_none p n s t e r words retires apart = of_other r (next_word s.state) retires.trap_is (word_in p n s t (Err e) r words retires) apart

-- what is no step is not counted
both_false : (b : Bool) → cond b false false ≡ false
both_false true = refl
both_false false = refl

pub counts_none : (c : Coverage) (r : Retired) → is_step r ≡ false → Counts c r c
counts_none c r none = record {
  base_kept = refl;
  unit_kept = refl;
  units_kept = refl;
  at = λ place below.
      let address = c.base + bytes_of c.unit * place in
      let none_begins : begins_at address r ≡ false = ap (λ x. cond (r.pc_rdata == address) x false) none ∙ both_false (r.pc_rdata == address) in
      sym (ap (counted (get_or c.counts.items place 0)) none_begins);
  elsewhere =
      let has = has_unit c.unit c.base (length c.counts.items) r.pc_rdata in
      let none_begins : begins_elsewhere c.unit c.base (length c.counts.items) r ≡ false = ap (λ x. cond has false x) none ∙ both_false has in
      sym (ap (counted c.elsewhere) none_begins);
}

-- ---- a step that was made from one pc, and what holds of each record that is of it

pub seen_ok : (pc : ℕ) (C : Retired → Type 0) → ((r : Retired) → r.pc_rdata ≡ pc → is_step r ≡ true → C r)
    → (answer : StepAnswer) → answer ≡ Ok tt → (p : HartProfile) (n : ℕ) (s t : Hart) (r : Retired) → p.compressed ≡ false → s.state.pc ≡ pc → HartStep p s t answer
    → HartRetires p n s t answer r → C r
seen_ok pc C counted answer is p n s t r words at step retires =
    let P : StepAnswer → Type 0 = λ a. HartStep p s t a in
    let Q : StepAnswer → Type 0 = λ a. HartRetires p n s t a r in
    counted r (retires.pc_before ∙ at) (ok_is_step p n s t r words (subst P is step) (subst Q is retires))

pub seen_call : (pc : ℕ) (bytes : ByteMap) (C : Retired → Type 0) → ((r : Retired) → r.pc_rdata ≡ pc → is_step r ≡ true → C r)
    → (answer : StepAnswer) (e : InstructionException) → answer ≡ Err e → word_of bytes pc ≡ Some ecall
    → (p : HartProfile) (n : ℕ) (s t : Hart) (r : Retired) → p.compressed ≡ false → s.state.pc ≡ pc → t.state.bytes ≡ bytes → HartStep p s t answer
    → HartRetires p n s t answer r → C r
seen_call pc bytes C counted answer e is call p n s t r words at same step retires =
    let P : StepAnswer → Type 0 = λ a. HartStep p s t a in
    let Q : StepAnswer → Type 0 = λ a. HartRetires p n s t a r in
    counted r (retires.pc_before ∙ at)
    (call_is_step p n s t e r words (subst Q is retires) (word_there p s t e pc bytes (subst P is step) at same ∙ call))

pub seen_fault : (pc : ℕ) (bytes : ByteMap) (c : Coverage)
    → (answer : StepAnswer) (e : InstructionException) → answer ≡ Err e → word_of bytes pc ≢ Some ecall
    → (p : HartProfile) (n : ℕ) (s t : Hart) (r : Retired) → p.compressed ≡ false → s.state.pc ≡ pc → t.state.bytes ≡ bytes → HartStep p s t answer
    → HartRetires p n s t answer r → Counts c r c
seen_fault pc bytes c answer e is other p n s t r words at same step retires =
    let P : StepAnswer → Type 0 = λ a. HartStep p s t a in
    let Q : StepAnswer → Type 0 = λ a. HartRetires p n s t a r in
    counts_none c r
    (fault_is_none p n s t e r words (subst Q is retires) (λ call. other (sym (word_there p s t e pc bytes (subst P is step) at same) ∙ call)))
