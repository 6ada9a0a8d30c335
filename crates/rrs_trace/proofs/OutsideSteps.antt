-- An access that is made outside of the machine: what an action does where the memory answers so, and its step.
use Rattle.std.proofs.Common.{◌≡◌, ℕ, zero, suc, ◌%◌, ◌==◌, ℤ, List, [], ◌∷◌, ◌++◌, Bool, true, false, if◌then◌else◌, Option, Some, None, option_map, Ok, Err, refl, sym, ap, subst, ◌∙◌, eq-eqb, IsSomeAnd}
use Rattle.std.proofs.lemmas.Option.{none-some, same_Some}
use Rattle.std.proofs.lemmas.Bool.{cond-true, eqb-true, false≢true, true≢false}
use Rattle.rrs_lib.specs.declared.MemAccessSize.{MemAccessSize}
use Rattle.rrs_lib.specs.declared.MemAccessSize.TheVariants.{Word}
use Rattle.rrs_lib.specs.declared.HartState.{HartState}
use Rattle.rrs_lib.specs.declared.instruction_executor.InstructionException.{InstructionException}
use Rattle.rrs_lib.specs.declared.instruction_executor.InstructionException.TheVariants.{IllegalInstruction, AlignmentFault, StoreAccessFault}
use Rattle.rrs_instruction.specs.declared.instruction_formats.IType.{IType}
use Rattle.rrs_instruction.specs.declared.instruction_formats.SType.{SType}
use Rattle.rrs_lib.specs.declared.instruction.Instruction.{Instruction}
use Rattle.rrs_lib.specs.Instructions.{row_of, fields_of, IsInstruction}
use Rattle.rrs_lib.specs.Encodings.{Fields, R, I, IShamt, S, B, U, J}
use Rattle.rrs_lib.specs.Table.{Row, table, Decodes, IsIllegal, Action, OnRegisters, OnImmediate, OnShamt, LoadUpper, AddUpperToPc, BranchIf, BranchUnless, Load, Store, JumpAndLink, JumpAndLinkRegister, NoEffect, CallEnvironment, Break}
use Rattle.rrs_lib.specs.Bytes.{ByteMap, width, little_endian, all_writable}
use Rattle.rrs_lib.specs.Machine.{State, execute, state_of, hart_of, reg, put, plus_immediate, Answer, Outcome, outcome, branch_outcome, fault_outcome, load_outcome, read_outcome, store_outcome, granted_outcome, outcome_by}
use Rattle.rrs_lib.specs.Engines.{GoesOn, gone_on, if_gone_on}
use Rattle.rrs_lib.specs.Steps.{Step, StepAnswer, next_word, Misaligned, Unmapped, Illegal, Legal, cleared, advanced, answered}
use Rattle.rrs_lib.specs.Accesses.{Access, AccessesOf, fetch, read_if_aligned, accesses_by, size_of}
use Rattle.rrs_lib.proofs.Rows.{one_row_at_most, these}
use Rattle.rrs_lib.proofs.ComputedSteps.{step_of-is_step}
use Rattle.rrs_lib.proofs.Keeping.{same_reg, address-cleared}
use Rattle.rrs_lib.proofs.Making.{AccessesOf-unique, accesses_of_legal, accesses_of_illegal}
use Rattle.rrs_trace.specs.declared.outside.DataRequest.{DataRequest}
use Rattle.rrs_trace.specs.Outside.{RequestAnswer, requested, Foretells, WithEachMemory, AccessesAfterFetch, Completes, AnsweredBy, bytes_after, request_by, call_fault, answer_to, answer_by, loaded, is_load, outcome_given, GoesTo, FindsAccess, GoesBehind, Asks, Performs, StepsAlone}

-- ---- an action that accesses nothing, over another memory

abbrev over : ByteMap → (ℕ → Bool) → State → State
over bytes writable s = record s { bytes = bytes; writable = writable }

abbrev over_outcome : ByteMap → (ℕ → Bool) → Outcome → Outcome
over_outcome bytes writable o = outcome (over bytes writable o.after) o.answer

abbrev answer_in : Option Outcome → StepAnswer
answer_in None = Ok tt
answer_in (Some o) = answered o.answer

-- over another memory it leaves the same, and it is no exception
abbrev Plain : ByteMap → (ℕ → Bool) → Option Outcome → Option Outcome → Type 0
Plain b w o o' = (o ≡ option_map (over_outcome b w) o') × (answer_in o' ≡ Ok tt)

put-over : (b : ByteMap) (w : ℕ → Bool) (s : State) (rd : ℕ) (z : ℤ)
    → put (over b w s) rd z ≡ over b w (put s rd z)
put-over b w s zero z = refl
put-over b w s (suc r) z = refl

reg-over : (b : ByteMap) (w : ℕ → Bool) (s : State) (r : ℕ) → reg (over b w s) r ≡ reg s r
reg-over b w s zero = refl
reg-over b w s (suc r) = refl

branch-over : (b : ByteMap) (w : ℕ → Bool) (s : State) (t t' : Bool) (imm : ℤ) → t ≡ t'
    → Plain b w (Some (branch_outcome t imm (over b w s))) (Some (branch_outcome t' imm s))
branch-over b w s t true imm same = (ap (λ x. Some (branch_outcome x imm (over b w s))) same, refl)
branch-over b w s t false imm same = (ap (λ x. Some (branch_outcome x imm (over b w s))) same, refl)

not_asked : (test : Bool) (r : DataRequest) (e : InstructionException) (P : Type 0)
    → (if test then Ok (Some r) else Err e) ≡ Ok None → P
not_asked true r e P h = cc
not_asked false r e P h = cc

plain : (action : Action) (f : Fields) (b : ByteMap) (w : ℕ → Bool) (s : State)
    → answer_by action f s ≡ Ok None
    → Plain b w (outcome_by action f (over b w s)) (outcome_by action f s)
plain (BranchIf test) (B f) b w s h = branch-over b w s _ _ f.imm (simp reg-over)
plain (BranchUnless test) (B f) b w s h = branch-over b w s _ _ f.imm (simp reg-over)
plain (Load n extended) (I f) b w s h = not_asked _ _ _ _ h
plain (Store n) (S f) b w s h = not_asked _ _ _ _ h
plain CallEnvironment f b w s h = cc
plain Break f b w s h = cc
plain (OnRegisters op) (R f) b w s h = (simp (reg-over, put-over), refl)
plain (OnImmediate op) (I f) b w s h = (simp (reg-over, put-over), refl)
plain (OnShamt op) (IShamt f) b w s h = (simp (reg-over, put-over), refl)
plain LoadUpper (U f) b w s h = (simp put-over, refl)
plain AddUpperToPc (U f) b w s h = (simp put-over, refl)
plain JumpAndLink (J f) b w s h = (simp put-over, refl)
plain JumpAndLinkRegister (I f) b w s h = (simp (reg-over, put-over), refl)
plain NoEffect (I f) b w s h = (refl, refl)
plain _ _ b w s h = (refl, refl)

advanced-over : (b : ByteMap) (w : ℕ → Bool) (u : State) (a : Answer)
    → advanced (over b w u) a ≡ over b w (advanced u a)
advanced-over b w u (Ok true) = refl
advanced-over b w u (Ok false) = refl
advanced-over b w u (Err e) = refl

-- ---- an action whose access is answered

-- how many bytes an action accesses, if it does: a row accesses 1, 2 or 4
abbrev bytes_of : Action → ℕ
bytes_of (Load n extended) = n
bytes_of (Store n) = n
bytes_of _ = 4

abbrev SizeKnown : Action → Type 0
SizeKnown action = width (size_of (bytes_of action)) ≡ bytes_of action

row_size : (row : Row) → SizeKnown (table row).action
row_size Row.Lb = refl
row_size _ = refl

-- where the request is answered by what is given, the outcome is the one that was computed from it
abbrev Answers : Action → Fields → Option ℕ → State → RequestAnswer → Outcome → Type 0
Answers action f given s r o = AnsweredBy given (requested s r) → Some o ≡ outcome_given action f r
    given (over (bytes_after (requested s r) s.bytes) s.writable (cleared s))

load_at : (size : MemAccessSize) (extended : ℕ → ℤ) (f : IType) (a : ℕ) (given : Option ℕ)
    (s : State) (aligned : Bool) → Answers (Load (width size) extended) (I f) given s
    (if aligned then Ok (Some (DataRequest.Load a size)) else Err (AlignmentFault a))
    (if aligned
    then read_outcome extended f.rd a (cleared s) (little_endian s.bytes a (width size))
    else fault_outcome (AlignmentFault a) (cleared s))
load_at size extended f a given s false answers = refl
load_at size extended f a None s true answers = rw answers refl
load_at size extended f a (Some v) s true answers = rw answers refl

store_at : (size : MemAccessSize) (f : SType) (a value : ℕ) (given : Option ℕ) (s : State)
    (aligned granted : Bool) → granted ≡ all_writable s.writable a (width size)
    → Answers (Store (width size)) (S f) given s
    (if aligned then Ok (Some (DataRequest.Store a size value)) else Err (AlignmentFault a))
    (if aligned
    then (if granted then granted_outcome (width size) value a (cleared s)
    else fault_outcome (StoreAccessFault a) (cleared s))
    else fault_outcome (AlignmentFault a) (cleared s))
store_at size f a value given s false granted is answers = refl
store_at size f a value None s true false is answers = rw (← is) refl
store_at size f a value (Some v) s true true is answers = rw (← is) refl
store_at size f a value None s true true is answers = absurd (true≢false (is ∙ answers))
store_at size f a value (Some v) s true false is answers = absurd (false≢true (is ∙ answers))

answers_by : (action : Action) (f : Fields) (given : Option ℕ) (s : State) (o : Outcome)
    → SizeKnown action → outcome_by action f (cleared s) ≡ Some o
    → Answers action f given s (answer_by action f (cleared s)) o
answers_by (Load n extended) (I f) given s o known same =
    let asked = answer_by (Load n extended) (I f) (cleared s) in
    let address = plus_immediate (reg (cleared s) f.rs1) f.imm in
    let P : ℕ → Type 0 = λ m.
    Answers (Load m extended) (I f) given s asked (load_outcome m extended f.rd address (cleared s)) in
    subst (Answers (Load n extended) (I f) given s asked) (same_Some _ _ same)
    (subst P known (load_at _ extended f address given s _))
answers_by (Store n) (S f) given s o known same =
    let asked = answer_by (Store n) (S f) (cleared s) in
    let address = plus_immediate (reg (cleared s) f.rs1) f.imm in
    let value = reg (cleared s) f.rs2 in
    let P : ℕ → Type 0 = λ m. Answers (Store m) (S f) given s asked (store_outcome m value address (cleared s)) in
    subst (Answers (Store n) (S f) given s asked) (same_Some _ _ same)
    (subst P known (store_at _ f address value given s _ _ refl))
answers_by CallEnvironment (I f) given s o known same = λ answers. sym same
answers_by Break (I f) given s o known same = λ answers. sym same
answers_by CallEnvironment _ given s o known same = absurd (none-some _ same)
answers_by Break _ given s o known same = absurd (none-some _ same)
answers_by _ _ given s o known same = λ answers. sym same

-- ---- what a hart is left as

pub performs_alone : (row : Row) (f : Fields) (given : Option ℕ) (old new : HartState)
    (r : RequestAnswer) (answer : StepAnswer) → Asks row f old r → r ≡ Ok None
    → StepsAlone row f (state_of old (λ a. None) (λ a. false))
    (state_of new (λ a. None) (λ a. false)) answer
    → Performs row f given old new answer
performs_alone row f given old new r answer asks is alone = record {
  request = Ok None;
  asks = subst (Asks row f old) is asks;
  performs = λ bytes writable.
      let none = sym (asks.asks (λ a. None) (λ a. false)) ∙ is in
      let moved = (plain (table row).action f bytes writable (state_of old (λ a. None) (λ a. false)) none).0
      ∙ ap (option_map (over_outcome bytes writable)) alone.executes in
      let goes = ap (over bytes writable) alone.goes ∙ sym (advanced-over bytes writable alone.after alone.set) in
      subst (GoesTo (state_of new bytes writable) answer) (sym moved) (goes, alone.answers);
}

-- an instruction that was gone on from
gone_from : (o : Option Outcome) (row : Row) (f : Fields) (s t : State) (a : Answer)
    → execute row f s ≡ o → if_gone_on o ≡ Some (outcome t a) → StepsAlone row f s t (answered a)
unfolding gone_on
gone_from None row f s t a is goes = absurd (none-some _ goes)
gone_from (Some o) row f s t a is goes =
    let same : outcome (advanced o.after o.answer) o.answer ≡ outcome t a = same_Some _ _ goes in
    record {
      after = o.after;
      set = o.answer;
      executes = is;
      goes = ap (λ (x : Outcome). x.after) (sym same);
      answers = ap (λ (x : Outcome). answered x.answer) (sym same);
    }

pub gone_alone : (row : Row) (f : Fields) (s u t v : State) (a : Answer) (answer : StepAnswer)
    → GoesOn row f u v a → answer ≡ answered a → u ≡ s → t ≡ v → StepsAlone row f s t answer
gone_alone row f s u t v a answer goes is before after =
    subst (λ x. x) (λ i. StepsAlone row f (before i) (sym after i) (sym is i)) (gone_from _ row f u v a refl goes)

-- ---- the step

-- a row that is decoded there has an outcome
legal_by : (s t : State) (answer : StepAnswer) (w : ℕ) (row : Row) (f : Fields) → Step s t answer
    → s.pc % 4 ≡ 0 → little_endian s.bytes s.pc 4 ≡ Some w → Decodes w row f
    → (o : Outcome) × (execute row f (cleared s) ≡ Some o)
legal_by s t answer w row f (Misaligned odd same is) aligned read decodes = absurd (odd aligned)
legal_by s t answer w row f (Unmapped _ none same is) aligned read decodes =
    absurd (none-some _ (sym none ∙ read))
legal_by s t answer w row f (Illegal w' _ read' outside same is) aligned read decodes =
    absurd (subst IsIllegal (same_Some _ _ (sym read' ∙ read)) outside row f decodes)
legal_by s t answer w row f (Legal w' row' f' u a _ read' is executes _ _) aligned read decodes =
    let P : Row → Fields → Type 0 = λ x y. (o : Outcome) × (execute x y (cleared s) ≡ Some o) in
    let is' = subst (λ (x : ℕ). Decodes x row' f') (same_Some _ _ (sym read' ∙ read)) is in
    these P w row f (record { row = row'; fields = f'; is = is'; holds = (outcome u a, executes) }) decodes

-- the list of the fetch, by what the program counter is
fetch_aligned : (s : State) (accesses : List Access) → s.pc % 4 ≡ 0
    → read_if_aligned s s.pc Word ++ accesses ≡ fetch s ∷ accesses
fetch_aligned s accesses aligned = rw aligned refl

-- what is accessed after the fetch
after_fetch : (s : State) (accesses later : List Access) → s.pc % 4 ≡ 0
    → AccessesAfterFetch s accesses → AccessesOf s (fetch s ∷ later) → accesses ≡ later
after_fetch s accesses later aligned are known =
    let same = sym (fetch_aligned s accesses aligned)
    ∙ AccessesOf-unique one_row_at_most s _ _ are known in
    let heads : fetch s ∷ accesses ≡ fetch s ∷ later = same in
    cc

-- ---- asked

choice_asked : (aligned : Bool) (access : Access) (s : State) (q : DataRequest)
    (e : InstructionException) → requested s (Ok (Some q)) ≡ access ∷ []
    → (if aligned then access ∷ [] else []) ≡ requested s (if aligned then Ok (Some q) else Err e)
choice_asked true access s q e same = sym same
choice_asked false access s q e same = refl

-- what a row asks, by the state without the register that was written last
asked_by : (action : Action) (f : Fields) (s : State)
    → accesses_by action f (cleared s) ≡ requested s (answer_by action f (cleared s))
asked_by (Load n extended) (I f) s = choice_asked _ _ s _ _ refl
asked_by (Store n) (S f) s = choice_asked _ _ s _ _ refl
asked_by _ _ s = refl

asked : (s : State) (w : ℕ) (row : Row) (f : Fields) (r : RequestAnswer) → s.pc % 4 ≡ 0
    → little_endian s.bytes s.pc 4 ≡ Some w → Decodes w row f
    → r ≡ answer_by (table row).action f (cleared s) → AccessesOf s (fetch s ∷ requested s r)
asked s w row f r aligned read decodes is =
    let same = asked_by (table row).action f s ∙ ap (requested s) (sym is) in
    subst (λ (xs : List Access). AccessesOf s (fetch s ∷ xs)) same
    (accesses_of_legal s (cleared s) w row f aligned read refl decodes)

-- the register that was written last is nothing to it
request_by-cleared : (action : Action) (f : Fields) (s : State)
    → request_by action f s ≡ request_by action f (cleared s)
request_by-cleared (Load n extended) (I f) s = simp (sym (address-cleared s f.rs1 f.imm))
request_by-cleared (Store n) (S f) s =
    simp (sym (address-cleared s f.rs1 f.imm), sym (same_reg s (cleared s) f.rs2 refl))
request_by-cleared _ _ s = refl

asks_cleared : (hart : HartState) (row : Row) (f : Fields) (r : RequestAnswer) (bytes : ByteMap)
    (writable : ℕ → Bool) → Asks row f hart r
    → r ≡ answer_by (table row).action f (cleared (state_of hart bytes writable))
asks_cleared hart row f r bytes writable asks =
    asks.asks bytes writable
    ∙ ap (λ q. answer_to q (call_fault (table row).action hart.pc)) (request_by-cleared (table row).action f _)

pub requests_row : (hart : HartState) (w : ℕ) (row : Row) (f : Fields) (r : RequestAnswer)
    → hart.pc % 4 ≡ 0 → Decodes w row f → Asks row f hart r
    → WithEachMemory hart w (λ s. AccessesAfterFetch s (requested s r))
requests_row hart w row f r aligned decodes asks = λ bytes writable has.
    let s = state_of hart bytes writable in
    subst (AccessesOf s) (sym (fetch_aligned s (requested s r) aligned))
    (asked s w row f r aligned (has aligned) decodes (asks_cleared hart row f r bytes writable asks))

-- what an answer says of the outcome
foretold : (s : State) (w : ℕ) (row : Row) (f : Fields) (r : RequestAnswer) (o : Outcome)
    → s.pc % 4 ≡ 0 → little_endian s.bytes s.pc 4 ≡ Some w → Decodes w row f
    → execute row f (cleared s) ≡ Some o → r ≡ answer_by (table row).action f (cleared s)
    → Answers (table row).action f None s r o → Foretells s r
foretold s w row f (Ok None) o aligned read decodes executes is answers =
    let calm = (plain (table row).action f s.bytes s.writable (cleared s) (sym is)).1 in
    let ok : answered o.answer ≡ Ok tt = sym (ap answer_in executes) ∙ calm in
    (advanced o.after o.answer, Legal w row f o.after o.answer aligned read decodes executes refl (sym ok))
foretold s w row f (Ok (Some q)) o aligned read decodes executes is answers = tt
foretold s w row f (Err e) o aligned read decodes executes is answers =
    Legal w row f (cleared s) (Err e) aligned read decodes (executes ∙ answers tt) refl refl

pub foretells_row : (hart : HartState) (w : ℕ) (row : Row) (f : Fields) (r : RequestAnswer)
    → hart.pc % 4 ≡ 0 → Decodes w row f → Asks row f hart r
    → WithEachMemory hart w (λ s. Foretells s r)
foretells_row hart w row f r aligned decodes asks = λ bytes writable has.
    let s = state_of hart bytes writable in
    let l = legal_by s _ _ w row f (step_of-is_step s) aligned (has aligned) decodes in
    let is = asks_cleared hart row f r bytes writable asks in
    let answers = answers_by (table row).action f None s l.0 (row_size row) l.1 in
    foretold s w row f r l.0 aligned (has aligned) decodes l.1 is
    (subst (λ (x : RequestAnswer). Answers (table row).action f None s x l.0) (sym is) answers)

-- ---- completed

-- a hart that has written no register
abbrev pub without_last : HartState → HartState
without_last hart = record hart { last_register_write = None }

pub completes_illegal : (old : HartState) (w : ℕ) (given : Option ℕ) → old.pc % 4 ≡ 0
    → IsIllegal w → Completes old (without_last old) w given (Err (IllegalInstruction old.pc w))
completes_illegal old w given aligned outside = λ bytes writable has accesses are answers.
    let s = state_of old bytes writable in
    let none = after_fetch s accesses [] aligned are (accesses_of_illegal s w aligned (has aligned) outside) in
    Illegal w aligned (has aligned) outside
    (ap (λ xs. state_of (without_last old) (bytes_after xs bytes) writable) none) refl

pub completes_refused : (registers : List ℕ) (pc pc' w : ℕ) (last last' : Option ℕ) (given : Option ℕ)
    (answer : StepAnswer) → answer ≡ Err (IllegalInstruction pc w) → pc' ≡ pc → last' ≡ None
    → pc % 4 ≡ 0 → IsIllegal w → Completes (hart_of registers pc last) (hart_of registers pc' last') w given answer
completes_refused registers pc pc' w last last' given answer is same none aligned outside =
    let before = hart_of registers pc last in
    subst (λ x. x) (λ i. Completes before (hart_of registers (sym same i) (sym none i)) w given (sym is i))
    (completes_illegal before w given aligned outside)

pub completes_row : (old new : HartState) (w : ℕ) (row : Row) (f : Fields) (given : Option ℕ)
    (answer : StepAnswer) → old.pc % 4 ≡ 0 → Decodes w row f
    → Performs row f given (without_last old) new answer → Completes old new w given answer
completes_row old new w row f given answer aligned decodes p = λ bytes writable has accesses are answers.
    let s = state_of old bytes writable in
    let read = has aligned in
    let l = legal_by s _ _ w row f (step_of-is_step s) aligned read decodes in
    let is = p.asks.asks bytes writable in
    let same = after_fetch s accesses _ aligned are (asked s w row f p.request aligned read decodes is) in
    let outcomes : Answers (table row).action f given s p.request l.0 =
    subst (λ (x : RequestAnswer). Answers (table row).action f given s x l.0) (sym is)
    (answers_by (table row).action f given s l.0 (row_size row) l.1) in
    let b = bytes_after (requested s p.request) bytes in
    let done : GoesTo (state_of new b writable) answer (Some l.0) =
    subst (GoesTo (state_of new b writable) answer)
    (sym (outcomes (subst (AnsweredBy given) same answers))) (p.performs b writable) in
    subst (λ (xs : List Access). Step s (state_of new (bytes_after xs bytes) writable) answer) (sym same)
    (Legal w row f l.0.after l.0.answer aligned read decodes l.1 done.0 done.1)

-- ---- a load or a store that was found

-- a choice that is a request was aligned
chosen : (even : Bool) (q r : DataRequest) (e : InstructionException)
    → (if even then Ok (Some q) else Err e) ≡ Ok (Some r) → (even ≡ true) × (q ≡ r)
chosen true q r e same = (refl, cc)
chosen false q r e same = cc

-- what asks is gone after
behind_by : (action : Action) (f : Fields) (s : State) (q : DataRequest) (w : ℕ) (row : Row) (v : ℕ)
    → SizeKnown action → (table row).action ≡ action → next_word s ≡ Some w → Decodes w row f
    → answer_by action f s ≡ Ok (Some q)
    → GoesBehind (is_load q) v s (advanced (loaded action f v (cleared s)) (Ok false))
behind_by (Load n extended) (I f) s q w row v known is fetched decoded asks =
    let found = chosen _ _ q _ asks in
    let P : DataRequest → Type 0 = λ x.
    GoesBehind (is_load x) v s (advanced (loaded (Load n extended) (I f) v (cleared s)) (Ok false)) in
    subst P found.1 record {
      w = w;
      row = row;
      fields = f;
      n = n;
      extended = extended;
      fetched = fetched;
      decoded = decoded;
      is_load = is;
      aligned = subst (λ m. plus_immediate (reg s f.rs1) f.imm % m ≡ 0) known (eqb-true _ _ found.0);
      after = refl;
    }
behind_by (Store n) (S f) s q w row v known is fetched decoded asks =
    let found = chosen _ _ q _ asks in
    subst (λ x. GoesBehind (is_load x) v s (advanced (cleared s) (Ok false))) found.1 record {
      w = w;
      row = row;
      fields = f;
      n = n;
      fetched = fetched;
      decoded = decoded;
      is_store = is;
      aligned = subst (λ m. plus_immediate (reg s f.rs1) f.imm % m ≡ 0) known (eqb-true _ _ found.0);
      after = refl;
    }
behind_by _ _ s q w row v known is fetched decoded asks = cc

-- what was found is at the program counter
record Found (s : State) (i : Instruction) (q : DataRequest) : Type 0 where
  w : ℕ
  fetched : next_word s ≡ Some w
  decoded : IsInstruction w i
  asks : answer_by (table (row_of i)).action (fields_of i) s ≡ Ok (Some q)

found_some : (s : State) (found : Option (Instruction × DataRequest)) (i : Instruction)
    (q : DataRequest) → FindsAccess s found → found ≡ Some (i, q) → Found s i q
found_some s None i q finds is = absurd (none-some _ is)
found_some s (Some x) i q finds is =
    let same = same_Some _ _ is in
    subst (λ (y : Instruction × DataRequest). Found s y.0 y.1) same (at (next_word s) refl finds.stands)
  where
    at : (o : Option ℕ) → next_word s ≡ o → IsSomeAnd o (λ w. IsInstruction w x.0) → Found s x.0 x.1
    at None is' holds = absurd holds
    at (Some w) is' holds = record { w = w; fetched = is'; decoded = holds; asks = finds.asks }

pub goes_behind : (v : ℕ) (s m t : State) (found : Option (Instruction × DataRequest))
    (i : Instruction) (q : DataRequest) (b : Bool) → FindsAccess s found → found ≡ Some (i, q)
    → is_load q ≡ b → m ≡ s
    → t ≡ advanced (loaded (table (row_of i)).action (fields_of i) v (cleared m)) (Ok false)
    → GoesBehind b v s t
goes_behind v s m t found i q b finds is kind kept after =
    let x = found_some s found i q finds is in
    let row = row_of i in
    let goes : State → State = λ y. advanced (loaded (table row).action (fields_of i) v (cleared y)) (Ok false) in
    subst (λ (y : Bool). GoesBehind y v s t) kind (subst (GoesBehind (is_load q) v s) (sym (after ∙ ap goes kept))
    (behind_by (table row).action (fields_of i) s q x.w row v (row_size row) refl x.fetched x.decoded x.asks))

-- what is gone after asks
record AskedFor (b : Bool) (s : State) : Type 0 where
  w : ℕ
  row : Row
  f : Fields
  request : DataRequest
  kind : is_load request ≡ b
  fetched : next_word s ≡ Some w
  decoded : Decodes w row f
  asks : answer_by (table row).action f s ≡ Ok (Some request)

aligned_asks : (action a : Action) (f : Fields) (s : State) (n address : ℕ) (q : DataRequest) (e : InstructionException)
    → action ≡ a → answer_by a f s ≡ (if address % width (size_of n) == 0 then Ok (Some q) else Err e)
    → width (size_of n) ≡ n → address % n ≡ 0 → answer_by action f s ≡ Ok (Some q)
aligned_asks action a f s n address q e is by known aligned =
    let even : address % width (size_of n) ≡ 0 = subst (λ m. address % m ≡ 0) (sym known) aligned in
    ap (λ x. answer_by x f s) is ∙ by ∙ cond-true (address % width (size_of n) == 0) _ _ (eq-eqb _ _ even)

asked_for : (b : Bool) (v : ℕ) (s t : State) → GoesBehind b v s t → AskedFor b s
asked_for true v s t g = record {
  w = g.w;
  row = g.row;
  f = I g.fields;
  kind = refl;
  fetched = g.fetched;
  decoded = g.decoded;
  request = DataRequest.Load (plus_immediate (reg s g.fields.rs1) g.fields.imm) (size_of g.n);
  asks = aligned_asks _ _ _ s g.n _ _ _ g.is_load refl (subst SizeKnown g.is_load (row_size g.row)) g.aligned;
}
asked_for false v s t g = record {
  w = g.w;
  row = g.row;
  f = S g.fields;
  kind = refl;
  fetched = g.fetched;
  decoded = g.decoded;
  request = DataRequest.Store (plus_immediate (reg s g.fields.rs1) g.fields.imm) (size_of g.n) (reg s g.fields.rs2);
  asks = aligned_asks _ _ _ s g.n _ _ _ g.is_store refl (subst SizeKnown g.is_store (row_size g.row)) g.aligned;
}

pub none_behind : (b : Bool) (v : ℕ) (s : State) (found : Option (Instruction × DataRequest))
    → FindsAccess s found → found ≡ None → (t : State) → ¬ GoesBehind b v s t
none_behind b v s found finds is t g =
    let a = asked_for b v s t g in
    finds.none a.w a.row a.f a.request is a.fetched a.decoded a.asks
