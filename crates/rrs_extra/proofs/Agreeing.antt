-- A step depends on the state without the register that was written last, so from states that agree
-- the same steps lead.
use Rattle.std.proofs.Common.{◌≡◌, ℕ, zero, suc, ◌≤◌, List, [], ◌∷◌, length, replicate, Option, Some, None, Ok, Err, refl, sym, subst, ap, ◌∙◌, arith}
use Rattle.rrs_lib.specs.declared.instruction_executor.InstructionException.{InstructionException}
use Rattle.rrs_lib.specs.declared.instruction_executor.RunEnd.{RunEnd}
use Rattle.rrs_lib.specs.Machine.{State}
use Rattle.rrs_lib.specs.Steps.{Step, StepAnswer, Misaligned, Unmapped, Illegal, Legal, Run, RunUntil, IsOnlyRun, IsOnlyRunUntil}
use Rattle.rrs_extra.specs.Agreement.{Agree}

-- ---- one step

-- a step is one from the state in which any register was written last, or none
step_of_last : (s t : State) (last : Option ℕ) (a : StepAnswer) → Step s t a → Step (record s { last = last }) t a
step_of_last s t last a (Misaligned odd same answers) = Misaligned odd same answers
step_of_last s t last a (Unmapped aligned read same answers) = Unmapped aligned read same answers
step_of_last s t last a (Illegal w aligned read outside same answers) = Illegal w aligned read outside same answers
step_of_last s t last a (Legal w row f u b aligned read is executes after answers) = Legal w row f u b aligned read is executes after answers

-- what a step does from one of two states that agree it does from the other
pub Step-agree : (s s' t : State) (a : StepAnswer) → Agree s s' → Step s' t a → Step s t a
Step-agree s s' t a agree step =
    let same : s' ≡ record s { last = s'.last } = λ i. record { registers = sym agree.registers i; pc = sym agree.pc i; last = s'.last; bytes = sym agree.bytes i; writable = sym agree.writable i } in
    step_of_last (record s { last = s'.last }) t s.last a (subst (λ x. Step x t a) same step)

-- ---- runs of a number of steps

-- a run of at least one step is one from each state that agrees
pub Run-agree : (s s' t : State) (a : StepAnswer) (answers : List StepAnswer) → Agree s s' → Run s' (a ∷ answers) t → Run s (a ∷ answers) t
Run-agree s s' t a answers agree run = (run.0, Step-agree s s' run.0 a agree run.1, run.2)

-- what two runs leave: states that agree, and after at least one step equal ones
pub record EndAlike (n : ℕ) (t t' : State) : Type 0 where
  pub agree : Agree t t'
  pub same : 1 ≤ n → t ≡ t'

-- by equal states
alike_from_same : (n : ℕ) (t t' : State) → t ≡ t' → EndAlike n t t'
alike_from_same n t t' same = record {
  agree = record {
    registers = ap (λ (x : State). x.registers) same;
    pc = ap (λ (x : State). x.pc) same;
    bytes = ap (λ (x : State). x.bytes) same;
    writable = ap (λ (x : State). x.writable) same;
  };
  same = λ some. same;
}

-- by the states before, where nothing was done
alike_from_none : (s s' t t' : State) → Agree s s' → t ≡ s → t' ≡ s' → EndAlike 0 t t'
alike_from_none s s' t t' agree first second = record {
  agree = subst (λ (x : State). Agree t x) (sym second) (subst (λ (x : State). Agree x s') (sym first) agree);
  same = λ some. absurd (omega arith);
}

-- runs of one length from states that agree have the same answers
pub Runs-agree : (s s' t t' : State) (answers answers' : List StepAnswer) → length answers' ≡ length answers → Agree s s' → Run s answers t → IsOnlyRun s answers t → Run s' answers' t' → (answers ≡ answers') × EndAlike (length answers) t t'
Runs-agree s s' t t' [] [] e agree run only run' = (refl, alike_from_none s s' t t' agree run run')
Runs-agree s s' t t' (a ∷ answers) [] e agree run only run' = absurd (omega (arith, e))
Runs-agree s s' t t' answers (a' ∷ answers') e agree run only run' =
    let same = only (a' ∷ answers') t' e (Run-agree s s' t' a' answers' agree run') in
    (sym same.0, alike_from_same (length answers) t t' (sym same.1))

-- ---- runs until a limit or a fault

-- to a limit of at least 1
RunUntil-agree : (limit : ℕ) (s s' : State) (steps : ℕ) (e : Option InstructionException) (t : State) → 1 ≤ limit → Agree s s' → RunUntil limit s' steps e t → RunUntil limit s steps e t
RunUntil-agree limit s s' zero None t some agree run = absurd (omega (arith, some, run.0))
RunUntil-agree limit s s' (suc steps) None t some agree run =
    (run.0, Run-agree s s' t (Ok tt) (replicate steps (Ok tt)) agree run.1)
RunUntil-agree limit s s' zero (Some e) t some agree run =
    (run.0, (s, refl, Step-agree s s' t (Err e) agree (subst (λ (x : State). Step x t (Err e)) run.1.1 run.1.2)))
RunUntil-agree limit s s' (suc steps) (Some e) t some agree run =
    (run.0, (run.1.0, Run-agree s s' run.1.0 (Ok tt) (replicate steps (Ok tt)) agree run.1.1, run.1.2))

-- with limit 0 nothing is done
RunUntil-none : (s : State) (steps : ℕ) (e : Option InstructionException) (t : State) → RunUntil 0 s steps e t → (steps ≡ 0) × (e ≡ None) × (t ≡ s)
RunUntil-none s zero None t run = (refl, refl, run.1)
RunUntil-none s (suc steps) None t run = absurd (omega (arith, run.0))
RunUntil-none s steps (Some e) t run = absurd (omega (arith, run.0))

-- runs to one limit from states that agree end alike
pub RunsUntil-agree : (limit : ℕ) (s s' t t' : State) (steps steps' : ℕ) (e e' : Option InstructionException) → Agree s s' → RunUntil limit s steps e t → IsOnlyRunUntil limit s steps e t → RunUntil limit s' steps' e' t' → (steps ≡ steps') × (e ≡ e') × EndAlike limit t t'
RunsUntil-agree zero s s' t t' steps steps' e e' agree run only run' =
    let first = RunUntil-none s steps e t run in
    let second = RunUntil-none s' steps' e' t' run' in
    (first.0 ∙ sym second.0, first.1 ∙ sym second.1, alike_from_none s s' t t' agree first.2 second.2)
RunsUntil-agree (suc limit) s s' t t' steps steps' e e' agree run only run' =
    let same = only steps' e' t' (RunUntil-agree (suc limit) s s' steps' e' t' (omega arith) agree run') in
    (sym same.0, sym same.1, alike_from_same (suc limit) t t' (sym same.2))

-- ends of a run that are equal in both parts
pub same_end : (x y : RunEnd) → x.steps ≡ y.steps → x.exception ≡ y.exception → x ≡ y
same_end x y steps exception =
    let end : ℕ → Option InstructionException → RunEnd = λ k e. record { steps = k; exception = e } in
    ap (λ k. end k x.exception) steps ∙ ap (end y.steps) exception
