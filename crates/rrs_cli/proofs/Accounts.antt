-- Accounts of runs, put together from what is printed before each step.
use Rattle.std.proofs.Common.{◌≡◌, ℕ, ◌+◌, ◌<◌, List, [], ◌++◌, Option, Some, Ok, Err, refl, sym, ap, ◌∙◌, subst, add-one, append_assoc, append-nil, inl, inr}
use Rattle.std.specs.Io.KnownBytes.{Appends}
use Rattle.std.proofs.KnownBytes.{Appends-trans}
use Rattle.rrs_lib.specs.declared.instruction_executor.InstructionException.{InstructionException}
use Rattle.rrs_lib.specs.Machine.{State}
use Rattle.rrs_lib.specs.Steps.{Step, next_word}
use Rattle.rrs_cli.specs.declared.fault.RunFault.{RunFault}
use Rattle.rrs_cli.specs.declared.fault.RunFault.TheVariants.{OutOfMemory, Output}
use Rattle.rrs_cli.specs.Texts.{ending_lines}
use Rattle.rrs_cli.specs.Faults.{StopsPrinting}
use Rattle.rrs_cli.specs.Printed.{AppendsLines, IsBeginning}
use Rattle.rrs_cli.specs.Account.{LinesOfWord, LinesOfAny, LinesBefore, PrintsOk, PrintsUntil, PrintsRun, PrintsToNext, PartOfAccount, AccountOf}
use Rattle.rrs_cli.proofs.Printed.{appends_after, stops_weaker}

-- ---- the lines before a step

-- what is printed of the next word is what is printed before the step
pub next_lines : (s : State) (pc w : ℕ) (lines : List ℕ) → pc ≡ s.pc → Some w ≡ next_word s → LinesOfWord pc w lines → LinesBefore s lines
next_lines s pc w lines at_pc at_word p =
    let P : ℕ → Type 0 = λ n. LinesOfWord n w lines in
    let Q : Option ℕ → Type 0 = λ o. LinesOfAny s.pc o lines in
    subst Q at_word (subst P at_pc p)

-- one more step that is Ok
pub one_more_printed : (n : ℕ) (s m t : State) (a b c : Option (List ℕ)) → AppendsLines (PrintsOk n s m) a b → AppendsLines (LinesBefore m) b c → Step m t (Ok tt) → AppendsLines (PrintsOk (n + 1) s t) a c
one_more_printed n s m t a b c first last step =
    appends_after (PrintsOk n s m) (LinesBefore m) (PrintsOk (n + 1) s t) a b c
    (λ xs ys p q. let P : ℕ → Type 0 = λ k. PrintsOk k s t (xs ++ ys) in subst P (sym (add-one n)) (m, xs, ys, p, q, step, refl))
    first last

-- the step that raises an exception
pub fault_printed : (limit n : ℕ) (s m t : State) (e : InstructionException) (a b c : Option (List ℕ)) → n < limit → AppendsLines (PrintsOk n s m) a b → AppendsLines (LinesBefore m) b c → Step m t (Err e) → AppendsLines (PrintsUntil limit s n (Some e) t) a c
fault_printed limit n s m t e a b c below first last step =
    appends_after (PrintsOk n s m) (LinesBefore m) (PrintsUntil limit s n (Some e) t) a b c
    (λ xs ys p q. (below, (m, xs, ys, p, q, step, refl))) first last

-- the lines before the next step could not be printed
pub stopped_before : (limit n : ℕ) (s m : State) (a b c : Option (List ℕ)) (fault : RunFault) → n < limit → AppendsLines (PrintsOk n s m) a b → StopsPrinting (λ _. ⊥) (LinesBefore m) b c fault → StopsPrinting (λ _. ⊥) (PrintsToNext limit s) a c fault
stopped_before limit n s m a b c OutOfMemory below first last = absurd last.are_lines
stopped_before limit n s m a b c Output below first last =
    appends_after (PrintsOk n s m) (IsBeginning (LinesBefore m)) (IsBeginning (PrintsToNext limit s)) a b c
    (λ xs ys p begun. (begun.0, (n, m, xs, ys ++ begun.0, below, p, begun.1, append_assoc xs ys begun.0)))
    first last
stopped_before limit n s m a b c _ below first last = last

-- ---- the lines before the steps, and then the ending

-- these and the ending
with_ending : (limit : ℕ) (s : State) (steps : ℕ) (exception : Option InstructionException) (end : State) (xs ys : List ℕ) → PrintsUntil limit s steps exception end xs → ys ≡ ending_lines steps exception end → AccountOf limit s (xs ++ ys)
with_ending limit s steps exception end xs ys p e =
    record { steps = steps; exception = exception; end = end; trace = xs; prints = p; whole = ap (λ l. xs ++ l) e }

-- the steps were stopped
pub stopped_in_steps : (limit : ℕ) (s : State) (a b : Option (List ℕ)) (fault : RunFault) → StopsPrinting (λ _. ⊥) (PrintsToNext limit s) a b fault → StopsPrinting (PrintsRun limit s) (PartOfAccount limit s) a b fault
stopped_in_steps limit s a b fault p =
    stops_weaker (λ _. ⊥) (PrintsRun limit s) (PrintsToNext limit s) (PartOfAccount limit s) a b fault
    (λ lines never. absurd never) (λ lines part. inl part) p

-- the ending could not be printed
pub stopped_in_ending : (limit : ℕ) (s : State) (steps : ℕ) (exception : Option InstructionException) (end : State) (a b c : Option (List ℕ)) (fault : RunFault) → AppendsLines (PrintsUntil limit s steps exception end) a b → StopsPrinting (λ lines. lines ≡ []) (λ lines. lines ≡ ending_lines steps exception end) b c fault → StopsPrinting (PrintsRun limit s) (PartOfAccount limit s) a c fault
stopped_in_ending limit s steps exception end a b c OutOfMemory p q =
    appends_after _ _ (PrintsRun limit s) a b c
    (λ xs ys made none. (steps, exception, end, subst (PrintsUntil limit s steps exception end) (sym (ap (λ l. xs ++ l) none ∙ append-nil xs)) made))
    p q
stopped_in_ending limit s steps exception end a b c Output p q =
    appends_after _ _ (IsBeginning (PartOfAccount limit s)) a b c
    (λ xs ys made begun. (begun.0, inr (subst (AccountOf limit s) (sym (append_assoc xs ys begun.0)) (with_ending limit s steps exception end xs (ys ++ begun.0) made begun.1))))
    p q
stopped_in_ending limit s steps exception end a b c _ p q = absurd q

-- the whole account
pub whole_printed : (limit : ℕ) (s : State) (steps : ℕ) (exception : Option InstructionException) (end : State) (a b c : Option (List ℕ)) → AppendsLines (PrintsUntil limit s steps exception end) a b → Appends b c (ending_lines steps exception end) → AppendsLines (AccountOf limit s) a c
whole_printed limit s steps exception end a b c p q = record {
  lines = p.lines ++ ending_lines steps exception end;
  are_lines = with_ending limit s steps exception end p.lines _ p.are_lines refl;
  appended = Appends-trans a b c p.lines _ p.appended q;
}
