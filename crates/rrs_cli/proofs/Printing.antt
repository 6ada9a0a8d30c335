-- Texts that are written one after another.
use Rattle.std.proofs.Common.{◌≡◌, ℕ, ◌+◌, ◌-◌, ◌≤◌, List, length, length-drop, arith, ◌∙◌, [], ◌++◌, take, drop, Option, sym, ap, subst, Result, OnOk, IfErr, append-nil, take-append-drop}
use Rattle.std.proofs.lemmas.List.{take_rest}
use Rattle.std.proofs.lemmas.Result.{on_ok_weaker, IfErr-weaker}
use Rattle.std.proofs.Math.Seq.{take-add}
use Rattle.std.specs.Io.KnownBytes.{Appends, Keeps}
use Rattle.std.proofs.KnownBytes.{Appends-trans, Appends-kept}
use Rattle.rrs_lib.specs.Machine.{State}
use Rattle.rrs_cli.specs.Printed.{AppendsLines, IsBeginning}
use Rattle.rrs_cli.specs.declared.fault.RunFault.{RunFault}
use Rattle.rrs_cli.specs.declared.fault.RunFault.TheVariants.{Output}
use Rattle.rrs_cli.specs.Faults.{StopsPrinting}
use Rattle.rrs_cli.specs.Texts.{register_lines, pc_line, hart_lines}
use Rattle.rrs_cli.proofs.Printed.{stops_weaker}

pub ruleset appending = Appends-trans

-- all registers, and then the program counter
pub hart_lines-printed : {E : Type 0} (a b c : Option (List ℕ)) (s : State) (n : ℕ) (r : Result (Unit {0}) E) → n ≡ 32 → Appends a b (register_lines s n) → OnOk r (Appends b c (pc_line s.pc)) → OnOk r (Appends a c (hart_lines s))
hart_lines-printed a b c s n r e first second =
    on_ok_weaker r (Appends-trans a b c _ _ (subst (λ k. Appends a b (register_lines s k)) e first)) second

-- a front of a text was written
pub text_begun : (text : List ℕ) (n : ℕ) (a b : Option (List ℕ)) → Appends a b (take n text) → AppendsLines (IsBeginning (λ lines. lines ≡ text)) a b
text_begun text n a b written = record { lines = take n text; are_lines = (drop n text, take-append-drop n text); appended = written }

-- no byte more was written
pub nothing_written : (a b c : Option (List ℕ)) (xs ys : List ℕ) (k : ℕ) → k ≡ 0 → Appends a b xs → Appends b c (take k ys) → Appends a c xs
nothing_written a b c xs ys k none first second =
    let last : Appends b c [] = subst (λ n. Appends b c (take n ys)) none second in
    subst (Appends a c) (append-nil xs) (Appends-trans a b c xs [] first last)

-- one more piece of a text was written
pub piece_written : (text : List ℕ) (n k m : ℕ) (a b c : Option (List ℕ)) → m ≡ n + k → Appends a b (take n text) → Appends b c (take k (take (length text - n) (drop n text))) → Appends a c (take m text)
piece_written text n k m a b c e first second =
    let joined : take n text ++ take k (take (length text - n) (drop n text)) ≡ take m text =
    ap (λ l. take n text ++ take k l) (take_rest text n) ∙ sym (take-add n k text) ∙ ap (λ i. take i text) (sym e) in
    subst (Appends a c) joined (Appends-trans a b c _ _ first second)

pub piece_within : (text : List ℕ) (n k m : ℕ) → m ≡ n + k → n ≤ length text → k ≤ length (take (length text - n) (drop n text)) → m ≤ length text
piece_within text n k m e within more =
    let shorter : k ≤ length (drop n text) = subst (λ l. k ≤ length l) (take_rest text n) more in
    omega (arith, length-drop n text)

-- a write was interrupted, and no byte was written
pub none_written : (text : List ℕ) (n m : ℕ) (a b c : Option (List ℕ)) → m ≡ n → Appends a b (take n text) → Keeps b c → Appends a c (take m text)
none_written text n m a b c e first kept = subst (λ i. Appends a c (take i text)) (sym e) (Appends-kept a b c _ first kept)

-- a text could not be written
pub stopped_in_text : (text ending : List ℕ) (a c : Option (List ℕ)) (fault : RunFault) → text ≡ ending → StopsPrinting (λ _. ⊥) (λ lines. lines ≡ text) a c fault → StopsPrinting (λ lines. lines ≡ []) (λ lines. lines ≡ ending) a c fault
stopped_in_text text ending a c fault made p =
    stops_weaker (λ _. ⊥) (λ lines. lines ≡ []) (λ lines. lines ≡ text) (λ lines. lines ≡ ending) a c fault
    (λ lines never. absurd never) (λ lines e. e ∙ made) p

-- a text was written, and the flush failed
pub stopped_in_flush : (P : List ℕ → Type 0) (text : List ℕ) (a d : Option (List ℕ)) (r : Result (Unit {0}) RunFault) → IfErr r (λ fault. fault ≡ Output) → Appends a d text → IfErr r (StopsPrinting P (λ lines. lines ≡ text) a d)
stopped_in_flush P text a d r e written =
    IfErr-weaker r _ _ (λ fault is. subst (StopsPrinting P (λ lines. lines ≡ text) a d) (sym is) (record { lines = text; are_lines = ([], append-nil text); appended = written })) e
