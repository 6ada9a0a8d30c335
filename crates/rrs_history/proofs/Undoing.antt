-- What a step changed, taken back, is the state before it.
use Rattle.std.proofs.Common.{◌≡◌, ◌≢◌, ℕ, zero, suc, ◌<◌, inl, inr, true, if◌then◌else◌, Option, Some, None, List, [], ◌∷◌, drop, length, slice_index, slice_set, refl, sym, ap, ◌∙◌, arith}
use Rattle.std.proofs.lemmas.List.{ext_get_or, get_or-set_same, get_or-set_other, length-set}
use Rattle.std.proofs.lemmas.Bool.{cases_eq}
use Rattle.std.proofs.lemmas.Option.{same_Some}
use Rattle.rrs_lib.specs.Machine.{State}
use Rattle.rrs_lib.specs.Steps.{Step, StepAnswer, ChangesLittle, LastIsRegister}
use Rattle.rrs_lib.proofs.Keeping.{Step-little, Step-last}
use Rattle.rrs_history.specs.declared.change.Change.{Change}
use Rattle.rrs_history.specs.declared.recorder.Recorded.{Recorded}
use Rattle.rrs_history.specs.Changes.{put_back, stored_back, last_before, undone, number_in, value_in}
use Rattle.rrs_history.specs.Noting.{AreReplaced}

-- the entries after the first one
pub dropped : (xs : List ℕ) (r : ℕ) → slice_index (drop 1 xs) r ≡ slice_index xs (suc r)
dropped [] r = refl
dropped (x ∷ xs) r = refl

pub dropped_length : (xs : List ℕ) → length xs ≡ 32 → length (drop 1 xs) ≡ 31
dropped_length [] e = absurd (omega (arith, e))
dropped_length (x ∷ xs) e = omega (arith, e)

-- an entry of a list in which another was set, or this one
set_entry : (xs : List ℕ) (r i v z : ℕ) → r < length xs → (i ≡ r → z ≡ v) → (i ≢ r → z ≡ slice_index xs i)
    → slice_index (slice_set xs r v) i ≡ z
set_entry xs r i v z low same other =
    elim (cases_eq i r) as (λ _. slice_index (slice_set xs r v) i ≡ z) [
      | inl e ↦ ap (slice_index (slice_set xs r v)) e ∙ get_or-set_same xs r v 0 low ∙ sym (same e)
      | inr e ↦ get_or-set_other xs r i v 0 e ∙ sym (other e)
    ]

one_number : (r i : ℕ) → Some (suc r) ≡ Some (suc i) → r ≡ i
one_number r i e = let same : suc r ≡ suc i = same_Some _ _ e in omega (arith, same)

-- the register that was written last, put back, gives the registers before
registers_back : (before ts : List ℕ) (last : Option ℕ) → length before ≡ 32 → length ts ≡ 31 → LastIsRegister last
    → ((i : ℕ) → last ≢ Some (suc i) → slice_index ts i ≡ slice_index (drop 1 before) i)
    → put_back (number_in last) (value_in before (number_in last)) ts ≡ drop 1 before
registers_back before ts None whole long last kept =
    ext_get_or 0 ts (drop 1 before) (long ∙ sym (dropped_length before whole)) (λ i h. kept i (λ e. cc))
registers_back before ts (Some zero) whole long last kept = absurd (omega (arith, last.0))
registers_back before ts (Some (suc r)) whole long last kept =
    let v = slice_index before (suc r) in
    ext_get_or 0 (slice_set ts r v) (drop 1 before)
    (length-set ts r v ∙ long ∙ sym (dropped_length before whole))
    (λ i h. set_entry ts r i v (slice_index (drop 1 before) i) (omega (arith, last.1, long))
    (λ e. ap (slice_index (drop 1 before)) e ∙ dropped before r)
    (λ e. sym (kept i (λ same. e (sym (one_number r i same))))))

-- a change that holds what the step changed leads from the state after it to the state before it
pub step_undone : (s t : State) (answer : StepAnswer) (c : Change) (before : List ℕ) → Step s t answer
    → s.registers ≡ drop 1 before → length before ≡ 32 → length t.registers ≡ 31
    → c.starts ≡ true → c.pc ≡ s.pc → last_before c ≡ s.last
    → c.register ≡ number_in t.last → c.value ≡ value_in before c.register
    → stored_back c.stored c.address c.bytes t.writable t.bytes ≡ s.bytes
    → undone c t ≡ s
step_undone s t answer c before step registers whole long starts pc last register value bytes =
    let little : ChangesLittle s t = Step-little s t answer step in
    let kept : (i : ℕ) → t.last ≢ Some (suc i) → slice_index t.registers i ≡ slice_index (drop 1 before) i =
    λ i other. little.registers_kept (suc i) other ∙ ap (λ xs. slice_index xs i) registers in
    let back : put_back (number_in t.last) (value_in before (number_in t.last)) t.registers ≡ s.registers =
    registers_back before t.registers t.last whole long (Step-last s t answer step) kept ∙ sym registers in
    let of_change : put_back c.register c.value t.registers ≡ s.registers =
    (λ i. put_back (register i) (value i) t.registers) ∙ (λ i. put_back (number_in t.last) (value_in before (register i)) t.registers) ∙ back in
    λ i. record {
      registers = of_change i;
      pc = ((λ j. if starts j then c.pc else t.pc) ∙ pc) i;
      last = ((λ j. if starts j then last_before c else t.last) ∙ last) i;
      bytes = bytes i;
      writable = little.writable_kept i;
    }

-- a change that holds what was recorded of the step
pub change_undone : (s t : State) (answer : StepAnswer) (c : Change) (recorded : Recorded) (before : List ℕ)
    → Step s t answer → s.registers ≡ drop 1 before → length before ≡ 32 → length t.registers ≡ 31
    → c.starts ≡ true → c.pc ≡ s.pc → last_before c ≡ s.last
    → c.register ≡ recorded.register → c.value ≡ recorded.value
    → c.stored ≡ recorded.replaced.size → c.address ≡ recorded.replaced.address
    → c.bytes ≡ recorded.replaced.bytes
    → recorded.register ≡ number_in t.last → recorded.value ≡ value_in before recorded.register
    → AreReplaced recorded.replaced t.writable s.bytes t.bytes → undone c t ≡ s
change_undone s t answer c recorded before step registers whole long starts pc last register value size address bytes
    number was replaced =
    step_undone s t answer c before step registers whole long starts pc last (register ∙ number)
    (value ∙ was ∙ ap (value_in before) (sym register))
    ((λ i. stored_back (size i) (address i) (bytes i) t.writable t.bytes) ∙ replaced)
