-- A history with another room, and how many states a history leads back to.
use Rattle.std.proofs.Common.{◌≡◌, ℕ, zero, suc, ◌+◌, ◌-◌, Bool, true, false, cond, min, List, [], ◌∷◌, ◌++◌, if◌then◌else◌, length, take, count_by, refl, sym, ap, ap₂, ◌∙◌, arith}
use Rattle.std.proofs.lemmas.List.{take_min, length-take}
use Rattle.std.proofs.lemmas.List.Sums.{sum_by-cons}
use Rattle.circular_buffer.specs.Buffer.{Buffer, buffer}
use Rattle.rrs_lib.specs.Machine.{State}
use Rattle.rrs_history.specs.declared.change.Change.{Change}
use Rattle.rrs_history.specs.Changes.{undone}
use Rattle.rrs_history.specs.Histories.{past}

-- ---- how many states

choose-count : (b : Bool) (s : State) (xs : List State) (n : ℕ) → length xs ≡ n
    → length (if b then s ∷ xs else xs) ≡ cond b 1 0 + n
choose-count true s xs n h = omega (arith, h)
choose-count false s xs n h = omega (arith, h)

pub past-count : (cs : List Change) (t : State) → length (past cs t) ≡ count_by (λ (c : Change). c.starts) cs
past-count [] t = refl
past-count (c ∷ cs) t =
    choose-count c.starts (undone c t) (past cs (undone c t)) _ (past-count cs (undone c t))
    ∙ sym (sum_by-cons (λ (x : Change). cond x.starts 1 0) c cs)

-- ---- the first ones of two parts

take-parts : {X : Type 0} (n : ℕ) (xs ys : List X) → take n (xs ++ ys) ≡ take n xs ++ take (n - length xs) ys
take-parts zero xs ys = grind arith
take-parts (suc n) [] ys =
    let same : suc n ≡ suc n - 0 = omega arith in
    ap (λ m. take m ys) same
take-parts (suc n) (x ∷ xs) ys =
    let same : n - length xs ≡ suc n - suc (length xs) = omega arith in
    ap (λ zs. x ∷ zs) (take-parts n xs ys) ∙ ap (λ m. x ∷ take n xs ++ take m ys) same

two_taken : {X : Type 0} (n k l : ℕ) (xs ys zs : List X) → k ≡ min (length xs) (n - 0) → zs ≡ take k xs
    → l ≡ min (length ys) (n - length zs) → zs ++ take l ys ≡ take n (xs ++ ys)
two_taken n k l xs ys zs first are rest =
    let few : k ≡ min n (length xs) = omega (arith, first) in
    let whole : zs ≡ take n xs = are ∙ ap (λ m. take m xs) few ∙ take_min n xs in
    let many : length zs ≡ min n (length xs) = ap length whole ∙ length-take n xs in
    let left : n - length zs ≡ n - length xs = omega (arith, many) in
    let more : l ≡ min (n - length xs) (length ys) = omega (arith, rest, left) in
    let behind : take l ys ≡ take (n - length xs) ys = ap (λ m. take m ys) more ∙ take_min (n - length xs) ys in
    ap₂ (λ p q. p ++ q) whole behind ∙ sym (take-parts n xs ys)

-- a ring that was empty and has room for n, to which two parts were appended as far as they fit
pub two_filled : {X : Type 0} (n k l : ℕ) (xs ys all : List X) (ring mid new : Buffer X) → ring ≡ buffer [] n
    → k ≡ min (length xs) (ring.capacity - length ring.items)
    → mid ≡ buffer (ring.items ++ take k xs) ring.capacity
    → l ≡ min (length ys) (mid.capacity - length mid.items)
    → new ≡ buffer (mid.items ++ take l ys) mid.capacity → xs ++ ys ≡ all
    → (new.items ≡ take n all) × (new.capacity ≡ n)
two_filled n k l xs ys all ring mid new empty first filled rest more parts =
    let empty_items = ap (λ r. r.items) empty in
    let empty_room = ap (λ r. r.capacity) empty in
    let mid_items : mid.items ≡ take k xs = ap (λ r. r.items) filled ∙ ap (λ zs. zs ++ take k xs) empty_items in
    let mid_room : mid.capacity ≡ n = ap (λ r. r.capacity) filled ∙ empty_room in
    let count : k ≡ min (length xs) (n - 0) =
    first ∙ ap (λ m. min (length xs) (m - length ring.items)) empty_room ∙ ap (λ zs. min (length xs) (n - length zs)) empty_items in
    let left : l ≡ min (length ys) (n - length mid.items) = rest ∙ ap (λ m. min (length ys) (m - length mid.items)) mid_room in (
      ap (λ r. r.items) more ∙ two_taken n k l xs ys mid.items count mid_items left ∙ ap (take n) parts,
      ap (λ r. r.capacity) more ∙ mid_room,
    )
