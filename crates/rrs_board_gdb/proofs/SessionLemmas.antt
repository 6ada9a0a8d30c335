-- What packets mean for a board.
use Rattle.std.proofs.Common.{◌≡◌, ℕ, List, ◌++◌, Bool, true, false, Option, Some, None, Result, Ok, Err, OnOk, MatchOption, length, slice_index, take, drop, ◌-◌, sym, subst, ap, ◌∙◌, arith, take_all}
use Rattle.std.specs.Prelude.{IfSome, codes}
use denote.Ref.{Bor}
use Rattle.std.specs.Bool.{OnTrue, OnFalse}
use Rattle.std.proofs.lemmas.List.{length-drop}
use Rattle.hex.specs.Hex.{decode_sized}
use Rattle.rrs_board.specs.declared.board.Board.{Board}
use Rattle.rrs_gdb.specs.Packets.{IsNumber, number, before, behind}
use Rattle.rrs_gdb.specs.Sessions.{letter, IsError}
use Rattle.rrs_gdb.specs.Shown.{word_at}
use Rattle.rrs_gdb.proofs.SessionLemmas.{error_letter}
use Rattle.rrs_board_gdb.specs.declared.session.BoardStop.{BoardStop}
use Rattle.rrs_board_gdb.specs.declared.session.BoardStop.TheVariants.{Signal, Exited}
use Rattle.rrs_board_gdb.specs.Shown.{with_register}
use Rattle.rrs_board_gdb.specs.Sessions.{Changes, SetsRegister, Changed, Refused, stop_text}

-- the text after the letter
pub behind_letter : (payload : List ℕ) → take (length payload - 1) (drop 1 payload) ≡ drop 1 payload
behind_letter payload = take_all (length payload - 1) (drop 1 payload) (omega (arith, length-drop 1 payload))

-- ---- registers that are changed

-- what a text names
abbrev pub Names : List ℕ → ℕ → ℕ → Type 0
Names text n v =
    IsNumber (before 61 text) × (n ≡ number (before 61 text))
    × ((bytes : List ℕ) × (decode_sized (behind 61 text) 4 ≡ Ok bytes) × (v ≡ word_at bytes 0))

by_text : (text bytes : List ℕ) (old : Board) (n v : ℕ) → Names text n v → decode_sized (behind 61 text) 4 ≡ Ok bytes
    → with_register old (number (before 61 text)) (word_at bytes 0) ≡ with_register old n v
by_text text bytes old n v (numeral, n-is, (bytes', decoded', v-is)) decoded =
    let both : Ok bytes ≡ Ok bytes' = sym decoded ∙ decoded' in
    let equal : bytes ≡ bytes' = cc in
    let same : word_at bytes 0 ≡ v = ap (λ (xs : List ℕ). word_at xs 0) equal ∙ sym v-is in
    ap (λ k. with_register old k (word_at bytes 0)) (sym n-is) ∙ ap (λ w. with_register old n w) same

change_of : (text : List ℕ) (old new : Board) (n v : ℕ) → Names text n v → with_register old n v ≡ Some new
    → Changes text old new
change_of text old new n v (numeral, n-is, (bytes, decoded, v-is)) is = record {
  bytes = bytes;
  is_number = numeral;
  is_word = decoded;
  changed = by_text text bytes old n v (numeral, n-is, (bytes, decoded, v-is)) decoded ∙ is;
}

pub changed_so : (text : List ℕ) (old new : Board) (n v : ℕ) (o : Option Board) (r : Bool) → Names text n v
    → with_register old n v ≡ o
    → MatchOption o ((r ≡ false) × (new ≡ old)) (λ changed. (r ≡ true) × (new ≡ changed))
    → OnTrue r (Changes text old new)
changed_so text old new n v None r named is (fails, kept) = subst (λ b. OnTrue b (Changes text old new)) (sym fails) tt
changed_so text old new n v (Some changed) r named is (holds, becomes) =
    subst (λ b. OnTrue b (Changes text old new)) (sym holds) (change_of text old new n v named (is ∙ ap Some (sym becomes)))

no_change : (text : List ℕ) (old b : Board) (n v : ℕ) → Names text n v → with_register old n v ≡ None
    → Changes text old b → ⊥
no_change text old b n v named is change =
    let clash : Some b ≡ None = sym change.changed ∙ by_text text change.bytes old n v named change.is_word ∙ is in cc

pub changed_not : (text : List ℕ) (old new : Board) (n v : ℕ) (o : Option Board) (r : Bool) → Names text n v
    → with_register old n v ≡ o
    → MatchOption o ((r ≡ false) × (new ≡ old)) (λ changed. (r ≡ true) × (new ≡ changed))
    → OnFalse r ((b : Board) → ¬ Changes text old b)
changed_not text old new n v None r named is (fails, kept) =
    subst (λ t. OnFalse t ((b : Board) → ¬ Changes text old b)) (sym fails) (λ b. no_change text old b n v named is)
changed_not text old new n v (Some changed) r named is (holds, becomes) =
    subst (λ t. OnFalse t ((b : Board) → ¬ Changes text old b)) (sym holds) tt

pub sets : {A F : Type 0} (r : Result A F) (text : List ℕ) (b b' : Board) (old new : List ℕ) (is_changed : Bool)
    → OnTrue is_changed (Changes text b b') → OnFalse is_changed (b' ≡ b)
    → OnFalse is_changed ((c : Board) → ¬ Changes text b c) → OnOk r (OnFalse is_changed (IsError old new))
    → OnOk r (SetsRegister text b b' old new)
sets (Ok x) text b b' old new true changed kept none error = Changed changed
sets (Ok x) text b b' old new false changed kept none error = Refused kept none error
sets (Err e) text b b' old new is_changed changed kept none error = tt

-- ---- the program goes on

-- where a program stops is no error
pub no_error : (stop : BoardStop) (old new : List ℕ) → new ≡ old ++ stop_text stop → IsError old new → ⊥
no_error (Signal signal) old new told error = absurd (omega (arith, error_letter old new _ told error))
no_error (Exited status) old new told error = absurd (omega (arith, error_letter old new _ told error))

-- `vCont;` begins with its letter
pub first_letter : (r : Option (Bor (List ℕ))) (payload : List ℕ) (none : Type 0)
    → MatchOption r none (λ actions. payload ≡ codes "vCont;" ++ actions.now)
    → IfSome r (λ actions. letter payload ≡ 118)
first_letter (Some actions) payload none is = ap (λ (xs : List ℕ). slice_index xs 0) is
first_letter None payload none is = tt
