-- What packets that change the machine change, and what is told of it.
use Rattle.std.proofs.Common.{◌≡◌, ◌≢◌, ℕ, ◌^◌, ◌+◌, ◌<◌, ◌≤◌, List, [], ◌∷◌, ◌++◌, Bool, true, false, Result, Ok, Err, IfOk, IsOk, drop, length, refl, sym, subst, ap, ◌∙◌, arith}
use Rattle.std.specs.Bool.{OnTrue, OnFalse}
use Rattle.std.proofs.lemmas.List.{append_cancel_left}
use Rattle.hex.specs.Hex.{decode_of, decode_pairs, decode_sized}
use Rattle.rrs_lib.specs.Bytes.{ByteMap}
use Rattle.rrs_lib.specs.declared.HartState.{HartState}
use Rattle.rrs_lib.specs.Loading.{Loaded}
use Rattle.rrs_lib.specs.Machine.{State, state_of}
use Rattle.rrs_gdb.specs.Packets.{IsPlace, number, before, behind, address_in, length_in}
use Rattle.rrs_gdb.specs.Shown.{with_register, word_at}
use Rattle.rrs_gdb.specs.Sessions.{letter, MemoryKept, IsError, IsChangeable, HasRegisters, SetsRegister, SetsRegisters, SetsBytes, Changed, Refused, SetsMemory}
use Rattle.rrs_gdb.specs.Answers.{Sets, IsDone}

-- ---- what is told

-- what begins with the letter of an error does so after other text
pub error_behind : (old new text : List ℕ) → new ≡ old ++ text → IsError [] text → IsError old new
error_behind old new text told (rest, is) = (rest, told ∙ ap (λ (xs : List ℕ). old ++ xs) is)

pub error_of : (old new text : List ℕ) → new ≡ old ++ text → IsError old new → IsError [] text
error_of old new text told (rest, is) = (rest, append_cancel_left old _ _ (sym told ∙ is))

pub done_by : (changed is_done : Bool) (s t : State) (text : List ℕ) → changed ≡ is_done
    → OnTrue is_done (IsError [] text → ⊥) → OnFalse is_done (t ≡ s) → IsDone changed s t [] text
done_by changed is_done s t text same error none = record {
  no_error = subst (λ (b : Bool). OnTrue b (IsError [] text → ⊥)) (sym same) error;
  none = subst (λ (b : Bool). OnFalse b (t ≡ s)) (sym same) none;
}

-- ---- registers

pub sets_registers : (changed : Bool) (digits : List ℕ) (s t : State) (text : List ℕ) → MemoryKept s t
    → OnTrue changed ((bytes : List ℕ) × (decode_of digits ≡ Ok bytes) × (length bytes ≡ 132) × HasRegisters bytes t)
    → OnFalse changed ((bytes : List ℕ) → decode_of digits ≡ Ok bytes → length bytes ≢ 132)
    → OnFalse changed (IsError [] text) → SetsRegisters digits s t [] text
sets_registers true digits s t text kept (bytes, is, long, has) none error = record {
  set = λ bytes' is' _.
      let both : Ok bytes ≡ Ok bytes' = sym is ∙ is' in
      let same : bytes ≡ bytes' = cc in
      (subst (λ (xs : List ℕ). HasRegisters xs t) same has, kept);
  refused = λ not. absurd (not bytes is long);
}
sets_registers false digits s t text kept set none error = record {
  set = λ bytes is long. absurd (none bytes is long);
  refused = λ _. error;
}

pub sets_register : (changed : Bool) (at : List ℕ) (s t : State) (text : List ℕ)
    → OnTrue changed (IsChangeable (before 61 at) × ((bytes : List ℕ) × (decode_sized (behind 61 at) 4 ≡ Ok bytes)
    × (t ≡ with_register s (number (before 61 at)) (word_at bytes 0))))
    → OnFalse changed (IsChangeable (before 61 at) → IsOk (decode_sized (behind 61 at) 4) → ⊥)
    → OnFalse changed (IsError [] text) → SetsRegister at s t [] text
sets_register true at s t text (changeable, (bytes, is, set)) none error = record {
  set = λ bytes' _ is'.
      let both : Ok bytes ≡ Ok bytes' = sym is ∙ is' in
      let same : bytes ≡ bytes' = cc in
      subst (λ (xs : List ℕ). t ≡ with_register s (number (before 61 at)) (word_at xs 0)) same set;
  refused = λ not. absurd (not (changeable, rw is refl));
}
sets_register false at s t text set none error = record {
  set = λ bytes changeable is. absurd (none changeable (rw is refl));
  refused = λ _. error;
}

-- ---- memory

-- no byte and no permission is changed
pub memory_same : (is_done : Bool) (hart : HartState) (b b' : ByteMap) (w w' : ℕ → Bool)
    → OnFalse is_done (b' ≡ b) → w' ≡ w → OnFalse is_done (state_of hart b' w' ≡ state_of hart b w)
memory_same true hart b b' w w' bytes writable = tt
memory_same false hart b b' w w' bytes writable = cc

pub sets_bytes : (is_done : Bool) (address : ℕ) (values : List ℕ) (s t : State) (text : List ℕ)
    → OnTrue is_done (Loaded s.bytes t.bytes s.writable address values) → OnFalse is_done (IsError [] text)
    → OnFalse is_done (address + length values ≤ 2 ^ 32
    → (i : ℕ) × (i < length values) × (s.writable (address + i) ≡ false))
    → SetsBytes address values s t [] text
sets_bytes true address values s t text written error none = Changed written
sets_bytes false address values s t text written error none = Refused error none

-- no digits are no bytes
pub nothing_decoded : (text values : List ℕ) → text ≡ [] → decode_of text ≡ Ok values → 1 ≤ length values → ⊥
unfolding decode_pairs
nothing_decoded text [] none is some = absurd (omega (arith, some))
nothing_decoded text (v ∷ vs) none is some =
    let empty : decode_of [] ≡ Ok (v ∷ vs) = subst (λ (xs : List ℕ). decode_of xs ≡ Ok (v ∷ vs)) none is in
    cc

-- the bytes are changed as they are
pub sets_memory : (text bytes values : List ℕ) (address count : ℕ) (s t : State) (told : List ℕ)
    → address ≡ address_in (before 58 text) → count ≡ length_in (before 58 text) → bytes ≡ values
    → IsPlace (before 58 text)
    → (length bytes ≡ count → 1 ≤ length bytes → SetsBytes address bytes s t [] told)
    → (bytes ≡ [] → t ≡ s) → (length bytes ≢ count → IsError [] told) → SetsMemory values text s t [] told
sets_memory text bytes values address count s t told at many equal place sets none refused = record {
  set = λ place long one.
      subst (λ (xs : List ℕ). SetsBytes (address_in (before 58 text)) xs s t [] told) equal
      (subst (λ (a : ℕ). SetsBytes a bytes s t [] told) at
      (sets (ap length equal ∙ long ∙ sym many) (subst (λ (xs : List ℕ). 1 ≤ length xs) (sym equal) one)));
  none = λ is. none (equal ∙ is);
  refused = λ not. refused (λ same. not (place, ap length (sym equal) ∙ same ∙ many));
}

-- no place stands there, or no bytes
pub sets_nothing : (text values : List ℕ) (s : State) (told : List ℕ)
    → (IsPlace (before 58 text) → 1 ≤ length values → ⊥) → IsError [] told → SetsMemory values text s s [] told
sets_nothing text values s told none error = record {
  set = λ place long one. absurd (none place one);
  none = λ _. refl;
  refused = λ _. error;
}

-- those that digits are
pub sets_by_digits : (text digits bytes values : List ℕ) (address count : ℕ) (s t : State) (told : List ℕ)
    → address ≡ address_in (before 58 text) → count ≡ length_in (before 58 text) → digits ≡ behind 58 text
    → IsPlace (before 58 text)
    → decode_of digits ≡ Ok bytes → (length bytes ≡ count → 1 ≤ length bytes → SetsBytes address bytes s t [] told)
    → (bytes ≡ [] → t ≡ s) → (length bytes ≢ count → IsError [] told)
    → decode_of (behind 58 text) ≡ Ok values → SetsMemory values text s t [] told
sets_by_digits text digits bytes values address count s t told at many same place decoded sets none refused is =
    let both : Ok bytes ≡ Ok values = sym decoded ∙ ap decode_of same ∙ is in
    sets_memory text bytes values address count s t told at many (cc) place sets none refused

-- ---- by the letter

pub if_ok : {A F : Type 0} (r : Result A F) (P Q : A → Type 0) → ((x : A) → P x → Q x) → IfOk r P → IfOk r Q
if_ok (Ok x) P Q step holds = step x holds
if_ok (Err f) P Q step holds = tt

pub both_ok : {A F : Type 0} (r : Result A F) (P P' Q : A → Type 0) → ((x : A) → P x → P' x → Q x) → IfOk r P → IfOk r P'
    → IfOk r Q
both_ok (Ok x) P P' Q step holds holds' = step x holds holds'
both_ok (Err f) P P' Q step holds holds' = tt

pub sets_G : (payload text : List ℕ) (s t : State) (old new : List ℕ) → letter payload ≡ 71 → text ≡ drop 1 payload
    → SetsRegisters text s t old new → Sets payload s t old new
sets_G payload text s t old new is same sets = record {
  registers = λ _. subst (λ (xs : List ℕ). SetsRegisters xs s t old new) same sets;
  register = λ is'. absurd (omega (arith, is, is'));
  memory = λ is'. absurd (omega (arith, is, is'));
  no_values = λ is'. absurd (omega (arith, is, is'));
  bytes = λ is'. absurd (omega (arith, is, is'));
}

pub sets_P : (payload text : List ℕ) (s t : State) (old new : List ℕ) → letter payload ≡ 80 → text ≡ drop 1 payload
    → SetsRegister text s t old new → Sets payload s t old new
sets_P payload text s t old new is same sets = record {
  registers = λ is'. absurd (omega (arith, is, is'));
  register = λ _. subst (λ (xs : List ℕ). SetsRegister xs s t old new) same sets;
  memory = λ is'. absurd (omega (arith, is, is'));
  no_values = λ is'. absurd (omega (arith, is, is'));
  bytes = λ is'. absurd (omega (arith, is, is'));
}

pub sets_M : (payload text : List ℕ) (s t : State) (old new : List ℕ) → letter payload ≡ 77 → text ≡ drop 1 payload
    → ((values : List ℕ) → decode_of (behind 58 text) ≡ Ok values → SetsMemory values text s t old new)
    → (¬ IsOk (decode_of (behind 58 text)) → IsError old new) → Sets payload s t old new
sets_M payload text s t old new is same sets none = record {
  registers = λ is'. absurd (omega (arith, is, is'));
  register = λ is'. absurd (omega (arith, is, is'));
  memory = λ _. subst (λ (xs : List ℕ). (values : List ℕ) → decode_of (behind 58 xs) ≡ Ok values
      → SetsMemory values xs s t old new) same sets;
  no_values = λ _. subst (λ (xs : List ℕ). ¬ IsOk (decode_of (behind 58 xs)) → IsError old new) same none;
  bytes = λ is'. absurd (omega (arith, is, is'));
}

pub sets_X : (payload text : List ℕ) (s t : State) (old new : List ℕ) → letter payload ≡ 88 → text ≡ drop 1 payload
    → SetsMemory (behind 58 text) text s t old new → Sets payload s t old new
sets_X payload text s t old new is same sets = record {
  registers = λ is'. absurd (omega (arith, is, is'));
  register = λ is'. absurd (omega (arith, is, is'));
  memory = λ is'. absurd (omega (arith, is, is'));
  no_values = λ is'. absurd (omega (arith, is, is'));
  bytes = λ _. subst (λ (xs : List ℕ). SetsMemory (behind 58 xs) xs s t old new) same sets;
}

-- ---- the same after what is answered so far

bytes_behind : (address : ℕ) (values : List ℕ) (s t : State) (old new text : List ℕ) → new ≡ old ++ text
    → SetsBytes address values s t [] text → SetsBytes address values s t old new
bytes_behind address values s t old new text told (Changed written) = Changed written
bytes_behind address values s t old new text told (Refused error none) = Refused (error_behind old new text told error) none

memory_behind : (values at : List ℕ) (s t : State) (old new text : List ℕ) → new ≡ old ++ text
    → SetsMemory values at s t [] text → SetsMemory values at s t old new
memory_behind values at s t old new text told sets = record {
  set = λ place long one. bytes_behind _ values s t old new text told (sets.set place long one);
  none = sets.none;
  refused = λ not. error_behind old new text told (sets.refused not);
}

registers_behind : (digits : List ℕ) (s t : State) (old new text : List ℕ) → new ≡ old ++ text
    → SetsRegisters digits s t [] text → SetsRegisters digits s t old new
registers_behind digits s t old new text told sets = record {
  set = sets.set;
  refused = λ none. error_behind old new text told (sets.refused none);
}

register_behind : (at : List ℕ) (s t : State) (old new text : List ℕ) → new ≡ old ++ text
    → SetsRegister at s t [] text → SetsRegister at s t old new
register_behind at s t old new text told sets = record {
  set = sets.set;
  refused = λ none. error_behind old new text told (sets.refused none);
}

pub sets_behind : (payload : List ℕ) (s t : State) (old new text : List ℕ) → new ≡ old ++ text
    → Sets payload s t [] text → Sets payload s t old new
sets_behind payload s t old new text told sets = record {
  registers = λ is. registers_behind _ s t old new text told (sets.registers is);
  register = λ is. register_behind _ s t old new text told (sets.register is);
  memory = λ is values decoded. memory_behind values _ s t old new text told (sets.memory is values decoded);
  no_values = λ is none. error_behind old new text told (sets.no_values is none);
  bytes = λ is. memory_behind _ _ s t old new text told (sets.bytes is);
}
