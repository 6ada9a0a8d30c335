-- The program that prints, as a run with its accesses.
use Rattle.std.proofs.Common.{◌≡◌, ◌≢◌, ℕ, suc, ◌+◌, ◌*◌, ◌%◌, ◌^◌, ◌<◌, ◌≤◌, ◌==◌, ◌&&◌, nat_lt, List, [], ◌∷◌, ◌++◌, length, slice_index, pos, not, Bool, true, false, Option, Some, None, IsTrue, refl, sym, ap, subst, ◌∙◌, arith, append-nil, length-append}
use Rattle.std.proofs.lemmas.Bool.{agree_below, agree_below_at, and_parts, ltb-true}
use Rattle.std.proofs.lemmas.Bool.Decides.{nat_tests}
use Rattle.rrs_lib.specs.declared.MemAccessSize.TheVariants.{Byte}
use Rattle.rrs_lib.specs.declared.instruction_executor.InstructionException.{InstructionException}
use Rattle.rrs_lib.specs.declared.instruction_executor.InstructionException.TheVariants.{IllegalInstruction}
use Rattle.rrs_lib.specs.Words.{word}
use Rattle.rrs_lib.specs.Bytes.{ByteMap, little_endian, all_writable, store, sum_if_both, at_place, EndsAtLastAddress}
use Rattle.rrs_lib.specs.Machine.{State, reg, made_even}
use Rattle.rrs_lib.specs.Steps.{IsOnlyRunUntil}
use Rattle.rrs_lib.specs.Accesses.{Access, Read, Write, fetch, AccessesOfRun, answers_of_run}
use Rattle.rrs_lib.proofs.Programs
use Rattle.rrs_lib.proofs.Programs.{at, Others, registers_by}
use Rattle.rrs_lib.proofs.ByteLemmas.{Outside, outside_from_none, store-outside, write-allowed}
use Rattle.rrs_lib.proofs.Making.{AccessesOfRun-unique, accesses_of_illegal}
use Rattle.rrs_lib.proofs.Rows.{one_row_at_most}
use Rattle.rrs_lib.proofs.AccessChains
use Rattle.rrs_lib.proofs.AccessChains.{RunsMaking, StepMaking, joined, making, making-loads, making-stores}
use Rattle.rrs_extra.specs.Programs.{HoldsWords, AreApart, word_at}
use Rattle.rrs_programs.specs.Printing.{HoldsString, put_string_program, PutStringStarts, writes_of, writes_to}
use Rattle.rrs_extra.proofs.Words.{word_read, at_word, by_registers, read_after, holds_after, value-small, mapped-small, writable-small, words-end, is_value, value_is}

-- ---- one round

-- a chain with the accesses of each step, to be written a line for each
record Making (s : State) (each : List (List Access)) (t : State) : Type 0 where
  made : RunsMaking s each t

infixr 5 ◌▹◌
◌▹◌ : {s m t : State} {first : List Access} {later : List (List Access)} → StepMaking s m first → Making m later t → Making s (first ∷ later) t
step ▹ chain = record { made = (_, step, chain.made) }

no_more : {s : State} → Making s [] s
no_more = record { made = refl }

-- a chain whose accesses have these writes
record Printing (n : ℕ) (s t : State) (writes : List Access) : Type 0 where
  each : List (List Access)
  count : length each ≡ n
  makes : Making s each t
  printed : writes_of (joined each) ≡ writes

-- the writes of two lists are those of the first, and then those of the second
writes_of-append : (accesses later : List Access) → writes_of (accesses ++ later) ≡ writes_of accesses ++ writes_of later
writes_of-append [] later = refl
writes_of-append (Read a size answer ∷ accesses) later = writes_of-append accesses later
writes_of-append (Write a size value answer ∷ accesses) later = ap (λ xs. Write a size value answer ∷ xs) (writes_of-append accesses later)

-- one chain, and then another
prints_join : (m n k : ℕ) (s u t : State) (first later : List Access) → m + n ≡ k → Printing m s u first
    → Printing n u t later → Printing k s t (first ++ later)
prints_join m n k s u t first later together one more = record {
  each = one.each ++ more.each;
  count = length-append one.each more.each ∙ (λ i. one.count i + more.count i) ∙ together;
  makes = record { made = AccessChains.RunsMaking-append one.each more.each s u t one.makes.made more.makes.made };
  printed = ap writes_of (AccessChains.joined-append one.each more.each)
      ∙ writes_of-append (joined one.each) (joined more.each) ∙ (λ i. one.printed i ++ more.printed i);
}

-- the string after its first byte
string_after : (bytes : ByteMap) (a b : ℕ) (text : List ℕ) → HoldsString bytes a (b ∷ text)
    → HoldsString bytes (a + 1) text
string_after bytes a b text string = record {
  each = λ i less. let there : a + 1 + i ≡ a + suc i = omega arith in
      rw there (string.each (suc i) (omega (arith, less)));
  not_zero = λ i less. string.not_zero (suc i) (omega (arith, less));
  below_256 = λ i less. string.below_256 (suc i) (omega (arith, less));
  ended = let there : a + 1 + length text ≡ a + length (b ∷ text) = omega arith in rw there string.ended;
}

module _ (o : Others) (x1 port x12 x13 x14 p : ℕ) (bytes : ByteMap) (writable : ℕ → Bool) (aligned : p % 4 ≡ 0)
    (fits : p + 24 ≤ 2 ^ 32) (x1_small : x1 < 2 ^ 32) (x1_aligned : x1 % 4 ≡ 0) (port_small : port < 2 ^ 32)
    (holds : HoldsWords bytes p put_string_program) (apart : AreApart port 1 p 24)
    (allowed : all_writable writable port 1 ≡ true) where
  -- the state where the string goes on at a, and the bytes that stay
  abbrev loop : (a x15 pc : ℕ) → Option ℕ → ByteMap → State
  loop a x15 pc last now = at (registers_by o x1 port a x12 x13 x14 x15) pc last now writable

  abbrev Stays : ByteMap → Type 0
  Stays now = (b : ℕ) → Outside port 1 b → now b ≡ bytes b

  -- so the program stands, and the first byte of the string is as it was
  stands : (now : ByteMap) → Stays now → HoldsWords now p put_string_program
  stands now stays = holds_after bytes now port 1 p 24 put_string_program stays apart (omega arith) holds

  first_read : (now : ByteMap) (a c : ℕ) → Stays now → a + 0 ≢ port → bytes (a + 0) ≡ Some c
      → little_endian now a 1 ≡ Some c
  first_read now a c stays other is =
      let outside = outside_from_none port 1 (a + 0) (λ i less same. other (omega (arith, less, same))) in
      ap (λ o. sum_if_both (Some 0) (at_place 0 o)) (stays (a + 0) outside ∙ is) ∙ ap Some (omega arith)

  stays_more : (now : ByteMap) (c : ℕ) → Stays now → Stays (store now port 1 c)
  stays_more now c stays = λ b outside. store-outside now port 1 c b outside ∙ stays b outside

  round : (a c x15 : ℕ) (last : Option ℕ) (now : ByteMap) → Stays now → a + 1 < 2 ^ 32 → c ≢ 0 → c < 256
      → little_endian now a 1 ≡ Some c
      → Printing 5 (loop a x15 p last now) (loop (a + 1) c p None (store now port 1 c)) (Write port Byte c true ∷ [])
  round a c x15 last now stays small some byte read =
      let held = stands now stays in
      let held' = stands (store now port 1 c) (stays_more now c stays) in
      record {
        each = _ ∷ _ ∷ _ ∷ _ ∷ _ ∷ [];
        count = refl;
        makes =
            making-loads (p + 4) Byte pos a c c (at_word held aligned 0 refl refl) refl refl (omega arith) (omega arith)
            read (omega arith) (omega arith)
            ▹ making (at_word held aligned 1 refl refl)
            (λ f. Programs.step-branches (p + 12) (not (c == 0)) (pos 8) f refl (grind (arith, nat_tests))
            (omega arith)) refl
            ▹ making (at_word held aligned 3 refl refl)
            (λ f. Programs.step-writes (p + 16) 10 (a + 1) (pos (a + 1)) f refl (omega arith) (omega arith)) refl
            ▹ making-stores (p + 20) Byte port c (at_word held aligned 4 refl refl) refl refl (omega arith) refl
            (omega arith) allowed (omega arith)
            ▹ making (at_word held' aligned 5 refl refl)
            (λ f. Programs.step-jumps p 0 (word (pos (p + 20 + 4294967276))) f refl (omega arith)) refl
            ▹ no_more;
        printed = refl;
      }

  -- at the 0 after the string the program returns
  returns : (a x15 : ℕ) (last : Option ℕ) (now : ByteMap) → Stays now → a < 2 ^ 32 → little_endian now a 1 ≡ Some 0
      → Printing 3 (loop a x15 p last now) (loop a 0 x1 None now) []
  returns a x15 last now stays small read =
      let held = stands now stays in
      record {
        each = _ ∷ _ ∷ _ ∷ [];
        count = refl;
        makes =
            making-loads (p + 4) Byte pos a 0 0 (at_word held aligned 0 refl refl) refl refl (omega arith) (omega arith)
            read refl (omega arith)
            ▹ making (at_word held aligned 1 refl refl) (λ f. Programs.step-stays {registers = registers_by o x1 port a x12 x13 x14 0} (p + 8) false (pos 8) f refl refl (omega arith)) refl
            ▹ making (at_word held aligned 2 refl refl)
            (λ f. Programs.step-jumps x1 0 (made_even (word (pos (x1 + 0)))) f refl (omega arith)) refl
            ▹ no_more;
        printed = refl;
      }

  -- the program from its first instruction to its return
  record Prints (a x15 : ℕ) (last : Option ℕ) (now : ByteMap) (text : List ℕ) : Type 0 where
    registers_after : List ℕ
    bytes_after : ByteMap
    stay : Stays bytes_after
    runs : Printing (5 * length text + 3) (loop a x15 p last now) (at registers_after x1 None bytes_after writable)
        (writes_to port text)

  prints : (text : List ℕ) (a x15 : ℕ) (last : Option ℕ) (now : ByteMap) → Stays now → HoldsString bytes a text
      → a + length text < 2 ^ 32 → ((i : ℕ) → i < length text + 1 → a + i ≢ port) → Prints a x15 last now text
  prints [] a x15 last now stays string small others = record {
    registers_after = _;
    bytes_after = now;
    stay = stays;
    runs = returns a x15 last now stays (omega arith) (first_read now a 0 stays (others 0 (omega arith)) string.ended);
  }
  prints (c ∷ text) a x15 last now stays string small others =
      let read = first_read now a c stays (others 0 (omega arith)) (string.each 0 (omega arith)) in
      let one = round a c x15 last now stays (omega arith) (string.not_zero 0 (omega arith))
      (string.below_256 0 (omega arith)) read in
      let rest = prints text (a + 1) c None (store now port 1 c) (stays_more now c stays) (string_after bytes a c text
      string)
      (omega arith) (λ i less same. others (suc i) (omega (arith, less)) (omega (arith, same))) in
      record {
        registers_after = rest.registers_after;
        bytes_after = rest.bytes_after;
        stay = rest.stay;
        runs = prints_join 5 (5 * length text + 3) (5 * length (c ∷ text) + 3) _ _ _ (Write port Byte c true ∷ [])
            (writes_to port text) (omega arith) one rest.runs;
      }

-- ---- the run

-- what a call of `run` returned
pub record PutAll (text : List ℕ) (s : State) (steps : ℕ) (e : Option InstructionException) (t : State) : Type 0 where
  pub steps_made : steps ≡ 5 * length text + 3
  pub fault : e ≡ Some (IllegalInstruction (reg s 1) (word_at s.bytes (reg s 1)))
  pub bytes_kept : (b : ℕ) → b ≢ reg s 10 → t.bytes b ≡ s.bytes b
  pub printed : (accesses : List Access) → AccessesOfRun s (answers_of_run steps e) accesses → writes_of accesses ≡ writes_to (reg s 10) text

-- what the program does from a state
abbrev Puts : List ℕ → (limit steps : ℕ) → Option InstructionException → State → State → Type 0
Puts text limit steps e t s = PutStringStarts text s → EndsAtLastAddress s.bytes s.writable → limit ≡ 5 * length text + 4 → IsOnlyRunUntil limit s steps e t → PutAll text s steps e t

puts : (text : List ℕ) (limit steps : ℕ) (e : Option InstructionException) (t : State) (o : Others) (x1 port a x12 x13 x14 x15 p : ℕ) (last : Option ℕ) (bytes : ByteMap) (writable : ℕ → Bool)
    → Puts text limit steps e t (at (registers_by o x1 port a x12 x13 x14 x15) p last bytes writable)
puts text limit steps e t o x1 port a x12 x13 x14 x15 p last bytes writable starts ends limit_is only =
    let called = starts.called in
    let allowed = write-allowed writable port 1 (λ i less.
    let there : port ≡ port + i = omega (arith, less) in subst (λ (x : ℕ). IsTrue (writable x)) there
    starts.port_writable) in
    let all = prints o x1 port x12 x13 x14 p bytes writable called.aligned
    (words-end bytes writable p put_string_program ends called.program_there (omega arith))
    (mapped-small bytes writable x1 ends called.stops.mapped)
    called.return_aligned (writable-small bytes writable port ends starts.port_writable) called.program_there starts.apart_from_program allowed text a x15 last bytes
    (λ b outside. refl) starts.string
    (value-small bytes writable (a + length text) 0 ends starts.string.ended)
    (λ i less same. starts.apart_from_text 0 i (omega arith) less (omega (arith, same))) in
    let read = read_after bytes all.bytes_after port 1 x1 4 x1 4 all.stay starts.apart_from_return (omega arith) (omega arith) ∙ word_read bytes x1 called.stops.mapped in
    let m = at all.registers_after x1 None all.bytes_after writable in
    let s = at (registers_by o x1 port a x12 x13 x14 x15) p last bytes writable in
    let fault = Programs.step-illegal {registers = all.registers_after} {pc = x1} {last = None} {bytes = all.bytes_after} {writable = writable} called.return_aligned read called.stops.outside in
    let chain = Programs.RunsOk-as (length all.runs.each) (5 * length text + 3) s m all.runs.count (AccessChains.RunsMaking-runs all.runs.each s m all.runs.makes.made) in
    let same = Programs.returned only limit_is (Programs.RunUntil-fault (5 * length text + 4) (5 * length text + 3) s m m _ (omega arith) chain fault) in
    let last_fetch = accesses_of_illegal m _ called.return_aligned read called.stops.outside in
    let makes = AccessChains.RunsMaking-fault all.runs.each s m m _ (fetch m ∷ []) all.runs.makes.made fault last_fetch in
    let answers : answers_of_run (length all.runs.each) (Some (IllegalInstruction x1 (word_at bytes x1))) ≡ answers_of_run steps e = λ i. answers_of_run ((all.runs.count ∙ sym same.0) i) (sym same.1 i) in
    record {
      steps_made = same.0;
      fault = same.1;
      bytes_kept = rw same.2 (λ b other. all.stay b (outside_from_none port 1 b (λ i less same. other
          (omega (arith, less, same)))));
      printed = λ accesses made. ap writes_of (AccessesOfRun-unique one_row_at_most s (answers_of_run steps e) accesses _ made (subst (λ d. AccessesOfRun s d (joined all.runs.each ++ (fetch m ∷ []))) answers makes))
          ∙ writes_of-append (joined all.runs.each) (fetch m ∷ []) ∙ append-nil _ ∙ all.runs.printed;
    }

pub put_all : (text : List ℕ) (s t : State) (limit steps : ℕ) (e : Option InstructionException) → 15 ≤ length s.registers → Puts text limit steps e t s
put_all text s t limit steps e long = by_registers (Puts text limit steps e t) (puts text limit steps e t) s long

-- ---- strings of memories that are known, by computation

-- whether byte i of a text stands there, and is one of a string
abbrev stands_test : ByteMap → ℕ → List ℕ → ℕ → Bool
stands_test bytes a text i =
    is_value (bytes (a + i)) (slice_index text i) && (nat_lt 0 (slice_index text i) && nat_lt (slice_index text i) 256)

abbrev pub string_test : ByteMap → ℕ → List ℕ → Bool
string_test bytes a text =
    is_value (bytes (a + length text)) 0 && agree_below (stands_test bytes a text) (λ i. true) (length text)

-- so it stands in each memory that is equal
pub string_by_test : {bytes known : ByteMap} {a : ℕ} {text : List ℕ} → bytes ≡ known → string_test known a text ≡ true
    → HoldsString bytes a text
string_by_test {known = known} {a = a} {text = text} same test =
    let both = and_parts (is_value (known (a + length text)) 0) _ test in
    let at_place = λ (i : ℕ) (less : i < length text). and_parts (is_value (known (a + i)) (slice_index text i)) _
    (agree_below_at (stands_test known a text) (λ i. true) (length text) i both.1 less) in
    let range = λ (i : ℕ) (less : i < length text). and_parts (nat_lt 0 (slice_index text i)) _ (at_place i less).1 in
    record {
      each = λ i less. ap (λ b. b (a + i)) same ∙ value_is (known (a + i)) (slice_index text i) (at_place i less).0;
      not_zero = λ i less. omega (arith, ltb-true 0 (slice_index text i) (range i less).0);
      below_256 = λ i less. ltb-true (slice_index text i) 256 (range i less).1;
      ended = ap (λ b. b (a + length text)) same ∙ value_is (known (a + length text)) 0 both.0;
    }
