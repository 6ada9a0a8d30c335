-- The program that writes all that it reads, as a served run.
use Rattle.std.proofs.Common.{◌≡◌, ◌⊎◌, ℕ, zero, suc, ◌+◌, ◌-◌, ◌*◌, ◌%◌, ◌^◌, ◌<◌, ◌≤◌, min, ◌++◌, List, [], length, Bool, true, false, pos, Option, Some, None, inl, inr, refl, sym, ap, subst, ◌∙◌, arith, append-nil, append_assoc, vec_capacity}
use Rattle.std.proofs.lemmas.List.{length-append}
use Rattle.std.proofs.lemmas.Bool.{cases_lt}
use Rattle.std.proofs.lemmas.Bool.Decides.{nat_tests}
use Rattle.rrs_lib.specs.declared.instruction_executor.InstructionException.TheVariants.{EnvironmentCall}
use Rattle.rrs_lib.specs.Words.{word}
use Rattle.rrs_lib.specs.Bytes.{ByteMap, EndsAtLastAddress}
use Rattle.rrs_lib.specs.Results.{less}
use Rattle.rrs_lib.specs.AccessLists.{Access}
use Rattle.rrs_lib.specs.Machine.{State, reg, with_pc}
use Rattle.rrs_lib.specs.Steps.{RunsOk, RunUntil}
use Rattle.rrs_lib.proofs.Programs
use Rattle.rrs_lib.proofs.Programs.{at, RunsOk-append}
use Rattle.rrs_fast.specs.declared.serving.Ending.{Ending}
use Rattle.rrs_fast.specs.declared.serving.Ending.TheVariants.{Exit}
use Rattle.rrs_fast.specs.Serving.{Served}
use Rattle.rrs_fast.proofs.Following.{Follows, follows}
use Rattle.rrs_linux.specs.Transfers.{Stands, most_bytes}
use Rattle.rrs_linux.specs.Recording.{Recording, Records, GivesInput, TakesOutput, TellsKnown}
use Rattle.rrs_linux.proofs.Placed.{no_length}
use Rattle.rrs_extra.specs.Programs.{HoldsWords, IsWritable, AreApart}
use Rattle.rrs_extra.proofs.Words.{words-end, writable-ends, holds_after, at_word, writes, Chain, ◌▸◌, done}
use Rattle.rrs_programs.specs.Echoing.{echo_program, EchoStarts, TakesRounds}
use Rattle.rrs_programs.proofs.Calls
use Rattle.rrs_programs.proofs.Calls.{exited, wrote_on, never_breaks, took_all, given_all}
use Rattle.rrs_programs.proofs.Runs.{registers_by, opened, to_call}

-- a count of bytes is no negative number
more_than_none : (n : ℕ) → 0 < n → n ≤ most_bytes → less 0 n ≡ true
more_than_none n some small = grind (arith, nat_tests)

-- one round more takes the bytes of a buffer more, or all that there are
round_more : (rounds each taken left all : ℕ) → all ≡ taken + left → taken ≡ min each all → 0 < taken
    → TakesRounds left each rounds → TakesRounds all each (suc rounds)
round_more zero each taken left all parts some first takes =
    let none : left ≤ 0 = omega (arith, takes.enough) in
    record { enough = omega (arith, none); needed = omega (arith, none) }
round_more (suc rounds) each taken left all parts whole some takes =
    let enough : left ≤ each + rounds * each = omega (arith, takes.enough) in
    let needed : each + rounds * each < left + each = omega (arith, takes.needed) in
    record { enough = omega (arith, enough, needed); needed = omega (arith, enough, needed) }

-- What the program leaves, from k steps before the loop's head on: by the environment, the bytes of memory and the
-- buffer.
pub record Echoes (k b size : ℕ) (old : Recording) (bytes : ByteMap) (new : Recording) (t : State) (steps : ℕ)
    (ending : Ending) : Type 0 where
  pub rounds : ℕ
  pub takes : TakesRounds (length old.input.now) (min size most_bytes) rounds
  pub counted : steps ≡ k + (11 * rounds + 12)
  pub ends : ending ≡ Exit 0
  pub output : new.output.items ≡ old.output.items ++ old.input.now
  pub input : new.input.now ≡ []
  pub errors_kept : new.errors ≡ old.errors
  pub heap_kept : new.heap ≡ old.heap
  pub random_kept : new.random ≡ old.random
  pub others_kept : (a : ℕ) → (a < b) ⊎ (b + size ≤ a) → t.bytes a ≡ bytes a

-- after a part of a buffer
behind : (a b n size : ℕ) → n ≤ size → (a < b) ⊎ (b + size ≤ a) → (a < b) ⊎ (b + n ≤ a)
behind a b n size less (inl below) = inl below
behind a b n size less (inr above) = inr (omega (arith, above))

module _ (r : ℕ → ℕ) (writable : ℕ → Bool) (p b size : ℕ) (aligned : p % 4 ≡ 0) (fits : p + 72 ≤ 2 ^ 32)
    (b_small : b < 2 ^ 32)
    (size_small : size < 2 ^ 32) (open_there : IsWritable writable b size) (buffer_fits : b + size ≤ 2 ^ 32)
    (some : 0 < size)
    (apart : AreApart b size p 72) (new : Recording) (t : State) (ending : Ending) where
  -- ---- the states at the loop's head, at each call, and after the read and the write

  abbrev at_head : (x10 x11 x12 x13 x17 : ℕ) → Option ℕ → ByteMap → State
  at_head x10 x11 x12 x13 x17 last bytes = at (registers_by r x10 x11 x12 x13 size b x17) (p + 8) last bytes writable

  abbrev at_read : ℕ → ByteMap → State
  at_read x13 bytes = at (registers_by r 0 b size x13 size b 63) (p + 24) None bytes writable

  abbrev behind_read : (n x13 : ℕ) → ByteMap → State
  behind_read n x13 bytes = at (registers_by r n b size x13 size b 63) (p + 28) (Some 10) bytes writable

  abbrev at_exit : ℕ → ByteMap → State
  at_exit x13 bytes = at (registers_by r 0 0 0 x13 size b 93) (p + 52) None bytes writable

  abbrev at_write : (n x13 : ℕ) → ByteMap → State
  at_write n x13 bytes = at (registers_by r 1 b n x13 size b 64) (p + 64) None bytes writable

  abbrev behind_write : (n x13 : ℕ) → ByteMap → State
  behind_write n x13 bytes = at (registers_by r n b n x13 size b 64) (p + 68) (Some 10) bytes writable

  -- ---- the runs to the calls

  -- the first two instructions
  to_head : (x12 x13 x14 x15 x17 : ℕ) (last : Option ℕ) (bytes : ByteMap) → HoldsWords bytes p echo_program
      → RunsOk 2 (at (registers_by r b size x12 x13 x14 x15 x17) p last bytes writable)
      (at_head b size x12 x13 x17 (Some 14) bytes)
  to_head x12 x13 x14 x15 x17 last bytes there =
      (writes there aligned fits 0 14 b (pos (b + 0)) refl refl refl (omega arith)
      ▸ writes there aligned fits 1 13 size (pos (size + 0)) refl refl refl (omega arith) ▸ done).runs

  -- k steps to the loop's head, and then on to the read
  to_read : (limit k x10 x11 x12 x13 x17 : ℕ) (last : Option ℕ) (bytes : ByteMap) (s : State)
      → HoldsWords bytes p echo_program → k + 5 ≤ limit → RunsOk k s (at_head x10 x11 x12 x13 x17 last bytes)
      → RunUntil limit s (k + 4) (Some (EnvironmentCall (p + 24))) (at_read x13 bytes)
  to_read limit k x10 x11 x12 x13 x17 last bytes s there enough before =
      let four : Chain 4 (at_head x10 x11 x12 x13 x17 last bytes)
      (at (registers_by r 0 b size x13 size b 63) (p + 24) (Some 17) bytes writable) =
      writes there aligned fits 2 9 0 (pos 0) refl refl refl refl
      ▸ writes there aligned fits 3 10 b (pos (b + 0)) refl refl refl (omega arith)
      ▸ writes there aligned fits 4 11 size (pos (size + 0)) refl refl refl (omega arith)
      ▸ writes there aligned fits 5 16 63 (pos 63) refl refl refl refl ▸ done in
      to_call there aligned limit (k + 4) 6 (omega (arith, enough)) refl refl
      (record { runs = RunsOk-append k 4 s _ _ before four.runs })

  -- where nothing was read, on to the exit
  to_exit : (limit x13 : ℕ) (bytes : ByteMap) → HoldsWords bytes p echo_program → 7 ≤ limit
      → RunUntil limit (behind_read 0 x13 bytes) 6 (Some (EnvironmentCall (p + 52))) (at_exit x13 bytes)
  to_exit limit x13 bytes there enough =
      to_call there aligned limit 6 13 (omega (arith, enough)) refl refl (
      writes there aligned fits 7 11 0 (pos 0) refl refl refl refl
      ▸ Programs.step-stays {registers = registers_by r 0 b 0 x13 size b 63} (p + 36) false (pos 24)
      (at_word there aligned 8 refl refl) refl refl (omega arith)
      ▸ writes there aligned fits 9 9 0 (pos 0) refl refl refl refl
      ▸ writes there aligned fits 10 10 0 (pos 0) refl refl refl refl
      ▸ writes there aligned fits 11 11 0 (pos 0) refl refl refl refl
      ▸ writes there aligned fits 12 16 93 (pos 93) refl refl refl refl ▸ done)

  -- where n bytes were read, on to the write
  to_write : (limit n x13 : ℕ) (bytes : ByteMap) → HoldsWords bytes p echo_program → 5 ≤ limit → 0 < n → n ≤ most_bytes
      → RunUntil limit (behind_read n x13 bytes) 4 (Some (EnvironmentCall (p + 64))) (at_write n x13 bytes)
  to_write limit n x13 bytes there enough some small =
      to_call there aligned limit 4 16 (omega (arith, enough)) refl refl (
      writes there aligned fits 7 11 n (pos (n + 0)) refl refl refl (omega arith)
      ▸ Programs.step-branches {registers = registers_by r n b n x13 size b 63} (p + 56) (less 0 n) (pos 24)
      (at_word there aligned 8 refl refl) refl (more_than_none n some small) (omega arith)
      ▸ writes there aligned fits 14 9 1 (pos 1) refl refl refl refl
      ▸ writes there aligned fits 15 16 64 (pos 64) refl refl refl refl ▸ done)

  -- and back to the head
  go_back : (n x13 : ℕ) (bytes : ByteMap) → HoldsWords bytes p echo_program
      → RunsOk 1 (behind_write n x13 bytes) (at_head n b n x13 64 None bytes)
  go_back n x13 bytes there =
      (Programs.step-jumps (p + 8) 0 (word (pos (p + 68 + 4294967236))) (at_word there aligned 17 refl refl) refl
      (omega arith) ▸ done).runs

  -- ---- rounds

  -- a read to the buffer: as many bytes are given as there are and were asked for
  record Got (limit k x13 steps : ℕ) (old : Recording) (bytes : ByteMap) : Type 0 where
    after : Recording
    of_later : List Access
    later : ℕ
    text : List ℕ
    long : length text ≡ min (min size most_bytes) (length old.input.now)
    consumed : old.input.now ≡ text ++ after.input.now
    bytes' : ByteMap
    stands : Stands bytes' b text
    kept : (a : ℕ) → (a < b) ⊎ (b + length text ≤ a) → bytes' a ≡ bytes a
    others : after ≡ record old { input = after.input; held = after.held }
    goes_on : Served Records ending new t (limit - (k + 4 + 1)) after (behind_read (length text) x13 bytes') later
        of_later
    counted : steps ≡ k + 4 + 1 + later

  got : (limit k x13 steps : ℕ) (old : Recording) (bytes : ByteMap)
      → Follows Records ending new t limit (k + 4) (p + 24) old (at_read x13 bytes) steps
      → Got limit k x13 steps old bytes
  got limit k x13 steps old bytes follow =
      let read = Calls.got GivesInput TakesOutput TakesOutput TellsKnown ending new t refl refl follow in
      let given = read.does.5.0 in
      let same = sym read.does.6 in
      let all = given_all writable b size read.does.4 old.input.now given.text read.of_call open_there buffer_fits
      given.ended in
      let value : word (pos read.does.4) ≡ length given.text = omega (arith, all.0, all.1) in
      let pc : word (pos (p + 24 + 4)) ≡ p + 28 = omega (arith, fits) in
      record {
        after = read.after;
        of_later = read.of_later;
        later = read.later;
        text = given.text;
        long = all.0;
        consumed = given.consumed ∙ ap (λ e. given.text ++ e.input.now) same;
        bytes' = read.does.3;
        stands = given.loaded.loaded;
        kept = given.loaded.others;
        others = read.does.6 ∙ (λ i. record old { input = (same i).input; held = (same i).held });
        goes_on = subst (λ y. Served Records ending new t (limit - (k + 4 + 1)) read.after y read.later read.of_later)
            (ap (λ y. with_pc y (word (pos (p + 24 + 4)))) read.does.7
            ∙ (λ i. at (registers_by r (value i) b size x13 size b 63) (pc i) (Some 10) read.does.3 writable))
            read.goes_on;
        counted = read.counted;
      }

  -- from k steps before the head on, with fewer bytes of input than the fuel
  abbrev Goes : ℕ → Type 0
  Goes fuel =
      (k x10 x11 x12 x13 x17 : ℕ) (last : Option ℕ) (bytes : ByteMap) (s : State) (old : Recording) (limit steps : ℕ)
      (accesses : List Access) → HoldsWords bytes p echo_program → RunsOk k s (at_head x10 x11 x12 x13 x17 last bytes)
      → length old.input.now < fuel → length old.output.items + length old.input.now ≤ vec_capacity old.output
      → k + (11 * length old.input.now + 12) ≤ limit → Served Records ending new t limit old s steps accesses
      → Echoes k b size old bytes new t steps ending

  module _ (limit k x13 steps : ℕ) (old : Recording) (bytes : ByteMap) (read : Got limit k x13 steps old bytes)
      (holds : HoldsWords bytes p echo_program) (within : k + (11 * length old.input.now + 12) ≤ limit) where
    -- a program apart from the buffer stands as before the read to it
    there : HoldsWords read.bytes' p echo_program
    there =
        holds_after bytes read.bytes' b (length read.text) p 72 echo_program read.kept
        (λ i j h h' same. apart i j (omega (arith, h, read.long)) h' same) (omega arith) holds

    -- what is left of the input
    left : length old.input.now ≡ length read.text + length read.after.input.now
    left = ap length read.consumed ∙ length-append read.text read.after.input.now

    -- nothing was read: what follows
    exits : length read.text ≡ 0 → Echoes k b size old bytes new t steps ending
    exits none =
        let no_input : length old.input.now ≡ 0 = omega (arith, none, read.long, some) in
        let served = subst (λ n. Served Records ending new t (limit - (k + 4 + 1)) read.after
        (behind_read n x13 read.bytes') read.later read.of_later) none read.goes_on in
        let exit = exited GivesInput TakesOutput TakesOutput TellsKnown ending new t refl (follows Records ending new t
        (limit - (k + 4 + 1)) 6 (p + 52) read.after _ (at_exit x13 read.bytes') read.later read.of_later
        (to_exit (limit - (k + 4 + 1)) x13 read.bytes' there (omega (arith, within))) served) in
        let ended = ap (λ l. old.output.items ++ l) (sym (no_length old.input.now no_input)) in
        record {
          rounds = 0;
          takes = record { enough = omega (arith, no_input); needed = omega (arith, no_input, some) };
          counted = omega (arith, read.counted, exit.counted);
          ends = exit.ends;
          output = ap (λ e. e.output.items) (exit.same ∙ read.others) ∙ sym (append-nil old.output.items) ∙ ended;
          input = ap (λ e. e.input.now) exit.same ∙ no_length read.after.input.now (omega (arith, left, no_input));
          errors_kept = ap (λ e. e.errors) (exit.same ∙ read.others);
          heap_kept = ap (λ e. e.heap) (exit.same ∙ read.others);
          random_kept = ap (λ e. e.random) (exit.same ∙ read.others);
          others_kept = λ a outside. ap (λ y. y.bytes a) exit.stays ∙ read.kept a
              (behind a b (length read.text) size (omega (arith, none)) outside);
        }

    -- bytes were read: what follows the write
    goes_on : (fuel : ℕ) → Goes fuel → 0 < length read.text → length old.input.now < suc fuel
        → length old.output.items + length old.input.now ≤ vec_capacity old.output
        → Echoes k b size old bytes new t steps ending
    goes_on fuel goes more enough room =
        let n = length read.text in
        let d = read.after in
        let same_room = ap (λ y. vec_capacity y.output) read.others in
        let held = ap (λ y. length y.output.items) read.others in
        let write = wrote_on GivesInput TakesOutput TakesOutput TellsKnown ending new t never_breaks refl refl (follows Records ending new t
        (limit - (k + 4 + 1)) 4 (p + 64) d _ (at_write n x13 read.bytes') read.later read.of_later
        (to_write (limit - (k + 4 + 1)) n x13 read.bytes' there (omega (arith, within)) more (omega (arith, read.long)))
        read.goes_on) in
        let e = write.after in
        let others = write.does.3 in
        let took = took_all read.bytes' b n read.text d.output write.does.0 write.does.1 write.of_call refl read.stands
        (omega (arith, read.long)) (omega (arith, read.long, buffer_fits))
        (omega (arith, left, room, held, same_room)) write.does.2 in
        let input : e.input.now ≡ d.input.now = ap (λ y. y.input.now) others in
        let output : e.output.items ≡ d.output.items ++ read.text = ap (λ y. y.output.items) others ∙ took.0 in
        let capacity : vec_capacity e.output ≡ vec_capacity d.output =
        ap (λ y. vec_capacity y.output) others ∙ write.does.2.1 in
        let value : word (pos write.does.1) ≡ n = omega (arith, read.long, took.1) in
        let pc : word (pos (p + 64 + 4)) ≡ p + 68 = omega (arith, fits) in
        let here : with_pc write.there (word (pos (p + 64 + 4))) ≡ behind_write n x13 read.bytes' =
        ap (λ y. with_pc y (word (pos (p + 64 + 4)))) write.does.4
        ∙ (λ i. at (registers_by r (value i) b n x13 size b 64) (pc i) (Some 10) read.bytes' writable) in
        let fewer : length e.input.now ≡ length d.input.now = ap length input in
        let longer : length e.output.items ≡ length d.output.items + n =
        ap length output ∙ length-append d.output.items read.text in
        let last = goes 1 n b n x13 64 None read.bytes' (behind_write n x13 read.bytes') e
        (limit - (k + 4 + 1) - 5) write.later write.of_later there (go_back n x13 read.bytes' there)
        (omega (arith, more, enough, left, fewer))
        (omega (arith, room, held, same_room, capacity, left, fewer, longer))
        (omega (arith, within, more, left, fewer))
        (subst (λ y. Served Records ending new t (limit - (k + 4 + 1) - 5) e y write.later write.of_later) here
        write.goes_on) in
        record {
          rounds = suc last.rounds;
          takes = round_more last.rounds (min size most_bytes) n (length e.input.now) (length old.input.now)
              (omega (arith, left, fewer)) read.long more last.takes;
          counted = omega (arith, read.counted, write.counted, last.counted);
          ends = last.ends;
          output = last.output ∙ (λ i. output i ++ input i) ∙ append_assoc d.output.items read.text d.input.now
              ∙ (λ i. (read.others i).output.items ++ sym read.consumed i);
          input = last.input;
          errors_kept = last.errors_kept ∙ ap (λ y. y.errors) others ∙ ap (λ y. y.errors) read.others;
          heap_kept = last.heap_kept ∙ ap (λ y. y.heap) others ∙ ap (λ y. y.heap) read.others;
          random_kept = last.random_kept ∙ ap (λ y. y.random) others ∙ ap (λ y. y.random) read.others;
          others_kept = λ a outside.
              last.others_kept a outside ∙ read.kept a (behind a b n size (omega (arith, read.long)) outside);
        }

  goes_all : (fuel : ℕ) → Goes fuel
  goes_all zero k x10 x11 x12 x13 x17 last bytes s old limit steps accesses holds before enough room within served =
      absurd (omega (arith, enough))
  goes_all (suc fuel) k x10 x11 x12 x13 x17 last bytes s old limit steps accesses holds before enough room within
      served =
      let run = to_read limit k x10 x11 x12 x13 x17 last bytes s holds (omega (arith, within)) before in
      let read = got limit k x13 steps old bytes
      (follows Records ending new t limit (k + 4) (p + 24) old s _ steps accesses run served) in
      elim (cases_lt 0 (length read.text)) as (λ _. Echoes k b size old bytes new t steps ending) [
        | inl more ↦
            goes_on limit k x13 steps old bytes read holds within fuel (goes_all fuel) more enough room
        | inr none ↦ exits limit k x13 steps old bytes read holds within (omega (arith, none))
      ]

pub echoes : (old new : Recording) (s t : State) (limit steps : ℕ) (ending : Ending) (accesses : List Access)
    → length s.registers ≡ 31 → EchoStarts s → reg s 10 < 2 ^ 32 → reg s 11 < 2 ^ 32
    → EndsAtLastAddress s.bytes s.writable
    → length old.output.items + length old.input.now ≤ vec_capacity old.output → 11 * length old.input.now + 14 ≤ limit
    → Served Records ending new t limit old s steps accesses
    → Echoes 2 (reg s 10) (reg s 11) old s.bytes new t steps ending
echoes old new s t limit steps ending accesses long starts b_small size_small ends room enough served =
    let b = reg s 10 in
    let size = reg s 11 in
    let fits = words-end s.bytes s.writable s.pc echo_program ends starts.program_there (omega arith) in
    let buffer_fits = writable-ends s.bytes s.writable b size ends starts.buffer_writable (omega (arith, b_small)) in
    let before = to_head (reg s) s.writable s.pc b size starts.aligned fits b_small size_small starts.buffer_writable
    buffer_fits starts.not_empty starts.apart_from_program new t ending (reg s 12) (reg s 13) (reg s 14) (reg s 15)
    (reg s 17) s.last s.bytes starts.program_there in
    goes_all (reg s) s.writable s.pc b size starts.aligned fits b_small size_small starts.buffer_writable buffer_fits
    starts.not_empty starts.apart_from_program new t ending (suc (length old.input.now)) 2 b size (reg s 12) (reg s 13)
    (reg s 17)
    (Some 14) s.bytes _ old limit steps accesses starts.program_there before (omega arith) room (omega (arith, enough))
    (subst (λ x. Served Records ending new t limit old x steps accesses) (opened s long) served)
