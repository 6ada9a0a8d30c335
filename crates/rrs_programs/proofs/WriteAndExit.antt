-- The program that writes a text and ends, as a served run over any streams, by what its output does with the text.
use Rattle.std.proofs.Common.{◌≡◌, ◌⊎◌, inl, inr, ℕ, ◌+◌, ◌-◌, ◌%◌, ◌^◌, ◌<◌, ◌≤◌, List, length, Bool, pos, Option, Some, None, IsSome, refl, sym, ap, subst, ◌∙◌, arith}
use Rattle.rrs_lib.specs.declared.instruction_executor.InstructionException.TheVariants.{EnvironmentCall}
use Rattle.rrs_lib.specs.Words.{word}
use Rattle.rrs_lib.specs.Bytes.{ByteMap, EndsAtLastAddress}
use Rattle.rrs_lib.specs.AccessLists.{Access}
use Rattle.rrs_lib.specs.Machine.{State, reg, with_pc}
use Rattle.rrs_lib.specs.Steps.{RunUntil}
use Rattle.rrs_lib.proofs.Programs.{at}
use Rattle.rrs_fast.specs.declared.serving.Ending.{Ending}
use Rattle.rrs_fast.specs.declared.serving.Ending.TheVariants.{Exit}
use Rattle.rrs_fast.specs.Serving.{Relation, Served}
use Rattle.rrs_fast.proofs.Following.{follows}
use Rattle.rrs_linux.specs.declared.Process.{Process}
use Rattle.rrs_linux.specs.declared.requests.Request.TheVariants.{WriteOutput}
use Rattle.rrs_linux.specs.Clocks.{Tells}
use Rattle.rrs_linux.specs.Requests.{error}
use Rattle.rrs_linux.specs.SystemCalls.{ServesBy}
use Rattle.rrs_linux.specs.Transfers.{Gives, Takes, Stands}
use Rattle.rrs_extra.specs.Programs.{IsMapped}
use Rattle.rrs_extra.proofs.Words.{words-end, mapped-ends, writes, ◌▸◌, done}
use Rattle.rrs_programs.specs.WritingAndExiting.{write_and_exit_program, WriteAndExitStarts}
use Rattle.rrs_programs.proofs.Calls.{Stopped, Answered, exited, wrote, ended_by_signal}
use Rattle.rrs_programs.proofs.Runs.{registers_by, opened, to_call}

-- a text that stands is mapped
text_mapped : (bytes : ByteMap) (a : ℕ) (text : List ℕ) → Stands bytes a text → IsMapped bytes a (length text)
text_mapped bytes a text stands = λ i less. subst (λ (o : Option ℕ). IsSome o) (sym (stands i less)) refl

module _ {R W E K : Type 0} (gives : Gives R K) (takes : Takes W) (takes_errors : Takes E)
    (tells : Tells K) (text : List ℕ)
    (old : Process R W E K)
    (Left Unread : W → Type 0) where
  -- whatever a write of the text does to the output, this holds of it then, and that if it ends the program
  abbrev pub Leaves : Type 0
  Leaves =
      (bytes : ByteMap) (a count answer : ℕ) (output : W) (accesses : List Access) → count ≡ length text
      → Stands bytes a text → a + length text ≤ 2 ^ 32 → takes bytes a count old.output output answer accesses
      → Left output × (answer ≡ error 32 → Unread output)

  -- how it ends: with its status, or at the write
  abbrev pub Ends : W → ℕ → ℕ → Ending → Type 0
  Ends output status steps ending =
      ((steps ≡ 13) × (ending ≡ Exit (status % 256))) ⊎ (Unread output × (steps ≡ 8) × (ending ≡ Exit 141))

  -- what the program leaves
  pub record WritesAndExits (new : Process R W E K) (s t : State) (steps : ℕ) (ending : Ending) : Type 0 where
    pub ends : Ends new.output (reg s 12) steps ending
    pub left : Left new.output × (new ≡ record old { output = new.output })
    pub bytes_kept : t.bytes ≡ s.bytes

  abbrev serves : Relation (Process R W E K)
  serves = ServesBy gives takes takes_errors tells

  module _ (leaves : Leaves) (new : Process R W E K) (t : State) (ending : Ending) (limit : ℕ) (enough : 13 ≤ limit)
      (r : ℕ → ℕ) (bytes : ByteMap) (writable : ℕ → Bool) (p a n status x13 x14 x15 x17 : ℕ) (last : Option ℕ)
      (starts : WriteAndExitStarts text (at (registers_by r a n status x13 x14 x15 x17) p last bytes writable))
      (a_small : a < 2 ^ 32) (n_small : n < 2 ^ 32) (status_small : status < 2 ^ 32)
      (fits : p + 52 ≤ 2 ^ 32) (within : a + length text ≤ 2 ^ 32) where
    -- the states at the start, at the write, after it, and at the exit
    abbrev start : State
    start = at (registers_by r a n status x13 x14 x15 x17) p last bytes writable

    abbrev at_write : State
    at_write = at (registers_by r 1 a n a n status 64) (p + 28) None bytes writable

    abbrev behind : ℕ → State
    behind x10 = at (registers_by r x10 a n a n status 64) (p + 32) (Some 10) bytes writable

    abbrev at_exit : State
    at_exit = at (registers_by r status 0 0 a n status 93) (p + 48) None bytes writable

    to_write : RunUntil limit start 7 (Some (EnvironmentCall (p + 28))) at_write
    to_write =
        let there = starts.program_there in
        let aligned = starts.aligned in
        to_call there aligned limit 7 7 (omega arith) refl refl (
        writes there aligned fits 0 12 a (pos (a + 0)) refl refl refl (omega arith)
        ▸ writes there aligned fits 1 13 n (pos (n + 0)) refl refl refl (omega arith)
        ▸ writes there aligned fits 2 14 status (pos (status + 0)) refl refl refl (omega arith)
        ▸ writes there aligned fits 3 9 1 (pos 1) refl refl refl refl
        ▸ writes there aligned fits 4 10 a (pos (a + 0)) refl refl refl (omega arith)
        ▸ writes there aligned fits 5 11 n (pos (n + 0)) refl refl refl (omega arith)
        ▸ writes there aligned fits 6 16 64 (pos 64) refl refl refl refl ▸ done)

    to_exit : (x10 : ℕ) → RunUntil (limit - 8) (behind x10) 4 (Some (EnvironmentCall (p + 48))) at_exit
    to_exit x10 =
        let there = starts.program_there in
        let aligned = starts.aligned in
        to_call there aligned (limit - 8) 4 12 (omega arith) refl refl (
        writes there aligned fits 8 10 0 (pos 0) refl refl refl refl
        ▸ writes there aligned fits 9 9 status (pos (status + 0)) refl refl refl (omega arith)
        ▸ writes there aligned fits 10 11 0 (pos 0) refl refl refl refl
        ▸ writes there aligned fits 11 16 93 (pos 93) refl refl refl refl ▸ done)

    -- what the write leaves
    left : (output : W) (answer : ℕ) (accesses : List Access) → takes bytes a n old.output output answer accesses
        → Left output × (answer ≡ error 32 → Unread output)
    left output answer accesses takes =
        leaves bytes a n answer output accesses starts.length_given starts.text_there within takes

    -- the write ends the program
    stops : (steps : ℕ) → Stopped gives takes takes_errors tells ending new t 7 steps old at_write (WriteOutput a n)
        → WritesAndExits new start t steps ending
    stops steps stopped =
        let did = left stopped.does.0 stopped.does.1 stopped.of_call stopped.does.2 in
        let by = ended_by_signal stopped.does.1 stopped.status stopped.does.5 in
        let same : new ≡ record old { output = stopped.does.0 } = stopped.does.3 in
        record {
          ends = inr (
            subst Unread (sym (ap (λ x. x.output) same)) (did.1 by.0),
            stopped.counted,
            stopped.ends ∙ ap Exit by.1,
          );
          left = subst (λ x. Left x.output × (x ≡ record old { output = x.output })) (sym same) (did.0, refl);
          bytes_kept = ap (λ y. y.bytes) stopped.does.4;
        }

    -- the write is answered, and then comes the exit
    goes_on : (steps : ℕ) → Answered gives takes takes_errors tells ending new t limit 7 (p + 28) steps old at_write
        (WriteOutput a n) → WritesAndExits new start t steps ending
    goes_on steps write =
        let x10 = word (pos write.does.1) in
        let pc : word (pos (p + 28 + 4)) ≡ p + 32 = omega arith in
        let here : with_pc write.there (word (pos (p + 28 + 4))) ≡ behind x10 =
        ap (λ y. with_pc y (word (pos (p + 28 + 4)))) write.does.4 ∙ (λ i. with_pc (behind x10) (pc i)) in
        let rest = subst (λ y. Served serves ending new t (limit - 8) write.after y write.later write.of_later) here
        write.goes_on in
        let exit = exited gives takes takes_errors tells ending new t refl (follows serves ending new t (limit - 8) 4 (p + 48)
        write.after (behind x10) at_exit write.later write.of_later (to_exit x10) rest) in
        let did = left write.does.0 write.does.1 write.of_call write.does.2 in
        record {
          ends = inl (omega (arith, write.counted, exit.counted), exit.ends);
          left = subst (λ x. Left x.output × (x ≡ record old { output = x.output })) (sym (exit.same ∙ write.does.3))
              (did.0, refl);
          bytes_kept = ap (λ y. y.bytes) exit.stays;
        }

    from_start : (steps : ℕ) (accesses : List Access) → Served serves ending new t limit old start steps accesses
        → WritesAndExits new start t steps ending
    from_start steps accesses served =
        elim (wrote gives takes takes_errors tells ending new t refl refl
        (follows serves ending new t limit 7 (p + 28) old start at_write steps accesses to_write served)) [
          | inl stopped ↦ stops steps stopped
          | inr write ↦ goes_on steps write
        ]

  pub writes_and_exits : Leaves
      → (new : Process R W E K) (t : State) (ending : Ending) (limit : ℕ) (s : State) (steps : ℕ)
      (accesses : List Access) → 13 ≤ limit → length s.registers ≡ 31 → WriteAndExitStarts text s → reg s 10 < 2 ^ 32
      → reg s 11 < 2 ^ 32 → reg s 12 < 2 ^ 32 → EndsAtLastAddress s.bytes s.writable
      → Served serves ending new t limit old s steps accesses → WritesAndExits new s t steps ending
  writes_and_exits leaves new t ending limit s steps accesses enough long starts a_small n_small status_small ends
      served =
      let same = opened s long in
      let there = subst (WriteAndExitStarts text) same starts in
      let fits = words-end s.bytes s.writable s.pc write_and_exit_program ends starts.program_there (omega arith) in
      let mapped = text_mapped s.bytes (reg s 10) text starts.text_there in
      let within = mapped-ends s.bytes s.writable (reg s 10) (length text) ends mapped (omega (arith, a_small)) in
      subst (λ x. WritesAndExits new x t steps ending) (sym same)
      (from_start leaves new t ending limit enough (reg s) s.bytes s.writable s.pc (reg s 10) (reg s 11) (reg s 12)
      (reg s 13) (reg s 14) (reg s 15) (reg s 17) s.last there a_small n_small status_small fits within steps accesses
      (subst (λ x. Served serves ending new t limit old x steps accesses) same served))
