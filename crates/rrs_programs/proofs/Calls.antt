-- What the calls of these programs do to an environment, and to its streams.
use Rattle.std.proofs.Common.{◌≡◌, ◌≢◌, ◌⊎◌, ℕ, zero, suc, ◌+◌, ◌-◌, ◌%◌, ◌^◌, ◌≤◌, min, true, false, IsTrue, refl, List, ◌++◌, length, take, pos, Option, Some, None, Bool, inl, inr, sym, ap, subst, ◌∙◌, arith, Vec, vec_capacity}
use Rattle.std.specs.declared.alloc.Global.{Global}
use Rattle.std.proofs.lemmas.Bool.{false≢true, ne_eqb}
use Rattle.std.proofs.lemmas.Bool.Decides.{eqb_tells}
use Rattle.std.proofs.lemmas.Option.{none-some, same_Some}
use Rattle.std.proofs.lemmas.List.{length-take-le}
use Rattle.std.specs.Io.KnownBytes.{Appends}
use Rattle.rrs_lib.specs.Bytes.{ByteMap}
use Rattle.rrs_lib.specs.AccessLists.{Access}
use Rattle.rrs_lib.specs.Words.{word}
use Rattle.rrs_lib.specs.Machine.{State, reg, with_pc}
use Rattle.rrs_fast.specs.declared.serving.Ending.{Ending}
use Rattle.rrs_fast.specs.declared.serving.Ending.TheVariants.{Exit as Exits}
use Rattle.rrs_fast.specs.Serving.{Relation, Served}
use Rattle.rrs_fast.proofs.Following.{Follows, Ended, WentOn}
use Rattle.rrs_extra.specs.Programs.{IsWritable}
use Rattle.rrs_linux.specs.declared.Process.{Process}
use Rattle.rrs_linux.specs.declared.host_writer.HostWriter.{HostWriter}
use Rattle.rrs_linux.specs.declared.requests.Request.{Request}
use Rattle.rrs_linux.specs.declared.requests.Request.TheVariants.{Exit, Read, WriteOutput}
use Rattle.rrs_linux.specs.Clocks.{Tells}
use Rattle.rrs_linux.specs.Requests.{Asks, error, AsksBy, TakesEach, ToExit, ToRead, ToWriteOutput, ToWriteErrors, ToSetBreak, ToClose, ToControl, ToSeek, ToGetStatus, ToGetNamed, ToGetExtended, ToWriteOutputPieces, ToWriteErrorPieces, ToGetTime, ToGetTimeOfDay, ToGetNames, ToGetRandom, ToGetNumber, ToGetUser, OfNoFile, OfNoFlags, OfNoClock, OfNoCall}
use Rattle.rrs_linux.specs.SystemCalls.{Does, ServesBy, WritesOutput, ended_by}
use Rattle.rrs_linux.specs.Transfers
use Rattle.rrs_linux.specs.Transfers.{Gives, Takes, Stands, WriteEnds, counted, most_bytes}
use Rattle.rrs_linux.specs.Giving
use Rattle.rrs_linux.specs.Giving.{GivingEnds}
use Rattle.rrs_linux.specs.Recording.{TakingEnds, TakesOutput}
use Rattle.rrs_linux.specs.Recording
use Rattle.rrs_linux.proofs.Determined.{same_text}
use Rattle.rrs_linux.proofs.Written.{Stands-take}

-- ---- what is asked for

-- what the calls of these programs ask for: an exit, a read of the input, and a write to the output
abbrev Asked : (call a0 a1 a2 : ℕ) → Request → Type 0
Asked call a0 a1 a2 request =
    (call ≡ 93 → request ≡ Exit (a0 % 256)) × (call ≡ 63 → a0 ≡ 0 → request ≡ Read a1 a2)
    × (call ≡ 64 → a0 ≡ 1 → request ≡ WriteOutput a1 a2)

-- none of them is asked for
none_of : {call a0 a1 a2 : ℕ} {request : Request} → (call ≡ 93 → ⊥) → (call ≡ 63 → a0 ≡ 0 → ⊥)
    → (call ≡ 64 → a0 ≡ 1 → ⊥) → Asked call a0 a1 a2 request
none_of no_exit no_read no_write = (λ e. absurd (no_exit e), λ e f. absurd (no_read e f), λ e f. absurd (no_write e f))

none_of_each : {call a0 a1 a2 : ℕ} {request : Request} → TakesEach call → Asked call a0 a1 a2 request
none_of_each (inl c) = none_of (λ e. omega (arith, c)) (λ e f. omega (arith, c)) (λ e f. omega (arith, c))
none_of_each (inr (inl c)) = none_of (λ e. omega (arith, c)) (λ e f. omega (arith, c)) (λ e f. omega (arith, c))
none_of_each (inr (inr (inl c))) = none_of (λ e. omega (arith, c)) (λ e f. omega (arith, c)) (λ e f. omega (arith, c))
none_of_each (inr (inr (inr c))) = none_of (λ e. omega (arith, c)) (λ e f. omega (arith, c)) (λ e f. omega (arith, c))

asked : {call a0 a1 a2 a3 a4 : ℕ} {request : Request} → AsksBy call a0 a1 a2 a3 a4 request
    → Asked call a0 a1 a2 request
asked (ToExit (inl c) is) = (λ e. is, λ e f. absurd (omega arith), λ e f. absurd (omega arith))
asked (ToExit (inr c) is) = none_of (λ e. omega arith) (λ e f. omega arith) (λ e f. omega arith)
asked (ToRead c d is) = (λ e. absurd (omega arith), λ e f. is, λ e f. absurd (omega arith))
asked (ToWriteOutput c d is) = (λ e. absurd (omega arith), λ e f. absurd (omega arith), λ e f. is)
asked (ToWriteErrors c d is) = none_of (λ e. omega arith) (λ e f. omega arith) (λ e f. omega arith)
asked (ToWriteOutputPieces c d is) = none_of (λ e. omega arith) (λ e f. omega arith) (λ e f. omega arith)
asked (ToWriteErrorPieces c d is) = none_of (λ e. omega arith) (λ e f. omega arith) (λ e f. omega arith)
asked (ToSetBreak c is) = none_of (λ e. omega arith) (λ e f. omega arith) (λ e f. omega arith)
asked (ToClose c d is) = none_of (λ e. omega arith) (λ e f. omega arith) (λ e f. omega arith)
asked (ToControl c d is) = none_of (λ e. omega arith) (λ e f. omega arith) (λ e f. omega arith)
asked (ToSeek c d is) = none_of (λ e. omega arith) (λ e f. omega arith) (λ e f. omega arith)
asked (ToGetStatus c d is) = none_of (λ e. omega arith) (λ e f. omega arith) (λ e f. omega arith)
asked (ToGetNamed c known is) = none_of (λ e. omega arith) (λ e f. omega arith) (λ e f. omega arith)
asked (ToGetExtended c known is) = none_of (λ e. omega arith) (λ e f. omega arith) (λ e f. omega arith)
asked (ToGetTime c known is) = none_of (λ e. omega arith) (λ e f. omega arith) (λ e f. omega arith)
asked (ToGetTimeOfDay c is) = none_of (λ e. omega arith) (λ e f. omega arith) (λ e f. omega arith)
asked (ToGetNames c is) = none_of (λ e. omega arith) (λ e f. omega arith) (λ e f. omega arith)
asked (ToGetRandom c known is) = none_of (λ e. omega arith) (λ e f. omega arith) (λ e f. omega arith)
asked (OfNoClock c past is) = none_of (λ e. omega arith) (λ e f. omega arith) (λ e f. omega arith)
asked (ToGetNumber c is) = none_of (λ e. omega arith) (λ e f. omega arith) (λ e f. omega arith)
asked (ToGetUser (inl c) is) = none_of (λ e. omega (arith, c)) (λ e f. omega (arith, c)) (λ e f. omega (arith, c))
asked (ToGetUser (inr (inl c)) is) = none_of (λ e. omega (arith, c)) (λ e f. omega (arith, c)) (λ e f. omega (arith, c))
asked (ToGetUser (inr (inr (inl c))) is) = none_of (λ e. omega (arith, c)) (λ e f. omega (arith, c)) (λ e f. omega (arith, c))
asked (ToGetUser (inr (inr (inr c))) is) = none_of (λ e. omega (arith, c)) (λ e f. omega (arith, c)) (λ e f. omega (arith, c))
asked (OfNoFile (inl each) is) = none_of_each each.0
asked (OfNoFile (inr (inl read)) is) =
    let c = read.0 in none_of (λ e. omega (arith, c)) (λ e f. read.1 f) (λ e f. omega (arith, c))
asked (OfNoFile (inr (inr (inl c, no_output, no_errors))) is) =
    none_of (λ e. omega (arith, c)) (λ e f. omega (arith, c)) (λ e f. no_output f)
asked (OfNoFile (inr (inr (inr c, no_output, no_errors))) is) =
    none_of (λ e. omega (arith, c)) (λ e f. omega (arith, c)) (λ e f. omega (arith, c))
asked (OfNoFlags (inl flags) is) =
    let c = flags.0 in none_of (λ e. omega (arith, c)) (λ e f. omega (arith, c)) (λ e f. omega (arith, c))
asked (OfNoFlags (inr (inl flags)) is) =
    let c = flags.0 in none_of (λ e. omega (arith, c)) (λ e f. omega (arith, c)) (λ e f. omega (arith, c))
asked (OfNoFlags (inr (inr flags)) is) =
    let c = flags.0 in none_of (λ e. omega (arith, c)) (λ e f. omega (arith, c)) (λ e f. omega (arith, c))
asked (OfNoCall none is) = none_of (λ e. none.3 e) (λ e f. none.1 e) (λ e f. none.2 e)

-- ---- how a write ends the program

pub goes_on_by : (answer : ℕ) → answer ≢ error 32 → ended_by answer ≡ None
goes_on_by answer other = rw (ne_eqb answer (error 32) other) refl

-- it ends by the signal alone
pub ended_by_signal : (answer status : ℕ) → Some status ≡ ended_by answer → (answer ≡ error 32) × (status ≡ 141)
ended_by_signal answer status ends =
    elim (eqb_tells answer (error 32)) [
      | inl same ↦ (same.1, same_Some _ _ (ends ∙ rw same.0 refl))
      | inr other ↦ absurd (none-some status (sym (ends ∙ goes_on_by answer other.1)))
    ]

counted_below : (n e : ℕ) → n ≤ most_bytes → e ≢ error 32 → counted n e ≢ error 32
counted_below zero e small other = other
counted_below (suc n) e small other = λ same. omega (arith, same, small)

-- a write to a record does not
pub taking_goes_on : {bytes : ByteMap} {a count room reads answer : ℕ} {text : List ℕ}
    → TakingEnds bytes a count room text reads answer → answer ≢ error 32
taking_goes_on (Recording.IsWhole fits long room are answers) = λ same. omega (arith, answers, long, same)
taking_goes_on {text = text} (Recording.IsFull fits short full are answers) =
    λ same. counted_below (length text) (error 28) (omega (arith, short)) (λ e. omega (arith, e)) (sym answers ∙ same)
taking_goes_on {text = text} (Recording.IsUnmapped fits short more unmapped are answers) =
    λ same. counted_below (length text) (error 14) (omega (arith, short)) (λ e. omega (arith, e)) (sym answers ∙ same)
taking_goes_on (Recording.PassesEnd past none are answers) = λ same. omega (arith, answers, same)

-- no write to such a stream does
abbrev pub Continues : {W : Type 0} → Takes W → Type 0
Continues {W = W} takes =
    (bytes : ByteMap) (a count : ℕ) (old new : W) (answer : ℕ) (accesses : List Access)
    → takes bytes a count old new answer accesses → ended_by answer ≡ None

pub never_breaks : Continues TakesOutput
never_breaks bytes a count old new answer accesses took = goes_on_by answer (taking_goes_on took.0.ended)

-- ---- what follows a call, over any streams

module _ {R W E K : Type 0} (gives : Gives R K) (takes : Takes W) (takes_errors : Takes E)
    (tells : Tells K) (ending : Ending)
    (new : Process R W E K) (t : State) where
  abbrev serves : Relation (Process R W E K)
  serves = ServesBy gives takes takes_errors tells

  -- what is done is what was asked for
  done : {e d : Process R W E K} {u m : State} {accesses : List Access} {end : Option ℕ} (request : Request)
      (by : serves e u d m accesses end) → by.request ≡ request
      → Does gives takes takes_errors tells request e u d m accesses end
  done {e = e} {d = d} {u = u} {m = m} {accesses = accesses} {end = end} request by is =
      subst (λ r. Does gives takes takes_errors tells r e u d m accesses end) is by.does

  -- by an exit the program ended, and changed nothing
  pub record Exited (n steps : ℕ) (e : Process R W E K) (u : State) : Type 0 where
    pub counted : steps ≡ n + 1
    pub ends : ending ≡ Exits (reg u 10 % 256)
    pub same : new ≡ e
    pub stays : t ≡ u

  -- a call was answered, and the program goes on after it
  pub record Answered (limit n pc steps : ℕ) (e : Process R W E K) (u : State) (request : Request) : Type 0 where
    pub after : Process R W E K
    pub there : State
    pub of_call : List Access
    pub of_later : List Access
    pub later : ℕ
    pub does : Does gives takes takes_errors tells request e u after there of_call None
    pub goes_on : Served serves ending new t (limit - (n + 1)) after (with_pc there (word (pos (pc + 4)))) later
        of_later
    pub counted : steps ≡ n + 1 + later

  -- a call ended the program
  pub record Stopped (n steps : ℕ) (e : Process R W E K) (u : State) (request : Request) : Type 0 where
    pub of_call : List Access
    pub status : ℕ
    pub does : Does gives takes takes_errors tells request e u new t of_call (Some status)
    pub ends : ending ≡ Exits status
    pub counted : steps ≡ n + 1

  module _ {limit n pc steps : ℕ} {e : Process R W E K} {u : State} where
    pub exited : reg u 17 ≡ 93 → Follows serves ending new t limit n pc e u steps → Exited n steps e u
    exited call (Ended status of_call by is made) =
        let does = done (Exit (reg u 10 % 256)) by ((asked by.asks).0 call) in
        record { counted = made; ends = is ∙ ap Exits (same_Some _ _ does.0); same = does.1; stays = does.2 }
    exited call (WentOn d m of_call of_later later by behind made) =
        absurd (none-some _ (done (Exit (reg u 10 % 256)) by ((asked by.asks).0 call)).0)

    answers : (request : Request) → ((r : Request) → Asks u r → r ≡ request)
        → ((d : Process R W E K) (m : State) (accesses : List Access) (status : ℕ)
        → Does gives takes takes_errors tells request e u d m accesses (Some status) → ⊥)
        → Follows serves ending new t limit n pc e u steps → Answered limit n pc steps e u request
    answers request asks no_end (Ended status of_call by is made) =
        absurd (no_end new t of_call status (done request by (asks by.request by.asks)))
    answers request asks no_end (WentOn d m of_call of_later later by behind made) = record {
      after = d;
      there = m;
      of_call = of_call;
      of_later = of_later;
      later = later;
      does = done request by (asks by.request by.asks);
      goes_on = behind;
      counted = made;
    }

    pub wrote : reg u 17 ≡ 64 → reg u 10 ≡ 1 → Follows serves ending new t limit n pc e u steps
        → Stopped n steps e u (WriteOutput (reg u 11) (reg u 12))
        ⊎ Answered limit n pc steps e u (WriteOutput (reg u 11) (reg u 12))
    wrote call fd (Ended status of_call by is made) = inl (record {
      of_call = of_call;
      status = status;
      does = done (WriteOutput (reg u 11) (reg u 12)) by ((asked by.asks).2 call fd);
      ends = is;
      counted = made;
    })
    wrote call fd (WentOn d m of_call of_later later by behind made) = inr (record {
      after = d;
      there = m;
      of_call = of_call;
      of_later = of_later;
      later = later;
      does = done (WriteOutput (reg u 11) (reg u 12)) by ((asked by.asks).2 call fd);
      goes_on = behind;
      counted = made;
    })

    -- where no write ends the program
    pub wrote_on : Continues takes → reg u 17 ≡ 64 → reg u 10 ≡ 1 → Follows serves ending new t limit n pc e u steps
        → Answered limit n pc steps e u (WriteOutput (reg u 11) (reg u 12))
    wrote_on continues call fd = answers (WriteOutput (reg u 11) (reg u 12)) (λ r asks. (asked asks).2 call fd)
        (λ d m accesses status does. none-some status
        (sym (does.5 ∙ continues u.bytes (reg u 11) (reg u 12) e.output does.0 does.1 accesses does.2)))

    pub got : reg u 17 ≡ 63 → reg u 10 ≡ 0 → Follows serves ending new t limit n pc e u steps
        → Answered limit n pc steps e u (Read (reg u 11) (reg u 12))
    got call fd = answers (Read (reg u 11) (reg u 12)) (λ r asks. (asked asks).1 call fd)
        (λ d m accesses status does. none-some status (sym does.0))

-- ---- what a stream does with a text that stands

module _ (bytes : ByteMap) (a count : ℕ) (text text' : List ℕ) (known : count ≡ length text)
    (stands : Stands bytes a text)
    (stands' : Stands bytes a text') where
  -- a text for which a record has room is taken whole
  taken_from : (room reads answer : ℕ) → length text ≤ most_bytes → a + length text ≤ 2 ^ 32 → length text ≤ room
      → TakingEnds bytes a count room text' reads answer → (text' ≡ text) × (answer ≡ length text)
  taken_from room reads answer at_once fits large (Recording.IsWhole fits' long has_room are answers) =
      let same : text' ≡ text = same_text bytes a text' text (omega (arith, known, long, at_once)) stands' stands in
      (same, answers ∙ ap length same)
  taken_from room reads answer at_once fits large (Recording.IsFull fits' short full are answers) = absurd (omega arith)
  taken_from room reads answer at_once fits large (Recording.IsUnmapped fits' short more unmapped are answers) =
      absurd (none-some _ (sym unmapped ∙ stands (length text') (omega arith)))
  taken_from room reads answer at_once fits large (Recording.PassesEnd past none are answers) = absurd (omega arith)

  -- what is written of it to a writer of the host is no longer than it
  no_longer : {short short' : ℕ} {broken : Bool} (reads answer : ℕ)
      → WriteEnds bytes a count text' short short' broken reads answer → length text' ≤ length text
  no_longer reads answer (Transfers.Whole fits long none are answers) = omega arith
  no_longer reads answer (Transfers.IsUnmapped fits short unmapped none are answers) = omega arith
  no_longer reads answer (Transfers.IsShort fits short read one answers) = omega arith
  no_longer reads answer (Transfers.PassesEnd past none short are answers) = omega (arith, ap length none)

pub took_all : (bytes : ByteMap) (a count : ℕ) (text : List ℕ) (old new : Vec ℕ Global) (answer : ℕ)
    (accesses : List Access)
    → count ≡ length text → Stands bytes a text → length text ≤ most_bytes → a + length text ≤ 2 ^ 32
    → length old.items + length text ≤ vec_capacity old → TakesOutput bytes a count old new answer accesses
    → (new.items ≡ old.items ++ text) × (answer ≡ length text)
took_all bytes a count text old new answer accesses known stands at_once fits room takes =
    let of = takes.0 in
    let all = taken_from bytes a count text of.text known stands of.stands
    (vec_capacity old - length old.items) of.reads answer at_once fits (omega (arith, room)) of.ended in
    (of.appended ∙ ap (λ l. old.items ++ l) all.0, all.1)

-- a beginning of the text was written
pub record WroteSome {W : Type 0} (contents : W → Option (List ℕ)) (text : List ℕ) (old new : HostWriter W)
    : Type 0 where
  pub count : ℕ
  pub within : count ≤ length text
  pub appended : Appends (contents old.stream) (contents new.stream) (take count text)

-- nobody reads it, as one write more has shown
abbrev pub IsUnread : {W : Type 0} → HostWriter W → HostWriter W → Type 0
IsUnread old new = IsTrue new.is_broken × (new.short_writes ≡ (old.short_writes + 1) % 2 ^ 64)

-- a write that answers so was short, and nobody reads
unread : {bytes : ByteMap} {a count short short' reads answer : ℕ} {text : List ℕ} {broken : Bool}
    → WriteEnds bytes a count text short short' broken reads answer → answer ≡ error 32
    → IsTrue broken × (short' ≡ (short + 1) % 2 ^ 64)
unread (Transfers.Whole fits long none are answers) is = absurd (omega (arith, is, answers, long))
unread {text = text} (Transfers.IsUnmapped fits less unmapped none are answers) is =
    absurd (counted_below (length text) (error 14) (omega (arith, less)) (λ e. omega (arith, e)) (sym answers ∙ is))
unread {broken = true} (Transfers.IsShort fits less read one answers) is = (refl, one)
unread {text = text} {broken = false} (Transfers.IsShort fits less read one answers) is =
    absurd (counted_below (length text) (error 5) (omega (arith, less, read)) (λ e. omega (arith, e))
    (sym answers ∙ is))
unread (Transfers.PassesEnd past nothing none are answers) is = absurd (omega (arith, is, answers))

pub took_some : {W : Type 0} (contents : W → Option (List ℕ)) (bytes : ByteMap) (a count : ℕ) (text : List ℕ)
    (old new : HostWriter W)
    (answer : ℕ) (accesses : List Access) → count ≡ length text → Stands bytes a text
    → WritesOutput contents bytes a count old new answer accesses
    → WroteSome contents text old new × (answer ≡ error 32 → IsUnread old new)
took_some contents bytes a count text old new answer accesses known stands writes =
    let n = length writes.text in
    let short = no_longer bytes a count text writes.text known stands writes.stands writes.reads answer writes.ended in
    let long = sym (length-take-le n text short) in
    let same = same_text bytes a writes.text (take n text) long writes.stands
    (Stands-take bytes a n text short stands) in
    let some : WroteSome contents text old new = record {
      count = n;
      within = short;
      appended = subst (Appends (contents old.stream) (contents new.stream)) same writes.appended;
    } in
    (some, unread writes.ended)

-- ---- bytes of the input that are given to a buffer that is writable

-- as many are given as there are and were asked for
pub given_all : (writable : ℕ → Bool) (a count answer : ℕ) (left text : List ℕ) (accesses : List Access)
    → IsWritable writable a count → a + count ≤ 2 ^ 32 → GivingEnds writable a count left text accesses answer
    → (length text ≡ min (min count most_bytes) (length left)) × (answer ≡ length text)
given_all writable a count answer left text accesses open_there fits (Giving.IsWhole fits' long are answers) =
    (long, answers)
given_all writable a count answer left text accesses open_there fits
    (Giving.IsRefused byte rest fits' short is refused are answers) =
    absurd (false≢true (sym refused ∙ open_there (length text) (omega arith)))
given_all writable a count answer left text accesses open_there fits (Giving.PassesEnd past none are answers) =
    absurd (omega arith)
