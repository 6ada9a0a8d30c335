-- The calls of an environment over known bytes are determined: what is asked for, which text is transferred, and what is
-- left.
use Rattle.std.proofs.Common.{nat_lt, false, ◌≡◌, ℕ, zero, suc, ◌+◌, ◌*◌, min, ◌-◌, ◌%◌, ◌<◌, ◌≤◌, ◌==◌, ◌||◌, if◌then◌else◌, Bool, true, List, [], ◌∷◌, ◌++◌, length, take, get_or, Option, None, Some, inl, inr, refl, sym, subst, ap, ◌∙◌, arith, ext_get_or, Vec, vec_capacity}
use Rattle.std.proofs.lemmas.Bool.{cases_lt, ne_eqb, le-ltb, lt-ltb, false≢true}
use Rattle.std.proofs.lemmas.Option.{none-some, same_Some}
use Rattle.std.proofs.lemmas.List.{length-append, append_cancel_left}
use Rattle.std.proofs.Math.Seq.{take-append_seam}
use Rattle.std.specs.Duration.{as_nanos}
use Rattle.std.specs.declared.alloc.Global.{Global}
use Rattle.std.specs.declared.time.Duration.{Duration}
use Rattle.rrs_lib.specs.declared.MemAccessSize.TheVariants.{Byte}
use Rattle.rrs_lib.specs.Bytes.{ByteMap}
use Rattle.rrs_lib.specs.AccessLists.{Access}
use Rattle.rrs_lib.specs.Loading.{Loaded, byte_writes}
use Rattle.rrs_lib.specs.Machine.{State}
use Rattle.rrs_fast.specs.Serving.{IsDeterminedBy}
use Rattle.rrs_linux.specs.declared.clocks.TimeForm.TheVariants.{Timespec, Timeval}
use Rattle.rrs_linux.specs.declared.recorder.Known.{Known}
use Rattle.rrs_linux.specs.declared.requests.Request.{Request}
use Rattle.rrs_linux.specs.declared.statuses.Lookup.{Lookup}
use Rattle.rrs_linux.specs.declared.requests.Request.TheVariants.{Exit, Answer, NoCall, Status, NamedStatus, ExtendedStatus, Time, SetBreak, Names, Random, Read, WriteOutput, WriteErrors, WriteOutputPieces, WriteErrorPieces}
use Rattle.rrs_linux.specs.Requests.{Asks, AsksBy, error, ToExit, ToRead, ToWriteOutput, ToWriteErrors, ToSetBreak, ToClose, ToControl, ToSeek, ToGetStatus, ToGetNamed, ToGetExtended, ToWriteOutputPieces, ToWriteErrorPieces, ToGetTime, ToGetTimeOfDay, ToGetNames, ToGetRandom, ToGetNumber, ToGetUser, OfNoFile, OfNoFlags, OfNoClock, OfNoCall, are_flags, are_statx_flags, are_random_flags}
use Rattle.rrs_linux.specs.Clocks
use Rattle.rrs_linux.specs.Clocks.{PutsTime, IsTold, form_of, stopped_at}
use Rattle.rrs_linux.specs.Statuses
use Rattle.rrs_linux.specs.Statuses.{PutsBytes, PutsNamed, IsPut, IsNamed, failed}
use Rattle.rrs_linux.specs.Transfers.{Stands, byte_reads, most_bytes}
use Rattle.rrs_linux.specs.Vectors
use Rattle.rrs_linux.specs.Vectors.{WritesPieces, WritesVector, IsWritten, IsNegative, IsTooLong, together}
use Rattle.rrs_linux.specs.SystemCalls.{Does, answered, moved, noted, noted_break, ended_by}
use Rattle.rrs_linux.specs.Giving
use Rattle.rrs_linux.specs.Giving.{GivingEnds, GivesText}
use Rattle.rrs_linux.specs.Random.{random_bytes, state_after}
use Rattle.rrs_linux.specs.Recording.{TakingEnds, TakesText, GivesInput, TakesOutput, TellsKnown, Recording, Records, AlikeInputs, AlikeRecords, AlikeRecordings}
use Rattle.rrs_linux.specs.Recording

-- ---- what is asked for

-- what is asked of a stream that is open
abbrev if_open : ℕ → Request → Request
if_open fd request = if nat_lt 2 fd then Answer (error 9) else request

is_open : (fd : ℕ) (request : Request) → fd ≤ 2 → if_open fd request ≡ request
is_open fd request fits = rw (le-ltb 2 fd fits) refl

is_closed : (fd : ℕ) (request : Request) → 2 < fd → if_open fd request ≡ Answer (error 9)
is_closed fd request past = rw (lt-ltb 2 fd past) refl

-- what is asked for with flags that there are
abbrev if_flags : Bool → Request → Request
if_flags known request = if known then request else Answer (error 22)

are_there : {known : Bool} (request : Request) → known ≡ true → if_flags known request ≡ request
are_there request known = rw known refl

are_not : {known : Bool} (request : Request) → known ≡ false → if_flags known request ≡ Answer (error 22)
are_not request known = rw known refl

-- what is asked for of a clock that there is
abbrev if_clock : ℕ → Request → Request
if_clock clock request = if nat_lt 3 clock then Answer (error 22) else request

is_clock : (clock : ℕ) (request : Request) → clock ≤ 3 → if_clock clock request ≡ request
is_clock clock request fits = rw (le-ltb 3 clock fits) refl

is_no_clock : (clock : ℕ) (request : Request) → 3 < clock → if_clock clock request ≡ Answer (error 22)
is_no_clock clock request past = rw (lt-ltb 3 clock past) refl

-- what newfstatat and statx ask for
abbrev named : (a0 a1 a2 a3 : ℕ) → Request
named a0 a1 a2 a3 = NamedStatus (record { descriptor = a0; path = a1; flags = a3 }) a2

abbrev extended : (a0 a1 a2 a4 : ℕ) → Request
extended a0 a1 a2 a4 = ExtendedStatus (record { descriptor = a0; path = a1; flags = a2 }) a4

-- what a call asks for, by tests
asked_for : (call a0 a1 a2 a3 a4 : ℕ) → Request
asked_for call a0 a1 a2 a3 a4 =
    if (call == 93) || (call == 94) then Exit (a0 % 256)
    else (if call == 63 then (if a0 == 0 then Read a1 a2 else Answer (error 9))
    else (if call == 64 then (if a0 == 1 then WriteOutput a1 a2
    else (if a0 == 2 then WriteErrors a1 a2 else Answer (error 9)))
    else (if call == 66 then (if a0 == 1 then WriteOutputPieces a1 a2
    else (if a0 == 2 then WriteErrorPieces a1 a2 else Answer (error 9)))
    else (if call == 214 then SetBreak a0
    else (if call == 172 then Answer 1
    else (if call == 79 then if_flags (are_flags a3) (named a0 a1 a2 a3)
    else (if call == 291 then if_flags (are_statx_flags a2 a3) (extended a0 a1 a2 a4)
    else (if call == 403 then if_clock a0 (Time a0 Timespec a1)
    else (if call == 169 then Time 0 Timeval a0
    else (if call == 160 then Names a0
    else (if call == 278 then if_flags (are_random_flags a2) (Random a0 a1)
    else (if call == 57 then if_open a0 (Answer 0)
    else (if call == 29 then if_open a0 (Answer (error 25))
    else (if call == 62 then if_open a0 (Answer (error 29))
    else (if call == 80 then if_open a0 (Status a1)
    else (if (call == 174) || (call == 175) || (call == 176) || (call == 177) then Answer 1000
    else NoCall call))))))))))))))))

asks_for : {call a0 a1 a2 a3 a4 : ℕ} {r : Request} → AsksBy call a0 a1 a2 a3 a4 r → r ≡ asked_for call a0 a1 a2 a3 a4
unfolding asked_for
asks_for {a0 = a0} {a1 = a1} {a2 = a2} {a3 = a3} {a4 = a4} (ToExit (inl c) is) =
    is ∙ (λ i. asked_for (sym c i) a0 a1 a2 a3 a4)
asks_for {a0 = a0} {a1 = a1} {a2 = a2} {a3 = a3} {a4 = a4} (ToExit (inr c) is) =
    is ∙ (λ i. asked_for (sym c i) a0 a1 a2 a3 a4)
asks_for {a0 = a0} {a1 = a1} {a2 = a2} {a3 = a3} {a4 = a4} (ToRead c d is) =
    is ∙ (λ i. asked_for (sym c i) (sym d i) a1 a2 a3 a4)
asks_for {a0 = a0} {a1 = a1} {a2 = a2} {a3 = a3} {a4 = a4} (ToWriteOutput c d is) =
    is ∙ (λ i. asked_for (sym c i) (sym d i) a1 a2 a3 a4)
asks_for {a0 = a0} {a1 = a1} {a2 = a2} {a3 = a3} {a4 = a4} (ToWriteErrors c d is) =
    is ∙ (λ i. asked_for (sym c i) (sym d i) a1 a2 a3 a4)
asks_for {a0 = a0} {a1 = a1} {a2 = a2} {a3 = a3} {a4 = a4} (ToWriteOutputPieces c d is) =
    is ∙ (λ i. asked_for (sym c i) (sym d i) a1 a2 a3 a4)
asks_for {a0 = a0} {a1 = a1} {a2 = a2} {a3 = a3} {a4 = a4} (ToWriteErrorPieces c d is) =
    is ∙ (λ i. asked_for (sym c i) (sym d i) a1 a2 a3 a4)
asks_for {a0 = a0} {a1 = a1} {a2 = a2} {a3 = a3} {a4 = a4} (ToSetBreak c is) =
    is ∙ (λ i. asked_for (sym c i) a0 a1 a2 a3 a4)
asks_for {a0 = a0} {a1 = a1} {a2 = a2} {a3 = a3} {a4 = a4} (ToGetNumber c is) =
    is ∙ (λ i. asked_for (sym c i) a0 a1 a2 a3 a4)
asks_for {a0 = a0} {a1 = a1} {a2 = a2} {a3 = a3} {a4 = a4} (ToGetUser (inl c) is) =
    is ∙ (λ i. asked_for (sym c i) a0 a1 a2 a3 a4)
asks_for {a0 = a0} {a1 = a1} {a2 = a2} {a3 = a3} {a4 = a4} (ToGetUser (inr (inl c)) is) =
    is ∙ (λ i. asked_for (sym c i) a0 a1 a2 a3 a4)
asks_for {a0 = a0} {a1 = a1} {a2 = a2} {a3 = a3} {a4 = a4} (ToGetUser (inr (inr (inl c))) is) =
    is ∙ (λ i. asked_for (sym c i) a0 a1 a2 a3 a4)
asks_for {a0 = a0} {a1 = a1} {a2 = a2} {a3 = a3} {a4 = a4} (ToGetUser (inr (inr (inr c))) is) =
    is ∙ (λ i. asked_for (sym c i) a0 a1 a2 a3 a4)
asks_for {a0 = a0} {a1 = a1} {a2 = a2} {a3 = a3} {a4 = a4} (ToClose c fits is) =
    is ∙ sym (is_open a0 (Answer 0) fits) ∙ (λ i. asked_for (sym c i) a0 a1 a2 a3 a4)
asks_for {a0 = a0} {a1 = a1} {a2 = a2} {a3 = a3} {a4 = a4} (ToControl c fits is) =
    is ∙ sym (is_open a0 (Answer (error 25)) fits) ∙ (λ i. asked_for (sym c i) a0 a1 a2 a3 a4)
asks_for {a0 = a0} {a1 = a1} {a2 = a2} {a3 = a3} {a4 = a4} (ToSeek c fits is) =
    is ∙ sym (is_open a0 (Answer (error 29)) fits) ∙ (λ i. asked_for (sym c i) a0 a1 a2 a3 a4)
asks_for {a0 = a0} {a1 = a1} {a2 = a2} {a3 = a3} {a4 = a4} (ToGetStatus c fits is) =
    is ∙ sym (is_open a0 (Status a1) fits) ∙ (λ i. asked_for (sym c i) a0 a1 a2 a3 a4)
asks_for {a0 = a0} {a1 = a1} {a2 = a2} {a3 = a3} {a4 = a4} (ToGetNamed c known is) =
    is ∙ sym (are_there (named a0 a1 a2 a3) known) ∙ (λ i. asked_for (sym c i) a0 a1 a2 a3 a4)
asks_for {a0 = a0} {a1 = a1} {a2 = a2} {a3 = a3} {a4 = a4} (ToGetExtended c known is) =
    is ∙ sym (are_there (extended a0 a1 a2 a4) known) ∙ (λ i. asked_for (sym c i) a0 a1 a2 a3 a4)
asks_for {a0 = a0} {a1 = a1} {a2 = a2} {a3 = a3} {a4 = a4} (OfNoFile (inl (inl c, past)) is) =
    is ∙ sym (is_closed a0 (Answer (error 25)) past) ∙ (λ i. asked_for (sym c i) a0 a1 a2 a3 a4)
asks_for {a0 = a0} {a1 = a1} {a2 = a2} {a3 = a3} {a4 = a4} (OfNoFile (inl (inr (inl c), past)) is) =
    is ∙ sym (is_closed a0 (Answer 0) past) ∙ (λ i. asked_for (sym c i) a0 a1 a2 a3 a4)
asks_for {a0 = a0} {a1 = a1} {a2 = a2} {a3 = a3} {a4 = a4} (OfNoFile (inl (inr (inr (inl c)), past)) is) =
    is ∙ sym (is_closed a0 (Answer (error 29)) past) ∙ (λ i. asked_for (sym c i) a0 a1 a2 a3 a4)
asks_for {a0 = a0} {a1 = a1} {a2 = a2} {a3 = a3} {a4 = a4} (OfNoFile (inl (inr (inr (inr c)), past)) is) =
    is ∙ sym (is_closed a0 (Status a1) past) ∙ (λ i. asked_for (sym c i) a0 a1 a2 a3 a4)
asks_for {a0 = a0} {a1 = a1} {a2 = a2} {a3 = a3} {a4 = a4} (OfNoFile (inr (inl read)) is) =
    is ∙ sym (ap (λ n. asked_for n a0 a1 a2 a3 a4) read.0 ∙ rw (ne_eqb a0 0 read.1) refl)
asks_for {a0 = a0} {a1 = a1} {a2 = a2} {a3 = a3} {a4 = a4} (OfNoFile (inr (inr (inl c, no_output, no_errors))) is) =
    is ∙ sym (ap (λ n. asked_for n a0 a1 a2 a3 a4) c ∙ rw (ne_eqb a0 1 no_output) (rw (ne_eqb a0 2 no_errors) refl))
asks_for {a0 = a0} {a1 = a1} {a2 = a2} {a3 = a3} {a4 = a4} (OfNoFile (inr (inr (inr c, no_output, no_errors))) is) =
    is ∙ sym (ap (λ n. asked_for n a0 a1 a2 a3 a4) c ∙ rw (ne_eqb a0 1 no_output) (rw (ne_eqb a0 2 no_errors) refl))
asks_for {a0 = a0} {a1 = a1} {a2 = a2} {a3 = a3} {a4 = a4} (ToGetTime c fits is) =
    is ∙ sym (is_clock a0 (Time a0 Timespec a1) fits) ∙ (λ i. asked_for (sym c i) a0 a1 a2 a3 a4)
asks_for {a0 = a0} {a1 = a1} {a2 = a2} {a3 = a3} {a4 = a4} (ToGetTimeOfDay c is) =
    is ∙ (λ i. asked_for (sym c i) a0 a1 a2 a3 a4)
asks_for {a0 = a0} {a1 = a1} {a2 = a2} {a3 = a3} {a4 = a4} (ToGetNames c is) =
    is ∙ (λ i. asked_for (sym c i) a0 a1 a2 a3 a4)
asks_for {a0 = a0} {a1 = a1} {a2 = a2} {a3 = a3} {a4 = a4} (ToGetRandom c known is) =
    is ∙ sym (are_there (Random a0 a1) known) ∙ (λ i. asked_for (sym c i) a0 a1 a2 a3 a4)
asks_for {a0 = a0} {a1 = a1} {a2 = a2} {a3 = a3} {a4 = a4} (OfNoClock c past is) =
    is ∙ sym (is_no_clock a0 (Time a0 Timespec a1) past) ∙ (λ i. asked_for (sym c i) a0 a1 a2 a3 a4)
asks_for {a0 = a0} {a1 = a1} {a2 = a2} {a3 = a3} {a4 = a4} (OfNoFlags (inl named_so) is) =
    is ∙ sym (are_not (named a0 a1 a2 a3) named_so.1) ∙ (λ i. asked_for (sym named_so.0 i) a0 a1 a2 a3 a4)
asks_for {a0 = a0} {a1 = a1} {a2 = a2} {a3 = a3} {a4 = a4} (OfNoFlags (inr (inl named_so)) is) =
    is ∙ sym (are_not (extended a0 a1 a2 a4) named_so.1) ∙ (λ i. asked_for (sym named_so.0 i) a0 a1 a2 a3 a4)
asks_for {a0 = a0} {a1 = a1} {a2 = a2} {a3 = a3} {a4 = a4} (OfNoFlags (inr (inr random)) is) =
    is ∙ sym (are_not (Random a0 a1) random.1) ∙ (λ i. asked_for (sym random.0 i) a0 a1 a2 a3 a4)
asks_for {call = call} (OfNoCall none is) =
    is ∙ sym (rw (ne_eqb call 93 none.3) (rw (ne_eqb call 94 none.4) (rw (ne_eqb call 63 none.1)
    (rw (ne_eqb call 64 none.2) (rw (ne_eqb call 66 none.10) (rw (ne_eqb call 214 none.5) (rw (ne_eqb call 172 none.9)
    (rw (ne_eqb call 79 none.11) (rw (ne_eqb call 291 none.12)
    (rw (ne_eqb call 403 none.13) (rw (ne_eqb call 169 none.14) (rw (ne_eqb call 160 none.15)
    (rw (ne_eqb call 278 none.16) (rw (ne_eqb call 57 none.0) (rw (ne_eqb call 29 none.6)
    (rw (ne_eqb call 62 none.7) (rw (ne_eqb call 80 none.8)
    (rw (ne_eqb call 174 (λ c. none.17 (inl c))) (rw (ne_eqb call 175 (λ c. none.17 (inr (inl c))))
    (rw (ne_eqb call 176 (λ c. none.17 (inr (inr (inl c))))) (rw (ne_eqb call 177 (λ c. none.17 (inr (inr (inr c)))))
    refl)))))))))))))))))))))

asks_one : (s : State) {r r' : Request} → Asks s r → Asks s r' → r ≡ r'
asks_one s asks asks' = asks_for asks ∙ sym (asks_for asks')

-- ---- a write

-- one text of each length stands at an address
pub same_text : (bytes : ByteMap) (a : ℕ) (text text' : List ℕ) → length text ≡ length text' → Stands bytes a text
    → Stands bytes a text' → text ≡ text'
same_text bytes a text text' long stands stands' =
    ext_get_or 0 text text' long (λ i less. same_Some _ _ (sym (stands i less) ∙ stands' i (omega (arith, less, long))))

module _ {bytes : ByteMap} {a count room : ℕ} where
  -- of two texts that are taken neither is longer
  taken_no_longer : {n n' answer answer' : ℕ} {text text' : List ℕ} → Stands bytes a text'
      → TakingEnds bytes a count room text n answer → TakingEnds bytes a count room text' n' answer'
      → length text' ≤ length text
  taken_no_longer stands (Recording.IsWhole _ long _ _ _) (Recording.IsWhole _ long' _ _ _) = omega (arith, long, long')
  taken_no_longer stands (Recording.IsWhole _ long _ _ _) (Recording.IsFull _ short' _ _ _) = omega (arith, long, short')
  taken_no_longer stands (Recording.IsWhole _ long _ _ _) (Recording.IsUnmapped _ short' _ _ _ _) =
      omega (arith, long, short')
  taken_no_longer stands _ (Recording.PassesEnd _ none _ _) = omega (arith, ap length none)
  taken_no_longer stands (Recording.IsFull _ _ full _ _) (Recording.IsWhole _ _ room _ _) = omega (arith, full, room)
  taken_no_longer stands (Recording.IsFull _ _ full _ _) (Recording.IsFull _ _ full' _ _) = omega (arith, full, full')
  taken_no_longer stands (Recording.IsFull _ _ full _ _) (Recording.IsUnmapped _ _ more _ _ _) =
      omega (arith, full, more)
  taken_no_longer {text = text} {text' = text'} stands (Recording.IsUnmapped _ _ _ unmapped _ _) _ =
      elim (cases_lt (length text) (length text')) as (λ _. length text' ≤ length text) [
        | inl less ↦ absurd (none-some _ (sym unmapped ∙ stands (length text) less))
        | inr least ↦ least
      ]
  taken_no_longer stands (Recording.PassesEnd past _ _ _) (Recording.IsWhole fits _ _ _ _) =
      absurd (omega (arith, past, fits))
  taken_no_longer stands (Recording.PassesEnd past _ _ _) (Recording.IsFull fits _ _ _ _) =
      absurd (omega (arith, past, fits))
  taken_no_longer stands (Recording.PassesEnd past _ _ _) (Recording.IsUnmapped fits _ _ _ _ _) =
      absurd (omega (arith, past, fits))

  -- how one text is taken
  taken_one : {text : List ℕ} {n n' answer answer' : ℕ} → TakingEnds bytes a count room text n answer
      → TakingEnds bytes a count room text n' answer' → (n ≡ n') × (answer ≡ answer')
  taken_one (Recording.IsWhole _ _ _ n is) (Recording.IsWhole _ _ _ n' is') = (n ∙ sym n', is ∙ sym is')
  taken_one (Recording.IsWhole _ long _ _ _) (Recording.IsFull _ short _ _ _) = absurd (omega (arith, long, short))
  taken_one (Recording.IsWhole _ long _ _ _) (Recording.IsUnmapped _ short _ _ _ _) = absurd (omega (arith, long, short))
  taken_one (Recording.IsWhole fits _ _ _ _) (Recording.PassesEnd past _ _ _) = absurd (omega (arith, fits, past))
  taken_one (Recording.IsFull _ short _ _ _) (Recording.IsWhole _ long _ _ _) = absurd (omega (arith, long, short))
  taken_one (Recording.IsFull _ _ _ n is) (Recording.IsFull _ _ _ n' is') = (n ∙ sym n', is ∙ sym is')
  taken_one (Recording.IsFull _ _ full _ _) (Recording.IsUnmapped _ _ more _ _ _) = absurd (omega (arith, full, more))
  taken_one (Recording.IsFull fits _ _ _ _) (Recording.PassesEnd past _ _ _) = absurd (omega (arith, fits, past))
  taken_one (Recording.IsUnmapped _ short _ _ _ _) (Recording.IsWhole _ long _ _ _) = absurd (omega (arith, long, short))
  taken_one (Recording.IsUnmapped _ _ more _ _ _) (Recording.IsFull _ _ full _ _) = absurd (omega (arith, full, more))
  taken_one (Recording.IsUnmapped _ _ _ _ n is) (Recording.IsUnmapped _ _ _ _ n' is') = (n ∙ sym n', is ∙ sym is')
  taken_one (Recording.IsUnmapped fits _ _ _ _ _) (Recording.PassesEnd past _ _ _) = absurd (omega (arith, fits, past))
  taken_one (Recording.PassesEnd past _ _ _) (Recording.IsWhole fits _ _ _ _) = absurd (omega (arith, fits, past))
  taken_one (Recording.PassesEnd past _ _ _) (Recording.IsFull fits _ _ _ _) = absurd (omega (arith, fits, past))
  taken_one (Recording.PassesEnd past _ _ _) (Recording.IsUnmapped fits _ _ _ _ _) = absurd (omega (arith, fits, past))
  taken_one (Recording.PassesEnd _ _ n is) (Recording.PassesEnd _ _ n' is') = (n ∙ sym n', is ∙ sym is')

-- what a write leaves of a record, its answer and its accesses
record SameWrites (new new' : Vec ℕ Global) (answer answer' : ℕ) (xs xs' : List Access) : Type 0 where
  records : AlikeRecords new new'
  answers : answer ≡ answer'
  accesses : xs ≡ xs'

same_writes : {bytes : ByteMap} {a count answer answer' : ℕ} (old old' new new' : Vec ℕ Global)
    {xs xs' : List Access} → AlikeRecords old old' → TakesOutput bytes a count old new answer xs → TakesOutput bytes a count old' new' answer' xs'
    → SameWrites new new' answer answer' xs xs'
same_writes {bytes = bytes} {a = a} {count = count} {answer' = answer'} old old' new new' alike took took' =
    let first = took.0 in
    let second = took'.0 in
    let room : vec_capacity old' - length old'.items ≡ vec_capacity old - length old.items =
    sym (λ i. alike.1 i - length (alike.0 i)) in
    let ended' = subst (λ k. TakingEnds bytes a count k second.text second.reads answer') room second.ended in
    let shorter : length first.text ≤ length second.text = taken_no_longer first.stands ended' first.ended in
    let longer : length second.text ≤ length first.text = taken_no_longer second.stands first.ended ended' in
    let text = same_text bytes a first.text second.text (omega (arith, shorter, longer)) first.stands second.stands in
    let one = taken_one (subst (λ t. TakingEnds bytes a count (vec_capacity old - length old.items) t first.reads _) text
    first.ended) ended' in
    record {
      records = (
        first.appended ∙ (λ i. alike.0 i ++ text i) ∙ sym second.appended,
        took.1 ∙ alike.1 ∙ sym took'.1,
      );
      answers = one.1;
      accesses = first.accessed ∙ ap (byte_reads bytes a) one.0 ∙ sym second.accessed;
    }

-- ---- a read

-- what was loaded
same_loaded : {bytes new new' : ByteMap} {writable : ℕ → Bool} {a : ℕ} {text : List ℕ}
    → Loaded bytes new writable a text → Loaded bytes new' writable a text → (x : ℕ) → new x ≡ new' x
same_loaded {new = new} {new' = new'} {a = a} {text = text} loaded loaded' x =
    elim (cases_lt x a) as (λ _. new x ≡ new' x) [
      | inl below ↦ loaded.others x (inl below) ∙ sym (loaded'.others x (inl below))
      | inr above ↦ elim (cases_lt (x - a) (length text)) as (λ _. new x ≡ new' x) [
        | inl within ↦
            let here : a + (x - a) ≡ x = omega (arith, above) in
            ap new (sym here) ∙ loaded.loaded (x - a) within ∙ sym (loaded'.loaded (x - a) within) ∙ ap new' here
        | inr behind ↦
            let past : a + length text ≤ x = omega (arith, above, behind) in
            loaded.others x (inr past) ∙ sym (loaded'.others x (inr past))
      ]
    ]

module _ {writable : ℕ → Bool} {a count : ℕ} {left : List ℕ} where
  -- of two texts that are given neither is longer
  given_no_longer : (rest' : List ℕ) {text text' : List ℕ} {xs xs' : List Access} {answer answer' : ℕ}
      → left ≡ text' ++ rest' → ((i : ℕ) → i < length text' → writable (a + i) ≡ true)
      → GivingEnds writable a count left text xs answer → GivingEnds writable a count left text' xs' answer'
      → length text' ≤ length text
  given_no_longer rest' parts open_there (Giving.IsWhole _ long _ _) (Giving.IsWhole _ long' _ _) =
      omega (arith, long, long')
  given_no_longer rest' {text' = text'} parts open_there (Giving.IsWhole _ long _ _)
      (Giving.IsRefused byte rest _ short is _ _ _) =
      omega (arith, long, short, ap length is, length-append text' (byte ∷ rest))
  given_no_longer rest' parts open_there _ (Giving.PassesEnd _ none _ _) = omega (arith, ap length none)
  given_no_longer rest' {text = text} {text' = text'} parts open_there (Giving.IsRefused _ _ _ _ _ refused _ _) _ =
      elim (cases_lt (length text) (length text')) as (λ _. length text' ≤ length text) [
        | inl less ↦ absurd (false≢true (sym refused ∙ open_there (length text) less))
        | inr least ↦ least
      ]
  given_no_longer rest' parts open_there (Giving.PassesEnd past _ _ _) (Giving.IsWhole fits _ _ _) =
      absurd (omega (arith, past, fits))
  given_no_longer rest' parts open_there (Giving.PassesEnd past _ _ _) (Giving.IsRefused _ _ fits _ _ _ _ _) =
      absurd (omega (arith, past, fits))

  -- how one text is given
  given_one : {text : List ℕ} {xs xs' : List Access} {answer answer' : ℕ}
      → GivingEnds writable a count left text xs answer → GivingEnds writable a count left text xs' answer'
      → (xs ≡ xs') × (answer ≡ answer')
  given_one (Giving.IsWhole _ _ xs is) (Giving.IsWhole _ _ xs' is') = (xs ∙ sym xs', is ∙ sym is')
  given_one {text = text} (Giving.IsWhole _ long _ _) (Giving.IsRefused byte rest _ short parts _ _ _) =
      absurd (omega (arith, long, short, ap length parts, length-append text (byte ∷ rest)))
  given_one (Giving.IsWhole fits _ _ _) (Giving.PassesEnd past _ _ _) = absurd (omega (arith, fits, past))
  given_one {text = text} (Giving.IsRefused byte rest _ short parts _ _ _) (Giving.IsWhole _ long _ _) =
      absurd (omega (arith, long, short, ap length parts, length-append text (byte ∷ rest)))
  given_one {text = text} (Giving.IsRefused byte rest _ _ parts _ xs is)
      (Giving.IsRefused byte' rest' _ _ parts' _ xs' is') =
      let behind = append_cancel_left text (byte ∷ rest) (byte' ∷ rest') (sym parts ∙ parts') in
      let next : byte ≡ byte' = ap (λ l. get_or l 0 0) behind in
      (xs ∙ ap (λ b. byte_writes writable a (text ++ b ∷ [])) next ∙ sym xs', is ∙ sym is')
  given_one (Giving.IsRefused _ _ fits _ _ _ _ _) (Giving.PassesEnd past _ _ _) =
      absurd (omega (arith, fits, past))
  given_one (Giving.PassesEnd past _ _ _) (Giving.IsWhole fits _ _ _) = absurd (omega (arith, fits, past))
  given_one (Giving.PassesEnd past _ _ _) (Giving.IsRefused _ _ fits _ _ _ _ _) =
      absurd (omega (arith, fits, past))
  given_one (Giving.PassesEnd _ _ xs is) (Giving.PassesEnd _ _ xs' is') = (xs ∙ sym xs', is ∙ sym is')

-- what a read leaves of the input and of the memory, its answer and its accesses
record SameReads (left left' : List ℕ) (bytes bytes' : ByteMap) (answer answer' : ℕ) (xs xs' : List Access) : Type 0 where
  inputs : left ≡ left'
  memories : (x : ℕ) → bytes x ≡ bytes' x
  answers : answer ≡ answer'
  accesses : xs ≡ xs'

same_reads : {writable : ℕ → Bool} {bytes new new' : ByteMap} {a count answer answer' : ℕ}
    {left left' after after' : List ℕ} {xs xs' : List Access} → left ≡ left'
    → GivesText writable bytes new a count left after answer xs
    → GivesText writable bytes new' a count left' after' answer' xs'
    → SameReads after after' new new' answer answer' xs xs'
same_reads {writable = writable} {bytes = bytes} {new' = new'} {a = a} {count = count} {answer = answer}
    {answer' = answer'} {left = left} {after = after} {after' = after'} {xs = xs} {xs' = xs'} same gave gave' =
    let text = gave.text in
    let text' = gave'.text in
    let parts' = same ∙ gave'.consumed in
    let ended' = subst (λ l. GivingEnds writable a count l text' xs' answer') (sym same) gave'.ended in
    let shorter : length text ≤ length text' =
    given_no_longer after gave.consumed gave.loaded.writable_there ended' gave.ended in
    let longer : length text' ≤ length text = given_no_longer after' parts' gave'.loaded.writable_there gave.ended ended' in
    let long : length text ≡ length text' = omega (arith, shorter, longer) in
    let front : text ≡ text' = sym (take-append_seam text after) ∙ (λ i. take (long i) (sym gave.consumed i))
    ∙ ap (take (length text')) parts' ∙ take-append_seam text' after' in
    let one = given_one (subst (λ t. GivingEnds writable a count left t xs answer) front gave.ended) ended' in
    record {
      inputs = append_cancel_left text' after after' (ap (λ t. t ++ after) (sym front) ∙ sym gave.consumed ∙ parts');
      memories = same_loaded (subst (λ t. Loaded bytes _ writable a t) front gave.loaded) gave'.loaded;
      answers = one.1;
      accesses = one.0;
    }

-- ---- a status

-- neither is refused before the other
no_sooner : {writable : ℕ → Bool} {bytes new : ByteMap} {a : ℕ} (text text' : List ℕ)
    → Loaded bytes new writable a text' → writable (a + length text) ≡ false → length text' ≤ length text
no_sooner text text' loaded closed =
    elim (cases_lt (length text) (length text')) as (λ _. length text' ≤ length text) [
      | inl less ↦ absurd (false≢true (sym closed ∙ loaded.writable_there (length text) less))
      | inr least ↦ least
    ]

module _ {writable : ℕ → Bool} {bytes : ByteMap} {a : ℕ} {whole : List ℕ} where
  same_put : {new new' : ByteMap} {xs xs' : List Access} {answer answer' : ℕ}
      → PutsBytes writable bytes new a whole xs answer → PutsBytes writable bytes new' a whole xs' answer'
      → SameReads whole whole new new' answer answer' xs xs'
  same_put (IsPut loaded made is) (IsPut loaded' made' is') = record {
    inputs = refl;
    memories = same_loaded loaded loaded';
    answers = is ∙ sym is';
    accesses = made ∙ sym made';
  }
  same_put (IsPut loaded _ _) (Statuses.IsRefused text byte rest parts _ _ closed _ _) =
      let long : length whole ≡ length text + length (byte ∷ rest) = ap length parts ∙ length-append text (byte ∷ rest) in
      absurd (false≢true (sym closed ∙ loaded.writable_there (length text) (omega (arith, long))))
  same_put (IsPut loaded _ _) (Statuses.PassesEnd past _ _ _) = absurd (omega (arith, loaded.in_range, past))
  same_put (Statuses.IsRefused text byte rest parts _ _ closed _ _) (IsPut loaded _ _) =
      let long : length whole ≡ length text + length (byte ∷ rest) = ap length parts ∙ length-append text (byte ∷ rest) in
      absurd (false≢true (sym closed ∙ loaded.writable_there (length text) (omega (arith, long))))
  same_put {new = new} (Statuses.IsRefused text byte rest parts _ loaded closed made is)
      (Statuses.IsRefused text' byte' rest' parts' _ loaded' closed' made' is') =
      let longer : length text' ≤ length text = no_sooner text text' loaded' closed in
      let shorter : length text ≤ length text' = no_sooner text' text loaded closed' in
      let long : length text ≡ length text' = omega (arith, longer, shorter) in
      let front : text ≡ text' = sym (take-append_seam text (byte ∷ rest)) ∙ (λ i. take (long i) (sym parts i))
      ∙ ap (take (length text')) parts' ∙ take-append_seam text' (byte' ∷ rest') in
      let behind = append_cancel_left text' (byte ∷ rest) (byte' ∷ rest')
      (ap (λ t. t ++ byte ∷ rest) (sym front) ∙ sym parts ∙ parts') in
      let next : byte ≡ byte' = ap (λ l. get_or l 0 0) behind in
      record {
        inputs = refl;
        memories = same_loaded (subst (λ t. Loaded bytes new writable a t) front loaded) loaded';
        answers = is ∙ sym is';
        accesses = made ∙ (λ i. byte_writes writable a (front i ++ next i ∷ [])) ∙ sym made';
      }
  same_put (Statuses.IsRefused _ _ _ _ fits _ _ _ _) (Statuses.PassesEnd past _ _ _) =
      absurd (omega (arith, fits, past))
  same_put (Statuses.PassesEnd past _ _ _) (IsPut loaded _ _) = absurd (omega (arith, loaded.in_range, past))
  same_put (Statuses.PassesEnd past _ _ _) (Statuses.IsRefused _ _ _ _ fits _ _ _ _) =
      absurd (omega (arith, fits, past))
  same_put (Statuses.PassesEnd _ loaded made is) (Statuses.PassesEnd _ loaded' made' is') = record {
    inputs = refl;
    memories = same_loaded loaded loaded';
    answers = is ∙ sym is';
    accesses = made ∙ sym made';
  }

-- ---- what a path names

module _ {writable : ℕ → Bool} {bytes : ByteMap} {lookup : Lookup} {a : ℕ} {whole : List ℕ} where
  same_named : {new new' : ByteMap} {xs xs' : List Access} {answer answer' : ℕ}
      → PutsNamed writable bytes new lookup a whole xs answer → PutsNamed writable bytes new' lookup a whole xs' answer'
      → SameReads whole whole new new' answer answer' xs xs'
  same_named (IsNamed put none puts made) (IsNamed put' none' puts' made') =
      let same = same_put puts puts' in
      record {
        inputs = refl;
        memories = same.memories;
        answers = same.answers;
        accesses = made ∙ (λ i. Access.Read lookup.path Byte (bytes lookup.path) ∷ same.accesses i) ∙ sym made';
      }
  same_named (IsNamed put none puts made) (Statuses.HasFailed fails kept made') = absurd (none-some _ (sym none ∙ fails))
  same_named (Statuses.HasFailed fails kept made) (IsNamed put none puts made') = absurd (none-some _ (sym none ∙ fails))
  same_named (Statuses.HasFailed fails kept made) (Statuses.HasFailed fails' kept' made') = record {
    inputs = refl;
    memories = λ x. ap (λ f. f x) (kept ∙ sym kept');
    answers = same_Some _ _ (sym fails ∙ fails');
    accesses = made ∙ sym made';
  }

-- ---- a time

module _ {form : ℕ → List ℕ} {writable : ℕ → Bool} {bytes : ByteMap} {a : ℕ} where
  same_time : {new new' : ByteMap} {told told' : Option Duration} {xs xs' : List Access} {answer answer' : ℕ}
      → told ≡ told' → PutsTime form writable bytes new told a xs answer
      → PutsTime form writable bytes new' told' a xs' answer' → SameReads [] [] new new' answer answer' xs xs'
  same_time {new = new} {xs = xs} {answer = answer} same (IsTold time is puts) (IsTold time' is' puts') =
      let one : time ≡ time' = same_Some _ _ (sym is ∙ same ∙ is') in
      let both = same_put (subst (λ t. PutsBytes writable bytes new a (form (as_nanos t)) xs answer) one puts) puts' in
      record { inputs = refl; memories = both.memories; answers = both.answers; accesses = both.accesses }
  same_time same (IsTold time is puts) (Clocks.HasFailed none kept made answers) =
      absurd (none-some _ (sym none ∙ sym same ∙ is))
  same_time same (Clocks.HasFailed none kept made answers) (IsTold time is puts) =
      absurd (none-some _ (sym none ∙ same ∙ is))
  same_time same (Clocks.HasFailed none kept made answers) (Clocks.HasFailed none' kept' made' answers') = record {
    inputs = refl;
    memories = λ x. ap (λ f. f x) (kept ∙ sym kept');
    answers = answers ∙ sym answers';
    accesses = made ∙ sym made';
  }

-- ---- pieces

module _ (bytes : ByteMap) where
  same_pieces : (n a done : ℕ) {answer answer' : ℕ} (old old' new new' : Vec ℕ Global) {xs xs' : List Access}
      → AlikeRecords old old' → WritesPieces TakesOutput bytes a n done old new answer xs
      → WritesPieces TakesOutput bytes a n done old' new' answer' xs' → SameWrites new new' answer answer' xs xs'
  same_pieces zero a done old old' new new' alike w w' = record {
    records = (
      ap (λ v. v.items) w.0 ∙ alike.0 ∙ sym (ap (λ v. v.items) w'.0),
      ap vec_capacity w.0 ∙ alike.1 ∙ sym (ap vec_capacity w'.0),
    );
    answers = w.1 ∙ sym w'.1;
    accesses = w.2 ∙ sym w'.2;
  }
  same_pieces (suc n) a done {answer = answer} {answer' = answer'} old old' new new' {xs = xs} {xs' = xs'} alike w w' =
      let base : w.0 ≡ w'.0 = same_Some _ _ (sym w.7.base_there ∙ w'.7.base_there) in
      let size : w.1 ≡ w'.1 = same_Some _ _ (sym w.7.size_there ∙ w'.7.size_there) in
      let wanted : w.2 ≡ w'.2 = w.8 ∙ ap (λ k. min k (most_bytes - done)) size ∙ sym w'.8 in
      let took' : TakesOutput bytes w.0 w.2 old' w'.4 w'.3 w'.5 =
      subst (λ b. TakesOutput bytes b w.2 old' w'.4 w'.3 w'.5) (sym base)
      (subst (λ k. TakesOutput bytes w'.0 k old' w'.4 w'.3 w'.5) (sym wanted) w'.9) in
      let one = same_writes old old' w.4 w'.4 alike w.9 took' in
      elim w.10 as (λ _. SameWrites new new' answer answer' xs xs') [
        | inl whole ↦ elim w'.10 as (λ _. SameWrites new new' answer answer' xs xs') [
          | inl whole' ↦
              let later = same_pieces n (a + 8) (done + w.2) w.4 w'.4 new new' one.records whole.1
              (subst (λ k. WritesPieces TakesOutput bytes (a + 8) n (done + k) w'.4 new' answer' w'.6) (sym wanted)
              whole'.1) in
              record {
                records = later.records;
                answers = later.answers;
                accesses = w.11 ∙ (λ i. one.accesses i ++ later.accesses i) ∙ sym w'.11;
              }
          | inr short' ↦ absurd (short'.0 (sym one.answers ∙ whole.0 ∙ wanted))
        ]
        | inr short ↦ elim w'.10 as (λ _. SameWrites new new' answer answer' xs xs') [
          | inl whole' ↦ absurd (short.0 (one.answers ∙ whole'.0 ∙ sym wanted))
          | inr short' ↦ record {
            records = (
              ap (λ v. v.items) short.1 ∙ one.records.0 ∙ sym (ap (λ v. v.items) short'.1),
              ap vec_capacity short.1 ∙ one.records.1 ∙ sym (ap vec_capacity short'.1),
            );
            answers = short.2 ∙ (λ i. together done (wanted i) (one.answers i)) ∙ sym short'.2;
            accesses = w.11 ∙ (λ i. one.accesses i ++ short.3 i) ∙ (λ i. w'.5 ++ sym short'.3 i) ∙ sym w'.11;
          }
        ]
      ]

-- neither of two vectors ends sooner
no_sooner_unmapped : (bytes : ByteMap) (a : ℕ) (v v' : List ℕ) → Stands bytes a v' → bytes (a + length v) ≡ None
    → length v' ≤ length v
no_sooner_unmapped bytes a v v' stands unmapped =
    elim (cases_lt (length v) (length v')) as (λ _. length v' ≤ length v) [
      | inl less ↦ absurd (none-some _ (sym unmapped ∙ stands (length v) less))
      | inr least ↦ least
    ]

-- records that are left as they were
left_alike : {old old' new new' : Vec ℕ Global} → AlikeRecords old old' → new ≡ old → new' ≡ old'
    → AlikeRecords new new'
left_alike alike same same' = (
  ap (λ v. v.items) same ∙ alike.0 ∙ sym (ap (λ v. v.items) same'),
  ap vec_capacity same ∙ alike.1 ∙ sym (ap vec_capacity same'),
)

module _ {bytes : ByteMap} {a count : ℕ} where
  same_vectors : {answer answer' : ℕ} (old old' new new' : Vec ℕ Global) {xs xs' : List Access}
      → AlikeRecords old old' → WritesVector TakesOutput bytes a count old new answer xs
      → WritesVector TakesOutput bytes a count old' new' answer' xs' → SameWrites new new' answer answer' xs xs'
  same_vectors old old' new new' alike (IsWritten v more low fits stands long none w made)
      (IsWritten v' more' low' fits' stands' long' none' w' made') =
      let one = same_pieces bytes count a 0 old old' new new' alike w w' in
      record {
        records = one.records;
        answers = one.answers;
        accesses = made ∙ ap (λ l. byte_reads bytes a (8 * count) ++ l) one.accesses ∙ sym made';
      }
  same_vectors old old' new new' alike (IsWritten v more low fits stands long none w made)
      (IsNegative v' low' fits' stands' long' some' same' is' made') =
      let less = none some'.index some'.size some'.within some'.size_there in
      let more = some'.negative in absurd (omega (arith, less, more))
  same_vectors old old' new new' alike (IsWritten v more low fits stands long none w made)
      (Vectors.IsUnmapped v' low' fits' stands' short' unmapped' same' is' made') =
      absurd (none-some _ (sym unmapped' ∙ stands (length v') (omega (arith, short', long))))
  same_vectors old old' new new' alike (IsWritten v more low fits stands long none w made)
      (Vectors.PassesEnd low' past' same' is' made') =
      absurd (omega (arith, fits, past'))
  same_vectors old old' new new' alike (IsWritten v more low fits stands long none w made)
      (IsTooLong many' same' is' made') =
      absurd (omega (arith, low, many'))
  same_vectors old old' new new' alike (IsNegative v low fits stands long some same is made)
      (IsWritten v' more' low' fits' stands' long' none' w' made') =
      let less = none' some.index some.size some.within some.size_there in
      let more = some.negative in absurd (omega (arith, less, more))
  same_vectors old old' new new' alike (IsNegative v low fits stands long some same is made)
      (IsNegative v' low' fits' stands' long' some' same' is' made') =
      record { records = left_alike alike same same'; answers = is ∙ sym is'; accesses = made ∙ sym made' }
  same_vectors old old' new new' alike (IsNegative v low fits stands long some same is made)
      (Vectors.IsUnmapped v' low' fits' stands' short' unmapped' same' is' made') =
      absurd (none-some _ (sym unmapped' ∙ stands (length v') (omega (arith, short', long))))
  same_vectors old old' new new' alike (IsNegative v low fits stands long some same is made)
      (Vectors.PassesEnd low' past' same' is' made') =
      absurd (omega (arith, fits, past'))
  same_vectors old old' new new' alike (IsNegative v low fits stands long some same is made)
      (IsTooLong many' same' is' made') =
      absurd (omega (arith, low, many'))
  same_vectors old old' new new' alike (Vectors.IsUnmapped v low fits stands short unmapped same is made)
      (IsWritten v' more' low' fits' stands' long' none' w' made') =
      absurd (none-some _ (sym unmapped ∙ stands' (length v) (omega (arith, short, long'))))
  same_vectors old old' new new' alike (Vectors.IsUnmapped v low fits stands short unmapped same is made)
      (IsNegative v' low' fits' stands' long' some' same' is' made') =
      absurd (none-some _ (sym unmapped ∙ stands' (length v) (omega (arith, short, long'))))
  same_vectors old old' new new' alike (Vectors.IsUnmapped v low fits stands short unmapped same is made)
      (Vectors.IsUnmapped v' low' fits' stands' short' unmapped' same' is' made') =
      let longer : length v' ≤ length v = no_sooner_unmapped bytes a v v' stands' unmapped in
      let shorter : length v ≤ length v' = no_sooner_unmapped bytes a v' v stands unmapped' in
      let one : length v ≡ length v' = omega (arith, longer, shorter) in
      record {
        records = left_alike alike same same';
        answers = is ∙ sym is';
        accesses = made ∙ ap (λ n. byte_reads bytes a (n + 1)) one ∙ sym made';
      }
  same_vectors old old' new new' alike (Vectors.IsUnmapped v low fits stands short unmapped same is made)
      (Vectors.PassesEnd low' past' same' is' made') =
      absurd (omega (arith, fits, past'))
  same_vectors old old' new new' alike (Vectors.IsUnmapped v low fits stands short unmapped same is made)
      (IsTooLong many' same' is' made') =
      absurd (omega (arith, low, many'))
  same_vectors old old' new new' alike (Vectors.PassesEnd low past same is made)
      (IsWritten v' more' low' fits' stands' long' none' w' made') =
      absurd (omega (arith, past, fits'))
  same_vectors old old' new new' alike (Vectors.PassesEnd low past same is made)
      (IsNegative v' low' fits' stands' long' some' same' is' made') =
      absurd (omega (arith, past, fits'))
  same_vectors old old' new new' alike (Vectors.PassesEnd low past same is made)
      (Vectors.IsUnmapped v' low' fits' stands' short' unmapped' same' is' made') =
      absurd (omega (arith, past, fits'))
  same_vectors old old' new new' alike (Vectors.PassesEnd low past same is made)
      (Vectors.PassesEnd low' past' same' is' made') =
      record { records = left_alike alike same same'; answers = is ∙ sym is'; accesses = made ∙ sym made' }
  same_vectors old old' new new' alike (Vectors.PassesEnd low past same is made)
      (IsTooLong many' same' is' made') =
      absurd (omega (arith, low, many'))
  same_vectors old old' new new' alike (IsTooLong many same is made)
      (IsWritten v' more' low' fits' stands' long' none' w' made') =
      absurd (omega (arith, many, low'))
  same_vectors old old' new new' alike (IsTooLong many same is made)
      (IsNegative v' low' fits' stands' long' some' same' is' made') =
      absurd (omega (arith, many, low'))
  same_vectors old old' new new' alike (IsTooLong many same is made)
      (Vectors.IsUnmapped v' low' fits' stands' short' unmapped' same' is' made') =
      absurd (omega (arith, many, low'))
  same_vectors old old' new new' alike (IsTooLong many same is made)
      (Vectors.PassesEnd low' past' same' is' made') =
      absurd (omega (arith, many, low'))
  same_vectors old old' new new' alike (IsTooLong many same is made)
      (IsTooLong many' same' is' made') =
      record { records = left_alike alike same same'; answers = is ∙ sym is'; accesses = made ∙ sym made' }

-- ---- a call

-- what a call leaves
record SameCalls (d d' : Recording) (t t' : State) (xs xs' : List Access) (end end' : Option ℕ) : Type 0 where
  environments : AlikeRecordings d d'
  states : t ≡ t'
  accesses : xs ≡ xs'
  ends : end ≡ end'

-- environments that are those that are alike
alike_after : {d d' e e' : Recording} → d ≡ e → d' ≡ e' → AlikeRecordings e e' → AlikeRecordings d d'
alike_after {d = d} {e' = e'} same same' alike =
    subst (AlikeRecordings d) (sym same') (subst (λ x. AlikeRecordings x e') (sym same) alike)

-- clocks that stand alike tell one time
one_told : {known known' : Known} {told told' : Option Duration} (clock : ℕ) → known ≡ known'
    → TellsKnown known clock told → TellsKnown known' clock told' → told ≡ told'
one_told clock same told told' = told ∙ (λ i. Some (stopped_at (same i).clocks clock)) ∙ sym told'

does_one : (request : Request) (s : State) {e e' d d' : Recording} {t t' : State} {xs xs' : List Access} {end end' : Option ℕ}
    → AlikeRecordings e e' → Does GivesInput TakesOutput TakesOutput TellsKnown request e s d t xs end
    → Does GivesInput TakesOutput TakesOutput TellsKnown request e' s d' t' xs' end' → SameCalls d d' t t' xs xs' end end'
does_one (Exit status) s alike did did' = record {
  environments = alike_after did.1 did'.1 alike;
  states = did.2 ∙ sym did'.2;
  accesses = did.3 ∙ sym did'.3;
  ends = did.0 ∙ sym did'.0;
}
does_one (Answer answer) s alike did did' = record {
  environments = alike_after did.1 did'.1 alike;
  states = did.2 ∙ sym did'.2;
  accesses = did.3 ∙ sym did'.3;
  ends = did.0 ∙ sym did'.0;
}
does_one (NoCall call) s alike did did' = record {
  environments = alike_after did.1 did'.1 record {
    inputs = alike.inputs;
    outputs = alike.outputs;
    error_outputs = alike.error_outputs;
    heap = alike.heap;
    unserved = λ i. record { items = noted (alike.unserved i).items call };
    random = alike.random;
    held = alike.held;
  };
  states = did.2 ∙ sym did'.2;
  accesses = did.3 ∙ sym did'.3;
  ends = did.0 ∙ sym did'.0;
}
does_one (Status a) s alike did did' =
    let same = same_put did.4 did'.4 in
    let bytes : did.2 ≡ did'.2 = λ i x. same.memories x i in
    record {
      environments = alike_after did.1 did'.1 alike;
      states = did.5 ∙ (λ i. answered (record s { bytes = bytes i }) (same.answers i)) ∙ sym did'.5;
      accesses = same.accesses;
      ends = did.0 ∙ sym did'.0;
    }
does_one (NamedStatus lookup a) s alike did did' =
    let same = same_named did.4 did'.4 in
    let bytes : did.2 ≡ did'.2 = λ i x. same.memories x i in
    record {
      environments = alike_after did.1 did'.1 alike;
      states = did.5 ∙ (λ i. answered (record s { bytes = bytes i }) (same.answers i)) ∙ sym did'.5;
      accesses = same.accesses;
      ends = did.0 ∙ sym did'.0;
    }
does_one (ExtendedStatus lookup a) s alike did did' =
    let same = same_named did.4 did'.4 in
    let bytes : did.2 ≡ did'.2 = λ i x. same.memories x i in
    record {
      environments = alike_after did.1 did'.1 alike;
      states = did.5 ∙ (λ i. answered (record s { bytes = bytes i }) (same.answers i)) ∙ sym did'.5;
      accesses = same.accesses;
      ends = did.0 ∙ sym did'.0;
    }
does_one (Time clock form a) s alike did did' =
    let told = one_told clock alike.held did.3 did'.3 in
    let same = same_time told did.6 did'.6 in
    let bytes : did.4 ≡ did'.4 = λ i x. same.memories x i in
    record {
      environments = alike_after did.1 did'.1 alike;
      states = did.7 ∙ (λ i. answered (record s { bytes = bytes i }) (same.answers i)) ∙ sym did'.7;
      accesses = same.accesses;
      ends = did.0 ∙ sym did'.0;
    }
does_one (SetBreak a) s alike did did' =
    let heap = ap (λ h. moved h a) alike.heap in
    record {
      environments = alike_after did.1 did'.1 record {
        inputs = alike.inputs;
        outputs = alike.outputs;
        error_outputs = alike.error_outputs;
        heap = heap;
        unserved = λ i. record { items = noted_break (alike.heap i) (alike.unserved i).items a };
        random = alike.random;
        held = alike.held;
      };
      states = did.2 ∙ ap (λ h. answered s h.top) heap ∙ sym did'.2;
      accesses = did.3 ∙ sym did'.3;
      ends = did.0 ∙ sym did'.0;
    }
does_one (Names a) s alike did did' =
    let same = same_put did.4 did'.4 in
    let bytes : did.2 ≡ did'.2 = λ i x. same.memories x i in
    record {
      environments = alike_after did.1 did'.1 alike;
      states = did.5 ∙ (λ i. answered (record s { bytes = bytes i }) (same.answers i)) ∙ sym did'.5;
      accesses = same.accesses;
      ends = did.0 ∙ sym did'.0;
    }
does_one (Random a count) s alike did did' =
    let same = same_reads (λ i. random_bytes (alike.random i) 32) did.5 did'.5 in
    let bytes : did.2 ≡ did'.2 = λ i x. same.memories x i in
    record {
      environments = alike_after did.1 did'.1 record {
        inputs = alike.inputs;
        outputs = alike.outputs;
        error_outputs = alike.error_outputs;
        heap = alike.heap;
        unserved = alike.unserved;
        random = λ i. state_after (alike.random i) 32;
        held = alike.held;
      };
      states = did.6 ∙ (λ i. answered (record s { bytes = bytes i }) (same.answers i)) ∙ sym did'.6;
      accesses = same.accesses;
      ends = did.0 ∙ sym did'.0;
    }
does_one (Read a count) s alike did did' =
    let same = same_reads alike.inputs did.5.0 did'.5.0 in
    let bytes : did.3 ≡ did'.3 = λ i x. same.memories x i in
    record {
      environments = alike_after did.6 did'.6 record {
        inputs = same.inputs;
        outputs = alike.outputs;
        error_outputs = alike.error_outputs;
        heap = alike.heap;
        unserved = alike.unserved;
        random = alike.random;
        held = did.5.1 ∙ alike.held ∙ sym did'.5.1;
      };
      states = did.7 ∙ (λ i. answered (record s { bytes = bytes i }) (same.answers i)) ∙ sym did'.7;
      accesses = same.accesses;
      ends = did.0 ∙ sym did'.0;
    }
does_one (WriteOutput a count) s {e = e} {e' = e'} alike did did' =
    let same = same_writes e.output e'.output did.0 did'.0 alike.outputs did.2 did'.2 in
    record {
      environments = alike_after did.3 did'.3 record {
        inputs = alike.inputs;
        outputs = same.records;
        error_outputs = alike.error_outputs;
        heap = alike.heap;
        unserved = alike.unserved;
        random = alike.random;
        held = alike.held;
      };
      states = did.4 ∙ ap (answered s) same.answers ∙ sym did'.4;
      accesses = same.accesses;
      ends = did.5 ∙ ap ended_by same.answers ∙ sym did'.5;
    }
does_one (WriteErrors a count) s {e = e} {e' = e'} alike did did' =
    let same = same_writes e.errors e'.errors did.0 did'.0 alike.error_outputs did.2 did'.2 in
    record {
      environments = alike_after did.3 did'.3 record {
        inputs = alike.inputs;
        outputs = alike.outputs;
        error_outputs = same.records;
        heap = alike.heap;
        unserved = alike.unserved;
        random = alike.random;
        held = alike.held;
      };
      states = did.4 ∙ ap (answered s) same.answers ∙ sym did'.4;
      accesses = same.accesses;
      ends = did.5 ∙ ap ended_by same.answers ∙ sym did'.5;
    }
does_one (WriteOutputPieces a count) s {e = e} {e' = e'} alike did did' =
    let same = same_vectors e.output e'.output did.0 did'.0 alike.outputs did.2 did'.2 in
    record {
      environments = alike_after did.3 did'.3 record {
        inputs = alike.inputs;
        outputs = same.records;
        error_outputs = alike.error_outputs;
        heap = alike.heap;
        unserved = alike.unserved;
        random = alike.random;
        held = alike.held;
      };
      states = did.4 ∙ ap (answered s) same.answers ∙ sym did'.4;
      accesses = same.accesses;
      ends = did.5 ∙ ap ended_by same.answers ∙ sym did'.5;
    }
does_one (WriteErrorPieces a count) s {e = e} {e' = e'} alike did did' =
    let same = same_vectors e.errors e'.errors did.0 did'.0 alike.error_outputs did.2 did'.2 in
    record {
      environments = alike_after did.3 did'.3 record {
        inputs = alike.inputs;
        outputs = alike.outputs;
        error_outputs = same.records;
        heap = alike.heap;
        unserved = alike.unserved;
        random = alike.random;
        held = alike.held;
      };
      states = did.4 ∙ ap (answered s) same.answers ∙ sym did'.4;
      accesses = same.accesses;
      ends = did.5 ∙ ap ended_by same.answers ∙ sym did'.5;
    }

-- the calls of environments over known bytes are determined
pub determined : IsDeterminedBy Records AlikeRecordings
determined = record {
  reflexive = λ e. record { inputs = refl; outputs = (refl, refl); error_outputs = (refl, refl); heap = refl; unserved = refl; random = refl; held = refl };
  determined = λ e e' d d' s t t' xs xs' end end' alike served served'.
      let asked = asks_one s served.asks served'.asks in
      let does = subst (λ r. Does GivesInput TakesOutput TakesOutput TellsKnown r e s d t xs end) asked served.does in
      let one = does_one served'.request s alike does served'.does in
      (one.environments, one.states, one.accesses, one.ends);
}
