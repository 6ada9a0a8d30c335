-- What is printed, put together, and the state that a run of a reader's bytes starts in.
use Rattle.std.proofs.Common.{◌≡◌, ℕ, List, ◌++◌, drop, replicate, Bool, Option, Some, None, Result, Ok, IfErr, refl, ap, subst, inl, inr}
use Rattle.std.specs.Io.KnownBytes.{Keeps}
use Rattle.std.proofs.KnownBytes.{Appends-trans}
use Rattle.std.proofs.lemmas.List.{length-replicate}
use Rattle.std.proofs.lemmas.Result.{IfErr-weaker}
use Rattle.rrs_lib.specs.declared.HartState.{HartState}
use Rattle.rrs_lib.specs.Bytes.{ByteMap}
use Rattle.rrs_lib.specs.Machine.{State, state_of}
use Rattle.rrs_lib.specs.VecBytes.{bytes_of_words, lies_in_words}
use Rattle.rrs_lib.specs.Loading.{Loads}
use Rattle.rrs_cli.specs.declared.fault.RunFault.{RunFault}
use Rattle.rrs_cli.specs.declared.fault.RunFault.TheVariants.{OutOfMemory, Reader, Refused, Output}
use Rattle.rrs_cli.specs.Faults.{StopsPrinting, StopsLoadInto, StopsRunOf}
use Rattle.rrs_cli.specs.Printed.{AppendsLines, IsBeginning, PrintsOfRun, zero_words, start_of}
use Rattle.rrs_cli.proofs.LoadEnds.{refused_at_end, fails_in_time}

-- ---- lines of a kind

-- lines of one kind are of another
pub appends_weaker : (P Q : List ℕ → Type 0) (a b : Option (List ℕ)) → ((lines : List ℕ) → P lines → Q lines) → AppendsLines P a b → AppendsLines Q a b
appends_weaker P Q a b f p = record { lines = p.lines; are_lines = f p.lines p.are_lines; appended = p.appended }

-- lines before and after others
pub appends_after : (P Q R : List ℕ → Type 0) (a b c : Option (List ℕ)) → ((first last : List ℕ) → P first → Q last → R (first ++ last)) → AppendsLines P a b → AppendsLines Q b c → AppendsLines R a c
appends_after P Q R a b c f p q = record {
  lines = p.lines ++ q.lines;
  are_lines = f p.lines q.lines p.are_lines q.are_lines;
  appended = Appends-trans a b c p.lines q.lines p.appended q.appended;
}

-- what is written already is done, and what is to be written is of another kind
pub stops_weaker : (P P' Q Q' : List ℕ → Type 0) (a b : Option (List ℕ)) (fault : RunFault) → ((lines : List ℕ) → P lines → P' lines) → ((lines : List ℕ) → Q lines → Q' lines) → StopsPrinting P Q a b fault → StopsPrinting P' Q' a b fault
stops_weaker P P' Q Q' a b OutOfMemory f g p = appends_weaker P P' a b f p
stops_weaker P P' Q Q' a b Output f g p =
    appends_weaker (IsBeginning Q) (IsBeginning Q') a b (λ lines begun. (begun.0, g _ begun.1)) p
stops_weaker P P' Q Q' a b _ f g p = p

-- the same of what a call returned
pub if_stops_weaker : {T : Type 0} (P P' Q Q' : List ℕ → Type 0) (a b : Option (List ℕ)) (r : Result T RunFault) → ((lines : List ℕ) → P lines → P' lines) → ((lines : List ℕ) → Q lines → Q' lines) → IfErr r (StopsPrinting P Q a b) → IfErr r (StopsPrinting P' Q' a b)
if_stops_weaker P P' Q Q' a b r f g p = IfErr-weaker r _ _ (λ e. stops_weaker P P' Q Q' a b e f g) p

-- ---- the run of a reader's bytes

-- the state of a hart that begins at address 0
pub start_is : (count : ℕ) (all registers : List ℕ) (pc : ℕ) (last : Option ℕ) (bytes : ByteMap) (writable : ℕ → Bool) → drop 1 all ≡ registers → pc ≡ 0 → last ≡ None → writable ≡ lies_in_words (zero_words count) → record { registers = drop 1 all; pc = pc; last = last; bytes = bytes; writable = writable } ≡ start_of count registers bytes
start_is count all registers pc last bytes writable are at none there =
    λ i. record { registers = are i; pc = at i; last = none i; bytes = bytes; writable = there i }

-- a memory of zeros was loaded, and a hart is new
pub record Ready (input rest : Option (List ℕ)) (new : List ℕ) (hart : HartState) : Type 0 where
  pub loads : Loads input rest (bytes_of_words (zero_words 16384)) (bytes_of_words new) (lies_in_words (zero_words 16384)) 0 (Ok tt)
  pub writable : lies_in_words new ≡ lies_in_words (zero_words 16384)
  pub registers : hart.registers ≡ replicate 32 0
  pub pc : hart.pc ≡ 0
  pub last : hart.last_register_write ≡ None

-- the state that the run starts in
abbrev pub ready_state : List ℕ → HartState → State
ready_state new hart = state_of hart (bytes_of_words new) (lies_in_words new)

-- what is printed of the run that starts there
pub run_printed : (AreLines : State → List ℕ → Type 0) (input rest : Option (List ℕ)) (new : List ℕ) (hart : HartState) (a b : Option (List ℕ)) → Ready input rest new hart → AppendsLines (AreLines (ready_state new hart)) a b → PrintsOfRun AreLines input rest a b
run_printed AreLines input rest new hart a b r printed =
    let FromState : State → Type 0 = λ s. AppendsLines (AreLines s) a b in
    let start = start_is 16384 hart.registers (replicate 31 0) hart.pc hart.last_register_write (bytes_of_words new) (lies_in_words new) (ap (λ rs. drop 1 rs) r.registers) r.pc r.last r.writable in
    record { bytes = bytes_of_words new; loaded = r.loads; printed = subst FromState start printed }

-- what stops the run that starts there
stops_run : (AreMade ArePart : State → List ℕ → Type 0) (input rest : Option (List ℕ)) (new : List ℕ) (hart : HartState) (a b : Option (List ℕ)) (fault : RunFault) → Ready input rest new hart → StopsPrinting (AreMade (ready_state new hart)) (ArePart (ready_state new hart)) a b fault → StopsRunOf AreMade ArePart input rest a b fault
stops_run AreMade ArePart input rest new hart a b OutOfMemory r p = inr (run_printed AreMade input rest new hart a b r p)
stops_run AreMade ArePart input rest new hart a b Output r p = run_printed (λ s. IsBeginning (ArePart s)) input rest new hart a b r p
stops_run AreMade ArePart input rest new hart a b _ r p = absurd p

-- the same of what a call returned
pub if_stops_run : (AreMade ArePart : State → List ℕ → Type 0) (input rest : Option (List ℕ)) (new : List ℕ) (hart : HartState) (a b : Option (List ℕ)) (r : Result (Unit {0}) RunFault) → Ready input rest new hart → IfErr r (StopsPrinting (AreMade (ready_state new hart)) (ArePart (ready_state new hart)) a b) → IfErr r (StopsRunOf AreMade ArePart input rest a b)
if_stops_run AreMade ArePart input rest new hart a b r ready p =
    IfErr-weaker r _ _ (λ e. stops_run AreMade ArePart input rest new hart a b e ready) p

-- there was no run, and nothing is printed
keeps_same : (a : Option (List ℕ)) → Keeps a a
keeps_same None = tt
keeps_same (Some xs) = refl

pub stopped_in_load : (AreMade ArePart : State → List ℕ → Type 0) (input rest a : Option (List ℕ)) (fault : RunFault) → StopsLoadInto 16384 input rest fault → StopsRunOf AreMade ArePart input rest a a fault
stopped_in_load AreMade ArePart input rest a OutOfMemory kept = inl (kept, keeps_same a)
stopped_in_load AreMade ArePart input rest a Reader p =
    (fails_in_time _ _ _ _ (zero_words 16384) _ (length-replicate {A = ℕ} 16384 0) p.2.loaded p.2.answered, keeps_same a)
stopped_in_load AreMade ArePart input rest a (Refused x) p =
    (refused_at_end _ _ _ _ (zero_words 16384) x (length-replicate {A = ℕ} 16384 0) p.1, keeps_same a)
stopped_in_load AreMade ArePart input rest a Output never = absurd never
