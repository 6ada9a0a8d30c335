-- What a watcher was shown is a list of records, and what each of them makes of the watcher holds of it.
use Rattle.std.proofs.Common.{◌≡◌, ℕ, List, [], ◌∷◌, ◌++◌, Bool, true, Option, Some, None, Ok, Err, refl, subst}
use Rattle.rrs_lib.specs.Steps.{StepAnswer}
use Rattle.rrs_lib.specs.Accesses.{Access}
use Rattle.rrs_lib.specs.declared.instruction_executor.InstructionException.TheVariants.{EnvironmentCall}
use Rattle.rrs_trace.specs.declared.retired.Retired.{Retired}
use Rattle.rrs_fast.specs.declared.serving.Ending.{Ending}
use Rattle.rrs_fast.specs.Serving.{Relation, HartServed}
use Rattle.rrs_linux.specs.declared.Process.{Process}
use Rattle.rrs_linux.specs.declared.host_writer.HostWriter.{HostWriter}
use Rattle.rrs_linux.specs.declared.host_side.HostSide.{HostSide}
use Rattle.rrs_linux.specs.SystemCalls.{Serves}
use Rattle.rrs_words.specs.declared.csrs.HartProfile.{HartProfile}
use Rattle.rrs_hart.specs.Harts.{Hart, hart_with}
use Rattle.rrs_exec.specs.Processes.{heap_of}
use Rattle.rrs_exec.specs.Watching.{start_in, WatchesProcess}
use Rattle.rrs_exec.specs.Watching.{TurnAnswer, SeesStep, Turn, Stepped, Faulted, Called, Turns, NoTurn, OneMore, Shown, ToLimit, ToExit, ToFault}
use Rattle.rrs_reports.specs.Records.{keeps, wants_all, RunsWithRecords}

module _ {E V : Type 0} (p : HartProfile) (serves : Relation E) (sees : V → Retired → V → Type 0) (wants : V → Bool)
    (P : List Retired → V → Type 0)
    (grows : (rs : List Retired) (r : Retired) (v w : V) → P rs v → sees v r w → P (rs ++ r ∷ []) w) where
  seen_kept : (n : ℕ) (v w : V) (s t : Hart) (answer : StepAnswer) (rs : List Retired) → (seen : SeesStep p sees n v s answer t w)
      → SeesStep p keeps n rs s answer t (rs ++ seen.retired ∷ [])
  seen_kept n v w s t answer rs seen =
      record { retired = seen.retired; step = seen.step; retires = seen.retires; seen = refl }

  turn_kept : (n : ℕ) (e e' : E) (s t : Hart) (v v' : V) (answer : TurnAnswer) (a : List Access) (rs : List Retired)
      → Turn p serves sees n e s v answer e' t v' a → P rs v
      → (all : List Retired) × Turn p serves keeps n e s rs answer e' t all a × P all v'
  turn_kept n e e' s t v v' answer a rs (Stepped seen of answers same) h = (
    rs ++ seen.retired ∷ [],
    Stepped (seen_kept n v v' s t (Ok tt) rs seen) of answers same,
    grows rs seen.retired v v' h seen.seen,
  )
  turn_kept n e e' s t v v' answer a rs (Faulted fault seen of no_call answers same) h = (
    rs ++ seen.retired ∷ [],
    Faulted fault (seen_kept n v v' s t (Err fault) rs seen) of no_call answers same,
    grows rs seen.retired v v' h seen.seen,
  )
  turn_kept n e e' s t v v' answer a rs (Called pc end m u of_step of_call seen of call is answers all) h = (
    rs ++ seen.retired ∷ [],
    Called pc end m u of_step of_call (seen_kept n v v' s m (Err (EnvironmentCall pc)) rs seen) of call is answers all,
    grows rs seen.retired v v' h seen.seen,
  )

  turns_kept : (e : E) (s : Hart) (v : V) (n : ℕ) (d : E) (m : Hart) (w : V)
      → Turns p serves sees wants e s v n d m w → P [] v
      → (rs : List Retired) × Turns p serves keeps wants_all e s [] n d m rs × P rs w
  turns_kept e s v _ _ _ _ NoTurn h = ([], NoTurn, h)
  turns_kept e s v _ _ _ _ (OneMore n d e' m t w v' a before wanted turn) h =
      let b = turns_kept e s v n d m w before h in
      let k = turn_kept n d e' m t w v' (Ok None) a b.0 turn b.2 in
      (k.0, OneMore n d e' m t b.0 k.0 a b.1 refl k.1, k.2)

  pub shown_kept : (e e' : E) (s t : Hart) (v v' : V) (ending : Ending) (steps : ℕ)
      → Shown p serves sees wants e s v ending steps e' t v' → P [] v
      → (rs : List Retired) × Shown p serves keeps wants_all e s [] ending steps e' t rs × P rs v'
  shown_kept e e' s t v v' ending steps (ToLimit turns ends) h =
      let b = turns_kept e s v steps e' t v' turns h in
      (b.0, ToLimit b.1 ends, b.2)
  shown_kept e e' s t v v' ending steps (ToExit n status d m w a turns wanted turn ends count) h =
      let b = turns_kept e s v n d m w turns h in
      let k = turn_kept n d e' m t w v' (Ok (Some status)) a b.0 turn b.2 in
      (k.0, ToExit n status d m b.0 a b.1 refl k.1 ends count, k.2)
  shown_kept e e' s t v v' ending steps (ToFault fault d m w a turns wanted turn ends) h =
      let b = turns_kept e s v steps d m w turns h in
      let k = turn_kept steps d e' m t w v' (Err fault) a b.0 turn b.2 in
      (k.0, ToFault fault d m b.0 a b.1 refl k.1 ends, k.2)

-- a run that was shown to a watcher which wants more at the end, and what holds of the watcher and the records
pub run_kept : {R W E V : Type 0} (p : HartProfile) (remaining : R → Option (List ℕ))
    (contents : W → Option (List ℕ)) (errors_of : E → Option (List ℕ))
    (sees : V → Retired → V → Type 0) (wants : V → Bool) (P : List Retired → V → Type 0)
    → ((rs : List Retired) (r : Retired) (v w : V) → P rs v → sees v r w → P (rs ++ r ∷ []) w)
    → (file : List ℕ) (arguments variables : List (List ℕ)) (wanted limit : ℕ)
    (old new : Process R (HostWriter W) (HostWriter E) HostSide) (v v' : V) (steps pc : ℕ) (ending : Ending)
    → WatchesProcess p remaining contents errors_of sees wants file arguments variables wanted limit old new v v' steps pc ending
    → wants v' ≡ true → P [] v
    → (rs : List Retired)
    × RunsWithRecords p remaining contents errors_of file arguments variables wanted limit old new steps pc ending rs × P rs v'
run_kept p remaining contents errors_of sees wants P grows file arguments variables wanted limit old new v v' steps pc ending watched more none =
    let serves = Serves remaining contents errors_of in
    let runs = watched.runs in
    let start = hart_with (start_in runs.image runs.bytes runs.writable) None in
    let before = record old { heap = heap_of runs.image } in
    let end = hart_with runs.runs.end runs.runs.served.0 in
    let k = shown_kept p serves sees wants P grows before new start end v v' ending steps watched.shown none in (
      k.0,
      record {
        runs = record {
          image = runs.image;
          bytes = runs.bytes;
          writable = runs.writable;
          loaded = runs.loaded;
          runs = record {
            end = runs.runs.end;
            stands = runs.runs.stands;
            accesses = runs.runs.accesses;
            served = (
              runs.runs.served.0,
              subst (λ n. HartServed p serves ending new end n before start steps runs.runs.accesses) (watched.all more) runs.runs.served.1,
            );
          };
        };
        shown = k.1;
      },
      k.2,
    )
