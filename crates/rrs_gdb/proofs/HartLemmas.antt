-- What the instruction at the program counter touches by a step of the hart.
use Rattle.std.proofs.Common.{◌≡◌, ◌≢◌, ℕ, zero, suc, ◌%◌, Bool, if◌then◌else◌, List, [], ◌∷◌, Contains, Option, Some, None, Ok, Err, MatchOption, refl, sym, subst, ◌∙◌, arith}
use Rattle.std.proofs.lemmas.Bool.{eq-eqb}
use Rattle.std.proofs.lemmas.Option.{none-some, same_Some}
use Rattle.rrs_instruction.specs.declared.instruction_formats.RType.{RType}
use Rattle.rrs_instruction.specs.Encodings.{Fields}
use Rattle.rrs_instruction.specs.Table.{Row, table}
use Rattle.rrs_memory.specs.Bytes.{little_endian}
use Rattle.rrs_lib.specs.declared.MemAccessSize.TheVariants.{Word}
use Rattle.rrs_lib.specs.Machine.{State, reg}
use Rattle.rrs_lib.specs.Accesses.{Access, read_in, write_in}
use Rattle.rrs_words.specs.declared.atomics.AtomicRow.{AtomicRow}
use Rattle.rrs_words.specs.declared.atomics.AtomicRow.TheVariants.{LrW, ScW}
use Rattle.rrs_words.specs.declared.csrs.HartProfile.{HartProfile}
use Rattle.rrs_words.specs.declared.layers.LayerInstruction.{LayerInstruction}
use Rattle.rrs_hart.specs.declared.halves.Encoding.{Encoding}
use Rattle.rrs_hart.specs.Halves.{StandsFor, IsNoRow, IsLayers}
use Rattle.rrs_hart.specs.Harts.{Hart, hart_with, layer_accesses, HartStep}
use Rattle.rrs_lib.specs.declared.instruction_executor.InstructionException.{InstructionException}
use Rattle.rrs_lib.specs.Steps.{StepAnswer}
use Rattle.rrs_history.specs.declared.history.History.{History}
use Rattle.rrs_history.specs.Calls.{KeepsHartStep}
use Rattle.rrs_hart.specs.Atomics.{holds, combined, swap_accesses, aligned_accesses, accesses_of_atomic}
use Rattle.rrs_hart.proofs.HalvesSteps.{one_row_stands, one_layer_stands}
use Rattle.rrs_trace.specs.declared.outside.DataRequest.{DataRequest}
use Rattle.rrs_trace.specs.Outside.{requested, request_by}
use Rattle.rrs_gdb.specs.declared.breaks.Watch.{Watch}
use Rattle.rrs_gdb.specs.Breaks.{IsTouchedBy, IsAskedOf}
use Rattle.rrs_gdb.proofs.WatchLemmas.{access_asked, asked_access}
use Rattle.rrs_gdb.specs.Harts.{encoding_at, OneTouches, TouchesOneOf, TouchesAsked, HartTouches, ByRow, ByLayer, HartTouchesNone, HartTouchesOne, HartStepped}

-- ---- a step

-- no exception is raised
pub none_left : (answer : StepAnswer) → ((left : InstructionException) → answer ≡ Err left → ⊥) → answer ≡ Ok tt
none_left (Ok v) other = refl
none_left (Err left) other = absurd (other left refl)

-- a step from the state that a look at the instruction left
pub stepped : (p : HartProfile) (r r' : Option ℕ) (old new : History) (s s' t : State) (answer answer' : StepAnswer) (accesses : List Access)
    → s' ≡ s → answer' ≡ answer → HartStep p (hart_with s' r) (hart_with t r') answer'
    → KeepsHartStep p old (hart_with s' r) answer' new t accesses → HartStepped p r old s answer r' new t
stepped p r r' old new s s' t answer answer' accesses same is step kept =
    subst (λ (x : State). HartStepped p r old x answer r' new t) same
    (subst (λ (a : StepAnswer). HartStepped p r old s' a r' new t) is (record { step = step; accesses = accesses; kept = kept }))

-- ---- what it touches

none_first : (x : Access) (xs : List Access) (watch : Watch) → ¬ IsTouchedBy watch x → ¬ OneTouches xs watch
    → ¬ OneTouches (x ∷ xs) watch
none_first x xs watch not none (access, (zero, below, same), touches) =
    not (subst (λ (y : Access). IsTouchedBy watch y) (sym same) touches)
none_first x xs watch not none (access, (suc k, below, same), touches) =
    none (access, (k, omega (arith, below), same), touches)

none_empty : (watch : Watch) → ¬ OneTouches [] watch
none_empty watch (access, (k, below, same), touches) = absurd (omega (arith, below))

one_later : (x : Access) (xs : List Access) (watch : Watch) → OneTouches xs watch → OneTouches (x ∷ xs) watch
one_later x xs watch (access, (k, below, same), touches) = (access, (suc k, omega (arith, below), same), touches)

-- one load or store
pub request_touched : (watches : List Watch) (s : State) (request : DataRequest) (answer : Option Watch)
    → MatchOption answer ((watch : Watch) → Contains watches watch → ¬ IsAskedOf watch request)
    (λ (watch : Watch). Contains watches watch × IsAskedOf watch request)
    → TouchesOneOf watches (requested s (Ok (Some request))) answer
request_touched watches s request None none =
    λ watch is one. none watch is (asked_access watch s request one.0 one.1 one.2)
request_touched watches s request (Some watch) found = (found.0, access_asked watch s request found.1)

pub nothing_touched : (watches : List Watch) → TouchesOneOf watches [] None
nothing_touched watches = λ watch is. none_empty watch

-- the load of an AMO
pub swap_loads : (watches : List Watch) (row : AtomicRow) (f : RType) (a : ℕ) (s : State) (value : Option ℕ) (watch : Watch)
    → Contains watches watch → IsAskedOf watch (DataRequest.Load a Word)
    → Contains watches watch × OneTouches (swap_accesses row f a s value) watch
swap_loads watches row f a s None watch is asked = (is, access_asked watch s (DataRequest.Load a Word) asked)
swap_loads watches row f a s (Some old) watch is asked = (is, (read_in s a Word, (0, omega arith, refl), asked))

-- no load of it, and no store where the word is not mapped
pub swap_unmapped : (watches : List Watch) (row : AtomicRow) (f : RType) (a : ℕ) (s : State) (value : Option ℕ) → value ≡ None
    → ((watch : Watch) → Contains watches watch → ¬ IsAskedOf watch (DataRequest.Load a Word))
    → TouchesOneOf watches (swap_accesses row f a s value) None
swap_unmapped watches row f a s None is none =
    request_touched watches s (DataRequest.Load a Word) None none
swap_unmapped watches row f a s (Some old) is none = absurd (cc)

-- its store
pub swap_stores : (watches : List Watch) (row : AtomicRow) (f : RType) (a : ℕ) (s : State) (value : Option ℕ) (old : ℕ)
    (answer : Option Watch) → value ≡ Some old
    → ((watch : Watch) → Contains watches watch → ¬ IsAskedOf watch (DataRequest.Load a Word))
    → MatchOption answer ((watch : Watch) → Contains watches watch → ¬ IsAskedOf watch (DataRequest.Store a Word 0))
    (λ (watch : Watch). Contains watches watch × IsAskedOf watch (DataRequest.Store a Word 0))
    → TouchesOneOf watches (swap_accesses row f a s value) answer
swap_stores watches row f a s None old answer is none found = absurd (cc)
swap_stores watches row f a s (Some x) old None is none found = λ watch is_one.
    let store = write_in s a Word (combined row x (reg s f.rs2)) in
    none_first (read_in s a Word) (store ∷ []) watch (none watch is_one)
    (none_first store [] watch (found watch is_one) (none_empty watch))
swap_stores watches row f a s (Some x) old (Some watch) is none found =
    let store = write_in s a Word (combined row x (reg s f.rs2)) in
    (found.0, one_later (read_in s a Word) (store ∷ []) watch (store, (0, omega arith, refl), found.1))

-- an AMO's accesses
amo_accesses : (row : AtomicRow) (f : RType) (a : ℕ) (s : State) (r : Option ℕ) → row ≢ LrW → row ≢ ScW
    → swap_accesses row f a s (little_endian s.bytes a 4) ≡ aligned_accesses row f a s r
amo_accesses LrW f a s r no_load no_store = absurd (no_load refl)
amo_accesses ScW f a s r no_load no_store = absurd (no_store refl)
amo_accesses row f a s r no_load no_store = refl

-- at an address that is aligned, and one that is not
pub aligned_touched : (watches : List Watch) (row : AtomicRow) (f : RType) (s : State) (r : Option ℕ) (answer : Option Watch)
    → reg s f.rs1 % 4 ≡ 0 → TouchesOneOf watches (aligned_accesses row f (reg s f.rs1) s r) answer
    → TouchesOneOf watches (accesses_of_atomic row f s r) answer
aligned_touched watches row f s r answer aligned found =
    subst (λ (b : Bool). TouchesOneOf watches (if b then aligned_accesses row f (reg s f.rs1) s r else []) answer)
    (sym (eq-eqb (reg s f.rs1 % 4) 0 aligned)) found

pub amo_touched : (watches : List Watch) (row : AtomicRow) (f : RType) (s : State) (r : Option ℕ) (answer : Option Watch)
    → row ≢ LrW → row ≢ ScW
    → TouchesOneOf watches (swap_accesses row f (reg s f.rs1) s (little_endian s.bytes (reg s f.rs1) 4)) answer
    → TouchesOneOf watches (aligned_accesses row f (reg s f.rs1) s r) answer
amo_touched watches row f s r answer no_load no_store found =
    subst (λ (xs : List Access). TouchesOneOf watches xs answer) (amo_accesses row f (reg s f.rs1) s r no_load no_store) found

-- a store whose address is reserved, or none
pub stores_reserved : (watches : List Watch) (s : State) (a value r : ℕ) (answer : Option Watch) → r ≡ a
    → MatchOption answer ((watch : Watch) → Contains watches watch → ¬ IsAskedOf watch (DataRequest.Store a Word 0))
    (λ (watch : Watch). Contains watches watch × IsAskedOf watch (DataRequest.Store a Word 0))
    → TouchesOneOf watches (if holds (Some r) a then write_in s a Word value ∷ [] else []) answer
stores_reserved watches s a value r answer same found =
    subst (λ (b : Bool). TouchesOneOf watches (if b then write_in s a Word value ∷ [] else []) answer)
    (sym (eq-eqb r a same)) (request_touched watches s (DataRequest.Store a Word value) answer found)

-- ---- the instruction at the program counter

-- none is there
pub no_encoding : (watches : List Watch) (p : HartProfile) (s : Hart) → encoding_at p s.state ≡ None → HartTouchesNone watches p s
no_encoding watches p s none watch is (ByRow x row f request at stands asks touches) = none-some x (sym none ∙ at)
no_encoding watches p s none watch is (ByLayer x i at outside layers touches) = none-some x (sym none ∙ at)

-- a row is there
row_only : (p : HartProfile) (s : Hart) (x : Encoding) (row : Row) (f : Fields) (watch : Watch) → encoding_at p s.state ≡ Some x
    → StandsFor x row f → HartTouches p s watch
    → (request : DataRequest) × (request_by (table row).action f s.state ≡ Some request) × IsAskedOf watch request
row_only p s x row f watch at stands (ByRow x' row' f' request at' stands' asks touches) =
    let same : x' ≡ x = same_Some _ _ (sym at' ∙ at) in
    let rows = one_row_stands x row' row f' f (subst (λ (y : Encoding). StandsFor y row' f') same stands') stands in
    (request, (λ i. request_by (table (sym rows.0 i)).action (sym rows.1 i) s.state) ∙ asks, touches)
row_only p s x row f watch at stands (ByLayer x' i at' outside layers touches) =
    absurd (outside row f (subst (λ (y : Encoding). StandsFor y row f) (same_Some _ _ (sym at ∙ at')) stands))

pub row_found : (watches : List Watch) (p : HartProfile) (s : Hart) (x : Encoding) (row : Row) (f : Fields) (asked : Option DataRequest)
    (answer : Option Watch) → encoding_at p s.state ≡ Some x → StandsFor x row f → request_by (table row).action f s.state ≡ asked
    → TouchesAsked watches asked answer
    → MatchOption answer (HartTouchesNone watches p s) (λ (watch : Watch). HartTouchesOne watches p s watch)
row_found watches p s x row f None None at stands asks is = λ watch one touched.
    let only = row_only p s x row f watch at stands touched in
    none-some only.0 (sym asks ∙ only.1)
row_found watches p s x row f None (Some watch) at stands asks is = absurd (cc)
row_found watches p s x row f (Some request) None at stands asks none = λ watch one touched.
    let only = row_only p s x row f watch at stands touched in
    none watch one (subst (λ (y : DataRequest). IsAskedOf watch y) (same_Some _ _ (sym only.1 ∙ asks)) only.2)
row_found watches p s x row f (Some request) (Some watch) at stands asks found =
    (found.0, ByRow x row f request at stands asks found.1)

-- an instruction of a layer is there
layer_only : (p : HartProfile) (s : Hart) (x : Encoding) (i : LayerInstruction) (watch : Watch) → encoding_at p s.state ≡ Some x
    → IsNoRow x → IsLayers p x i → HartTouches p s watch → OneTouches (layer_accesses i s.state s.reserved) watch
layer_only p s x i watch at outside layers (ByRow x' row f request at' stands asks touches) =
    absurd (outside row f (subst (λ (y : Encoding). StandsFor y row f) (same_Some _ _ (sym at' ∙ at)) stands))
layer_only p s x i watch at outside layers (ByLayer x' j at' outside' layers' touches) =
    let same : x' ≡ x = same_Some _ _ (sym at' ∙ at) in
    let one = one_layer_stands p x j i (subst (λ (y : Encoding). IsLayers p y j) same layers') layers in
    subst (λ (k : LayerInstruction). OneTouches (layer_accesses k s.state s.reserved) watch) one touches

pub layer_found : (watches : List Watch) (p : HartProfile) (s : Hart) (x : Encoding) (i : LayerInstruction) (answer : Option Watch)
    → encoding_at p s.state ≡ Some x → IsNoRow x → IsLayers p x i
    → TouchesOneOf watches (layer_accesses i s.state s.reserved) answer
    → MatchOption answer (HartTouchesNone watches p s) (λ (watch : Watch). HartTouchesOne watches p s watch)
layer_found watches p s x i None at outside layers none = λ watch one touched.
    none watch one (layer_only p s x i watch at outside layers touched)
layer_found watches p s x i (Some watch) at outside layers found = (found.0, ByLayer x i at outside layers found.1)
