-- Steps of the hart of a session, made where the kit's own step raises an exception: an instruction
-- of a layer of its profile, a load or a store at a misaligned address, or compressed code. For a
-- session each is one instruction, with its whole access, forward and back. Its history keeps it as
-- it keeps a call.
use Rattle.std.specs.Prelude.{◌≡◌, ℕ, List, Contains, if◌then◌else◌, Bool, true, false, Option, Some, None, Result, Ok, Err, option_map, MatchOption}
use Rattle.rrs_instruction.specs.Encodings.{Fields}
use Rattle.rrs_instruction.specs.Table.{Row, table}
use Rattle.rrs_lib.specs.declared.instruction_executor.InstructionException.{InstructionException}
use Rattle.rrs_lib.specs.declared.instruction_executor.InstructionException.TheVariants.{IllegalInstruction, Breakpoint, AlignmentFault, FetchError, LoadAccessFault, StoreAccessFault, EnvironmentCall}
use Rattle.rrs_lib.specs.Machine.{State}
use Rattle.rrs_lib.specs.Accesses.{Access}
use Rattle.rrs_lib.specs.Steps.{StepAnswer, next_word}
use Rattle.rrs_words.specs.declared.csrs.HartProfile.{HartProfile}
use Rattle.rrs_words.specs.declared.layers.LayerInstruction.{LayerInstruction}
use Rattle.rrs_hart.specs.declared.halves.Encoding.{Encoding}
use Rattle.rrs_hart.specs.declared.halves.Encoding.TheVariants.{Long}
use Rattle.rrs_hart.specs.Halves.{fetched, StandsFor, IsNoRow, IsLayers}
use Rattle.rrs_hart.specs.Harts.{Hart, hart_with, layer_accesses, HartStep}
use Rattle.rrs_trace.specs.declared.outside.DataRequest.{DataRequest}
use Rattle.rrs_trace.specs.Outside.{request_by}
use Rattle.rrs_history.specs.declared.history.History.{History}
use Rattle.rrs_history.specs.Calls.{KeepsHartStep}
use Rattle.rrs_gdb.specs.declared.breaks.Watch.{Watch}
use Rattle.rrs_gdb.specs.Breaks.{IsTouchedBy, IsAskedOf}

-- the exceptions of the kit's step in whose place the hart may make another step
abbrev pub may_differ : InstructionException → Bool
may_differ (AlignmentFault a) = true
may_differ (IllegalInstruction pc word) = true
may_differ (FetchError a) = true
may_differ (Breakpoint pc) = false
may_differ (LoadAccessFault a) = false
may_differ (StoreAccessFault a) = false
may_differ (EnvironmentCall pc) = false

-- ---- watchpoints

-- the instruction that a fetch gives, if it gives one
abbrev pub if_fetched : Result Encoding InstructionException → Option Encoding
if_fetched (Ok x) = Some x
if_fetched (Err e) = None

-- the instruction at the program counter, if there is one: by half-words, or a word
abbrev pub encoding_at : HartProfile → State → Option Encoding
encoding_at p s = if p.compressed then if_fetched (fetched s.bytes s.pc) else option_map Long (next_word s)

-- one of these accesses touches a watchpoint
abbrev pub OneTouches : List Access → Watch → Type 0
OneTouches accesses watch = (access : Access) × Contains accesses access × IsTouchedBy watch access

-- The instruction at the program counter touches a watchpoint: a load or a store by one of the bytes
-- that it is for, at any address, and one of a layer by an access.
pub data HartTouches (p : HartProfile) (s : Hart) (watch : Watch) : Type 0 where
  ByRow : (x : Encoding) (row : Row) (f : Fields) (request : DataRequest)
      → encoding_at p s.state ≡ Some x → StandsFor x row f
      → request_by (table row).action f s.state ≡ Some request → IsAskedOf watch request
      → HartTouches p s watch
  ByLayer : (x : Encoding) (i : LayerInstruction)
      → encoding_at p s.state ≡ Some x → IsNoRow x → IsLayers p x i
      → OneTouches (layer_accesses i s.state s.reserved) watch
      → HartTouches p s watch

-- it touches none of the watchpoints
abbrev pub HartTouchesNone : List Watch → HartProfile → Hart → Type 0
HartTouchesNone watches p s = (watch : Watch) → Contains watches watch → ¬ HartTouches p s watch

-- it touches this one of them
abbrev pub HartTouchesOne : List Watch → HartProfile → Hart → Watch → Type 0
HartTouchesOne watches p s watch = Contains watches watch × HartTouches p s watch

-- ---- a step

-- A step of the hart leads from s, with an address reserved or none, to t, and the history keeps it.
pub record HartStepped (p : HartProfile) (reserved : Option ℕ) (old : History) (s : State)
    (answer : StepAnswer) (reserved' : Option ℕ) (new : History) (t : State) : Type 0 where
  pub step : HartStep p (hart_with s reserved) (hart_with t reserved') answer
  pub accesses : List Access
  pub kept : KeepsHartStep p old (hart_with s reserved) answer new t accesses

-- ---- of the code

-- one of these accesses touches the watchpoint that is found, or none touches one
abbrev pub TouchesOneOf : List Watch → List Access → Option Watch → Type 0
TouchesOneOf watches accesses found = MatchOption found
    ((watch : Watch) → Contains watches watch → ¬ OneTouches accesses watch)
    (λ (watch : Watch). Contains watches watch × OneTouches accesses watch)

-- an access that is asked for touches the watchpoint that is found, or none, or nothing is asked for
abbrev pub TouchesAsked : List Watch → Option DataRequest → Option Watch → Type 0
TouchesAsked watches None found = found ≡ None
TouchesAsked watches (Some request) found = MatchOption found
    ((watch : Watch) → Contains watches watch → ¬ IsAskedOf watch request)
    (λ (watch : Watch). Contains watches watch × IsAskedOf watch request)
