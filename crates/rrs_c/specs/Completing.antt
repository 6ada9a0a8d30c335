-- What a step retires whose load or store is made outside of the machine: the record of RVFI, the
-- RISC-V Formal Interface, of the step that Outside.antt of rrs_trace defines.
use Rattle.std.specs.Prelude.{ℕ, ◌%◌, ◌^◌, List, Option, Some, Ok}
use Rattle.rrs_lib.specs.declared.HartState.{HartState}
use Rattle.rrs_lib.specs.Bytes.{width}
use Rattle.rrs_lib.specs.Machine.{state_of}
use Rattle.rrs_lib.specs.Steps.{StepAnswer}
use Rattle.rrs_lib.specs.Accesses.{Access}
use Rattle.rrs_trace.specs.declared.outside.DataRequest.{DataRequest}
use Rattle.rrs_trace.specs.declared.traced.MemoryAccess.{MemoryAccess}
use Rattle.rrs_trace.specs.declared.retired.Retired.{Retired}
use Rattle.rrs_trace.specs.Retired.{Retires, no_access, mask}
use Rattle.rrs_trace.specs.Outside.{RequestAnswer, WithEachMemory, AccessesAfterFetch, AnsweredBy, bytes_after}

-- With each memory that has the word w at the program counter, and answers the access after the
-- fetch by what is given, the step from old to new retires this.
abbrev pub CompletesRetiring : ℕ → HartState → HartState → ℕ → Option ℕ → StepAnswer → Retired
    → Type 0
CompletesRetiring order old new w given answer r = WithEachMemory old w (λ s.
    (accesses : List Access) → AccessesAfterFetch s accesses → AnsweredBy given accesses
    → Retires order s (state_of new (bytes_after accesses s.bytes) s.writable) answer r)

-- ---- of the code

-- the load or the store of a record, where this is given to what is asked: none where it is refused
abbrev pub logged : RequestAnswer → Option ℕ → MemoryAccess
logged (Ok (Some (DataRequest.Load a size))) (Some v) =
    record { addr = a; rmask = mask size; wmask = 0; rdata = v % 256 ^ width size; wdata = 0 }
logged (Ok (Some (DataRequest.Store a size value))) (Some v) =
    record { addr = a; rmask = 0; wmask = mask size; rdata = 0; wdata = value % 256 ^ width size }
logged _ _ = no_access
