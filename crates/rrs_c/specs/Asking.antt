-- What an instruction asks of memory, and what C answers, as C has it.
use Rattle.std.specs.Prelude.{◌≡◌, ◌≢◌, ◌<◌, ℕ, ◌==◌, if◌then◌else◌, Option, Some, None, Ok, Err}
use Rattle.rrs_lib.specs.declared.instruction_executor.InstructionException.{InstructionException}
use Rattle.rrs_lib.specs.Bytes.{width}
use Rattle.rrs_lib.specs.Accesses.{size_of}
use Rattle.rrs_trace.specs.declared.outside.DataRequest.{DataRequest}
use Rattle.rrs_trace.specs.Outside.{RequestAnswer}
use Rattle.rrs_c.specs.declared.access.RrsAccess.{RrsAccess}
use Rattle.rrs_c.specs.Harts.{exception_of, IsFault}

-- the load or the store of each kind; every other number is none
abbrev pub data_request : RrsAccess → Option DataRequest
data_request a =
    if a.kind == 1 then Some (DataRequest.Load a.address (size_of a.size)) else
    (if a.kind == 2 then Some (DataRequest.Store a.address (size_of a.size) a.value) else None)

-- How an access is written: kinds go up to 2, the size is that of an access, and what an access of
-- its kind does not have is 0.
pub record IsAccess (a : RrsAccess) : Type 0 where
  pub fault : IsFault a.fault
  pub kind : a.kind < 3
  pub size : a.kind ≢ 0 → a.size ≡ width (size_of a.size)
  pub none : a.kind ≡ 0 → (a.address ≡ 0) × (a.size ≡ 0)
  pub value : a.kind ≢ 2 → a.value ≡ 0

-- the exception, or what is asked
abbrev pub asked_or : Option DataRequest → Option InstructionException → RequestAnswer
asked_or request None = Ok request
asked_or request (Some e) = Err e

abbrev pub request_answer : RrsAccess → RequestAnswer
request_answer a = asked_or (data_request a) (exception_of a.fault)

-- what C gives: nothing where it refuses
abbrev pub given : ℕ → ℕ → Option ℕ
given granted value = if granted == 0 then None else Some value
