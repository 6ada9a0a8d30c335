use Rattle.std.proofs.Common.{ℕ, Bool, Option, List, [], ◌≡◌, refl, ◌∙◌}
use Rattle.rrs_lib.specs.declared.MemAccessSize.{MemAccessSize}
use Rattle.rrs_lib.specs.AccessLists.{Access, Makes}
use Rattle.rrs_lib.specs.Bytes.{ByteMap}
use Rattle.rrs_lib.specs.Machine.{State, state_of}
use Rattle.rrs_fast.specs.Serving.{MakesSome}
use Rattle.rrs_lib.specs.declared.HartState.{HartState}
use Rattle.rrs_linux.specs.declared.Process.{Process}
use Rattle.rrs_linux.specs.declared.requests.Request.{Request}
use Rattle.rrs_linux.specs.declared.requests.Request.TheVariants.{Exit, Answer, NoCall, Status, NamedStatus, ExtendedStatus, Time, SetBreak, Names, Random, Read, WriteOutput, WriteErrors, WriteOutputPieces, WriteErrorPieces}
use Rattle.rrs_linux.specs.Clocks.{Tells}
use Rattle.rrs_linux.specs.Requests.{Asks}
use Rattle.rrs_linux.specs.SystemCalls.{Does, ServesBy, answered}
use Rattle.rrs_linux.specs.Transfers.{Gives, Takes}
use Rattle.rrs_linux.proofs.ProcessEnvironment.serve.Goals as goal

served : {M R W E K : Type 0} {reads : M → ℕ → MemAccessSize → M → Option ℕ → Type 0}
    {writes : M → ℕ → MemAccessSize → ℕ → M → Bool → Type 0}
    {gives : Gives R K} {takes : Takes W} {takes_errors : Takes E} {tells : Tells K}
    {old new : Process R W E K} {s t : State} {end : Option ℕ} {m m' : M} (accesses : List Access) (request : Request)
    → ((bytes : ByteMap) (writable : ℕ → Bool) → Asks (record s { bytes = bytes; writable = writable }) request)
    → Does gives takes takes_errors tells request old s new t accesses end → Makes reads writes accesses m m'
    → MakesSome reads writes (λ of. ServesBy gives takes takes_errors tells old s new t of end) m m'
served {s = s} xs r asks does made =
    record { accesses = xs; these = record { request = r; asks = asks s.bytes s.writable; does = does }; made = made }

-- the answer is put into a0 of a machine whose bytes are as they were
after : {bytes bytes' : ByteMap} {writable writable' : ℕ → Bool} (hart : HartState) (answer : ℕ)
    → bytes' ≡ bytes → writable' ≡ writable
    → answered (state_of hart bytes' writable') answer ≡ answered (state_of hart bytes writable) answer
after hart answer same there = λ i. answered (state_of hart (same i) (there i)) answer

pub returns-in-Exit-clause-served : goal.returns-in-Exit-clause-served
returns-in-Exit-clause-served g c =
    served [] (Exit c.in-Exit.status) c.in-Exit.ensures (refl, refl, refl, refl) refl

pub returns-in-Answer-clause-served : goal.returns-in-Answer-clause-served
returns-in-Answer-clause-served g c =
    let went = c.go_on.ensures in
    served [] (Answer c.in-Answer.answer) c.in-Answer.ensures (went.goes_on, refl, went.answered _ _, refl) refl

pub returns-in-NoCall-clause-served : goal.returns-in-NoCall-clause-served
returns-in-NoCall-clause-served g c =
    let went = c.go_on-in-NoCall.ensures in
    let kept = c.keep_number.ensures in
    let process = c.args.self.now in
    served [] (NoCall c.in-NoCall.number) c.in-NoCall.ensures
    (went.goes_on, (λ i. record process { unserved = record { items = kept i } }), went.answered _ _, refl) refl

pub returns-in-SetBreak-clause-served : goal.returns-in-SetBreak-clause-served
returns-in-SetBreak-clause-served g c =
    let went = c.go_on-in-SetBreak.ensures in
    let set = c.set_break.ensures in
    let kept = c.note_break.ensures in
    let process = c.args.self.now in
    let lent = c.args.executor.now in
    let s = state_of lent.hart_state.now (g.M.Memory.bytes lent.mem.now) (g.M.Memory.writable lent.mem.now) in
    let after = went.answered _ _ ∙ (λ i. answered s (set.answer i)) in
    served [] (SetBreak c.in-SetBreak.address) c.in-SetBreak.ensures
    (went.goes_on, (λ i. record process { heap = set.moved i; unserved = record { items = kept i } }), after, refl) refl

pub returns-in-Status-clause-served : goal.returns-in-Status-clause-served
returns-in-Status-clause-served g c =
    let went = c.go_on-in-Status.ensures in
    let call = c.put_status in
    let did = call.ensures.put in
    let kept = after c.args.executor.now.hart_state.now call.result refl call.ensures.writable_kept in
    served did.accesses (Status c.in-Status.address) c.in-Status.ensures
    (went.goes_on, refl, _, call.result, did.these, went.answered _ _ ∙ kept) did.made

pub returns-in-Read-clause-served : goal.returns-in-Read-clause-served
returns-in-Read-clause-served g c =
    let went = c.go_on-in-Read.ensures in
    let call = c.read_to-answer in
    let did = call.ensures.given in
    let kept = after c.args.executor.now.hart_state.now call.result refl call.ensures.writable_kept in
    served did.accesses (Read c.in-Read.address c.in-Read.count) c.in-Read.ensures
    (went.goes_on, call.new.self, call.new.held, _, call.result, did.these, refl, went.answered _ _ ∙ kept) did.made

pub returns-in-WriteOutput-clause-served : goal.returns-in-WriteOutput-clause-served
returns-in-WriteOutput-clause-served g c =
    let went = c.go_on_if_read.ensures in
    let call = c.write_from in
    let did = call.ensures in
    let kept = after c.args.executor.now.hart_state.now call.result did.bytes_kept did.writable_kept in
    served did.taken.accesses (WriteOutput c.in-WriteOutput.address c.in-WriteOutput.count) c.in-WriteOutput.ensures
    (call.new.self, call.result, did.taken.these, refl, went.answered _ _ ∙ kept, went.ends) did.taken.made

pub returns-in-WriteErrors-clause-served : goal.returns-in-WriteErrors-clause-served
returns-in-WriteErrors-clause-served g c =
    let went = c.go_on_if_read-in-WriteErrors.ensures in
    let call = c.write_from-in-WriteErrors in
    let did = call.ensures in
    let kept = after c.args.executor.now.hart_state.now call.result did.bytes_kept did.writable_kept in
    served did.taken.accesses (WriteErrors c.in-WriteErrors.address c.in-WriteErrors.count) c.in-WriteErrors.ensures
    (call.new.self, call.result, did.taken.these, refl, went.answered _ _ ∙ kept, went.ends) did.taken.made

pub returns-in-NamedStatus-clause-served : goal.returns-in-NamedStatus-clause-served
returns-in-NamedStatus-clause-served g c =
    let went = c.go_on-in-NamedStatus.ensures in
    let call = c.put_named_status in
    let did = call.ensures.put in
    let kept = after c.args.executor.now.hart_state.now call.result refl call.ensures.writable_kept in
    served did.accesses (NamedStatus c.in-NamedStatus.lookup c.in-NamedStatus.address) c.in-NamedStatus.ensures
    (went.goes_on, refl, _, call.result, did.these, went.answered _ _ ∙ kept) did.made

pub returns-in-ExtendedStatus-clause-served : goal.returns-in-ExtendedStatus-clause-served
returns-in-ExtendedStatus-clause-served g c =
    let went = c.go_on-in-ExtendedStatus.ensures in
    let call = c.put_extended_status in
    let did = call.ensures.put in
    let kept = after c.args.executor.now.hart_state.now call.result refl call.ensures.writable_kept in
    served did.accesses (ExtendedStatus c.in-ExtendedStatus.lookup c.in-ExtendedStatus.address) c.in-ExtendedStatus.ensures
    (went.goes_on, refl, _, call.result, did.these, went.answered _ _ ∙ kept) did.made

pub returns-in-WriteOutputPieces-clause-served : goal.returns-in-WriteOutputPieces-clause-served
returns-in-WriteOutputPieces-clause-served g c =
    let went = c.go_on_if_read-in-WriteOutputPieces.ensures in
    let call = c.write_pieces in
    let did = call.ensures in
    let kept = after c.args.executor.now.hart_state.now call.result did.bytes_kept did.writable_kept in
    served did.taken.accesses (WriteOutputPieces c.in-WriteOutputPieces.address c.in-WriteOutputPieces.count) c.in-WriteOutputPieces.ensures
    (call.new.out, call.result, did.taken.these, refl, went.answered _ _ ∙ kept, went.ends) did.taken.made

pub returns-in-WriteErrorPieces-clause-served : goal.returns-in-WriteErrorPieces-clause-served
returns-in-WriteErrorPieces-clause-served g c =
    let went = c.go_on_if_read-in-WriteErrorPieces.ensures in
    let call = c.write_pieces-in-WriteErrorPieces in
    let did = call.ensures in
    let kept = after c.args.executor.now.hart_state.now call.result did.bytes_kept did.writable_kept in
    served did.taken.accesses (WriteErrorPieces c.in-WriteErrorPieces.address c.in-WriteErrorPieces.count) c.in-WriteErrorPieces.ensures
    (call.new.out, call.result, did.taken.these, refl, went.answered _ _ ∙ kept, went.ends) did.taken.made

pub returns-in-Time-clause-served : goal.returns-in-Time-clause-served
returns-in-Time-clause-served g c =
    let went = c.go_on-in-Time.ensures in
    let call = c.put_time in
    let did = call.ensures.put in
    let kept = after c.args.executor.now.hart_state.now call.result refl call.ensures.writable_kept in
    served did.accesses (Time c.in-Time.clock c.in-Time.form c.in-Time.address) c.in-Time.ensures
    (went.goes_on, refl, c.tell.result, c.tell.ensures.told, _, call.result, did.these, went.answered _ _ ∙ kept)
    did.made

pub returns-in-Names-clause-served : goal.returns-in-Names-clause-served
returns-in-Names-clause-served g c =
    let went = c.go_on-in-Names.ensures in
    let call = c.put_names in
    let did = call.ensures.put in
    let kept = after c.args.executor.now.hart_state.now call.result refl call.ensures.writable_kept in
    served did.accesses (Names c.in-Names.address) c.in-Names.ensures
    (went.goes_on, refl, _, call.result, did.these, went.answered _ _ ∙ kept) did.made

pub returns-in-Random-clause-served : goal.returns-in-Random-clause-served
returns-in-Random-clause-served g c =
    let went = c.go_on-in-Random.ensures in
    let call = c.give_random in
    let did = call.ensures.given.1 in
    let process = c.args.self.now in
    let kept = after c.args.executor.now.hart_state.now call.result refl call.ensures.writable_kept in
    served did.accesses (Random c.in-Random.address c.in-Random.count) c.in-Random.ensures (
      went.goes_on,
      (λ i. record process { random = call.ensures.moved_on i }),
      _,
      call.ensures.given.0,
      call.result,
      did.these,
      went.answered _ _ ∙ kept,
    ) did.made
