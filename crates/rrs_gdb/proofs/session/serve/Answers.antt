-- The stop is told, and a packet has its turn.
use Rattle.std.proofs.Common.{subst}
use Rattle.rrs_lib.specs.Executor.{state_in}
use Rattle.rrs_gdb.specs.declared.state.SessionState.{SessionState}
use Rattle.rrs_gdb.specs.declared.session.SessionEnd.TheVariants as Ending
use Rattle.rrs_gdb.specs.Sessions.{Turn, debugged}
use Rattle.rrs_gdb.specs.Shown.{Last, Over, Then, Turns}
use Rattle.rrs_gdb.proofs.LinkLemmas.{requests_none}
use Rattle.rrs_gdb.proofs.session.serve.Goals as goal

pub loop-init : goal.loop-init
loop-init g c =
    let contents = g.W.Write.contents in
    let program = state_in g.M.Memory.bytes g.M.Memory.writable c.args.executor.now in
    λ n new end later. record {
      begun = c.send_stop.new.link;
      owed = c.in_ok-send_stop.ensures.owed;
      owes_none = λ is. (c.send_stop.ensures.none is).0;
      turns = subst (λ (s : SessionState). Turns g.R.Read.remaining contents (Turn contents) Ending.Ended
          (debugged s program) c.send_stop.new.link n new end) c.send_stop.ensures.told later;
    }

pub loop-preserved : goal.loop-preserved
loop-preserved g c = λ n new end later.
    let asked = rw c.in-Some.is at c.in_ok-payload.ensures in
    let turn = rw c.in_default-2.is at c.in_ok-end.ensures in
    c.loop.invariant n new end (Then _ _ n c.loop.link c.next_payload.new.link c.answer.new.link new end
    c.in-Some.payload.items asked (rw (← c.deref.ensures.value) turn) later)

pub returns-in-Some-2 : goal.returns-in-Some-2
returns-in-Some-2 g c =
    let asked = rw c.in-Some.is at c.in_ok-payload.ensures in
    let turn = rw c.in-Some-2.is at c.in_ok-end.ensures in
    record {
      served = c.loop.invariant _ _ _ (Last _ _ c.loop.link c.next_payload.new.link c.answer.new.link _
          c.in-Some.payload.items asked (rw (← c.deref.ensures.value) turn));
    }

-- the input ends
pub returns-in_default : goal.returns-in_default
returns-in_default g c = record {
  served = c.loop.invariant _ _ _ (Over _ c.loop.link c.next_payload.new.link (rw c.in_default.is at c.in_ok-payload.ensures));
}

pub returns : goal.returns
returns g c = record {
  served = c.loop.invariant _ _ _ (Over _ c.loop.link c.loop.link
      (requests_none g.R.Read.remaining g.W.Write.contents c.loop.link));
}
