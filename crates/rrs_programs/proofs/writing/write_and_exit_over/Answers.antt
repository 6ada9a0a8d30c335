-- The run that the call made is the one that the program makes.
use Rattle.std.proofs.Common.{ap, arith, inl, inr}
use Rattle.std.proofs.lemmas.List.{length-drop}
use Rattle.rrs_lib.specs.Executor.{state_in}
use Rattle.rrs_linux.specs.Clocks.{TellsTime}
use Rattle.rrs_linux.specs.SystemCalls.{ReadsInput, WritesOutput}
use Rattle.rrs_programs.specs.WritingAndExiting.{AtExit, AtWrite}
use Rattle.rrs_programs.proofs.Calls.{WroteSome, IsUnread, took_some}
use Rattle.rrs_programs.proofs.WriteAndExit.{writes_and_exits}
use Rattle.rrs_programs.proofs.writing.write_and_exit_over.Goals as goal

pub returns : goal.returns
returns g c =
    let s = state_in g.M.Memory.bytes g.M.Memory.writable c.args.executor.now in
    let t = state_in g.M.Memory.bytes g.M.Memory.writable c.run_served.new.executor in
    let words = c.arguments_of_call.ensures.words s.bytes s.writable in
    let ends = c.run_served.ensures.ends (omega (arith, c.requires.enough)) c.requires.starts.aligned in
    let old = c.args.environment.now in
    let text = c.args.text.now in
    let contents = g.W.Write.contents in
    let run = writes_and_exits (ReadsInput g.R.Read.remaining) (WritesOutput contents)
    (WritesOutput g.E.Write.contents) TellsTime text old (WroteSome contents text old.output)
    (IsUnread old.output)
    (λ bytes a count answer o accesses known stands fits writes. took_some contents bytes a count text old.output o
    answer accesses known stands writes)
    c.run_served.new.environment t c.run_served.result.ending c.args.limit s c.run_served.result.steps _
    c.requires.enough
    (omega (arith, length-drop 1 c.args.executor.now.hart_state.now.registers, c.arguments_of_call.ensures.count))
    c.requires.starts words.0 words.1 words.2 ends c.run_served.ensures.served.these in
    record {
      served = c.run_served.ensures.served;
      ends = elim run.ends [
        | inl exit ↦ AtExit exit.0 exit.1
        | inr write ↦ AtWrite write.0.0 write.0.1 write.1 write.2
      ];
      output = (run.left.0.count, run.left.0.within, run.left.0.appended);
      input_kept = ap (λ e. e.input) run.left.1;
      held_kept = ap (λ e. e.held) run.left.1;
      errors_kept = ap (λ e. e.errors) run.left.1;
      heap_kept = ap (λ e. e.heap) run.left.1;
      random_kept = ap (λ e. e.random) run.left.1;
      bytes_kept = run.bytes_kept;
      rest = c.run_served.ensures.rest;
    }
