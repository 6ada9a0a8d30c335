-- The run that the call made is the one that the program makes.
use Rattle.std.proofs.Common.{◌≡◌, ◌++◌, ◌%◌, ap, arith, inl, inr}
use Rattle.std.proofs.lemmas.List.{length-drop}
use Rattle.rrs_lib.specs.Executor.{state_in}
use Rattle.rrs_lib.specs.Machine.{reg}
use Rattle.rrs_fast.specs.declared.serving.Ending.TheVariants.{Exit}
use Rattle.rrs_linux.specs.Recording.{GivesInput, TakesOutput, TellsKnown}
use Rattle.rrs_programs.proofs.Calls.{took_all, taking_goes_on}
use Rattle.rrs_programs.proofs.WriteAndExit.{writes_and_exits}
use Rattle.rrs_linux.proofs.Determined.{determined}
use Rattle.rrs_programs.proofs.writing.write_and_exit.Goals as goal

pub returns : goal.returns
returns g c =
    let s = state_in g.M.Memory.bytes g.M.Memory.writable c.args.executor.now in
    let t = state_in g.M.Memory.bytes g.M.Memory.writable c.run_served.new.executor in
    let words = c.arguments_of_call.ensures.words s.bytes s.writable in
    let ends = c.run_served.ensures.ends (omega (arith, c.requires.enough)) c.requires.starts.aligned in
    let old = c.args.environment.now in
    let text = c.args.text.now in
    let run = writes_and_exits GivesInput TakesOutput TakesOutput TellsKnown text old (λ o. o.items ≡ old.output.items ++ text)
    (λ o. ⊥)
    (λ bytes a count answer o accesses known stands fits takes. (
      (took_all bytes a count text old.output o answer accesses known stands c.requires.starts.at_once fits
          c.requires.room takes).0,
      taking_goes_on takes.0.ended,
    ))
    c.run_served.new.environment t c.run_served.result.ending c.args.limit s c.run_served.result.steps _
    c.requires.enough
    (omega (arith, length-drop 1 c.args.executor.now.hart_state.now.registers, c.arguments_of_call.ensures.count))
    c.requires.starts words.0 words.1 words.2 ends c.run_served.ensures.served.these in
    let end : (c.run_served.result.steps ≡ 13) × (c.run_served.result.ending ≡ Exit (reg s 12 % 256)) =
    elim run.ends [ inl exit ↦ exit | inr write ↦ absurd write.0 ] in
    record {
      served = c.run_served.ensures.served;
      only = c.run_served.ensures.only_alike determined;
      steps = end.0;
      ending = end.1;
      output = run.left.0;
      input_kept = ap (λ e. e.input) run.left.1;
      errors_kept = ap (λ e. e.errors) run.left.1;
      heap_kept = ap (λ e. e.heap) run.left.1;
      random_kept = ap (λ e. e.random) run.left.1;
      bytes_kept = run.bytes_kept;
      rest = c.run_served.ensures.rest;
    }
