-- The run that the call made is the one that the program makes.
use Rattle.std.proofs.Common.{arith}
use Rattle.std.proofs.lemmas.List.{length-drop}
use Rattle.rrs_lib.specs.Executor.{state_in}
use Rattle.rrs_linux.proofs.Determined.{determined}
use Rattle.rrs_programs.proofs.EchoRun.{echoes}
use Rattle.rrs_programs.proofs.echoing.echo.Goals as goal

pub returns : goal.returns
returns g c =
    let s = state_in g.M.Memory.bytes g.M.Memory.writable c.args.executor.now in
    let t = state_in g.M.Memory.bytes g.M.Memory.writable c.run_served.new.executor in
    let words = c.arguments_of_call.ensures.words s.bytes s.writable in
    let ends = c.run_served.ensures.ends (omega (arith, c.requires.enough)) c.requires.starts.aligned in
    let run = echoes c.args.environment.now c.run_served.new.environment s t c.args.limit c.run_served.result.steps
    c.run_served.result.ending _
    (omega (arith, length-drop 1 c.args.executor.now.hart_state.now.registers, c.arguments_of_call.ensures.count))
    c.requires.starts words.0 words.1 ends c.requires.room c.requires.enough c.run_served.ensures.served.these in
    record {
      served = c.run_served.ensures.served;
      only = c.run_served.ensures.only_alike determined;
      steps = (run.rounds, run.takes, omega (arith, run.counted));
      ending = run.ends;
      output = run.output;
      input = run.input;
      errors_kept = run.errors_kept;
      heap_kept = run.heap_kept;
      random_kept = run.random_kept;
      others_kept = run.others_kept;
      rest = c.run_served.ensures.rest;
    }
