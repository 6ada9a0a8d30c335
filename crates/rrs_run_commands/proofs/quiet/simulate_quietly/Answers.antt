use Rattle.std.proofs.Common.{◌≡◌, ℕ, List, [], Option, Result, IfErr, refl, subst}
use Rattle.std.specs.Io.KnownBytes.{Appends}
use Rattle.std.proofs.lemmas.Result.{err_from_is_err_and, on_ok_weaker}
use Rattle.rrs_lib.specs.declared.instruction_executor.InstructionException.{InstructionException}
use Rattle.rrs_lib.specs.Machine.{State, state_of}
use Rattle.rrs_lib.specs.declared.memories.VecMemory.{VecMemory}
use Rattle.rrs_lib.specs.Executor.{state_in}
use Rattle.rrs_lib.specs.Steps.{RunUntil}
use Rattle.rrs_lib.specs.VecBytes.{vec_bytes, vec_writable}
use Rattle.rrs_cli.specs.declared.fault.RunFault.{RunFault}
use Rattle.rrs_cli.specs.Faults.{StopsPrinting}
use Rattle.rrs_cli.specs.Printed.{AppendsLines}
use Rattle.rrs_cli.specs.Texts.{ending_lines}
use Rattle.rrs_cli.proofs.Printed.{Ready, ready_state, run_printed, if_stops_run, if_stops_weaker, stopped_in_load}
use Rattle.rrs_run_commands.specs.Quiet.{IsMadeQuietly, QuietAccountOf}
use Rattle.rrs_run_commands.proofs.quiet.simulate_quietly.Goals as goal

-- the ending of a run is its account
ending_printed : (limit : ℕ) (s t : State) (steps : ℕ) (e : Option InstructionException) (a b : Option (List ℕ)) → RunUntil limit s steps e t → Appends a b (ending_lines steps e t) → AppendsLines (QuietAccountOf limit s) a b
ending_printed limit s t steps e a b made printed = record {
  lines = ending_lines steps e t;
  are_lines = record { steps = steps; exception = e; end = t; made = made; whole = refl };
  appended = printed;
}

-- the ending could not be printed
ending_stopped : (limit : ℕ) (s t : State) (steps : ℕ) (e : Option InstructionException) (a b : Option (List ℕ)) (r : Result (Unit {0}) RunFault) → RunUntil limit s steps e t → IfErr r (StopsPrinting (λ lines. lines ≡ []) (λ lines. lines ≡ ending_lines steps e t) a b) → IfErr r (StopsPrinting (IsMadeQuietly limit s) (QuietAccountOf limit s) a b)
ending_stopped limit s t steps e a b r made stopped =
    if_stops_weaker (λ lines. lines ≡ []) (IsMadeQuietly limit s) (λ lines. lines ≡ ending_lines steps e t) (QuietAccountOf limit s) a b r
    (λ lines none. (steps, e, t, made, none))
    (λ lines whole. record { steps = steps; exception = e; end = t; made = made; whole = whole })
    stopped

pub returns-in_err-memory-clause-fault : goal.returns-in_err-memory-clause-fault
returns-in_err-memory-clause-fault g c =
    let p = err_from_is_err_and c.from_residual.result c.from_residual.ensures.1 in
    rw (p.1, p.2) (stopped_in_load (IsMadeQuietly c.args.limit) (QuietAccountOf c.args.limit) _ _ _ _ c.in_err-memory.ensures.fault)

pub returns : goal.returns
returns g c =
    let new = c.in_ok-memory.memory.mem.items in
    let hart = c.new-hart.result in
    let ready : Ready (g.R.Read.remaining c.args.reader.now) (g.R.Read.remaining c.load.new.reader) new hart = record {
      loads = c.in_ok-memory.ensures.loaded;
      writable = c.in_ok-memory.ensures.writable;
      registers = c.new-hart.ensures.registers;
      pc = c.new-hart.ensures.pc;
      last = c.new-hart.ensures.last;
    } in
    let end = c.run_cached-end.result in
    let last = state_in vec_bytes vec_writable c.run_cached-end.new.executor in
    let P : VecMemory → Type 0 = λ m. RunUntil c.args.limit (state_of hart (vec_bytes m) (vec_writable m)) end.steps end.exception last in
    let made : RunUntil c.args.limit (ready_state new hart) end.steps end.exception last = subst P c.new-cached.ensures c.run_cached-end.ensures.run in
    record {
      account = on_ok_weaker c.print_ending.result
          (λ printed. run_printed (QuietAccountOf c.args.limit) _ _ new hart _ _ ready (ending_printed _ _ _ _ _ _ _ made printed))
          (c.print_ending.ensures.printed last.bytes last.writable);
      fault = if_stops_run (IsMadeQuietly c.args.limit) (QuietAccountOf c.args.limit) _ _ new hart _ _ c.print_ending.result ready
          (ending_stopped _ _ _ _ _ _ _ c.print_ending.result made (c.print_ending.ensures.fault last.bytes last.writable));
    }
