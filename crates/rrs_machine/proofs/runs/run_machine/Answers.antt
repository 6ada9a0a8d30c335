use Rattle.std.proofs.Common.{◌≡◌, true, false, arith}
use Rattle.rrs_lib.proofs.Stepping.{KeepsTheRest-trans}
use Rattle.rrs_machine.specs.MachineSteps.{machine_in}
use Rattle.rrs_machine.proofs.KitRuns.{kit_run}
use Rattle.rrs_machine.proofs.MachineRuns.{steps_more, waits, ends_at_limit, run-unique}
use Rattle.rrs_machine.proofs.runs.run_machine.Goals as goal

pub returns-in-Waiting-clause-run : goal.returns-in-Waiting-clause-run
returns-in-Waiting-clause-run g c =
    waits g.S.Surroundings.tells g.M.Memory.reads g.M.Memory.writes c.args.limit _ _ _ _ _ _ _ _ _ _ _ _ c.steps-test.true
    c.steps.invariant.made c.inputs-inputs.ensures c.step_machine.ensures.step c.step_machine.ensures.accesses
    c.in-Waiting.is

pub returns-in-Waiting-clause-only : goal.returns-in-Waiting-clause-only
returns-in-Waiting-clause-only g c = λ one steps waiting d t accesses other.
    run-unique g.S.Surroundings.tells one c.args.limit _ _ d _ _ t _ steps _ waiting _ accesses
    (returns-in-Waiting-clause-run g c).these other

pub steps-preserved : goal.steps-preserved
steps-preserved g c = record {
  within = omega (arith, c.steps-test.true);
  made =
      steps_more g.S.Surroundings.tells g.M.Memory.reads g.M.Memory.writes _ _ _ _ _ _ _ _ _ _ _ _
      c.steps.invariant.made c.inputs-inputs.ensures c.step_machine.ensures.step c.step_machine.ensures.accesses
      c.in_default.not-Waiting;
  rest = KeepsTheRest-trans _ _ _ _ c.steps.invariant.rest c.step_machine.ensures.rest;
}

pub returns-clause-only : goal.returns-clause-only
returns-clause-only g c = λ one steps waiting d t accesses other.
    let at : c.steps.steps ≡ c.args.limit = omega (arith, c.steps.invariant.within, c.steps-test.false) in
    let run = ends_at_limit g.S.Surroundings.tells g.M.Memory.reads g.M.Memory.writes c.args.limit c.steps.steps _ _ _ _ _ _ at c.steps.invariant.made in
    run-unique g.S.Surroundings.tells one c.args.limit _ _ d _ _ t _ steps _ waiting _ accesses run.these other

pub returns-in-Waiting-clause-kit : goal.returns-in-Waiting-clause-kit
returns-in-Waiting-clause-kit g c = λ u off words run even.
    let memory = g.M.Memory in
    let s = machine_in memory.bytes memory.writable c.args.executor.now c.args.csrs.now in
    let t = machine_in memory.bytes memory.writable c.step_machine.new.executor c.step_machine.new.csrs in
    let made = returns-in-Waiting-clause-run g c in
    kit_run g.S.Surroundings.tells c.args.limit c.args.surroundings.now c.inputs-inputs.new.self s t c.steps.steps true
    made.accesses u made.these off words run even

pub returns-clause-kit : goal.returns-clause-kit
returns-clause-kit g c = λ u off words run even.
    let memory = g.M.Memory in
    let s = machine_in memory.bytes memory.writable c.args.executor.now c.args.csrs.now in
    let t = machine_in memory.bytes memory.writable c.steps.executor c.steps.csrs in
    let at : c.steps.steps ≡ c.args.limit = omega (arith, c.steps.invariant.within, c.steps-test.false) in
    let made = c.steps.invariant.made in
    kit_run g.S.Surroundings.tells c.args.limit c.args.surroundings.now c.steps.surroundings s t c.steps.steps false
    made.accesses u (at, made.these) off words run even
