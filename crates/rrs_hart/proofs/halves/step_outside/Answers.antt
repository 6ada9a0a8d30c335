use Rattle.std.proofs.Common.{Err, refl, ap}
use Rattle.rrs_lib.specs.declared.instruction_executor.InstructionException.TheVariants.{IllegalInstruction}
use Rattle.rrs_lib.specs.Machine.{state_of}
use Rattle.rrs_lib.specs.Steps.{cleared}
use Rattle.rrs_lib.specs.Executor.{state_in}
use Rattle.rrs_hart.specs.Atomics.{leaves}
use Rattle.rrs_hart.specs.Profiles.{layer_outcome, layer_accesses}
use Rattle.rrs_hart.specs.Halves.{bytes_of, NoInstruction, ALayer, FetchAndLayer}
use Rattle.rrs_hart.proofs.HalvesEnds.{layer_moved_by}
use Rattle.rrs_hart.proofs.halves.step_outside.Goals as goal

pub returns-in-Some-clause-step : goal.returns-in-Some-clause-step
returns-in-Some-clause-step g c =
    let memory = g.M.Memory in
    let s = state_in memory.bytes memory.writable c.args.executor.now in
    let i = c.in-Some.instruction in
    let done = c.execute_layer-answer in
    let bytes = memory.bytes done.new.mem in
    let writable = memory.writable done.new.mem in
    ALayer c.args.encoding i c.requires.fetched c.requires.outside c.in-Some.ensures.is
    (layer_moved_by c.bytes_of.result (bytes_of c.args.encoding) (state_of c.go_on.new.hart bytes writable) (state_of done.new.hart bytes writable)
    done.new.reservation done.result (layer_outcome i (cleared s) c.args.reservation.now) c.bytes_of.ensures (c.go_on.ensures.moved bytes writable)
    done.ensures.outcome)

pub returns-in-Some-clause-makes : goal.returns-in-Some-clause-makes
returns-in-Some-clause-makes g c =
    let memory = g.M.Memory in
    let s = state_in memory.bytes memory.writable c.args.executor.now in
    let i = c.in-Some.instruction in (
      layer_accesses i (cleared s) c.args.reservation.now,
      FetchAndLayer c.args.encoding i c.requires.fetched c.requires.outside c.in-Some.ensures.is refl,
      c.execute_layer-answer.ensures.makes,
    )

pub returns-in-None-clause-step : goal.returns-in-None-clause-step
returns-in-None-clause-step g c =
    let memory = g.M.Memory in
    let s = state_in memory.bytes memory.writable c.args.executor.now in
    NoInstruction c.args.encoding c.requires.fetched (record { no_row = c.requires.outside; no_layer = c.in-None.ensures.outside })
    (ap (λ b. leaves (cleared s) c.args.reservation.now (Err (IllegalInstruction s.pc b))) c.bits_of.ensures)
