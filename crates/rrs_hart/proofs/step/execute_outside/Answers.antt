use Rattle.std.proofs.Common.{[], refl}
use Rattle.rrs_lib.specs.Machine.{state_of}
use Rattle.rrs_lib.specs.Steps.{Illegal, cleared}
use Rattle.rrs_lib.proofs.Making.{accesses_of_illegal}
use Rattle.rrs_hart.specs.Harts.{LayerAt, OfKit, OfLayer, KitAccesses, LayerAccesses, layer_outcome, layer_accesses}
use Rattle.rrs_hart.proofs.HartSteps.{next_stands, kits_illegal, layer_moved}
use Rattle.rrs_hart.proofs.step.execute_outside.Goals as goal

pub returns-in-Some-clause-step : goal.returns-in-Some-clause-step
returns-in-Some-clause-step g c =
    let memory = g.M.Memory in
    let s = state_of c.args.hart.now (memory.bytes c.args.mem.now) (memory.writable c.args.mem.now) in
    let w = c.args.word in
    let i = c.in-Some.instruction in
    let done = c.execute_layer-answer in
    let bytes = memory.bytes done.new.mem in
    let writable = memory.writable done.new.mem in
    let at : LayerAt c.args.profile s w i = record {
      words = c.requires.whole;
      fetched = next_stands s w c.requires.aligned c.requires.word;
      outside = c.requires.illegal;
      is = c.in-Some.ensures.decoded;
    } in
    OfLayer w i at
    (layer_moved c.size_of.result (state_of c.go_on.new.hart bytes writable) (state_of done.new.hart bytes writable) done.new.reservation done.result
    (layer_outcome i (cleared s) c.args.reservation.now) c.size_of.ensures (c.go_on.ensures.moved bytes writable) done.ensures.outcome)

pub returns-in-Some-clause-makes : goal.returns-in-Some-clause-makes
returns-in-Some-clause-makes g c =
    let memory = g.M.Memory in
    let s = state_of c.args.hart.now (memory.bytes c.args.mem.now) (memory.writable c.args.mem.now) in
    let w = c.args.word in
    let i = c.in-Some.instruction in
    let at : LayerAt c.args.profile s w i = record {
      words = c.requires.whole;
      fetched = next_stands s w c.requires.aligned c.requires.word;
      outside = c.requires.illegal;
      is = c.in-Some.ensures.decoded;
    } in
    (layer_accesses i (cleared s) c.args.reservation.now, LayerAccesses w i at refl, c.execute_layer-answer.ensures.makes)

pub returns-in-None-clause-step : goal.returns-in-None-clause-step
returns-in-None-clause-step g c =
    let memory = g.M.Memory in
    let s = state_of c.args.hart.now (memory.bytes c.args.mem.now) (memory.writable c.args.mem.now) in
    let w = c.args.word in
    OfKit (kits_illegal c.args.profile s w c.requires.whole (next_stands s w c.requires.aligned c.requires.word) c.requires.illegal c.in-None.ensures.outside)
    (Illegal w c.requires.aligned c.requires.word c.requires.illegal refl refl) refl

pub returns-in-None-clause-makes : goal.returns-in-None-clause-makes
returns-in-None-clause-makes g c =
    let memory = g.M.Memory in
    let s = state_of c.args.hart.now (memory.bytes c.args.mem.now) (memory.writable c.args.mem.now) in
    let w = c.args.word in (
      [],
      KitAccesses (kits_illegal c.args.profile s w c.requires.whole (next_stands s w c.requires.aligned c.requires.word) c.requires.illegal c.in-None.ensures.outside)
          (accesses_of_illegal s w c.requires.aligned c.requires.word c.requires.illegal),
      refl,
    )
