-- The hart's step is over the words and the devices, then the devices settle, and what is told leaves both.
use Rattle.std.proofs.Common.{◌≡◌, ◌∙◌, sym, subst, refl}
use Rattle.rrs_lib.specs.Accesses.{MakesExactly}
use Rattle.rrs_machine.specs.MachineSteps.{MachineStep, AccessesOfMachineStep}
use Rattle.rrs_machine.proofs.LastRegister.{machine_last}
use Rattle.rrs_board.specs.Effects.{inputs_of, Tells}
use Rattle.rrs_c.specs.declared.lent_board.BoardHart.{BoardHart}
use Rattle.rrs_c.specs.Boards.{LentRam, LentReads, LentWrites, LentStepped, lent_machine}
use Rattle.rrs_c.specs.LentBoards.{AreSettled, machine_over, seen, seen_ram, seen_with}
use Rattle.rrs_c.proofs.LentBoards.{still_lent, seen_exactly, settled_after}
use Rattle.rrs_c.proofs.lent_board.step_board.Goals as goal

pub returns-clause-settled : goal.returns-clause-settled
returns-clause-settled c =
    let made = c.step_over-answer in
    subst AreSettled (sym (c.told_from-event.ensures.devices ∙ c.settle-event.ensures.devices))
    (settled_after _ c.args.mem.now made.new.mem made.result made.new.csrs made.ensures.accesses c.requires)

pub returns-clause-step : goal.returns-clause-step
returns-clause-step c =
    let old = c.args.mem.now in
    let hart = c.args.hart.now in
    let made = c.step_over-answer in
    let event = c.told_from-event.result in
    let s = machine_over hart.state hart.csrs old in
    let t = machine_over made.new.hart_state made.new.csrs made.new.mem in
    let told : c.inputs-inputs.result ≡ inputs_of old.devices = c.inputs-inputs.ensures in
    let after : BoardHart = record {
      state = made.new.hart_state;
      csrs = made.new.csrs;
      trapped = c.takes_trap-hart.result;
    } in
    let ram : LentRam = record { words = made.new.mem.words.now; devices = c.settle-event.new.self } in
    let kept : seen_ram c.told_from-event.new.mem ≡ ram =
    λ i. record { words = c.told_from-event.ensures.words i; devices = c.told_from-event.ensures.devices i } in
    subst (λ x. LentStepped (seen hart old) (seen_with after x) made.result event) (sym kept) (record {
      between = seen_ram made.new.mem;
      step = subst (λ i. MachineStep i s t made.result) told made.ensures.step;
      accesses = subst (λ i. MakesExactly LentReads LentWrites (AccessesOfMachineStep i s) (seen_ram old) (seen_ram made.new.mem)) told
          (seen_exactly _ old made.new.mem made.ensures.accesses);
      words = refl;
      devices = c.settle-event.ensures.devices;
      told = subst (λ e. Tells e event (lent_machine (seen_with after ram) ram)) c.settle-event.ensures.event
          c.told_from-event.ensures.told;
      trapped = c.takes_trap-hart.ensures;
    })

pub returns-clause-same_words : goal.returns-clause-same_words
returns-clause-same_words c =
    c.told_from-event.ensures.same_words
    ∙ still_lent _ c.args.mem.now c.step_over-answer.new.mem c.step_over-answer.ensures.accesses

pub returns-clause-last : goal.returns-clause-last
returns-clause-last c = machine_last _ _ _ _ c.step_over-answer.ensures.step
