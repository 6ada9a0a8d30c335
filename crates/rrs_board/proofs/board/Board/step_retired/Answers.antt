-- The hart's step is over the memory, then the devices settle, and what is told leaves the board.
use Rattle.std.proofs.Common.{◌≡◌, None, sym, subst, refl}
use Rattle.rrs_lib.specs.Accesses.{MakesExactly}
use Rattle.rrs_machine.specs.MachineSteps.{machine_of, MachineStep, AccessesOfMachineStep}
use Rattle.rrs_machine.specs.MachineRecords.{MachineRetires}
use Rattle.rrs_board.specs.declared.board.Board.{Board}
use Rattle.rrs_board.specs.declared.runs.RecordedStep.{RecordedStep}
use Rattle.rrs_board.specs.Registers.{board_bytes, board_writable, BoardReads, BoardWrites}
use Rattle.rrs_board.specs.Boards.{machine_with}
use Rattle.rrs_board.specs.Effects.{inputs_of, Tells, StandsInVain}
use Rattle.rrs_board.specs.WatchedBoards.{IsRecorded}
use Rattle.rrs_board.proofs.board.Board.step_retired.Goals as goal

pub returns : goal.returns
returns c =
    let old = c.args.self.now in
    let made = c.step_machine_retired-answer in
    let between = made.new.executor.mem.now in
    let s = machine_with old old.memory in
    let t = machine_of made.new.executor.hart_state.now made.new.csrs (board_bytes between) (board_writable between) in
    let told : c.inputs-inputs.result ≡ inputs_of old.memory.devices = c.inputs-inputs.ensures in
    let event = c.told_from-event.result in
    let after : Board = record {
      hart = made.new.executor.hart_state.now;
      csrs = made.new.csrs;
      memory = record between { devices = c.settle-event.new.self };
    } in
    let kept : c.told_from-event.new.self ≡ after = c.told_from-event.ensures.kept in
    let shown : RecordedStep = record {
      step = record { answer = made.result.0; event = event };
      retired = made.result.1;
    } in
    record {
      recorded = subst (λ b. IsRecorded c.args.number c.args.is_first old b shown) (sym kept) (record {
        stepped = record {
          between = between;
          step = subst (λ i. MachineStep i s t made.result.0) told made.ensures.step;
          accesses = subst (λ i. MakesExactly BoardReads BoardWrites (AccessesOfMachineStep i s) old.memory between) told
              made.ensures.accesses;
          ram = refl;
          devices = c.settle-event.ensures.devices;
          told = subst (λ e. Tells e event (machine_with after after.memory)) c.settle-event.ensures.event
              c.told_from-event.ensures.told;
        };
        retires = subst (λ i. MachineRetires c.args.number c.args.is_first i s t made.result.0 made.result.1) told
            made.ensures.retires;
      });
      alive = subst (λ (b : Board). event ≡ None → b.hart.pc ≡ old.hart.pc
          → ¬ StandsInVain (machine_with b b.memory)) (sym kept)
          c.told_from-event.ensures.alive;
    }
