use Rattle.std.proofs.Common.{◌≡◌, ◌≤◌, ◌-◌, slice_index}
use Rattle.rrs_lib.specs.Steps.{LastIsRegister}
use Rattle.rrs_c.specs.Boards.{LentQuietSteps}
use Rattle.rrs_c.specs.LentBoards.{seen, AreSettled}
use Rattle.rrs_c.proofs.lent_board.run_board.Given as goal

-- the steps so far
abbrev pub invariant-steps : goal.invariant-steps
invariant-steps l = record {
  within : l.steps ≤ l.fn.limit;
  made : LentQuietSteps l.steps (seen l.fn.hart l.fn.mem) (seen l.hart l.mem);
  settled : AreSettled l.mem.devices;
  same_words : l.mem.words.ghost_name ≡ l.fn.mem.words.ghost_name;
  last : LastIsRegister l.fn.hart.state.last_register_write → LastIsRegister l.hart.state.last_register_write;
  entry_zero : slice_index l.hart.state.registers 0 ≡ slice_index l.fn.hart.state.registers 0;
}

abbrev pub decreases-steps : goal.decreases-steps
decreases-steps l = l.fn.limit - l.steps
