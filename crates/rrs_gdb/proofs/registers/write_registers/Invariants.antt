use Rattle.std.proofs.Common.{◌≡◌, ℕ, ◌*◌, ◌<◌, ◌≤◌, get_or}
use Rattle.rrs_gdb.specs.Shown.{word_at}
use Rattle.rrs_gdb.proofs.registers.write_registers.Given as goal

-- the registers so far have their words
abbrev pub invariant-loop-number : goal.invariant-loop-number
invariant-loop-number l = record {
  written : (r : ℕ) → 1 ≤ r → r < l.number → get_or l.hart.registers r 0 ≡ word_at l.bytes (4 * r);
  last : l.hart.last_register_write ≡ l.initial.hart.last_register_write;
  entry_zero : get_or l.hart.registers 0 0 ≡ get_or l.initial.hart.registers 0 0;
}
