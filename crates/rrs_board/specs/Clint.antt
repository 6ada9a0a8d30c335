-- The CLINT of one hart (SiFive's manual of the FU540, "Core Local Interruptor"): "mtime" counts
-- the time; "a timer interrupt is pending whenever mtime is greater than or equal to mtimecmp";
-- "the least significant bit of msip is reflected in MSIP of mip", and the others of msip read 0.
-- Here time goes on by 1 with each instruction that retires, and a `wfi` that waits goes forward to
-- the alarm, which is mtimecmp. Of reset the manual says nothing of mtimecmp: it is 2 ^ 64 - 1,
-- which is no alarm.
use Rattle.std.specs.Prelude.{ℕ, ◌+◌, ◌-◌, ◌%◌, ◌^◌, ◌==◌, ◌&&◌, nat_le, nat_lt, Bool, if◌then◌else◌}
use Rattle.rrs_machine.specs.declared.csrs.CsrFile.{CsrFile}
use Rattle.rrs_machine.specs.declared.machine.MachineAnswer.{MachineAnswer}
use Rattle.rrs_machine.specs.declared.machine.MachineAnswer.TheVariants.{Raised, Interrupted}
use Rattle.rrs_instruction.specs.Words.{bit}

abbrev pub no_alarm : ℕ
no_alarm = 2 ^ 64 - 1

-- by msip, and by mtimecmp and mtime
abbrev pub has_software_interrupt : ℕ → Bool
has_software_interrupt msip = bit msip 0 == 1

abbrev pub has_timer_interrupt : ℕ → ℕ → Bool
has_timer_interrupt alarm time = nat_le alarm time

-- an instruction that retires takes one unit of time, and a trap none
abbrev pub time_after : MachineAnswer → ℕ → ℕ
time_after (Raised x) time = time
time_after (Interrupted x) time = time
time_after answer time = (time + 1) % 2 ^ 64

-- whether an alarm can end a wait: mie enables the timer interrupt, and there is an alarm
abbrev pub can_wake : CsrFile → ℕ → Bool
can_wake file alarm = (bit file.mie 7 == 1) && nat_lt alarm no_alarm

-- the time to which a hart that waits goes forward
abbrev pub later : ℕ → ℕ → ℕ
later alarm time = if nat_lt time alarm then alarm else time
