-- The status that rrs ends with. rrs exec ends with the status of the program. Otherwise it ends as
-- the commands timeout and env do (124 at the limit, 125 where the program could not be run), or,
-- after an exception, as a shell reports a program that a signal killed (128 and the number of the
-- signal, as in signal(7)). A program may also end with one of these statuses itself.
use Rattle.std.specs.Prelude.{ℕ, ◌+◌, ◌%◌, Result, Ok, Err}
use Rattle.rrs_lib.specs.declared.instruction_executor.InstructionException.{InstructionException}
use Rattle.rrs_lib.specs.declared.instruction_executor.InstructionException.TheVariants.{IllegalInstruction, FetchError, LoadAccessFault, StoreAccessFault, AlignmentFault, EnvironmentCall, Breakpoint}
use Rattle.rrs_fast.specs.declared.serving.Ending.{Ending}
use Rattle.rrs_fast.specs.declared.serving.Ending.TheVariants.{Limit, Fault, Exit}
use Rattle.rrs_cli.specs.Failures as Failures
use Rattle.rrs_run_commands.specs.declared.options.Task.{Task}
use Rattle.rrs_run_commands.specs.declared.options.Task.TheVariants.{Execute, Trace, Cover, Board, TraceBoard, CoverBoard}
use Rattle.rrs_run_commands.specs.declared.refusal.FileFault.TheVariants.{Host}
use Rattle.rrs_run_commands.specs.declared.refusal.HostFault.TheVariants.{Closed}
use Rattle.rrs_run_commands.specs.declared.refusal.Refusal.{Refusal}
use Rattle.rrs_run_commands.specs.declared.refusal.Refusal.TheVariants.{Words, File, Terminal, Failed}

abbrev pub signal_of : InstructionException → ℕ
signal_of (IllegalInstruction pc word) = 4  -- SIGILL
signal_of (Breakpoint pc) = 5  -- SIGTRAP
signal_of (AlignmentFault address) = 7  -- SIGBUS
signal_of (FetchError pc) = 11  -- SIGSEGV
signal_of (LoadAccessFault address) = 11
signal_of (StoreAccessFault address) = 11
signal_of (EnvironmentCall pc) = 31  -- SIGSYS; each call is served

-- where a subcommand refuses what it is asked; nobody reads what it writes: SIGPIPE
abbrev pub refused_status : Task → Refusal → ℕ
refused_status task (File path (Host Closed)) = 141
refused_status Execute refusal = 125
refused_status Trace refusal = 125
refused_status Cover refusal = 125
refused_status Board refusal = 125
refused_status TraceBoard refusal = 125
refused_status CoverBoard refusal = 125
refused_status task (Words mistake) = 2
refused_status task Terminal = 2
refused_status task (Failed failure) = Failures.status_of failure
refused_status task refusal = 1

abbrev pub status_of : Task → Result Ending Refusal → ℕ
status_of task (Ok (Exit status)) = status % 256
status_of task (Ok Limit) = 124
status_of task (Ok (Fault fault)) = 128 + signal_of fault
status_of task (Err refusal) = refused_status task refusal
