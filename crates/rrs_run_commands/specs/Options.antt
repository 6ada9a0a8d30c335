-- The options of the subcommands of `rrs`: their words, and which subcommand has which.
use Rattle.std.specs.Prelude.{ℕ, ◌^◌, ◌-◌, ◌||◌, if◌then◌else◌, List, Bool, true, false, codes}
use Rattle.rrs_run_commands.specs.declared.options.Task.{Task}
use Rattle.rrs_run_commands.specs.declared.options.Task.TheVariants.{Run, Execute, Trace, Cover, Assemble, Board, Debug, DebugBoard, TraceBoard, CoverBoard}
use Rattle.rrs_run_commands.specs.declared.options.Switch.{Switch}
use Rattle.rrs_run_commands.specs.declared.options.Switch.TheVariants.{Quiet, Raw, Strict, Annotate, Gnu, Listed, Rars, Anywhere}
use Rattle.rrs_run_commands.specs.declared.options.Setting.{Setting}
use Rattle.rrs_run_commands.specs.declared.options.Setting.TheVariants.{Limit, Memory, From, To, Only, Steps, Output, Callgrind, Input, Clock, Random, March, Variable, Files, ReadFiles, Tree, Append, Symbols, Text, Data, Executable}

-- ---- options without a value

abbrev pub switch_word : Switch → List ℕ
switch_word Quiet = codes "--quiet"
switch_word Raw = codes "--raw"
switch_word Strict = codes "--strict-alignment"
switch_word Annotate = codes "--annotate"
switch_word Gnu = codes "--gnu"
switch_word Listed = codes "--list"
switch_word Rars = codes "--rars"
switch_word Anywhere = codes "--incbin-anywhere"

abbrev pub has_switch : Task → Switch → Bool
has_switch Run Quiet = true
has_switch Execute Raw = true
has_switch Debug Raw = true
has_switch Board Raw = true
has_switch DebugBoard Raw = true
has_switch Execute Strict = true
has_switch TraceBoard Raw = true
has_switch CoverBoard Raw = true
has_switch Cover Annotate = true
has_switch CoverBoard Annotate = true
has_switch Assemble Gnu = true
has_switch Assemble Listed = true
has_switch Assemble Rars = true
has_switch Assemble Anywhere = true
has_switch _ _ = false

-- ---- options with a value

-- those that run firmware on a board, and those that report on each step
abbrev pub is_on_board : Task → Bool
is_on_board Board = true
is_on_board DebugBoard = true
is_on_board TraceBoard = true
is_on_board CoverBoard = true
is_on_board _ = false

abbrev pub is_watched : Task → Bool
is_watched Trace = true
is_watched Cover = true
is_watched TraceBoard = true
is_watched CoverBoard = true
is_watched _ = false

abbrev pub setting_word : Setting → List ℕ
setting_word Limit = codes "--limit"
setting_word Memory = codes "--memory"
setting_word From = codes "--from"
setting_word To = codes "--to"
setting_word Only = codes "--only"
setting_word Steps = codes "--steps"
setting_word Output = codes "--output"
setting_word Callgrind = codes "--callgrind"
setting_word Input = codes "--input"
setting_word Clock = codes "--clock"
setting_word Random = codes "--random"
setting_word March = codes "--march"
setting_word Variable = codes "--env"
setting_word Files = codes "--files"
setting_word ReadFiles = codes "--files-read-only"
setting_word Tree = codes "--dtb"
setting_word Append = codes "--append"
setting_word Symbols = codes "--symbols"
setting_word Text = codes "-Ttext"
setting_word Data = codes "-Tdata"
setting_word Executable = codes "-o"

abbrev pub has_setting : Task → Setting → Bool
has_setting Execute Limit = true
has_setting task Limit = is_on_board task || is_watched task
has_setting Execute Memory = true
has_setting Debug Memory = true
has_setting task Memory = is_on_board task || is_watched task
has_setting Execute Clock = true
has_setting Trace Clock = true
has_setting Cover Clock = true
has_setting Execute Random = true
has_setting Execute March = true
has_setting Trace March = true
has_setting Cover March = true
has_setting Debug March = true
has_setting task March = is_on_board task
has_setting Execute Variable = true
has_setting Trace Variable = true
has_setting Cover Variable = true
has_setting Debug Variable = true
has_setting Trace From = true
has_setting TraceBoard From = true
has_setting Trace To = true
has_setting TraceBoard To = true
has_setting Trace Only = true
has_setting TraceBoard Only = true
has_setting Trace Steps = true
has_setting TraceBoard Steps = true
has_setting task Output = is_watched task
has_setting Cover Callgrind = true
has_setting CoverBoard Callgrind = true
has_setting Debug Input = true
has_setting task Input = is_on_board task
has_setting Execute Files = true
has_setting Execute ReadFiles = true
has_setting task Tree = is_on_board task
has_setting task Append = is_on_board task
has_setting TraceBoard Symbols = true
has_setting CoverBoard Symbols = true
has_setting Assemble Text = true
has_setting Assemble Data = true
has_setting Assemble Executable = true
has_setting _ _ = false

-- ---- what they are where no word says it, and the most that there may be

-- A board has 128 MiB, and a process 256 MiB, or more where its program needs more.
abbrev pub usual_memory : Task → ℕ
usual_memory task = if is_on_board task then 2 ^ 27 else 2 ^ 28

-- RAM of a board is from 0x80000000 up to the last address, and a process has all addresses.
abbrev pub most_memory : Task → ℕ
most_memory task = if is_on_board task then 2 ^ 31 else 2 ^ 32

-- without a word a process has no more memory than this
abbrev pub most_unasked : ℕ
most_unasked = 2 ^ 30

-- gdb's `continue` on a board makes 10^9 steps, and a run any number.
abbrev pub usual_limit : Task → ℕ
usual_limit DebugBoard = 10 ^ 9
usual_limit _ = 2 ^ 64 - 1

-- a program has no more variables than these in its environment
abbrev pub most_variables : ℕ
most_variables = 16
