-- What the words after a subcommand of `rrs` ask for. The words are lists of bytes.
--
--   rrs run [--quiet] FILE LIMIT
--   rrs exec [--limit STEPS] [--memory BYTES] [--files FOLDER | --files-read-only FOLDER]
--       [--march NAME] [--strict-alignment] [--clock fixed] [--random host] [--env NAME=VALUE] ..
--       [--raw] PROGRAM [ARGUMENT] ..
--   rrs trace [--limit STEPS] [--memory BYTES] [--march NAME] [--clock fixed]
--       [--env NAME=VALUE] .. [--from ADDRESS|SYMBOL] [--to ADDRESS|SYMBOL] [--only FUNCTION]
--       [--steps N-M] [--output FILE] PROGRAM [ARGUMENT] ..
--   rrs cover [--limit STEPS] [--memory BYTES] [--march NAME] [--clock fixed]
--       [--env NAME=VALUE] .. [--annotate] [--callgrind FILE] [--output FILE]
--       PROGRAM [ARGUMENT] ..
--   rrs as [--gnu | --list] [-o OUTPUT] [--rars] [-Ttext ADDRESS] [-Tdata ADDRESS]
--       [--incbin-anywhere] FILE
--   rrs dis FILE
--   rrs elf FILE
--   rrs board [--limit STEPS] [--memory BYTES] [--input polled|wait] [--raw] [--dtb FILE]
--       [--append TEXT] PROGRAM
--   rrs trace --board [--limit STEPS] [--memory BYTES] [--input polled|wait] [--raw] [--dtb FILE]
--       [--append TEXT] [--symbols FILE] [--from ADDRESS|SYMBOL] [--to ADDRESS|SYMBOL]
--       [--only FUNCTION] [--steps N-M] [--output FILE] PROGRAM
--   rrs cover --board [--limit STEPS] [--memory BYTES] [--input polled|wait] [--raw] [--dtb FILE]
--       [--append TEXT] [--symbols FILE] [--annotate] [--callgrind FILE] [--output FILE] PROGRAM
--   rrs gdb [--memory BYTES] [--input FILE] [--env NAME=VALUE] .. [--raw] PROGRAM [ARGUMENT] ..
--   rrs gdb --board [--limit STEPS] [--memory BYTES] [--input FILE] [--raw] [--dtb FILE]
--       [--append TEXT] PROGRAM
--
-- Options stand in any order, before FILE and after it; but the words after a PROGRAM that has
-- ARGUMENTs are its own. --env may stand 16 times.
use Rattle.std.specs.Prelude.{ℕ, ◌<◌, ◌≤◌, ◌≡◌, ◌≢◌, ◌⊎◌, List, [], ◌∷◌, ◌++◌, length, take, Bool, true, false, not, Option, Some, None, IsSome, Result, Ok, Err, map, string_bytes, option_map, codes}
use Rattle.rrs_cli.specs.Limits.{limit_in}
use Rattle.rrs_run_commands.specs.Architectures.{IsMarch}
use Rattle.rrs_run_commands.specs.Words.{IsNumber, IsSize, IsAddress, IsStepRange, IsDashed, IsVariable, HasValue, ends_options, name_in, value_in}
use Rattle.rrs_run_commands.specs.Options.{has_setting, has_switch, most_memory, most_variables, setting_word, switch_word, usual_limit}
use Rattle.rrs_words.specs.declared.csrs.HartProfile.{HartProfile}
use Rattle.rrs_reports.specs.declared.commit_log.StepRange.{StepRange}
use Rattle.rrs_run_commands.specs.declared.options.Task.{Task}
use Rattle.rrs_run_commands.specs.declared.options.Task.TheVariants.{Run, Execute, Trace, Cover, Debug, DebugBoard}
use Rattle.rrs_run_commands.specs.declared.options.Switch.{Switch}
use Rattle.rrs_run_commands.specs.declared.options.Switch.TheVariants.{Quiet, Raw, Strict, Annotate, Gnu, Listed, Rars, Anywhere}
use Rattle.rrs_run_commands.specs.declared.options.Setting.{Setting}
use Rattle.rrs_run_commands.specs.declared.options.Setting.TheVariants.{Limit, Memory, From, To, Only, Steps, Output, Callgrind, Input, Clock, Random, March, Variable, Files, ReadFiles, Tree, Append, Symbols, Text, Data, Executable}
use Rattle.rrs_run_commands.specs.declared.refusal.Mistake.{Mistake}
use Rattle.rrs_run_commands.specs.declared.requests.Form.{Form}
use Rattle.rrs_run_commands.specs.declared.requests.Request.{Request}
use Rattle.rrs_run_commands.specs.declared.variables.Variables.{Variables}

-- ---- what is asked for

-- What is asked for: the options, the variables of a program's environment in the order in which
-- they are given, the file, how many steps `rrs run` makes, and the words of a program with
-- arguments, which are its path and then these.
pub record Wanted : Type 0 where
  pub quiet : Bool
  pub raw : Bool
  pub strict : Bool
  pub annotated : Bool
  pub anywhere : Bool
  pub polled : Bool
  pub waits : Bool
  pub clock_fixed : Bool
  pub random_host : Bool
  pub march : Option HartProfile
  pub form : Form
  pub limit : ℕ
  pub memory : Option ℕ
  pub text_start : Option ℕ
  pub data_start : Option ℕ
  pub from : Option (List ℕ)
  pub to : Option (List ℕ)
  pub only : Option (List ℕ)
  pub logged : Option StepRange
  pub output : Option (List ℕ)
  pub callgrind : Option (List ℕ)
  pub input : Option (List ℕ)
  pub folder : Option (List ℕ)
  pub read_only : Bool
  pub variables : List (List ℕ)
  pub tree : Option (List ℕ)
  pub append : Option (List ℕ)
  pub symbols : Option (List ℕ)
  pub file : Option (List ℕ)
  pub steps : Option ℕ
  pub program : List (List ℕ)

-- where no word asks for anything
abbrev pub unasked : Task → Wanted
unasked task = record {
  quiet = false;
  raw = false;
  strict = false;
  annotated = false;
  anywhere = false;
  polled = false;
  waits = false;
  clock_fixed = false;
  random_host = false;
  march = None;
  form = Form.Bytes;
  limit = usual_limit task;
  memory = None;
  text_start = None;
  data_start = None;
  from = None;
  to = None;
  only = None;
  logged = None;
  output = None;
  callgrind = None;
  input = None;
  folder = None;
  read_only = false;
  variables = [];
  tree = None;
  append = None;
  symbols = None;
  file = None;
  steps = None;
  program = [];
}

-- those that are given, in that order
abbrev pub variables_in : Variables → List (List ℕ)
variables_in variables = map (λ word. word.now) (take variables.count variables.given)

abbrev pub wanted_of : Request → Wanted
wanted_of request = record {
  quiet = request.is_quiet;
  raw = request.is_raw;
  strict = request.is_strict;
  annotated = request.is_annotated;
  anywhere = request.has_any_file;
  polled = request.is_polled;
  waits = request.waits;
  clock_fixed = request.has_fixed_clock;
  random_host = request.has_host_random;
  march = request.march;
  form = request.form;
  limit = request.limit;
  memory = request.memory;
  text_start = request.text_start;
  data_start = request.data_start;
  from = option_map (λ word. word.now) request.from;
  to = option_map (λ word. word.now) request.to;
  only = option_map (λ word. word.now) request.only;
  logged = request.logged;
  output = option_map (λ path. path.now) request.output;
  callgrind = option_map (λ path. path.now) request.callgrind;
  input = option_map (λ path. path.now) request.input;
  folder = option_map (λ path. path.now) request.folder;
  read_only = request.is_read_only;
  variables = variables_in request.variables;
  tree = option_map (λ path. path.now) request.tree;
  append = option_map (λ text. text.now) request.append;
  symbols = option_map (λ path. path.now) request.symbols;
  file = option_map (λ path. path.now) request.file;
  steps = request.steps;
  program = map string_bytes request.words.now;
}

-- ---- files that are written

-- a file that is written, if one is, is none that is read: the program, the executable with its
-- symbols, the device tree, and the input
abbrev pub IsUnread : Wanted → Option (List ℕ) → Type 0
IsUnread wanted written =
    (path : List ℕ) → written ≡ Some path
    → (wanted.file ≢ Some path) × (wanted.symbols ≢ Some path)
    × (wanted.tree ≢ Some path) × (wanted.input ≢ Some path)

-- that holds of each, and no file is written for two options
pub record WritesApart (wanted : Wanted) : Type 0 where
  pub output_apart : IsUnread wanted wanted.output
  pub callgrind_apart : IsUnread wanted wanted.callgrind
  pub not_twice : (path : List ℕ) → wanted.output ≡ Some path → wanted.callgrind ≢ Some path

-- ---- why words are refused

-- Words ask for nothing that can be done: one is missing; there is one too many; there is no such
-- option; it takes no value; it has none; its value is not what it takes, or is more bytes of
-- memory than there can be; or the word for the steps of `rrs run` is no limit.
pub data Fault : Type 0 where
  Missing : Fault
  Surplus : List ℕ → Fault
  Unknown : List ℕ → Fault
  TakesNone : List ℕ → Fault
  HasNone : List ℕ → Fault
  Wrong : Setting → List ℕ → Fault
  Large : List ℕ → ℕ → Fault
  ManyVariables : List ℕ → Fault
  WrongSteps : List ℕ → Fault

abbrev pub fault_of : Mistake → Fault
fault_of Mistake.Missing = Missing
fault_of (Mistake.Surplus word) = Surplus word.now
fault_of (Mistake.Unknown word) = Unknown word.now
fault_of (Mistake.TakesNone word) = TakesNone word.now
fault_of (Mistake.HasNone word) = HasNone word.now
fault_of (Mistake.Wrong setting word) = Wrong setting word.now
fault_of (Mistake.Large word most) = Large word.now most
fault_of (Mistake.ManyVariables word) = ManyVariables word.now
fault_of (Mistake.WrongSteps word) = WrongSteps word.now

-- ---- options

-- what an option without a value makes of what is wanted; of two forms the last one counts
abbrev pub switched : Switch → Wanted → Wanted
switched Quiet old = record old { quiet = true }
switched Raw old = record old { raw = true }
switched Strict old = record old { strict = true }
switched Annotate old = record old { annotated = true }
switched Gnu old = record old { form = Form.Source }
switched Listed old = record old { form = Form.Listing }
switched Rars old = record old { text_start = Some 0x40_0000; data_start = Some 0x1001_0000 }
switched Anywhere old = record old { anywhere = true }

-- What an option with this value makes of what is wanted. Of options that say the same the last one
-- counts; but each variable is one more, after those that are given before it.
abbrev pub Sets : Task → Setting → List ℕ → Wanted → Wanted → Type 0
Sets task Limit value old new = (n : ℕ) × IsNumber value n × (new ≡ record old { limit = n })
Sets task Memory value old new =
    (n : ℕ) × IsSize value n × (n ≤ most_memory task) × (new ≡ record old { memory = Some n })
Sets task From value old new = new ≡ record old { from = Some value }
Sets task To value old new = new ≡ record old { to = Some value }
Sets task Only value old new = new ≡ record old { only = Some value }
Sets task Steps value old new =
    (range : StepRange) × IsStepRange value range × (new ≡ record old { logged = Some range })
Sets task Output value old new = new ≡ record old { output = Some value }
Sets task Callgrind value old new = new ≡ record old { callgrind = Some value }
Sets Debug Input value old new = new ≡ record old { input = Some value }
Sets DebugBoard Input value old new = new ≡ record old { input = Some value }
Sets task Input value old new =
    ((value ≡ codes "polled") × (new ≡ record old { polled = true; waits = false }))
    ⊎ ((value ≡ codes "wait") × (new ≡ record old { polled = false; waits = true }))
Sets task Clock value old new =
    (value ≡ codes "fixed") × (new ≡ record old { clock_fixed = true })
Sets task Random value old new =
    (value ≡ codes "host") × (new ≡ record old { random_host = true })
Sets task March value old new =
    (profile : HartProfile) × IsMarch value profile × (new ≡ record old { march = Some profile })
Sets task Variable value old new =
    IsVariable value × (length old.variables < most_variables)
    × (new ≡ record old { variables = old.variables ++ value ∷ [] })
Sets task Files value old new = new ≡ record old { folder = Some value; read_only = false }
Sets task ReadFiles value old new = new ≡ record old { folder = Some value; read_only = true }
Sets task Tree value old new = new ≡ record old { tree = Some value }
Sets task Append value old new = new ≡ record old { append = Some value }
Sets task Symbols value old new = new ≡ record old { symbols = Some value }
Sets task Text value old new =
    (address : ℕ) × IsAddress value address × (new ≡ record old { text_start = Some address })
Sets task Data value old new =
    (address : ℕ) × IsAddress value address × (new ≡ record old { data_start = Some address })
Sets task Executable value old new = new ≡ record old { output = Some value }

-- why bytes of memory are refused
abbrev pub RefusesMemory : Task → List ℕ → Fault → Type 0
RefusesMemory task value fault =
    (((n : ℕ) → IsSize value n → ⊥) × (fault ≡ Wrong Memory value))
    ⊎ ((n : ℕ) × IsSize value n × (most_memory task < n)
    × (fault ≡ Large value (most_memory task)))

-- why a variable is refused, after those that are given before it
abbrev pub RefusesVariable : List (List ℕ) → List ℕ → Fault → Type 0
RefusesVariable given value fault =
    ((IsVariable value → ⊥) × (fault ≡ Wrong Variable value))
    ⊎ (IsVariable value × (most_variables ≤ length given) × (fault ≡ ManyVariables value))

-- why a value is refused
abbrev pub RefusesValue : Task → Setting → List ℕ → Wanted → Fault → Type 0
RefusesValue task Limit value old fault =
    ((n : ℕ) → IsNumber value n → ⊥) × (fault ≡ Wrong Limit value)
RefusesValue task Memory value old fault = RefusesMemory task value fault
RefusesValue task From value old fault = ⊥
RefusesValue task To value old fault = ⊥
RefusesValue task Only value old fault = ⊥
RefusesValue task Steps value old fault =
    ((range : StepRange) → IsStepRange value range → ⊥) × (fault ≡ Wrong Steps value)
RefusesValue task Output value old fault = ⊥
RefusesValue task Callgrind value old fault = ⊥
RefusesValue Debug Input value old fault = ⊥
RefusesValue DebugBoard Input value old fault = ⊥
RefusesValue task Input value old fault =
    (value ≡ codes "polled" → ⊥) × (value ≡ codes "wait" → ⊥) × (fault ≡ Wrong Input value)
RefusesValue task Clock value old fault = (value ≡ codes "fixed" → ⊥) × (fault ≡ Wrong Clock value)
RefusesValue task Random value old fault = (value ≡ codes "host" → ⊥) × (fault ≡ Wrong Random value)
RefusesValue task March value old fault =
    ((profile : HartProfile) → IsMarch value profile → ⊥) × (fault ≡ Wrong March value)
RefusesValue task Variable value old fault = RefusesVariable old.variables value fault
RefusesValue task Files value old fault = ⊥
RefusesValue task ReadFiles value old fault = ⊥
RefusesValue task Tree value old fault = ⊥
RefusesValue task Append value old fault = ⊥
RefusesValue task Symbols value old fault = ⊥
RefusesValue task Text value old fault =
    ((address : ℕ) → IsAddress value address → ⊥) × (fault ≡ Wrong Text value)
RefusesValue task Data value old fault =
    ((address : ℕ) → IsAddress value address → ⊥) × (fault ≡ Wrong Data value)
RefusesValue task Executable value old fault = ⊥

-- a word has the name of this option, which the subcommand has
abbrev pub IsSwitch : Task → List ℕ → Switch → Type 0
IsSwitch task word switch =
    (has_switch task switch ≡ true) × (name_in word ≡ switch_word switch)

abbrev pub IsSetting : Task → List ℕ → Setting → Type 0
IsSetting task word setting =
    (has_setting task setting ≡ true) × (name_in word ≡ setting_word setting)

-- An option's value stands in its own word, or else it is the next word.
abbrev pub Gives : List ℕ → List (List ℕ) → List ℕ → List (List ℕ) → Type 0
Gives word words value left =
    (HasValue word × (value ≡ value_in word) × (words ≡ left))
    ⊎ ((HasValue word → ⊥) × (words ≡ value ∷ left))

-- what an option and the words after it make of what is wanted, and the words that are left
abbrev pub TakesOption : Task → List ℕ → Wanted → List (List ℕ) → Wanted → List (List ℕ) → Type 0
TakesOption task word old words new left =
    ((switch : Switch) × IsSwitch task word switch × (HasValue word → ⊥)
    × (new ≡ switched switch old) × (words ≡ left))
    ⊎ ((setting : Setting) × (value : List ℕ) × IsSetting task word setting
    × Gives word words value left × Sets task setting value old new)

-- why an option is refused
abbrev pub RefusesOption : Task → List ℕ → Wanted → List (List ℕ) → Fault → Type 0
RefusesOption task word old words fault =
    (((switch : Switch) → IsSwitch task word switch → ⊥)
    × ((setting : Setting) → IsSetting task word setting → ⊥) × (fault ≡ Unknown word))
    ⊎ (((switch : Switch) × IsSwitch task word switch × HasValue word × (fault ≡ TakesNone word))
    ⊎ (((setting : Setting) × IsSetting task word setting × (HasValue word → ⊥) × (words ≡ [])
    × (fault ≡ HasNone word))
    ⊎ ((setting : Setting) × (value : List ℕ) × (left : List (List ℕ))
    × IsSetting task word setting × Gives word words value left
    × RefusesValue task setting value old fault)))

-- ---- other words

-- whether the words after the program are its own; a raw program has no arguments
abbrev pub has_arguments : Task → Wanted → Bool
has_arguments Execute wanted = not wanted.raw
has_arguments Debug wanted = not wanted.raw
has_arguments Trace wanted = true
has_arguments Cover wanted = true
has_arguments _ wanted = false

-- the first such word is the file, and the second of `rrs run` the number of steps
abbrev pub TakesWord : Task → List ℕ → Wanted → Wanted → Type 0
TakesWord task word old new =
    ((old.file ≡ None) × (new ≡ record old { file = Some word }))
    ⊎ ((task ≡ Run) × IsSome old.file × (old.steps ≡ None)
    × ((n : ℕ) × (limit_in word ≡ Some n) × (new ≡ record old { steps = Some n })))

abbrev pub RefusesWord : Task → List ℕ → Wanted → Fault → Type 0
RefusesWord task word old fault =
    ((task ≡ Run) × IsSome old.file × (old.steps ≡ None) × (limit_in word ≡ None)
    × (fault ≡ WrongSteps word))
    ⊎ (IsSome old.file × (task ≡ Run → IsSome old.steps) × (fault ≡ Surplus word))

-- at the end of the words there are all that have to be there
abbrev pub IsWhole : Task → Wanted → Type 0
IsWhole task wanted = IsSome wanted.file × (task ≡ Run → IsSome wanted.steps)

-- ---- all words

-- what the words so far ask for, and whether one of them has ended the options
pub record Reading : Type 0 where
  pub ended : Bool
  pub wanted : Wanted

-- A word with a minus in front is an option, before the options are ended. Others are plain.
abbrev pub IsOption : Reading → List ℕ → Type 0
IsOption reading word = (reading.ended ≡ false) × IsDashed word

abbrev pub IsPlain : Reading → List ℕ → Type 0
IsPlain reading word = IsOption reading word → ⊥

-- this word is the program, and the words after it are its arguments
abbrev pub IsProgram : Task → Reading → List ℕ → Type 0
IsProgram task reading word =
    IsPlain reading word × (has_arguments task reading.wanted ≡ true)

-- what a word and the words after it make of what is read, and the words that are left
abbrev pub Takes : Task → List ℕ → Reading → List (List ℕ) → Reading → List (List ℕ) → Type 0
Takes task word old words new left =
    (IsOption old word × (word ≡ ends_options) × (new ≡ record old { ended = true })
    × (words ≡ left))
    ⊎ ((IsOption old word × (word ≡ ends_options → ⊥) × (new.ended ≡ old.ended)
    × TakesOption task word old.wanted words new.wanted left)
    ⊎ (IsPlain old word × (new.ended ≡ old.ended)
    × TakesWord task word old.wanted new.wanted × (words ≡ left)))

-- why a word, or the words after it, are refused
abbrev pub Refuses : Task → List ℕ → Reading → List (List ℕ) → Fault → Type 0
Refuses task word old words fault =
    (IsOption old word × (word ≡ ends_options → ⊥) × RefusesOption task word old.wanted words fault)
    ⊎ (IsPlain old word × RefusesWord task word old.wanted fault)

-- A program that has arguments ends the words that are read; else they end where there are no more.
abbrev pub Ends : Task → Reading → List (List ℕ) → Result Wanted Fault → Type 0
Ends task reading [] asked =
    (IsWhole task reading.wanted × (asked ≡ Ok reading.wanted))
    ⊎ ((IsWhole task reading.wanted → ⊥) × (asked ≡ Err Missing))
Ends task reading (word ∷ words) asked =
    IsProgram task reading word
    × (asked ≡ Ok (record reading.wanted { file = Some word; program = word ∷ words }))

-- What words ask a subcommand for, where those before them are read as `reading` says.
pub data AsksFor (task : Task) : Reading → List (List ℕ) → Result Wanted Fault → Type 0 where
  Taken : (old new : Reading) (word : List ℕ) (words left : List (List ℕ))
      (asked : Result Wanted Fault) → (IsProgram task old word → ⊥)
      → Takes task word old words new left → AsksFor task new left asked
      → AsksFor task old (word ∷ words) asked
  Refused : (reading : Reading) (word : List ℕ) (words : List (List ℕ)) (fault : Fault)
      → (IsProgram task reading word → ⊥) → Refuses task word reading words fault
      → AsksFor task reading (word ∷ words) (Err fault)
  Ended : (reading : Reading) (words : List (List ℕ)) (asked : Result Wanted Fault)
      → Ends task reading words asked → AsksFor task reading words asked

-- nothing is read
abbrev pub unread : Task → Reading
unread task = record { ended = false; wanted = unasked task }

abbrev pub reading_of : Bool → Request → Reading
reading_of ended request = record { ended = ended; wanted = wanted_of request }
