-- The files that a request names, and which of them are one file. Files are told by their device
-- and their number there (inode(7): `st_dev`, `st_ino`), by the folder and the name where none is
-- there yet, and by their paths. What the host tells is believed.
use Rattle.std.specs.Prelude.{ℕ, ◌≡◌, ◌⊎◌, List, Option, IfSome, IsSomeAnd, option_map, string_bytes}
use Rattle.rrs_cli.specs.declared.command.Failure.TheVariants.{Run}
use Rattle.rrs_cli.specs.declared.fault.RunFault.TheVariants.{OutOfMemory}
use Rattle.rrs_run_commands.specs.Requests.{Wanted}
use Rattle.rrs_run_commands.specs.declared.places.NamedFiles.{NamedFiles}
use Rattle.rrs_run_commands.specs.declared.places.Place.{Place}
use Rattle.rrs_run_commands.specs.declared.places.Place.TheVariants.{File, Free, Other}
use Rattle.rrs_run_commands.specs.declared.places.Told.{Told}
use Rattle.rrs_run_commands.specs.declared.refusal.Refusal.{Refusal}
use Rattle.rrs_run_commands.specs.declared.refusal.Refusal.TheVariants.{Failed}

-- Two paths lead to one place: to one file that is there, or to none yet, which would have one name
-- in one folder.
abbrev pub IsSamePlace : Place → Place → Type 0
IsSamePlace (File node) (File other) = node ≡ other
IsSamePlace (Free folder name) (Free other word) =
    (folder ≡ other) × (string_bytes name ≡ string_bytes word)
IsSamePlace (File node) (Free folder name) = ⊥
IsSamePlace (File node) Other = ⊥
IsSamePlace (Free folder name) (File node) = ⊥
IsSamePlace (Free folder name) Other = ⊥
IsSamePlace Other place = ⊥

-- Two files are one: their paths are the same, or lead to one place.
abbrev pub IsSameFile : Told → Told → Type 0
IsSameFile file other = (file.path.now ≡ other.path.now) ⊎ IsSamePlace file.place other.place

-- a file is one that a request may name
abbrev pub IsNamed : Option Told → Told → Type 0
IsNamed named file = IsSomeAnd named (λ other. IsSameFile other file)

-- a file that is written, if one is, is none that is read: the program, the executable with its
-- symbols, the device tree, and the input
abbrev pub IsApart : NamedFiles → Option Told → Type 0
IsApart files written = IfSome written (λ file.
    (IsNamed files.program file → ⊥) × (IsNamed files.symbols file → ⊥)
    × (IsNamed files.tree file → ⊥) × (IsNamed files.input file → ⊥))

-- that holds of each, and no file is written for two options
pub record AreApart (files : NamedFiles) : Type 0 where
  pub output_apart : IsApart files files.output
  pub callgrind_apart : IsApart files files.callgrind
  pub not_twice : IfSome files.output (λ file. IsNamed files.callgrind file → ⊥)

abbrev pub path_in : Option Told → Option (List ℕ)
path_in named = option_map (λ file. file.path.now) named

-- the files are those that a request names
pub record AreNamedBy (wanted : Wanted) (files : NamedFiles) : Type 0 where
  pub program_named : path_in files.program ≡ wanted.file
  pub symbols_named : path_in files.symbols ≡ wanted.symbols
  pub tree_named : path_in files.tree ≡ wanted.tree
  pub input_named : path_in files.input ≡ wanted.input
  pub output_named : path_in files.output ≡ wanted.output
  pub callgrind_named : path_in files.callgrind ≡ wanted.callgrind

-- what the host tells of the files of a request has them apart, or has not
abbrev pub AreToldApart : Wanted → Type 0
AreToldApart wanted = (files : NamedFiles) × AreNamedBy wanted files × AreApart files

abbrev pub AreToldTogether : Wanted → Type 0
AreToldTogether wanted = (files : NamedFiles) × AreNamedBy wanted files × (AreApart files → ⊥)

-- a refusal is one for want of memory
abbrev pub IsWantOfMemory : Refusal → Type 0
IsWantOfMemory refusal = refusal ≡ Failed (Run OutOfMemory)
