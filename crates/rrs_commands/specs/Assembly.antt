-- What is made of a source as the words of `rrs as` say.
use Rattle.std.specs.Prelude.{ℕ, ◌≡◌, List, Option, Some, None, IfSome}
use Rattle.std.specs.Option.{option_map_or}
use Rattle.std.specs.declared.alloc.Global.{Global}
use Rattle.rrs_asm.specs.declared.sections.Layout.{Layout}
use Rattle.rrs_asm.specs.declared.sections.Section.{Section}
use Rattle.rrs_asm.specs.Source.{items_of}
use Rattle.rrs_asm.specs.Sections.{flat, AreSectionsOf, IsImage}
use Rattle.rrs_asm_output.specs.Executables.{IsExecutableOf}
use Rattle.rrs_asm_macros.specs.Comments.{without_comments}
use Rattle.rrs_asm_macros.specs.Expansion.{Becomes}
use Rattle.rrs_run_commands.specs.declared.places.Told.{Told}
use Rattle.rrs_run_commands.specs.Requests.{Wanted}
use Rattle.rrs_run_commands.specs.WrittenFiles.{IsNamed, path_in}
use Rattle.rrs_commands.specs.Files.{Includes}

-- Where sections lie where no word says it. An executable has its first section at 0x10000, and
-- data that can be written on a page of its own. Otherwise all lie one after the other from
-- address 0 on.
abbrev pub usual_layout : Option (List ℕ) → Layout
usual_layout None = flat 0
usual_layout (Some output) = record { text_start = 0x1_0000; data_start = None; page = 0x1000 }

-- where sections lie
abbrev pub layout_of : Wanted → Layout
layout_of wanted = record {
  text_start = option_map_or (λ own. own) wanted.text_start (usual_layout wanted.output).text_start;
  data_start = wanted.data_start;
  page = (usual_layout wanted.output).page;
}

-- The file is an executable of the source: its segments are the sections of what it becomes, with
-- blanks for its block comments and with its files, each where the layout says.
abbrev pub IsExecutableFrom : Layout → List ℕ → List ℕ → Type 0
IsExecutableFrom layout source file =
    (text : List ℕ) × Becomes (without_comments source) text
    × (whole : List ℕ) × Includes text whole
    × (sections : List (Section Global)) × AreSectionsOf layout (items_of whole) sections
    × IsExecutableOf sections file

-- The bytes are those of the sections of what the source becomes, with blanks for its block
-- comments and with its files, each where the layout says, from the address of the first on, with
-- zeros between them.
abbrev pub IsImageFrom : Layout → List ℕ → List ℕ → Type 0
IsImageFrom layout source bytes =
    (text : List ℕ) × Becomes (without_comments source) text
    × (whole : List ℕ) × Includes text whole
    × (sections : List (Section Global)) × AreSectionsOf layout (items_of whole) sections
    × IsImage layout.text_start sections bytes

-- what the host tells of the source and of the file that is written has them apart
abbrev pub IsToldApart : Wanted → Type 0
IsToldApart wanted =
    (source : Option Told) × (path_in source ≡ wanted.file)
    × (output : Option Told) × (path_in output ≡ wanted.output)
    × IfSome output (λ file. IsNamed source file → ⊥)
