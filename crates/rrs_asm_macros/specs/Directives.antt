-- The words of a source, and the directives of macros, conditions and repetitions (GNU assembler
-- manual, ".macro", ".rept", ".irp", ".irpc", ".purgem", ".if", ".else", ".elseif", ".endif"). In
-- their names capital and small letters are the same.
use Rattle.std.specs.Prelude.{ℕ, Bool, true, false, not, List, [], ◌∷◌, codes, Option}
use Rattle.std.specs.List.{slice_split, list_any}
use Rattle.std.specs.Map.{lookup}
use Rattle.std.specs.Str.{str_eq_ignore_ascii_case}
use Rattle.rrs_asm_lines.specs.Lines.{is_in_word, word}
use Rattle.rrs_asm_macros.specs.declared.blocks.BlockKind.{BlockKind}
use Rattle.rrs_asm_macros.specs.declared.directives.Comparison.{Comparison}
use Rattle.rrs_asm_macros.specs.declared.directives.Directive.{Directive}
use Rattle.rrs_asm_macros.specs.declared.directives.Test.{Test}

abbrev pub directive_names : List (List ℕ)
directive_names =
    codes ".macro" ∷ codes ".endm" ∷ codes ".exitm" ∷ codes ".purgem"
    ∷ codes ".rept" ∷ codes ".rep" ∷ codes ".irp" ∷ codes ".irpc" ∷ codes ".endr"
    ∷ codes ".if" ∷ codes ".ifne" ∷ codes ".ifeq" ∷ codes ".ifge" ∷ codes ".ifgt" ∷ codes ".ifle"
    ∷ codes ".iflt" ∷ codes ".ifdef" ∷ codes ".ifndef" ∷ codes ".ifnotdef" ∷ codes ".ifb"
    ∷ codes ".ifnb" ∷ codes ".ifc" ∷ codes ".ifnc" ∷ codes ".ifeqs" ∷ codes ".ifnes"
    ∷ codes ".elseif" ∷ codes ".else" ∷ codes ".endif" ∷ codes ".endc" ∷ codes ".elsec" ∷ []

abbrev pub is_directive : List ℕ → Bool
is_directive word = list_any (λ name. str_eq_ignore_ascii_case word name) directive_names

-- What stands between bytes that stand in no name.
abbrev pub words : List ℕ → List (List ℕ)
words text = slice_split (λ b. not (is_in_word b)) text

-- A line begins with a directive.
abbrev pub begins_one : List ℕ → Bool
begins_one line = is_directive (word line)

-- A word of the source is a directive.
abbrev pub has_directives : List ℕ → Bool
has_directives source = list_any is_directive (words source)

-- what each name means
abbrev pub directives : List (List ℕ × Directive)
directives =
    (codes ".macro", Directive.Macro)
    ∷ (codes ".endm", Directive.EndMacro)
    ∷ (codes ".exitm", Directive.ExitMacro)
    ∷ (codes ".purgem", Directive.Purge)
    ∷ (codes ".rept", Directive.Repeat)
    ∷ (codes ".rep", Directive.Repeat)
    ∷ (codes ".irp", Directive.RepeatEach)
    ∷ (codes ".irpc", Directive.RepeatCharacters)
    ∷ (codes ".endr", Directive.EndRepeat)
    ∷ (codes ".if", Directive.If (Test.Compared Comparison.NotEqual))
    ∷ (codes ".ifne", Directive.If (Test.Compared Comparison.NotEqual))
    ∷ (codes ".ifeq", Directive.If (Test.Compared Comparison.Equal))
    ∷ (codes ".ifge", Directive.If (Test.Compared Comparison.GreaterOrEqual))
    ∷ (codes ".ifgt", Directive.If (Test.Compared Comparison.Greater))
    ∷ (codes ".ifle", Directive.If (Test.Compared Comparison.LessOrEqual))
    ∷ (codes ".iflt", Directive.If (Test.Compared Comparison.Less))
    ∷ (codes ".ifdef", Directive.If (Test.Defined true))
    ∷ (codes ".ifndef", Directive.If (Test.Defined false))
    ∷ (codes ".ifnotdef", Directive.If (Test.Defined false))
    ∷ (codes ".ifb", Directive.If (Test.Blank true))
    ∷ (codes ".ifnb", Directive.If (Test.Blank false))
    ∷ (codes ".ifc", Directive.If (Test.SameText true))
    ∷ (codes ".ifnc", Directive.If (Test.SameText false))
    ∷ (codes ".ifeqs", Directive.If (Test.SameString true))
    ∷ (codes ".ifnes", Directive.If (Test.SameString false))
    ∷ (codes ".elseif", Directive.ElseIf)
    ∷ (codes ".else", Directive.Else)
    ∷ (codes ".endif", Directive.EndIf)
    ∷ (codes ".endc", Directive.EndIf)
    ∷ (codes ".elsec", Directive.Else) ∷ []

-- the directive with a name
abbrev pub directive_named : List ℕ → Option Directive
directive_named word = lookup (λ name. str_eq_ignore_ascii_case word name) directives

-- `.rept`, which has a count
abbrev pub is_counted : Directive → Bool
is_counted Directive.Repeat = true
is_counted _ = false

-- `.rept`, `.irp` and `.irpc`
abbrev pub is_repetition : Directive → Bool
is_repetition Directive.Repeat = true
is_repetition Directive.RepeatEach = true
is_repetition Directive.RepeatCharacters = true
is_repetition _ = false

abbrev pub is_exit : Directive → Bool
is_exit Directive.ExitMacro = true
is_exit _ = false

-- what ends a macro or a repetition, and is met where none is
abbrev pub is_end_alone : Directive → Bool
is_end_alone Directive.EndMacro = true
is_end_alone Directive.EndRepeat = true
is_end_alone _ = false

-- a directive begins a block of a kind
abbrev pub begins_block : BlockKind → Directive → Bool
begins_block BlockKind.Macro Directive.Macro = true
begins_block BlockKind.Macro _ = false
begins_block BlockKind.Repetition directive = is_repetition directive

-- it ends one
abbrev pub ends_block : BlockKind → Directive → Bool
ends_block BlockKind.Macro Directive.EndMacro = true
ends_block BlockKind.Repetition Directive.EndRepeat = true
ends_block _ _ = false
