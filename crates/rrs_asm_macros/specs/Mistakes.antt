-- The mistakes in macros, conditions and repetitions, and where each is told: at its line, as GNU
-- `as` does, and at its byte of this line. Both are counted from 1.
use Rattle.std.specs.Prelude.{ℕ, zero, suc, ◌+◌, ◌-◌, ◌==◌, Bool, true, false, if◌then◌else◌, List, [], ◌∷◌, ◌++◌, codes, drop, length, slice_get, Option, Some, None}
use Rattle.std.specs.Fmt.{decimal}
use Rattle.std.specs.List.{list_any}
use Rattle.rrs_asm_lines.specs.Lines.{lines, word}
use Rattle.rrs_asm_lines.specs.declared.errors.SourceErrorKind.{SourceErrorKind}
use Rattle.rrs_asm_macros.specs.declared.errors.MacroErrorKind.{MacroErrorKind}
use Rattle.rrs_asm_macros.specs.declared.errors.MacroError.{MacroError}
use Rattle.rrs_asm_macros.specs.declared.errors.MacroFault.{MacroFault}
use Rattle.rrs_asm_macros.specs.declared.errors.Slip.{Slip}

-- nothing after these is read
abbrev pub is_last : MacroErrorKind → Bool
is_last MacroErrorKind.Deep = true
is_last MacroErrorKind.Much = true
is_last _ = false

-- these are wrong of the word at their place, which is told with them
abbrev pub is_of_word : MacroErrorKind → Bool
is_of_word MacroErrorKind.Duplicate = true
is_of_word MacroErrorKind.DuplicateParameter = true
is_of_word MacroErrorKind.NoMacro = true
is_of_word MacroErrorKind.NoParameter = true
is_of_word MacroErrorKind.Number = true
is_of_word MacroErrorKind.NotConstant = true
is_of_word _ = false

-- what is told of a fault that operators have
abbrev pub kind_of_fault : SourceErrorKind → MacroErrorKind
kind_of_fault SourceErrorKind.Division = MacroErrorKind.Division
kind_of_fault _ = MacroErrorKind.Operators

-- A mistake where so many bytes of a text are left, of which this is the length, in a line that
-- begins at a byte.
abbrev pub mistake_at : (number line_start length : ℕ) → Slip → MacroError
mistake_at number line_start length slip = record {
  line = number;
  column = length - slip.left - line_start + 1;
  kind = slip.kind;
}

-- the words of each
abbrev pub words_of : MacroErrorKind → List ℕ
words_of MacroErrorKind.Unended = codes "there is no .endm or .endr of this macro or repetition"
words_of MacroErrorKind.UnendedCondition = codes "there is no .endif for this condition"
words_of MacroErrorKind.EndAlone = codes "this ends no macro and no repetition"
words_of MacroErrorKind.NoCondition = codes "there is no .if before"
words_of MacroErrorKind.SecondElse = codes "there is an .else before"
words_of MacroErrorKind.NothingToLeave = codes ".exitm stands in no macro"
words_of MacroErrorKind.Name = codes "a name is wanted here"
words_of MacroErrorKind.Duplicate = codes "macro is defined already"
words_of MacroErrorKind.DuplicateParameter = codes "the macro has this parameter already"
words_of MacroErrorKind.Qualifier = codes "req or vararg is wanted here"
words_of MacroErrorKind.BehindRest = codes "a parameter after the one that is vararg"
words_of MacroErrorKind.Parameters = codes "too many parameters"
words_of MacroErrorKind.NoMacro = codes "there is no macro of this name"
words_of MacroErrorKind.NoParameter = codes "the macro has no parameter of this name"
words_of MacroErrorKind.Arguments = codes "too many arguments"
words_of MacroErrorKind.Mixed = codes "an argument without a name after one with a name"
words_of MacroErrorKind.Missing = codes "an argument that the macro requires is missing"
words_of MacroErrorKind.Value = codes "a value is wanted here"
words_of MacroErrorKind.Number = codes "not a number of 64 bits"
words_of MacroErrorKind.Parenthesis = codes "a parenthesis is wanted here"
words_of MacroErrorKind.Operators = codes "too many operators and parentheses"
words_of MacroErrorKind.Division = codes "division by zero"
words_of MacroErrorKind.NotConstant = codes "the value has to be known here, and is not"
words_of MacroErrorKind.Negative = codes "a negative number of repetitions"
words_of MacroErrorKind.Strings = codes "two strings with a comma are wanted here"
words_of MacroErrorKind.More = codes "more than the statement takes"
words_of MacroErrorKind.Deep = codes "macros are nested too deeply"
words_of MacroErrorKind.Much = codes "macros and repetitions make too much"
words_of MacroErrorKind.LeftOver = codes "a directive of macros is left"

-- a mistake as it is told: its line, its column and its words
abbrev pub told : MacroError → List ℕ
told mistake = decimal mistake.line ++ codes ":" ++ decimal mistake.column ++ codes ": "
    ++ words_of mistake.kind

-- the word of a line at a column, where no backslash in it can stand for an argument
abbrev pub word_at : ℕ → List ℕ → List ℕ
word_at column line = word (drop (column - 1) line)

abbrev pub has_backslash : List ℕ → Bool
has_backslash line = list_any (λ b. b == 92) line

-- this word, if there is one
abbrev pub if_any : List ℕ → Option (List ℕ)
if_any [] = None
if_any (b ∷ bs) = Some (b ∷ bs)

abbrev pub plain_word : ℕ → List ℕ → Option (List ℕ)
plain_word column line = if has_backslash line then None else if_any (word_at column line)

-- the line with a number, of which the first is 1
abbrev pub line_with : ℕ → List ℕ → Option (List ℕ)
line_with zero source = None
line_with (suc above) source = slice_get (lines source) above

-- how many mistakes there are, or that memory is missing
abbrev pub fault_told : {A : Type 0} → MacroFault A → List ℕ
fault_told (MacroFault.Mistakes mistakes) = decimal (length mistakes.items) ++ codes " mistakes"
fault_told MacroFault.OutOfMemory = codes "out of memory"
