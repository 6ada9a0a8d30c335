use Rattle.std.proofs.Common.{◌≡◌, drop}
use Rattle.std.specs.Map.{lookup}
use Rattle.std.specs.Str.{str_eq_ignore_ascii_case}
use Rattle.rrs_asm_macros.proofs.directives.meaning_among.Given as goal

-- the word is looked up in what is left of the table
abbrev pub invariant-loop-name : goal.invariant-loop-name
invariant-loop-name l =
    lookup (λ name. str_eq_ignore_ascii_case l.word name.now) l.table
    ≡ lookup (λ name. str_eq_ignore_ascii_case l.word name.now) (drop l.name-index l.table)
