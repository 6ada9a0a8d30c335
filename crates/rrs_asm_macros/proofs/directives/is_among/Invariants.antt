use Rattle.std.proofs.Common.{◌≡◌, false, take}
use Rattle.std.specs.List.{list_any}
use Rattle.std.specs.Str.{str_eq_ignore_ascii_case}
use Rattle.rrs_asm_macros.proofs.directives.is_among.Given as goal

-- no entry before has the word
abbrev pub invariant-loop-name : goal.invariant-loop-name
invariant-loop-name l = list_any (λ e. str_eq_ignore_ascii_case l.word e.0.now) (take l.name-index l.table) ≡ false
