use Rattle.std.proofs.Common.{◌≡◌, ◌++◌, false, length, is_none, Some}
use Rattle.std.specs.Prelude.{IfSome}
use Rattle.std.specs.Bool.{OnTrue}
use Rattle.rrs_asm_macros.specs.Arguments.{string_from, behind_string}
use Rattle.rrs_asm_macros.proofs.arguments.take_string.Given as goal

-- what was read was put, and what is left is of the string
abbrev pub invariant-loop-byte : goal.invariant-loop-byte
invariant-loop-byte g l = record {
  put : OnTrue (is_none l.cursor.mistake) (l.value.items ++ string_from l.keeps_marks false l.is_escaped l.cursor.rest.now
      ≡ l.fn.value.items ++ string_from l.keeps_marks false false l.fn.cursor.rest.now);
  left : OnTrue (is_none l.cursor.mistake) (behind_string false l.is_escaped l.cursor.rest.now
      ≡ behind_string false false l.fn.cursor.rest.now);
  first : IfSome l.fn.cursor.mistake (λ halt. l.cursor.mistake ≡ Some halt);
}

abbrev pub decreases-loop-byte : goal.decreases-loop-byte
decreases-loop-byte g l = length l.cursor.rest.now
