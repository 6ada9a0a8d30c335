-- The bytes that the digits are.
use Rattle.std.proofs.Common.{◌≡◌, Ok, refl, rules}
use Rattle.hex.specs.Hex.{decode_of}
use Rattle.rrs_gdb.proofs.ChangeLemmas.{nothing_decoded}
use Rattle.rrs_board_gdb.proofs.AnswerLemmas.{sets_by_digits}
use Rattle.rrs_board_gdb.proofs.session.change_by_digits.Goals as goal

pub returns-in_default-clause-set : goal.returns-in_default-clause-set
returns-in_default-clause-set c = λ values is. record {
  set = λ place long some. absurd (nothing_decoded _ values (c.in_default.ensures.none place) is some);
  none = λ _. refl;
  refused = λ _. c.in_ok-push_invalid.ensures.error;
}

pub returns-in-Ok-clause-set : goal.returns-in-Ok-clause-set
returns-in-Ok-clause-set c =
    let found = c.in-Some.ensures.found in
    let bytes = c.deref.result.now in
    let decoded : decode_of c.in-Some.digits.now ≡ Ok bytes = search rules in
    sets_by_digits c.change_memory.result c.args.text.now _ bytes _ _ _ _ _ _ found.1 found.2 found.3
    found.0 decoded c.change_memory.ensures.set c.change_memory.ensures.none c.change_memory.ensures.refused
