-- The bytes that the digits are.
use Rattle.std.proofs.Common.{◌≡◌, Ok, refl, rules}
use Rattle.hex.specs.Hex.{decode_of}
use Rattle.rrs_gdb.proofs.ChangeLemmas.{nothing_decoded, sets_by_digits, sets_nothing}
use Rattle.rrs_gdb.proofs.session.change_by_digits.Goals as goal

pub returns-in_default-clause-set : goal.returns-in_default-clause-set
returns-in_default-clause-set g c = λ values is.
    sets_nothing c.args.text.now values _ _
    (λ place some. nothing_decoded _ values (c.in_default.ensures.none place) is some) (_, refl)

pub returns-in-Ok-clause-kept : goal.returns-in-Ok-clause-kept
returns-in-Ok-clause-kept g c = c.change_memory.ensures.kept

pub returns-in-Ok-clause-done : goal.returns-in-Ok-clause-done
returns-in-Ok-clause-done g c = c.change_memory.ensures.done

pub returns-in-Ok-clause-set : goal.returns-in-Ok-clause-set
returns-in-Ok-clause-set g c = λ values is.
    let found = c.in-Some.ensures.found in
    let bytes = c.deref.result.now in
    let decoded : decode_of c.in-Some.digits.now ≡ Ok bytes = search rules in
    sets_by_digits c.args.text.now _ bytes values _ _ _ _ _ found.1 found.2 found.3 found.0 decoded
    c.change_memory.ensures.set c.change_memory.ensures.none c.change_memory.ensures.refused is
