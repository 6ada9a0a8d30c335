use Rattle.std.proofs.Common.{◌≡◌, ◌+◌, ◌++◌, take, drop}
use Rattle.rrs_asm_macros.specs.Substitution.{in_parentheses, size_with}
use Rattle.rrs_asm_macros.proofs.substitution.literally.Given as goal

-- no closing parenthesis stands before
abbrev pub invariant-loop-index : goal.invariant-loop-index
invariant-loop-index l =
    (in_parentheses l.text ≡ take l.index l.text ++ in_parentheses (drop l.index l.text))
    × (size_with l.text ≡ l.index + size_with (drop l.index l.text))
