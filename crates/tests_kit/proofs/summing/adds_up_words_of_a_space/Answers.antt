use Rattle.std.proofs.Common.{◌≡◌, ◌∷◌, [], ap, refl, ◌∙◌}
use Rattle.rrs_lib.specs.VecBytes.{vec_bytes, bytes_of_words}
use Rattle.rrs_lib.specs.Spaces.{space_bytes}
use Rattle.rrs_extra.proofs.Words.{holds_by_test}
use Rattle.tests_kit.proofs.WholeSpaces.{region}
use Rattle.tests_kit.proofs.summing.adds_up_words_of_a_space.Goals as goal

pub add_up-end-requires-clause-program : goal.add_up-end-requires-clause-program
add_up-end-requires-clause-program g c =
    holds_by_test (ap (space_bytes vec_bytes) c.in-Some.ensures
    ∙ (λ i. space_bytes bytes_of_words
    (region 0 0x20 (c.in_ok-low.ensures i) ∷ region 0x20 12 (c.in_ok-high.ensures i) ∷ []))) refl
