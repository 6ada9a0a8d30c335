use Rattle.std.proofs.Common.{ap, refl, ◌∙◌}
use Rattle.tests_kit.proofs.WholeSpaces.{nested_bytes, nested_writable}
use Rattle.tests_kit.proofs.independence.a_space_in_a_space_answers_as_its_words.Goals as goal

pub four_steps-answers-requires-clause-bytes : goal.four_steps-answers-requires-clause-bytes
four_steps-answers-requires-clause-bytes g c =
    nested_bytes _ c.new-memory.result _ _ _ 16 c.in_ok-inner.ensures c.in_ok-space.ensures
    (ap (λ v. v.items) c.new-words.ensures ∙ c.in_ok-from_slice.ensures.items)
    (ap (λ v. v.items) c.new-memory.ensures ∙ c.in_ok-from_slice-2.ensures.items) refl

pub four_steps-answers-requires-clause-writable : goal.four_steps-answers-requires-clause-writable
four_steps-answers-requires-clause-writable g c =
    nested_writable _ c.new-memory.result _ _ _ 16 c.in_ok-inner.ensures c.in_ok-space.ensures
    (ap (λ v. v.items) c.new-words.ensures ∙ c.in_ok-from_slice.ensures.items)
    (ap (λ v. v.items) c.new-memory.ensures ∙ c.in_ok-from_slice-2.ensures.items) refl
