-- The word is told that the encoder finds of what the half-word stands for.
use Rattle.std.proofs.Common.{refl, sym, ◌∙◌}
use Rattle.std.proofs.lemmas.Option.{none-some, same_Some}
use Rattle.rrs_c.proofs.Expanding.{to_instruction, to_form}
use Rattle.rrs_c.proofs.shorts.rrs_expand.Goals as goal

pub returns-in-Some-encode : goal.returns-in-Some-encode
returns-in-Some-encode c = record {
  of_form = λ form o is w d. let same = c.in-Some.ensures.only form o is in
      same_Some _ _ (sym c.in-Some-encode.is ∙ (c.encode.ensures w).1
      (to_instruction w _ form _ o _ c.expanded.ensures.row c.expanded.ensures.fields same.0 same.1 d));
  of_none = λ form o is no. let same = c.in-Some.ensures.only form o is in
      absurd (no _ (to_form _ _ form _ o _ c.expanded.ensures.row c.expanded.ensures.fields same.0 same.1
      ((c.encode.ensures _).0 c.in-Some-encode.is)));
  outside = λ no. absurd (no _ _ c.in-Some.ensures.decoded);
}

pub returns-in-None : goal.returns-in-None
returns-in-None c = record {
  of_form = λ form o is w d. let same = c.in-Some.ensures.only form o is in
      absurd (none-some w (sym c.in-None.is ∙ (c.encode.ensures w).1
      (to_instruction w _ form _ o _ c.expanded.ensures.row c.expanded.ensures.fields same.0 same.1 d)));
  of_none = λ form o is no. refl;
  outside = λ no. refl;
}
