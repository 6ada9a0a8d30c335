-- One mistake more that stands where an error does.
use Rattle.std.proofs.Common.{◌≡◌, ℕ, ◌<◌, List, [], ◌∷◌, ◌++◌, length, get_or, All, subst, arith}
use Rattle.std.proofs.lemmas.List.Elements.{All-append, All-cons, Contains-get_or}
use Rattle.rrs_asm.specs.declared.errors.SourceError.{SourceError}
use Rattle.rrs_asm_output.specs.declared.mistakes.Mistake.{Mistake}
use Rattle.rrs_asm_output.specs.Mistakes.{StandsAt, IsOfOne}

pub told-more : {A : Type 0} (numbers : List ℕ) (errors : List SourceError) (told : List (Mistake A)) (m : Mistake A) (i : ℕ) (d e : SourceError)
    → i < length errors → e ≡ get_or errors i d → StandsAt numbers e m
    → All (IsOfOne numbers errors) told → All (IsOfOne numbers errors) (told ++ m ∷ [])
told-more numbers errors told m i d e below same stands all =
    let Stands : SourceError → Type 0 = λ x. StandsAt numbers x m in
    let one : IsOfOne numbers errors m = (get_or errors i d, Contains-get_or errors i d below, subst Stands same stands) in
    All-append (IsOfOne numbers errors) told (m ∷ []) all (All-cons (IsOfOne numbers errors) m [] one (λ k x small. absurd (omega arith)))
