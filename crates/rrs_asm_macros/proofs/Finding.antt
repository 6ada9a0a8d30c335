-- Looking up a key in what is left of a table.
use Rattle.std.proofs.Common.{◌≡◌, ◌<◌, ◌+◌, ℕ, Bool, true, false, cond, List, length, drop, get_or, Some, ap, ◌∙◌}
use Rattle.std.proofs.lemmas.List.{at_drop_more}
use Rattle.std.specs.Map.{lookup}

module _ {K X : Type 0} (p : K → Bool) (es : List (K × X)) (i : ℕ) (d : K × X) where
  pub lookup-found : i < length es → p ((get_or es i d).0) ≡ true
      → lookup p (drop i es) ≡ Some ((get_or es i d).1)
  lookup-found l h =
      at_drop_more (lookup p) es i d l
      ∙ ap (λ b. cond b (Some ((get_or es i d).1)) (lookup p (drop (i + 1) es))) h

  pub lookup-passed : i < length es → p ((get_or es i d).0) ≡ false
      → lookup p (drop i es) ≡ lookup p (drop (i + 1) es)
  lookup-passed l h =
      at_drop_more (lookup p) es i d l
      ∙ ap (λ b. cond b (Some ((get_or es i d).1)) (lookup p (drop (i + 1) es))) h
