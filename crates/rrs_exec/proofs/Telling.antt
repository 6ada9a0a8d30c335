-- Steps that are told piece by piece.
use Rattle.std.proofs.Common.{◌≡◌, ℕ, ◌+◌, Option, Some, None, ap, subst, ◌∙◌, arith}
use Rattle.rrs_exec.specs.Progress.{Tells}

pub tells_none : (told : Option ℕ) → Tells told told 0
tells_none None = tt
tells_none (Some told) = λ few. ap Some (omega arith)

pub tells_more : (old mid new : Option ℕ) (steps more : ℕ) → Tells old mid steps → Tells mid new more → Tells old new (steps + more)
tells_more None mid new steps more first later = tt
tells_more (Some told) mid new steps more first later = λ few.
    subst (λ t. Tells t new more) (first (omega (arith, few))) later (omega (arith, few)) ∙ ap Some (omega arith)

pub tells_piece : (old mid new : Option ℕ) (steps made size : ℕ) → made ≡ size → Tells old mid steps → Tells mid new made
    → Tells old new (steps + size)
tells_piece old mid new steps made size same first later =
    tells_more old mid new steps size first (subst (λ n. Tells mid new n) same later)
