-- The rounds of a run that is served, of which each is a run and the call that it comes to.
use Rattle.std.specs.Prelude.{ℕ, ◌<◌, ◌≤◌, List, None}
use Rattle.rrs_fast.specs.declared.serving.Round.{Round}
use Rattle.rrs_fast.specs.declared.serving.Round.TheVariants.{GoneOn, Ended}
use Rattle.rrs_lib.specs.Accesses.{Access}
use Rattle.rrs_words.specs.declared.csrs.HartProfile.{HartProfile}
use Rattle.rrs_hart.specs.Harts.{Hart}
use Rattle.rrs_fast.specs.Serving.{Relation, Called, HartServed}

-- what a round did: it came to a call and goes on, or it was the last
abbrev pub RoundOf : {E : Type 0} → HartProfile → Relation E
    → ℕ → E → Hart → Round → E → Hart → List Access → Type 0
RoundOf p serves limit e s (GoneOn steps) e' t accesses =
    Called p serves limit e s steps None e' t accesses
RoundOf p serves limit e s (Ended steps ending) e' t accesses =
    HartServed p serves ending e' t limit e s steps accesses

-- a round that goes on makes a step at least, and none makes more than the limit
abbrev pub StepsWithin : ℕ → Round → Type 0
StepsWithin limit (GoneOn steps) = (0 < steps) × (steps ≤ limit)
StepsWithin limit (Ended steps ending) = steps ≤ limit
