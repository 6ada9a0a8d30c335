-- What a progress is told of a run.
use Rattle.std.specs.Prelude.{◌≡◌, ℕ, ◌+◌, ◌^◌, ◌<◌, Option, Some, None}

-- So many steps more are told, where a number of 64 bits can count them.
abbrev pub Tells : Option ℕ → Option ℕ → ℕ → Type 0
Tells None new steps = Unit {0}
Tells (Some told) new steps = told + steps < 2 ^ 64 → new ≡ Some (told + steps)
