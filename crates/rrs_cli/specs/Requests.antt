-- Which words of a command line ask for a run, and for which one.
use Rattle.std.specs.Prelude.{ℕ, List, [], ◌∷◌, Option, None, option_map}
use Rattle.rrs_cli.specs.Limits.{limit_in}

-- The program's own name, a path and a limit are the three words of a request.
abbrev pub request_in : List (List ℕ) → Option (List ℕ × ℕ)
request_in (name ∷ path ∷ limit ∷ []) = option_map (λ steps. (path, steps)) (limit_in limit)
request_in _ = None
