-- Files that a source names by `.incbin` (GNU assembler manual, ".incbin"): "The `.incbin`
-- directive includes `file` verbatim at the current location."
use Rattle.std.specs.Prelude.{ℕ, ◌≡◌, ◌⊎◌, true, ◌==◌, List, drop, codes}
use Rattle.std.specs.List.{starts_with}

-- the name of the directive stands somewhere in a text
abbrev pub NamesFile : List ℕ → Type 0
NamesFile text =
    (at : ℕ) × (starts_with (λ a b. a == b) (drop at text) (codes ".incbin") ≡ true)

-- A text becomes this one with the bytes of the files that it names. What these are is not said
-- here: a text that names none is as it was.
abbrev pub Includes : List ℕ → List ℕ → Type 0
Includes text made = (made ≡ text) ⊎ NamesFile text
