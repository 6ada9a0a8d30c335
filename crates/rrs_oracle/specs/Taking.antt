-- What it says that a reader of a line takes its next word off, and reads it.
use Rattle.std.specs.Prelude.{◌≡◌, List, [], ◌∷◌, ℕ, Option, Some, None}
use Rattle.std.specs.Borrow.{Bor}
use Rattle.rrs_oracle.specs.Questions.{words}

-- the words of what is left of a line: none, once the last one is taken off
abbrev pub words_left : Option (Bor (List ℕ)) → List (List ℕ)
words_left None = []
words_left (Some text) = words text.now

-- the first word was read as x, and the rest is left
abbrev pub TakesAs : {A : Type 0} → (List ℕ → Option A) → List (List ℕ) → A → List (List ℕ) → Type 0
TakesAs read ws x rest = (w : List ℕ) × (ws ≡ w ∷ rest) × (read w ≡ Some x)

-- no first word can be read
abbrev pub TakesNone : {A : Type 0} → (List ℕ → Option A) → List (List ℕ) → Type 0
TakesNone read ws = (w : List ℕ) (rest : List (List ℕ)) → ws ≡ w ∷ rest → read w ≡ None
