-- What the lines of a source become (GNU assembler manual, ".rept count"): "Repeat the sequence of
-- lines between the `.rept` directive and the next `.endr` directive count times."
use Rattle.std.specs.Prelude.{◌≡◌, ◌⊎◌, ℕ, zero, suc, ◌+◌, ◌-◌, ◌*◌, Bool, true, false, ◌&&◌, ◌==◌}
use Rattle.std.specs.Prelude.{ltb, nat_le, if◌then◌else◌, List, [], ◌∷◌, ◌++◌, Option, None, Some, codes}
use Rattle.std.specs.List.{list_any}
use Rattle.std.specs.Str.{str_eq_ignore_ascii_case}
use Rattle.rrs_asm_lines.specs.Lines.{lines, behind_blanks, word, behind_word}
use Rattle.rrs_asm_macros.specs.Directives.{begins_one, has_directives}

-- ---- `.rept` with a number, and `.endr`

abbrev pub is_between : ℕ → ℕ → ℕ → Bool
is_between low high b = nat_le low b && nat_le b high

-- blanks, and a comment
abbrev pub is_empty_or_comment : List ℕ → Bool
is_empty_or_comment [] = true
is_empty_or_comment (b ∷ _) = b == 35

abbrev pub says_no_more : List ℕ → Bool
says_no_more text = is_empty_or_comment (behind_blanks text)

-- a number of at most nine digits, the first of which is not 0
abbrev pub decimal : ℕ → List ℕ → Option ℕ
decimal value [] = Some value
decimal value (b ∷ bs) =
    if is_between 48 57 b && ltb value 100000000 then decimal (value * 10 + (b - 48)) bs else None

abbrev pub number : List ℕ → Option ℕ
number [] = None
number (b ∷ bs) = if is_between 49 57 b then decimal 0 (b ∷ bs) else None

abbrev pub is_among : List (List ℕ) → List ℕ → Bool
is_among names word = list_any (λ name. str_eq_ignore_ascii_case word name) names

-- The count of a line that is `.rept` with a number.
abbrev pub count : List ℕ → Option ℕ
count line =
    if is_among (codes ".rept" ∷ codes ".rep" ∷ []) (word line)
    && says_no_more (behind_word (behind_word line))
    then number (word (behind_word line)) else None

-- A line is `.endr`.
abbrev pub is_end : List ℕ → Bool
is_end line = is_among (codes ".endr" ∷ []) (word line) && says_no_more (behind_word line)

-- ---- what lines become

-- so many copies of lines
abbrev pub copied : ℕ → List (List ℕ) → List (List ℕ)
copied zero rows = []
copied (suc n) rows = rows ++ copied n rows

-- Lines become others: one without directives stands as it is, and what the lines between `.rept`
-- and its `.endr` become is repeated.
pub data Expands : List (List ℕ) → List (List ℕ) → Type 0 where
  Over : Expands [] []
  Keeps : {line : List ℕ} {others made : List (List ℕ)} → has_directives line ≡ false
      → Expands others made → Expands (line ∷ others) (line ∷ made)
  Repeats : (line end : List ℕ) (inside once others made : List (List ℕ)) (copies : ℕ)
      → count line ≡ Some copies → is_end end ≡ true
      → Expands inside once → Expands others made
      → Expands (line ∷ (inside ++ (end ∷ others))) (copied copies once ++ made)

-- a directive of which nothing is said
abbrev pub IsOther : List ℕ → Type 0
IsOther line = (has_directives line ≡ true) × (count line ≡ None) × (is_end line ≡ false)

-- The same up to the first other directive, which may stand in a repetition: then its first copy
-- begins with what the lines above that become. Of what is after nothing is said.
pub data ExpandsFirst : List (List ℕ) → List (List ℕ) → Type 0 where
  All : {lines made : List (List ℕ)} → Expands lines made → ExpandsFirst lines made
  Before : (line : List ℕ) (first made others more : List (List ℕ)) → Expands first made
      → IsOther line → ExpandsFirst (first ++ (line ∷ others)) (made ++ more)
  Within : (line : List ℕ) (first made others more : List (List ℕ)) (copies : ℕ)
      → Expands first made → count line ≡ Some copies → ExpandsFirst others more
      → ExpandsFirst (first ++ (line ∷ others)) (made ++ more)

-- The lines of a source become those of a text, which is empty where there are none.
abbrev pub IsExpansion : List ℕ → List ℕ → Type 0
IsExpansion source text = ExpandsFirst (lines source) (lines text)
    ⊎ (ExpandsFirst (lines source) [] × (text ≡ []))

-- The text that is assembled: the source as it stands where no word of it is a directive of macros,
-- and else what its lines become, with no such directive at the beginning of a line.
pub record Becomes (source text : List ℕ) : Type 0 where
  pub same : has_directives source ≡ false → text ≡ source
  pub expanded : has_directives source ≡ true → IsExpansion source text
  pub gone : has_directives source ≡ true → list_any begins_one (lines text) ≡ false
