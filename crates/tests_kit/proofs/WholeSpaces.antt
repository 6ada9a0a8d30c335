-- Spaces whose regions lie one after another from address 0 on, and the memory that they amount to.
use Rattle.std.proofs.Common.{◌≡◌, ◌⊎◌, ℕ, ◌*◌, ◌^◌, ◌≤◌, List, [], ◌∷◌, length, None, is_some, false, inl, inr, sym, ap, ◌∙◌, arith}
use Rattle.std.proofs.Math.Path.{fun_ext}
use Rattle.std.proofs.lemmas.Bool.{cases_lt}
use Rattle.rrs_lib.specs.declared.memories.VecMemory.{VecMemory}
use Rattle.rrs_lib.specs.VecBytes.{bytes_of_words, lies_in_words, vec_bytes, vec_writable}
use Rattle.rrs_lib.specs.Spaces.{Region, Space, served_by, space_bytes, space_writable}
use Rattle.rrs_lib.proofs.VecWords.{byte_past}
use Rattle.rrs_lib.proofs.Regions.{serves_false, serves_cases}
use Rattle.rrs_extra.proofs.OpenPages.{lies_where_mapped, past_words}

abbrev pub region : {M : Type 0} → ℕ → ℕ → M → Region M
region base size m = record { base = base; size = size; memory = m }

-- ---- one region

module _ {M : Type 0} {T : Type 0} (says : M → ℕ → T) (default : T) where
  -- a region at 0 that contains all of a memory
  one_region : (size : ℕ) (m : M) → ((b : ℕ) → (size ≤ b) ⊎ (2 ^ 32 ≤ b) → says m b ≡ default)
      → served_by says default (region 0 size m ∷ []) ≡ says m
  one_region size m rest =
      fun_ext (λ a. elim (serves_cases (region 0 size m) a) [
        | inl hit ↦ rw hit (ap (says m) (omega arith))
        | inr miss ↦ elim (cases_lt a (2 ^ 32)) [
          | inl low ↦ rw miss (sym (rest a (inl (omega (arith, serves_false (region 0 size m) a low miss (omega arith))))))
          | inr high ↦ rw miss (sym (rest a (inr high)))
        ]
      ])

-- nothing lies past a list of words
no_byte_past : (words : List ℕ) (size : ℕ) → size ≡ 4 * length words → (b : ℕ)
    → (size ≤ b) ⊎ (2 ^ 32 ≤ b) → bytes_of_words words b ≡ None
no_byte_past words size same b (inl past) = byte_past words b (omega (arith, past, same))
no_byte_past words size same b (inr high) = past_words words b high

not_writable_past : (words : List ℕ) (size : ℕ) → size ≡ 4 * length words → (b : ℕ)
    → (size ≤ b) ⊎ (2 ^ 32 ≤ b) → lies_in_words words b ≡ false
not_writable_past words size same b past =
    sym (lies_where_mapped words b) ∙ ap is_some (no_byte_past words size same b past)

-- ---- a space in a space

-- one region of a space of one region of words
module _ (m whole : VecMemory) (inner : Space VecMemory) (outer : List (Region (Space VecMemory))) (words : List ℕ)
    (size : ℕ) (inner_is : inner.regions ≡ region 0 size m ∷ []) (outer_is : outer ≡ region 0 size inner ∷ [])
    (holds : m.mem.items ≡ words) (same : whole.mem.items ≡ words) (long : size ≡ 4 * length words) where
  nested : {T : Type 0} (says : List ℕ → ℕ → T) (default : T)
      → ((b : ℕ) → (size ≤ b) ⊎ (2 ^ 32 ≤ b) → says words b ≡ default)
      → served_by (λ s. served_by (λ v. says v.mem.items) default s.regions) default outer ≡ says whole.mem.items
  nested {T = T} says default rest =
      let of_vec = λ (v : VecMemory). says v.mem.items in
      let of_space = λ (s : Space VecMemory). served_by of_vec default s.regions in
      let rest_of_vec = λ (b : ℕ) (past : (size ≤ b) ⊎ (2 ^ 32 ≤ b)). ap (λ ws. says ws b) holds ∙ rest b past in
      let inside = ap (served_by of_vec default) inner_is ∙ one_region of_vec default size m rest_of_vec in
      ap (served_by of_space default) outer_is
      ∙ one_region of_space default size inner (λ b past. ap (λ (f : ℕ → T). f b) inside ∙ rest_of_vec b past)
      ∙ inside ∙ ap says (holds ∙ sym same)

  pub nested_bytes : space_bytes (λ s. space_bytes vec_bytes s.regions) outer ≡ vec_bytes whole
  nested_bytes = nested bytes_of_words None (no_byte_past words size long)

  pub nested_writable : space_writable (λ s. space_writable vec_writable s.regions) outer ≡ vec_writable whole
  nested_writable = nested lies_in_words false (not_writable_past words size long)
