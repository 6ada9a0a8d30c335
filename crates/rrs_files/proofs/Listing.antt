-- Entries that are added to a text.
use Rattle.std.proofs.Common.{◌≡◌, ℕ, None, ◌+◌, ◌-◌, ◌%◌, ◌^◌, ◌≤◌, List, [], ◌∷◌, ◌++◌, length, replicate, take, refl, sym, ap, ◌∙◌, arith}
use Rattle.std.proofs.lemmas.Grind.{common_steps}
use Rattle.std.proofs.lemmas.List.{length-append, take-replicate}
use Rattle.rrs_files.specs.declared.entries.Step.{Step}
use Rattle.rrs_files.specs.Events.{Did}
use Rattle.std.specs.Int.{to_le_bytes, w16, w64}
use Rattle.rrs_files.specs.declared.folder.Entry.{Entry}
use Rattle.rrs_files.specs.Entries.{AddsEntry, HasNoEntry, HasNone, HasRoom, IsEntry, IsLast, ended_by, entry_bytes, record_size}

-- what is appended piece by piece
joined : (old a b c d e f : List ℕ)
    → old ++ a ++ b ++ c ++ d ++ e ++ f ≡ old ++ (a ++ b ++ c ++ d ++ e ++ f)
joined old a b c d e f = grind (arith, common_steps)

-- the bytes after a name
padding : (name : List ℕ) (size : ℕ) → size ≡ record_size name
    → take {A = ℕ} (size - 19 - length name) (replicate 8 0) ≡ replicate (record_size name - 19 - length name) 0
padding name size is =
    let few : size - 19 - length name ≤ 8 = omega (arith, is) in
    take-replicate _ 8 0 few ∙ ap (λ n. replicate (n - 19 - length name) 0) is

-- an entry whose pieces are appended in turn
pub built : (entry : Entry) (name : List ℕ) (next size : ℕ) (old a b c d e f : List ℕ) → size ≡ record_size name
    → a ≡ old ++ to_le_bytes w64 entry.number → b ≡ a ++ to_le_bytes w64 next
    → c ≡ b ++ to_le_bytes w16 size → d ≡ c ++ entry.kind ∷ [] → e ≡ d ++ name
    → f ≡ e ++ take (size - 19 - length name) (replicate 8 0)
    → f ≡ old ++ entry_bytes entry name next
built entry name next size old a b c d e f is to_a to_b to_c to_d to_e to_f =
    let b_is : b ≡ (old ++ to_le_bytes w64 entry.number) ++ to_le_bytes w64 next =
    to_b ∙ ap (λ t. t ++ to_le_bytes w64 next) to_a in
    let size_is : to_le_bytes w16 size ≡ to_le_bytes w16 (record_size name) = ap (to_le_bytes w16) is in
    let c_is : c ≡ ((old ++ to_le_bytes w64 entry.number) ++ to_le_bytes w64 next) ++ to_le_bytes w16 (record_size name) =
    to_c ∙ ap (λ t. t ++ to_le_bytes w16 size) b_is
    ∙ ap (λ k. ((old ++ to_le_bytes w64 entry.number) ++ to_le_bytes w64 next) ++ k) size_is in
    to_f ∙ ap (λ p. e ++ p) (padding name size is)
    ∙ ap (λ t. t ++ replicate (record_size name - 19 - length name) 0)
    (to_e ∙ ap (λ t. t ++ name) (to_d ∙ ap (λ t. t ++ entry.kind ∷ []) c_is))
    ∙ joined old (to_le_bytes w64 entry.number) (to_le_bytes w64 next) (to_le_bytes w16 (record_size name))
    (entry.kind ∷ []) name (replicate (record_size name - 19 - length name) 0)

-- an entry has as many bytes as it says
pub size_of_entry : (entry : Entry) (name : List ℕ) (next : ℕ)
    → length (entry_bytes entry name next) ≡ record_size name
size_of_entry entry name next =
    let parts : length (entry_bytes entry name next)
    ≡ 8 + (8 + (2 + (1 + (length name + (record_size name - 19 - length name))))) = grind (arith, common_steps) in
    omega (arith, parts)

-- a list goes on where an entry was added
pub goes_on : (step : Step) (count position : ℕ) → ended_by step count position ≡ None → step ≡ Step.Added
goes_on Step.Added count position is = refl
goes_on Step.Ended count position is = absurd (cc is)
goes_on Step.Full count position is = absurd (cc is)
goes_on (Step.Failed e) count position is = absurd (cc is)

-- and the text has 24 bytes more at least
pub grows : {F : Type 0} (did : Did F) (at position most : ℕ) (text text' : List ℕ) (old new : F) (step : Step)
    → AddsEntry did at position most text text' old new step → step ≡ Step.Added
    → (length text + 24 ≤ length text') × (length text' ≤ most)
grows did at position most text text' old new step (IsEntry entry name told (HasRoom room is)) added =
    let sum : length text' ≡ length text + length (entry_bytes entry name ((position + 1) % 2 ^ 64)) =
    ap length is ∙ length-append text (entry_bytes entry name ((position + 1) % 2 ^ 64)) in
    let long : length (entry_bytes entry name ((position + 1) % 2 ^ 64)) ≡ record_size name =
    size_of_entry entry name ((position + 1) % 2 ^ 64) in
    (omega (arith, sum, long), omega (arith, sum, long, room))
grows did at position most text text' old new step (IsEntry entry name told (HasNone room is)) added = absurd (cc added)
grows did at position most text text' old new step (IsLast told is ended) added = absurd (cc (sym ended ∙ added))
grows did at position most text text' old new step (HasNoEntry e told is failed) added = absurd (cc (sym failed ∙ added))
