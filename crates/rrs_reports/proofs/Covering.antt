-- Counts that grow by each record are those of the records.
use Rattle.std.proofs.Common.{◌≡◌, ℕ, ◌+◌, ◌*◌, ◌<◌, List, [], ◌∷◌, ◌++◌, length, get_or, replicate, count_by, cond, Bool, true, false, subst, ap, sym, ◌∙◌, arith}
use Rattle.std.proofs.lemmas.List.Sums.{sum_by-append}
use Rattle.std.proofs.lemmas.List.{get_or-replicate, length-replicate}
use Rattle.rrs_elf.specs.declared.code_units.CodeUnit.{CodeUnit}
use Rattle.rrs_elf.specs.Executables.{bytes_of}
use Rattle.rrs_trace.specs.declared.retired.Retired.{Retired}
use Rattle.rrs_reports.specs.declared.coverage.Coverage.{Coverage}
use Rattle.rrs_reports.specs.Coverages.{begins_at, begins_elsewhere, capped, counted, Counts, Covers}

count_next : (n : ℕ) (b : Bool) → counted (capped n) b ≡ capped (n + cond b 1 0)
count_next n true = omega arith
count_next n false = omega arith

count_last : (p : Retired → Bool) (rs : List Retired) (r : Retired)
    → counted (capped (count_by p rs)) (p r) ≡ capped (count_by p (rs ++ r ∷ []))
count_last p rs r =
    let all : count_by p (rs ++ r ∷ []) ≡ count_by p rs + (0 + cond (p r) 1 0) =
    sum_by-append (λ x. cond (p x) 1 0) rs (r ∷ []) in
    let one : count_by p rs + cond (p r) 1 0 ≡ count_by p (rs ++ r ∷ []) = omega (arith, all) in
    count_next (count_by p rs) (p r) ∙ ap capped one

pub covers_none : (c : Coverage) (words : ℕ) → c.counts.items ≡ replicate words 0 → c.elsewhere ≡ 0
    → Covers [] c
covers_none c words zeros none = record {
  at = λ place below.
      let many : length c.counts.items ≡ words = ap length zeros ∙ length-replicate words 0 in
      ap (λ xs. get_or xs place 0) zeros ∙ get_or-replicate words place 0 0 (omega (arith, below, many));
  elsewhere = none;
}

pub covers_more : (rs : List Retired) (r : Retired) (c d : Coverage)
    → Covers rs c → Counts c r d → Covers (rs ++ r ∷ []) d
covers_more rs r c d before now = record {
  at = λ place below.
      let within : place < length c.counts.items = omega (arith, below, now.units_kept) in
      let P : ℕ → CodeUnit → Type 0 = λ b u.
      get_or d.counts.items place 0 ≡ capped (count_by (begins_at (b + bytes_of u * place)) (rs ++ r ∷ [])) in
      let first = c.base + bytes_of c.unit * place in
      let here : P c.base c.unit =
      now.at place within ∙ ap (λ n. counted n (begins_at first r)) (before.at place within) ∙ count_last (begins_at first) rs r in
      subst (λ u. P d.base u) (sym now.unit_kept) (subst (λ b. P b c.unit) (sym now.base_kept) here);
  elsewhere =
      let Q : CodeUnit → ℕ → ℕ → Type 0 = λ u b n.
      d.elsewhere ≡ capped (count_by (begins_elsewhere u b n) (rs ++ r ∷ [])) in
      let outside = begins_elsewhere c.unit c.base (length c.counts.items) in
      let here : Q c.unit c.base (length c.counts.items) =
      now.elsewhere ∙ ap (λ n. counted n (outside r)) before.elsewhere ∙ count_last outside rs r in
      subst (λ n. Q d.unit d.base n) (sym now.units_kept)
      (subst (λ u. Q u d.base (length c.counts.items)) (sym now.unit_kept) (subst (λ b. Q c.unit b (length c.counts.items)) (sym now.base_kept) here));
}
