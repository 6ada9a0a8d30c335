-- Pages that are touched by the same ranges have one mark.
use Rattle.std.proofs.Common.{◌≡◌, ℕ, zero, suc, ◌+◌, ◌<◌, List, [], ◌∷◌, length, slice_index_or, if◌then◌else◌, refl, ap, ◌∙◌, arith}
use Rattle.rrs_exec.specs.declared.marks.PageRange.{PageRange}
use Rattle.rrs_exec.specs.declared.marks.Protection.{Protection}
use Rattle.rrs_exec.specs.Protection.{touches, stronger, marked_from}

-- what is so of the first items and of one more is so of all of these
pub one_more : (P : PageRange → Type 0) (i : ℕ) (ranges : List PageRange) (other : PageRange) → P (slice_index_or ranges i other) → i < length ranges
    → ((k : ℕ) (d : PageRange) → k < i → P (slice_index_or ranges k d)) → (k : ℕ) (d : PageRange) → k < i + 1 → P (slice_index_or ranges k d)
one_more P i [] other is below before k d least = absurd (omega arith)
one_more P zero (r ∷ ranges) other is below before zero d least = is
one_more P zero (r ∷ ranges) other is below before (suc k) d least = absurd (omega arith)
one_more P (suc i) (r ∷ ranges) other is below before zero d least = before zero d (omega arith)
one_more P (suc i) (r ∷ ranges) other is below before (suc k) d least =
    one_more P i ranges other is (omega arith) (λ n e small. before (suc n) e (omega arith)) k d (omega arith)

pub one_mark : (ranges : List PageRange) (p q : ℕ)
    → ((k : ℕ) (d : PageRange) → k < length ranges → touches (slice_index_or ranges k d) p ≡ touches (slice_index_or ranges k d) q)
    → (mark : Protection) → marked_from mark ranges p ≡ marked_from mark ranges q
one_mark [] p q same mark = refl
one_mark (r ∷ ranges) p q same mark =
    ap (λ t. marked_from (if t then stronger mark r.protection else mark) ranges p) (same zero r (omega arith))
    ∙ one_mark ranges p q (λ k d less. same (suc k) d (omega arith)) (if touches r q then stronger mark r.protection else mark)
