-- A stretch more is marked.
use Rattle.std.proofs.Common.{◌≡◌, ℕ, ◌<◌, ◌≤◌, Bool, true, false, nat_lt, vec_len, slice_index_or, refl, sym, ◌∙◌, arith, rules}
use Rattle.std.proofs.lemmas.Bool.Decides.{nat_tests}
use Rattle.rrs_exec.specs.Protection.{mark_of}
use Rattle.rrs_exec.specs.declared.marks.Protection.TheVariants.{Unmapped}
use Rattle.rrs_exec.proofs.marks.marks_of.Goals as goal

-- each page has its mark, from before or of the stretch
marked-to : (c : goal.In_ok-resize) (p : ℕ) → p < c.min-next.result → (t : Bool) → nat_lt p c.stretches.page ≡ t
    → slice_index_or c.resize.new.self.items p Unmapped ≡ mark_of c.args.ranges.now p
marked-to c p below true is =
    let before : p < c.stretches.page = grind (arith, nat_tests, is) in
    let long : p < vec_len c.stretches.marks = omega (arith, before, c.stretches.invariant.marked.long, c.stretches.marks.ok) in
    c.in_ok-resize.ensures.by_index.0 p Unmapped below long ∙ c.stretches.invariant.marked.each p before
marked-to c p below false is =
    let from : c.stretches.page ≤ p = grind (arith, nat_tests, is) in
    let past : vec_len c.stretches.marks ≤ p = omega (arith, from, c.stretches.invariant.marked.long, c.stretches.marks.ok) in
    let to : p < c.next_change.result = omega (arith, below, c.min-next.ensures) in
    c.in_ok-resize.ensures.by_index.1 p Unmapped (search rules) past below
    ∙ c.mark_of.ensures ∙ sym (c.next_change.ensures.same p from to)

pub stretches-preserved : goal.stretches-preserved
stretches-preserved c = record {
  marked = record {
    long = omega (arith, c.in_ok-resize.ensures.len, c.resize.new.self.ok);
    each = λ p below. marked-to c p below (nat_lt p c.stretches.page) refl;
  };
  within = omega (arith, c.min-next.ensures, c.from.ensures);
}
