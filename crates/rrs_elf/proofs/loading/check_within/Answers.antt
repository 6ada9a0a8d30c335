-- The first address past the end is the end itself.
use Rattle.std.proofs.Common.{◌≡◌, ℕ, ◌+◌, ◌-◌, ◌<◌, ◌≤◌, true, false, arith}
use Rattle.std.proofs.lemmas.Bool.Decides.{nat_tests}
use Rattle.rrs_elf.specs.Headers.{segment_start}
use Rattle.rrs_elf.specs.Loading.{loaded_size, lies_between}
use Rattle.rrs_elf.proofs.loading.check_within.Goals as goal

not_end : (start end : ℕ) → lies_between start end end ≡ false
not_end start end = grind (arith, nat_tests)

between : (start end a : ℕ) → start ≤ a → a < end → lies_between start end a ≡ true
between start end a from below = grind (arith, nat_tests)

pub returns-then-from-end-2-clause-outside : goal.returns-then-from-end-2-clause-outside
returns-then-from-end-2-clause-outside c =
    let header = c.read_program_header-segment.ensures in
    let first : c.start-first.result ≡ segment_start c.args.addresses c.args.file.now c.args.index = c.start-first.ensures c.args.file.now c.args.index header in
    let size : c.size_to_load-size.result ≡ loaded_size c.args.file.now c.args.index = c.size_to_load-size.ensures c.args.file.now c.args.index header in
    let begun : c.args.start ≤ c.start-first.result = omega (arith, c.if-first-start.false) in
    let inside : c.start-first.result < c.args.end = omega (arith, c.if-from-end.false, c.from.ensures) in
    let past : c.args.end < c.start-first.result + c.size_to_load-size.result = omega (arith, c.if-from-end-2.true, c.from-2.ensures, c.from-3.ensures) in (
      c.args.end - c.start-first.result,
      omega (arith, size, past, inside),
      omega (arith, first, inside),
      not_end c.args.start c.args.end,
      λ j below. between c.args.start c.args.end _ (omega (arith, first, begun)) (omega (arith, first, below, inside)),
    )
