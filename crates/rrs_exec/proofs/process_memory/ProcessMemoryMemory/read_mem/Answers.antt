-- The access reads one of the words, or a zero, or lies outside.
use Rattle.std.proofs.Common.{◌/◌, ◌≤◌, length, refl, ap, sym, ◌∙◌, arith}
use Rattle.rrs_exec.specs.ProcessPlaces.{distance, distance_below}
use Rattle.rrs_exec.proofs.ProcessAccesses.{kept, reads, low_value, high_value, zero_value, no_value}
use Rattle.rrs_exec.proofs.process_memory.ProcessMemoryMemory.read_mem.Goals as goal

pub returns-in-Some-clause-laws : goal.returns-in-Some-clause-laws
returns-in-Some-clause-laws c =
    let m = c.args.self.now in
    reads m c.args.addr c.args.size c.requires (omega arith) _ _ (kept m c.args.addr c.args.size c.requires (omega arith) _ _ (ap (λ z. z.words.mem.items) c.get.ensures.kept) refl) refl refl
    (low_value m c.args.addr c.args.size c.requires (omega arith) c.distance.result _ c.distance.ensures c.in-Some.ensures.there c.in-Some.ensures.value)

pub returns-in-Some-get-clause-laws : goal.returns-in-Some-get-clause-laws
returns-in-Some-get-clause-laws c =
    let m = c.args.self.now in
    reads m c.args.addr c.args.size c.requires (omega arith) _ _ (kept m c.args.addr c.args.size c.requires (omega arith) _ _ (ap (λ z. z.words.mem.items) c.get.ensures.kept) (ap (λ z. z.words.mem.items) c.get-2.ensures.kept)) refl refl
    (high_value m c.args.addr c.args.size c.requires (omega arith) c.distance_below.result c.distance_below.ensures c.in-Some-get.ensures.there _ c.in-Some-get.ensures.value)

pub returns-then-has-clause-laws : goal.returns-then-has-clause-laws
returns-then-has-clause-laws c =
    let m = c.args.self.now in
    let no_low : length m.low.words.mem.items ≤ distance m.base c.args.addr / 4 = omega (arith, c.distance.ensures, c.in_default.ensures.none) in
    let no_high : length m.high.words.mem.items ≤ distance_below m.end c.args.addr / 4 = omega (arith, c.distance_below.ensures, c.in_default-get.ensures.none) in
    reads m c.args.addr c.args.size c.requires (omega arith) _ _ (kept m c.args.addr c.args.size c.requires (omega arith) _ _ (ap (λ z. z.words.mem.items) c.get.ensures.kept) (ap (λ z. z.words.mem.items) c.get-2.ensures.kept)) refl refl
    (zero_value m c.args.addr c.args.size c.requires (omega arith) (sym c.has.ensures ∙ c.if-has.true) no_low no_high)

pub returns-else-has-clause-laws : goal.returns-else-has-clause-laws
returns-else-has-clause-laws c =
    let m = c.args.self.now in
    reads m c.args.addr c.args.size c.requires (omega arith) _ _ (kept m c.args.addr c.args.size c.requires (omega arith) _ _ (ap (λ z. z.words.mem.items) c.get.ensures.kept) (ap (λ z. z.words.mem.items) c.get-2.ensures.kept)) refl refl
    (no_value m c.args.addr c.args.size c.requires (omega arith) (sym c.has.ensures ∙ c.if-has.false))
