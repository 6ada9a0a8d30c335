-- Zeros are appended, of which one is written; or the address lies outside.
use Rattle.std.proofs.Common.{◌≡◌, ◌<◌, ◌≤◌, true, refl, ap, sym, subst, ◌∙◌, arith}
use Rattle.std.proofs.Math.Path.{fun_ext}
use Rattle.std.proofs.lemmas.Bool.{OnTrue_at}
use Rattle.std.proofs.lemmas.Bool.Decides.{nat_tests}
use Rattle.rrs_memory.specs.Bytes.{width, store, Writes}
use Rattle.rrs_exec.specs.ProcessMemories.{process_bytes, process_writable, process_layout, lies_between}
use Rattle.rrs_fast.proofs.ZeroBytes.{same_bytes}
use Rattle.rrs_exec.proofs.ProcessAccesses.{low_write, high_write, refused}
use Rattle.rrs_exec.proofs.process_memory.ProcessMemory.write_past.Goals as goal

pub returns-then-not-has-clause-laws : goal.returns-then-not-has-clause-laws
returns-then-not-has-clause-laws c =
    refused c.args.self.now c.args.addr c.args.size c.requires (omega arith) c.args.value (sym c.has.ensures ∙ c.if-not-has.true)

pub returns-then-addr-self-clause-laws : goal.returns-then-addr-self-clause-laws
returns-then-addr-self-clause-laws c =
    let m = c.args.self.now in
    let a = c.args.addr in
    let lies : lies_between m.base m.end a ≡ true = sym c.has.ensures ∙ c.if-not-has.false in
    let start : m.base ≤ a = grind (arith, nat_tests, lies) in
    let done : c.put.result ≡ true = c.put.ensures.there.1 c.grow.ensures.there in
    let same = fun_ext (same_bytes m.low.words.mem.items c.grow.new.self.words.mem.items c.grow.ensures.same) in
    subst (Writes process_bytes process_writable process_layout m _ a (width c.args.size) c.args.value) (sym done)
    (low_write m a c.args.size c.requires (omega arith) _ _ c.distance-place.result c.args.value start c.if-addr-self.true c.distance-place.ensures
    (OnTrue_at done c.put.ensures.written ∙ ap (λ f. store f c.distance-place.result (width c.args.size) c.args.value) same) refl refl refl)

pub returns-else-addr-self-clause-laws : goal.returns-else-addr-self-clause-laws
returns-else-addr-self-clause-laws c =
    let m = c.args.self.now in
    let a = c.args.addr in
    let lies : lies_between m.base m.end a ≡ true = sym c.has.ensures ∙ c.if-not-has.false in
    let below : a < m.end = grind (arith, nat_tests, lies) in
    let done : c.put-else-addr-self.result ≡ true = c.put-else-addr-self.ensures.there.1 c.grow-else-addr-self.ensures.there in
    let same = fun_ext (same_bytes m.high.words.mem.items c.grow-else-addr-self.new.self.words.mem.items c.grow-else-addr-self.ensures.same) in
    subst (Writes process_bytes process_writable process_layout m _ a (width c.args.size) c.args.value) (sym done)
    (high_write m a c.args.size c.requires (omega arith) _ _ c.distance_below-place.result c.args.value (omega (arith, c.if-addr-self.false)) below c.distance_below-place.ensures
    (OnTrue_at done c.put-else-addr-self.ensures.written ∙ ap (λ f. store f c.distance_below-place.result (width c.args.size) c.args.value) same) refl refl refl)
