-- The write is one of the lower words, or of the upper ones.
use Rattle.std.proofs.Common.{refl, ap, arith}
use Rattle.std.proofs.lemmas.Bool.{OnTrue_at, OnTrue_from, OnFalse_at}
use Rattle.rrs_exec.proofs.ProcessBytes.{parts}
use Rattle.rrs_exec.proofs.ProcessAccesses.{low_put, high_put}
use Rattle.rrs_exec.proofs.process_memory.ProcessMemory.put.Goals as goal

pub returns-then-put-clause-written : goal.returns-then-put-clause-written
returns-then-put-clause-written c =
    let m = c.args.self.now in
    low_put m c.args.addr c.args.size c.requires (omega arith) _ _ c.distance.result c.args.value c.distance.ensures
    (c.put.ensures.there.0 c.if-put.true) (OnTrue_at c.if-put.true c.put.ensures.written) refl refl refl

pub returns-clause-written : goal.returns-clause-written
returns-clause-written c =
    let m = c.args.self.now in
    let same = OnFalse_at c.if-put.false c.put.ensures.refused in
    OnTrue_from _ _ (λ t. high_put m c.args.addr c.args.size c.requires (omega arith) _ _ c.distance_below.result c.args.value c.distance_below.ensures
    (c.put-2.ensures.there.0 t) (OnTrue_at t c.put-2.ensures.written)
    (ap (λ z. parts m.base m.split m.end z.words.mem.items c.put-2.new.self.words.mem.items) same) refl refl)
