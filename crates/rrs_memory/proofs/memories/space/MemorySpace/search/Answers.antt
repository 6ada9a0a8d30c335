use Rattle.std.proofs.Common.{ap, arith}
use Rattle.rrs_memory.proofs.SearchOrder.{counts_search, compares_search}
use Rattle.rrs_memory.proofs.memories.space.MemorySpace.search.Goals as goal

pub returns-clause-counts : goal.returns-clause-counts
returns-clause-counts g c =
    let view = ap (λ s. s.regions) c.self.view_is in
    let few = rw c.deref.ensures.value at c.find-found.ensures.few in
    counts_search _ _ c.self.invariant.1 c.args.self.now _ c.self.inside.looked_at _ view (ap (λ s. s.looked_at) c.self.view_is) c.saturating_add-self-inside.ensures (omega (arith, few, c.count_of-before.ensures))

pub returns-clause-compares : goal.returns-clause-compares
returns-clause-compares g c =
    let view = ap (λ s. s.regions) c.self.view_is in
    let some = rw c.deref-2.ensures.value at c.find-found.ensures.some in
    compares_search _ _ c.self.invariant.1 c.args.self.now c.self.inside.looked_at _ _ view (ap (λ s. s.looked_at) c.self.view_is) c.saturating_add-self-inside.ensures (λ any. omega (arith, some any))
