-- The region that is compared first serves the address.
use Rattle.std.proofs.Common.{◌≡◌, ℕ, map, refl, ap, ◌∙◌, arith}
use Rattle.rrs_memory.specs.Bytes.{width, Writes}
use Rattle.rrs_memory.specs.SpaceFields.{region_of}
use Rattle.rrs_memory.proofs.Regions.{served_offset, writes_there, becomes_there, access_there}
use Rattle.rrs_memory.proofs.RegionFields.{served_field, with_memory_of}
use Rattle.rrs_memory.proofs.SearchOrder.{region_replaced, counts_search, compares_search}
use Rattle.rrs_memory.proofs.memories.space.MemorySpaceMemory.write_mem.Goals as goal

pub write-answer-requires : goal.write-answer-requires
write-answer-requires g c =
    let view : map region_of c.self.inside.regions.items ≡ c.args.self.now.regions = ap (λ s. s.regions) c.self.view_is in
    let serves = rw (ap (λ xs. map region_of xs) c.deref.ensures.value ∙ view) at (c.if-not-is_served_by.ensures refl) in
    let f = served_field _ _ _ c.index_mut.result.now _ view serves c.index_mut.ensures.value in
    let at = served_offset _ _ _ _ c.args.size (rw view at c.self.invariant.0) c.requires f.stands f.hit in
    record { from = at.0; aligned = at.1 }

pub invariant_of-self : goal.invariant_of-self
invariant_of-self g c =
    let view : map region_of c.self.inside.regions.items ≡ c.args.self.now.regions = ap (λ s. s.regions) c.self.view_is in
    let serves = rw (ap (λ xs. map region_of xs) c.deref.ensures.value ∙ view) at (c.if-not-is_served_by.ensures refl) in
    let f = served_field _ _ _ c.index_mut.result.now _ view serves c.index_mut.ensures.value in
    region_replaced _ _ c.self.invariant.1 _ _ _ _ view f.here c.write-answer.ensures.rest_kept (rw view at c.self.invariant.0)

pub returns : goal.returns
returns g c =
    let view : map region_of c.self.inside.regions.items ≡ c.args.self.now.regions = ap (λ s. s.regions) c.self.view_is in
    let count = ap (λ s. s.looked_at) c.self.view_is in
    let serves = rw (ap (λ xs. map region_of xs) c.deref.ensures.value ∙ view) at (c.if-not-is_served_by.ensures refl) in
    let f = served_field _ _ _ c.index_mut.result.now _ view serves c.index_mut.ensures.value in
    let e = with_memory_of _ _ _ _ _ view f.here c.write-answer.ensures.rest_kept in
    let space = rw view at c.self.invariant.0 in
    let counts = counts_search _ _ c.self.invariant.1 c.args.self.now _ c.self.inside.looked_at 1 view count c.saturating_add-self-inside.ensures (omega arith) in
    let Law : g.row.M.Denot → ℕ → g.row.M.Denot → Type 0 =
    λ before offset after. Writes g.M.Memory.bytes g.M.Memory.writable g.M.Memory.layout before after offset (width c.args.size) c.args.store_data c.write-answer.result in
    record {
      laws = writes_there g.M.Memory.bytes g.M.Memory.writable g.M.Memory.layout _ _ _ _ space c.requires _ _ _ f.stands f.hit e _ _ c.write-answer.ensures.laws;
      did = access_there _ _ _ _ _ _ _ space f.stands f.hit e counts c.write-answer.ensures.did;
      served = becomes_there Law _ _ _ _ _ _ space f.stands f.hit e c.write-answer.ensures.laws;
      compares = compares_search _ _ c.self.invariant.1 c.args.self.now c.self.inside.looked_at 1 _ view count c.saturating_add-self-inside.ensures (λ some. omega arith);
    }
