use Rattle.std.proofs.Common.{ℕ, ap, ◌∙◌, false, arith}
use Rattle.rrs_memory.specs.Bytes.{width, Writes}
use Rattle.rrs_memory.proofs.Regions.{served_offset, writes_none, writes_there, becomes_none, becomes_there, access_none, access_there}
use Rattle.rrs_memory.proofs.RegionFields.{served_within, served_field, with_memory_of}
use Rattle.rrs_memory.proofs.SearchOrder.{region_replaced, counts_along, compares_along}
use Rattle.rrs_memory.proofs.memories.space.MemorySpace.write_by_search.Goals as goal

pub index_mut-requires : goal.index_mut-requires
index_mut-requires g c =
    let view = ap (λ s. s.regions) c.self.view_is ∙ c.in-Some.ensures.regions_kept in
    omega (arith, served_within _ _ _ _ view c.in-Some.ensures.region, c.self.inside.regions.ok.0)

pub write-requires : goal.write-requires
write-requires g c =
    let view = ap (λ s. s.regions) c.self.view_is ∙ c.in-Some.ensures.regions_kept in
    let f = served_field _ _ _ c.index_mut.result.now _ view c.in-Some.ensures.region c.index_mut.ensures.value in
    let at = served_offset _ _ _ _ c.args.size c.in-Some.ensures.space c.requires f.stands f.hit in
    record { from = at.0; aligned = at.1 }

pub invariant_of-self : goal.invariant_of-self
invariant_of-self g c =
    let view = ap (λ s. s.regions) c.self.view_is ∙ c.in-Some.ensures.regions_kept in
    let f = served_field _ _ _ c.index_mut.result.now _ view c.in-Some.ensures.region c.index_mut.ensures.value in
    region_replaced _ _ c.self.invariant.1 _ _ _ _ view f.here c.write.ensures.rest_kept c.in-Some.ensures.space

pub returns-in-Some : goal.returns-in-Some
returns-in-Some g c =
    let view = ap (λ s. s.regions) c.self.view_is ∙ c.in-Some.ensures.regions_kept in
    let f = served_field _ _ _ c.index_mut.result.now _ view c.in-Some.ensures.region c.index_mut.ensures.value in
    let e = with_memory_of _ _ _ _ _ view f.here c.write.ensures.rest_kept in
    let space = c.in-Some.ensures.space in
    let counts = counts_along _ _ _ (ap (λ s. s.looked_at) c.self.view_is) c.in-Some.ensures.counts in
    let Law : g.row.M.Denot → ℕ → g.row.M.Denot → Type 0 =
    λ before offset after. Writes g.M.Memory.bytes g.M.Memory.writable g.M.Memory.layout before after offset (width c.args.size) c.args.store_data c.write.result in
    record {
      laws = writes_there g.M.Memory.bytes g.M.Memory.writable g.M.Memory.layout _ _ _ _ space c.requires _ _ _ f.stands f.hit e _ _ c.write.ensures.laws;
      did = access_there _ _ _ _ _ _ _ space f.stands f.hit e counts c.write.ensures.did;
      served = becomes_there Law _ _ _ _ _ _ space f.stands f.hit e c.write.ensures.laws;
      compares = compares_along c.args.self.now _ _ (ap (λ s. s.looked_at) c.self.view_is) c.in-Some.ensures.compares;
    }

pub returns-in-None : goal.returns-in-None
returns-in-None g c =
    let none = c.in-None.ensures in
    let Law : g.row.M.Denot → ℕ → g.row.M.Denot → Type 0 =
    λ before offset after. Writes g.M.Memory.bytes g.M.Memory.writable g.M.Memory.layout before after offset (width c.args.size) c.args.store_data false in
    record {
      laws = writes_none g.M.Memory.bytes g.M.Memory.writable g.M.Memory.layout _ _ _ _ none.space c.requires c.ranges.addr.fits none.region none.regions_kept _;
      did = access_none _ _ _ _ none.region none.regions_kept none.counts;
      served = becomes_none Law _ _ _ none.region;
      compares = none.compares;
    }
