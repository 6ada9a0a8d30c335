use Rattle.std.proofs.Common.{Some, option_map, refl, sym, ap, ◌∙◌}
use Rattle.rrs_memory.specs.SpaceFields.{with_inner}
use Rattle.rrs_memory.proofs.RegionFields.{stands_of, with_region_memory_of}
use Rattle.rrs_memory.proofs.SearchOrder.{region_replaced}
use Rattle.rrs_memory.proofs.memories.space.MemorySpace.memory_mut.Goals as goal

pub invariant_of-self-lent : goal.invariant_of-self-lent
invariant_of-self-lent g c w =
    let view = ap (λ s. s.regions) c.self.view_is in
    let x = c.index_mut.result.now in
    let stands = stands_of _ _ _ x view c.requires c.index_mut.ensures.value in
    region_replaced _ _ c.self.invariant.1 _ _ x (with_inner x w) view stands.0 refl (rw view at c.self.invariant.0)

pub returns : goal.returns
returns g c =
    let view = ap (λ s. s.regions) c.self.view_is in
    let x = c.index_mut.result.now in
    let stands = stands_of _ _ _ x view c.requires c.index_mut.ensures.value in (
      (refl {a = c.memory_mut.result.ghost_name}, λ w. with_region_memory_of _ _ _ _ x (with_inner x w) c.self.view_is stands.0 refl),
      record { writes_back = tt; value = ap (option_map (λ r. r.memory)) stands.1 ∙ ap Some (sym c.memory_mut.ensures.value) },
    )
