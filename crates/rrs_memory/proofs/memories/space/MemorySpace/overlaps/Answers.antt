use Rattle.std.proofs.Common.{ap, rules, tests}
use Rattle.std.proofs.lemmas.Iterator.{cases_from_any, YieldsList-from_slice}
use Rattle.rrs_memory.specs.declared.memories.space.MemoryRegion.{MemoryRegion}
use Rattle.rrs_memory.specs.SpaceFields.{region_of}
use Rattle.rrs_memory.specs.Spaces.{Overlaps}
use Rattle.rrs_memory.proofs.RegionFields.{any_overlaps}
use Rattle.rrs_memory.proofs.memories.space.MemorySpace.overlaps.Goals as goal

pub returns : goal.returns
returns g c =
    let fields = c.self.inside.regions.items in
    let Yes : MemoryRegion g.row.M.Denot → Type 0 = λ x. Overlaps c.args.base c.args.size (region_of x) in
    let No : MemoryRegion g.row.M.Denot → Type 0 = λ x. Yes x → ⊥ in
    any_overlaps
    fields
    c.args.self.now.regions
    c.args.base
    c.args.size
    c.any.result
    (ap (λ s. s.regions) c.self.view_is)
    (cases_from_any _ _ _ Yes No c.any.ensures.ran (YieldsList-from_slice fields cc) (λ x q k. search (rules, tests)) (λ x q k. search (rules, tests)))
