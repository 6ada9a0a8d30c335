use Rattle.std.proofs.Common.{length, nat_lt, ap, arith}
use Rattle.std.proofs.lemmas.List.{length-map}
use Rattle.rrs_memory.specs.SpaceFields.{region_of}
use Rattle.rrs_memory.proofs.memories.space.MemorySpace.has_region.Goals as goal

pub returns : goal.returns
returns g c =
    ap (λ n. nat_lt c.args.index n)
    (omega (arith, ap (λ s. length s.regions) c.self.view_is, length-map c.self.inside.regions.items region_of, c.self.inside.regions.ok.0))
