-- The memory of the region that serves the address calls its reads pure.
use Rattle.std.proofs.Common.{◌≡◌, ◌≤◌, ◌-◌, ◌^◌, map, ap, arith}
use Rattle.std.proofs.lemmas.Bool.{OnTrue_from, OnTrue_at}
use Rattle.rrs_memory.specs.SpaceFields.{region_of}
use Rattle.rrs_memory.proofs.RegionFields.{served_field}
use Rattle.rrs_memory.proofs.PureReads.{pure_there}
use Rattle.rrs_memory.proofs.memories.space.MemorySpaceMemory.reads_are_pure.Goals as goal

pub returns-in-Some : goal.returns-in-Some
returns-in-Some g c =
    let memory = g.M.Memory in
    let m = c.args.self.now in
    let view : map region_of c.self.inside.regions.items ≡ m.regions = ap (λ s. s.regions) c.self.view_is in
    let seen = rw (c.in-Some.is, c.deref.ensures.value, view) at c.find.ensures.region in
    let f = served_field c.self.inside.regions.items m.regions c.in-Some.index c.index.result.now c.args.addr view seen c.index.ensures in
    let fits : m.looked_at ≤ 2 ^ 64 - 1 = omega (arith, ap (λ s. s.looked_at) c.self.view_is) in
    record {
      pure = OnTrue_from _ _ (λ yes. pure_there memory.reads memory.writes memory.bytes m c.args.addr c.in-Some.index (region_of c.index.result.now)
          (rw view at c.self.invariant.0) fits f.stands f.hit (OnTrue_at yes c.reads_are_pure.ensures));
    }
