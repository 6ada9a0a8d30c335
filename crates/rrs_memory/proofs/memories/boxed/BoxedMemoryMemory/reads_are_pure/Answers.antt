use Rattle.std.proofs.lemmas.Bool.{OnTrue_from, OnTrue_at}
use Rattle.rrs_memory.proofs.Boxes.{box_pure}
use Rattle.rrs_memory.proofs.memories.boxed.BoxedMemoryMemory.reads_are_pure.Goals as goal

pub returns : goal.returns
returns g c =
    let entry = g.dyn-1.0.entry in
    record {
      pure = OnTrue_from _ _ (λ yes. box_pure {T = λ v. (entry v).0.Denot} (λ m. m.memory) (λ v. (entry v).1.bytes) (λ v. (entry v).1.reads) (λ v. (entry v).1.writes)
          c.args.self.now c.args.addr _ (search) (OnTrue_at yes c.reads_are_pure.ensures));
    }
