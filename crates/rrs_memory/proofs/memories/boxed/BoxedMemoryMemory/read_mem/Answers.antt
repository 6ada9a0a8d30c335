use Rattle.rrs_memory.specs.Bytes.{width, Reads}
use Rattle.rrs_memory.proofs.Boxes.{rebuilt}
use Rattle.rrs_memory.proofs.memories.boxed.BoxedMemoryMemory.read_mem.Goals as goal

pub returns : goal.returns
returns g c =
    let entry = g.dyn-1.0.entry in
    let box = c.args.self.now.memory in
    let after = rebuilt {T = λ v. (entry v).0.Denot} (λ v x. record box { vtable = v; value = x }) (λ v x y. Reads (entry v).1.bytes (entry v).1.writable (entry v).1.layout x y c.args.addr (width c.args.size) c.read_mem.result × (entry v).1.reads x c.args.addr c.args.size y c.read_mem.result) _ (box.vtable, box.value) (search) c.read_mem.new.self c.read_mem.ensures in
    let laws = after.1.0 in
    record {
      laws = rw after.2 (record {
        value = laws.value;
        bytes_kept = laws.bytes_kept;
        writable_kept = laws.writable_kept;
        layout_kept = laws.layout_kept;
        lawful = laws.lawful;
        ends = laws.ends;
      });
      did = (after.0, after.1.1, after.2);
    }
