use Rattle.std.proofs.Common.{refl, arith}
use Rattle.rrs_files.specs.Entries.{HasRoom, HasNone}
use Rattle.rrs_files.proofs.Listing.{built}
use Rattle.rrs_files.proofs.entries.put_entry.Goals as goal

pub returns-then-as_slice-size : goal.returns-then-as_slice-size
returns-then-as_slice-size c = HasNone (grind arith) refl

pub returns : goal.returns
returns c =
    HasRoom (grind arith)
    (built c.args.entry c.args.name.now c.args.next c.record_size-size.result c.args.text.now.items
    _ _ _ _ _ _ c.record_size-size.ensures (rw c.to_le_bytes.ensures at c.append.ensures)
    (rw c.to_le_bytes-2.ensures at c.append-2.ensures)
    (rw c.to_le_bytes-3.ensures at c.append-3.ensures) c.append-4.ensures c.append-5.ensures
    c.append-6.ensures)
