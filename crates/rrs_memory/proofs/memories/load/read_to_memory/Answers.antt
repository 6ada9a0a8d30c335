use Rattle.std.proofs.Common.{◌++◌, [], ◌∷◌, refl, ◌∙◌, arith}
use Rattle.std.proofs.lemmas.List.{length_push}
use Rattle.std.proofs.KnownBytes.{Consumes-trans}
use Rattle.rrs_memory.proofs.LoadLemmas.{Loaded-next, Loads-refused, writes-next, writes-past}
use Rattle.rrs_memory.proofs.memories.load.read_to_memory.Goals as goal

pub loop-addr-preserved : goal.loop-addr-preserved
loop-addr-preserved g c =
    let so_far = c.loop-addr.invariant in
    let wrote = c.in_default.ensures.laws in
    let given = rw c.in-Ok-Some.field-0-is at c.in-Ok-Some.ensures in
    record {
      input = so_far.input ++ c.in-Ok-Some.byte ∷ [];
      placed = omega (arith, length_push so_far.input c.in-Ok-Some.byte, so_far.placed);
      loaded = Loaded-next _ _ _ _ _ _ _ _ _ _ so_far.loaded so_far.placed (omega arith) given.0 refl so_far.writable_kept wrote.granted wrote.lawful wrote.written;
      consumed = Consumes-trans _ _ _ _ _ so_far.consumed given.1;
      made = writes-next _ _ _ _ _ _ _ _ _ so_far.input _ _ _ so_far.made so_far.placed (omega arith) refl so_far.writable_kept wrote.granted c.in_default.ensures.did;
      writable_kept = wrote.writable_kept ∙ so_far.writable_kept;
      layout_kept = wrote.layout_kept ∙ so_far.layout_kept;
    }

pub returns-in-Err-write_byte-clause-loads : goal.returns-in-Err-write_byte-clause-loads
returns-in-Err-write_byte-clause-loads g c =
    let so_far = c.loop-addr.invariant in
    let refused = c.in-Err-write_byte.ensures in
    let given = rw c.in-Ok-Some.field-0-is at c.in-Ok-Some.ensures in
    Loads-refused _ _ _ _ _ _ _ _ _ _ _ so_far.input _ so_far.loaded so_far.placed so_far.consumed given.1 so_far.writable_kept refused.laws.granted refused.laws.refused refused.refused

pub returns-in-Err-write_byte-clause-accesses : goal.returns-in-Err-write_byte-clause-accesses
returns-in-Err-write_byte-clause-accesses g c =
    let so_far = c.loop-addr.invariant in
    let refused = c.in-Err-write_byte.ensures in
    let given = rw c.in-Ok-Some.field-0-is at c.in-Ok-Some.ensures in
    record {
      input = so_far.input ++ c.in-Ok-Some.byte ∷ [];
      consumed = Consumes-trans _ _ _ _ _ so_far.consumed given.1;
      made = writes-next _ _ _ _ _ _ _ _ _ so_far.input _ _ _ so_far.made so_far.placed (omega arith) refl so_far.writable_kept refused.laws.granted refused.did;
    }

pub returns-in-Ok-Some-next_byte-clause-accesses : goal.returns-in-Ok-Some-next_byte-clause-accesses
returns-in-Ok-Some-next_byte-clause-accesses g c =
    let so_far = c.loop-addr.invariant in
    let past = c.in-Ok-Some-next_byte in
    let given = rw past.field-0-is at past.ensures in
    record {
      input = so_far.input ++ past.field-0-0 ∷ [];
      consumed = Consumes-trans _ _ _ _ _ so_far.consumed given.1;
      made = writes-past _ _ _ _ _ so_far.input _ _ so_far.made (omega arith);
    }
