-- The write is one of the words, at its distance from where RAM begins.
use Rattle.std.proofs.Common.{◌≤◌, sym, ap, ◌∙◌, rules, arith}
use Rattle.std.proofs.lemmas.Bool.{OnTrue_at, OnTrue_from, OnFalse_at, OnFalse_from}
use Rattle.rrs_memory.specs.Bytes.{width}
use Rattle.rrs_memory.specs.SliceBytes.{bytes_from}
use Rattle.rrs_memory.proofs.SliceWords.{writable_from, store_from, lawful_from, ends_from, lies_same}
use Rattle.rrs_board.specs.Registers.{ram_start}
use Rattle.rrs_board.proofs.memory.RamMemory.write_mem.Goals as goal

pub returns-clause-laws : goal.returns-clause-laws
returns-clause-laws c =
    let words = c.args.self.now.mem.items in
    let a = c.args.addr in
    let n = c.args.size in
    let wrote = c.put.ensures in
    let from : ram_start ≤ a = omega arith in
    record {
      granted = wrote.laws.granted ∙ sym (writable_from ram_start a n c.requires (omega arith) words from);
      written = OnTrue_from _ _ (λ t. store_from ram_start a n c.requires (omega arith) words c.put.new.self.mem.items c.args.store_data from (OnTrue_at t wrote.laws.written));
      refused = OnFalse_from _ _ (λ f. ap (bytes_from ram_start) (OnFalse_at f wrote.did.refused));
      writable_kept = lies_same ram_start words c.put.new.self.mem.items wrote.did.length_kept;
      layout_kept = search rules;
      lawful = lawful_from ram_start words a (width n);
      ends = ends_from ram_start words;
    }
