-- The write is one of the words at its distance from the base.
use Rattle.std.proofs.Common.{◌-◌, ◌≤◌, sym, ap, ◌∙◌, rules, arith}
use Rattle.std.proofs.lemmas.Bool.{OnTrue_at, OnTrue_from, OnFalse_at, OnFalse_from}
use Rattle.rrs_memory.specs.Bytes.{width, store, all_writable}
use Rattle.rrs_memory.specs.VecBytes.{bytes_of_words, lies_in_words}
use Rattle.rrs_memory.specs.SliceBytes.{word_start, bytes_from}
use Rattle.rrs_memory.proofs.SliceWords.{writable_from, store_from, lawful_from, ends_from, lies_same}
use Rattle.rrs_memory.proofs.memories.slice.SliceMemoryMemory.write_mem.Goals as goal

pub returns-clause-laws : goal.returns-clause-laws
returns-clause-laws c =
    let m = c.args.self.now in
    let a = c.args.addr in
    let n = c.args.size in
    let wrote = c.write_words.ensures in
    let start = c.word_address-start.ensures in
    let from : word_start m.base ≤ a = omega arith in
    let moved = ap (λ x. store (bytes_of_words m.words.now) (a - x) (width n) c.args.store_data) start in
    record {
      granted = wrote.answer
          ∙ ap (λ x. all_writable (lies_in_words m.words.now) (a - x) (width n)) start
          ∙ sym (writable_from m.base a n c.requires (omega arith) m.words.now from);
      written = OnTrue_from _ _ (λ t. store_from m.base a n c.requires (omega arith) _ _ _ from (OnTrue_at t wrote.written ∙ moved));
      refused = OnFalse_from _ _ (λ f. ap (bytes_from m.base) (OnFalse_at f wrote.refused));
      writable_kept = lies_same m.base _ _ wrote.length_kept;
      layout_kept = search rules;
      lawful = lawful_from m.base m.words.now a (width n);
      ends = ends_from m.base m.words.now;
    }

pub returns-clause-did : goal.returns-clause-did
returns-clause-did c = record {
  written = (returns-clause-laws c).written;
  refused = search rules;
  lent = record { same_words = search rules; same_base = search rules; length_kept = c.write_words.ensures.length_kept };
}
