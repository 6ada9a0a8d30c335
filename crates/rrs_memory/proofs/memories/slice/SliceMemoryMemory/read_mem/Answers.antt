-- The bytes of the access are those of the words at its distance from the base.
use Rattle.std.proofs.Common.{sym, ap, ◌∙◌, ◌-◌, ◌≤◌, arith}
use Rattle.rrs_memory.specs.Bytes.{width, little_endian}
use Rattle.rrs_memory.specs.VecBytes.{bytes_of_words}
use Rattle.rrs_memory.specs.SliceBytes.{word_start, bytes_from, lies_from}
use Rattle.rrs_memory.proofs.SliceWords.{value_from, lawful_from, ends_from}
use Rattle.rrs_memory.proofs.memories.slice.SliceMemoryMemory.read_mem.Goals as goal

pub returns-clause-laws : goal.returns-clause-laws
returns-clause-laws c =
    let m = c.args.self.now in
    let a = c.args.addr in
    let n = c.args.size in
    let start = c.word_address-start.ensures in
    let kept = c.read_lent.ensures.kept in
    let from : word_start m.base ≤ a = omega arith in
    record {
      value = c.read_lent.ensures.value
          ∙ ap (λ x. little_endian (bytes_of_words m.words.now) (a - x) (width n)) start
          ∙ sym (value_from m.base a n c.requires (omega arith) m.words.now from);
      bytes_kept = ap (bytes_from m.base) kept;
      writable_kept = ap (lies_from m.base) kept;
      layout_kept = search;
      lawful = lawful_from m.base m.words.now a (width n);
      ends = ends_from m.base m.words.now;
    }
