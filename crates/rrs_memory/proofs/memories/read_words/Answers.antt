-- The bytes lie in one word, and its part is their value.
use Rattle.std.proofs.Common.{◌≡◌, ◌/◌, ◌%◌, ◌^◌, slice_index, sym, ap, ◌∙◌, Some, arith}
use Rattle.std.proofs.lemmas.Nat.{and_mask}
use Rattle.rrs_memory.specs.Bytes.{width}
use Rattle.rrs_memory.proofs.VecWords.{value_of_bytes, aligned_in_word}
use Rattle.rrs_memory.proofs.memories.read_words.Goals as goal

pub returns : goal.returns
returns c =
    let words = c.args.words.now in
    let a = c.args.addr in
    let n = width c.args.size in
    let part : c.part_of.result ≡ slice_index words (a / 4) / 256 ^ (a % 4) % 256 ^ n =
    c.part_of.ensures ∙ ap (λ x. slice_index words (a / 4) / 256 ^ x % 256 ^ n) (and_mask a 2) in
    ap Some part ∙ sym (value_of_bytes words a n (omega arith) (omega arith) (aligned_in_word a c.args.size c.requires))
