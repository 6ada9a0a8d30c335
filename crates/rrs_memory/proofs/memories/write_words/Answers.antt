-- The bytes lie in one word, where they are replaced.
use Rattle.std.proofs.Common.{◌≡◌, ◌/◌, ◌%◌, slice_index, slice_set, ap, ◌∙◌, arith}
use Rattle.std.proofs.lemmas.Nat.{and_mask}
use Rattle.rrs_memory.specs.Bytes.{width}
use Rattle.rrs_memory.specs.VecBytes.{bytes_of_words}
use Rattle.rrs_memory.proofs.VecWords.{with_bytes, write_stores, aligned_in_word}
use Rattle.rrs_memory.proofs.memories.write_words.Goals as goal

pub returns-clause-written : goal.returns-clause-written
returns-clause-written c =
    let words = c.args.words.now in
    let a = c.args.addr in
    let n = width c.args.size in
    let word : c.with_part.result ≡ with_bytes (slice_index words (a / 4)) c.args.value n (a % 4) =
    c.with_part.ensures ∙ ap (λ x. with_bytes (slice_index words (a / 4)) c.args.value n x) (and_mask a 2) in
    ap (λ x. bytes_of_words (slice_set words (a / 4) x)) word
    ∙ write_stores words a n c.args.value (omega arith) (omega arith) (aligned_in_word a c.args.size c.requires)
