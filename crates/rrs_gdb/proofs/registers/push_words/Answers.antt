use Rattle.std.proofs.Common.{◌++◌, ◌∷◌, [], List, ℕ, ◌∙◌, ap, get_or, take, append_assoc, arith}
use Rattle.std.proofs.lemmas.List.{take_more}
use Rattle.rrs_gdb.specs.Shown.{text_of, word_bytes, words_text}
use Rattle.rrs_gdb.proofs.ShownLemmas.{words_text-append, words_text-one}
use Rattle.rrs_gdb.proofs.registers.push_words.Goals as goal

pub loop-word-preserved : goal.loop-word-preserved
loop-word-preserved c =
    let words = c.args.words.now in
    let i = c.loop-word.word-index in
    let w = get_or words i 0 in
    let more = take_more words i 0 (omega arith) in
    rw (more, words_text-append (take i words) (w ∷ []), words_text-one w)
    (c.in_ok-push_word.ensures ∙ ap (λ (xs : List ℕ). xs ++ text_of (word_bytes w)) c.loop-word.invariant
    ∙ append_assoc c.args.text.now.items (words_text (take i words)) (text_of (word_bytes w)))
