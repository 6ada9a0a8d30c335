use Rattle.std.proofs.Common.{◌≡◌, ◌++◌, take}
use Rattle.rrs_gdb.specs.Shown.{words_text}
use Rattle.rrs_gdb.proofs.registers.push_words.Given as goal

abbrev pub invariant-loop-word : goal.invariant-loop-word
invariant-loop-word l = l.text.items ≡ l.initial.text.items ++ words_text (take l.word-index l.words)
