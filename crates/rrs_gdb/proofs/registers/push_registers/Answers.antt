use Rattle.std.proofs.Common.{◌≡◌, ◌≤◌, ◌++◌, List, ℕ, length, take, drop, ap, ◌∙◌, arith, length-drop}
use Rattle.std.proofs.lemmas.List.{take_all}
use Rattle.rrs_gdb.specs.Shown.{words_text}
use Rattle.rrs_gdb.proofs.ShownLemmas.{registers_appended}
use Rattle.rrs_gdb.proofs.registers.push_registers.Goals as goal

pub returns : goal.returns
returns c =
    let registers = c.args.hart.now.registers in
    let long : length (drop 1 registers) ≤ 31 = omega (arith, length-drop 1 registers, c.register_count-count.ensures.whole) in
    let all : take 31 (drop 1 registers) ≡ drop 1 registers = take_all 31 (drop 1 registers) long in
    λ bytes writable. registers_appended _ _ _ _ (drop 1 registers) _ c.in_ok-push_word.ensures
    (c.in_ok-push_words.ensures ∙ ap (λ (xs : List ℕ). c.push_word.new.text.items ++ words_text xs) all)
    c.in_ok-push_word-2.ensures
