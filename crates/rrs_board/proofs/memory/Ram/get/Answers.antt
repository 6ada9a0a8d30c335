-- The value is that of the words that are there, or that of zeros.
use Rattle.std.proofs.Common.{◌≡◌, ◌<◌, ◌≤◌, ◌/◌, Some, length, sym, subst, ap, ◌∙◌, arith}
use Rattle.rrs_memory.specs.declared.memories.VecMemory.{VecMemory}
use Rattle.rrs_memory.specs.Bytes.{width, little_endian}
use Rattle.rrs_memory.specs.VecBytes.{vec_bytes}
use Rattle.rrs_fast.specs.declared.zero_words.ZeroWords.{ZeroWords}
use Rattle.rrs_board.proofs.PaddedWords.{fits, value_padded, zero_padded, none_padded}
use Rattle.rrs_board.proofs.memory.Ram.get.Goals as goal
use Rattle.rrs_board.proofs.memory.Ram.get.Goals.{then-place-self, else-place-self}

pub returns-in-Some-clause-value : goal.returns-in-Some-clause-value
returns-in-Some-clause-value c =
    let z = c.self.inside.words in
    let P : VecMemory → Type 0 = λ m. Some c.in-Some.value ≡ little_endian (vec_bytes m) c.args.place (width c.args.size) in
    let there : c.args.place / 4 < z.room = omega (arith, c.in-Some.ensures.there, fits z) in
    subst P c.self.view_is
    (sym (value_padded c.args.place c.args.size c.requires (omega arith) z.room there z.words.mem.items ∙ c.in-Some.ensures.value))

pub returns-clause-value : goal.returns-clause-value
returns-clause-value c =
    let z = c.self.inside.words in
    let P : VecMemory → Type 0 = λ m. c.if-place-self.result ≡ little_endian (vec_bytes m) c.args.place (width c.args.size) in
    let room : c.get.new.self.room ≡ z.room = ap (λ (words : ZeroWords). words.room) c.get.ensures.kept in
    let beyond : length z.words.mem.items ≤ c.args.place / 4 = c.get.ensures.none c.in_default.is in
    subst P c.self.view_is (elim c.if-place-self.branch [
      | then-place-self w ↦ w.result-is ∙ sym (zero_padded c.args.place c.args.size c.requires (omega arith) z.room (omega (arith, w.if-place-self.true, room)) z.words.mem.items beyond)
      | else-place-self w ↦ w.result-is ∙ sym (none_padded c.args.place c.args.size c.requires (omega arith) z.room (omega (arith, w.if-place-self.false, room)) z.words.mem.items)
    ])
