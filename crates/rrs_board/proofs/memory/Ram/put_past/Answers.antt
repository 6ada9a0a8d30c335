-- Zeros are appended, of which one is written.
use Rattle.std.proofs.Common.{◌≡◌, Bool, true, ap, sym, subst, ◌∙◌, arith}
use Rattle.std.proofs.Math.Path.{fun_ext}
use Rattle.std.proofs.lemmas.Bool.{OnTrue_at}
use Rattle.rrs_memory.specs.declared.memories.VecMemory.{VecMemory}
use Rattle.rrs_memory.specs.Bytes.{width, store, Writes}
use Rattle.rrs_memory.specs.VecBytes.{vec_bytes, vec_writable, vec_layout, VecWrites}
use Rattle.rrs_fast.proofs.ZeroBytes.{same_bytes}
use Rattle.rrs_board.specs.Ram.{all_words}
use Rattle.rrs_board.proofs.PaddedWords.{granted_write, did_write}
use Rattle.rrs_board.proofs.memory.Ram.put_past.Goals as goal

pub returns-clause-laws : goal.returns-clause-laws
returns-clause-laws c =
    let z = c.self.inside.words in
    let grown = c.grow.new.self in
    let new = c.put.new.self in
    let P : VecMemory → Type 0 = λ m. Writes vec_bytes vec_writable vec_layout m (all_words new) c.args.place (width c.args.size) c.args.value c.put.result in
    let Q : Bool → Type 0 = λ b. Writes vec_bytes vec_writable vec_layout (all_words z) (all_words new) c.args.place (width c.args.size) c.args.value b in
    let done : c.put.result ≡ true = c.put.ensures.there.1 c.grow.ensures.there in
    let same = fun_ext (same_bytes z.words.mem.items grown.words.mem.items c.grow.ensures.same) in
    subst P c.self.view_is (subst Q (sym done)
    (granted_write z c.args.place c.args.size c.requires (omega arith) c.args.value new
    (c.put.ensures.room_kept ∙ c.grow.ensures.room_kept) (c.put.ensures.reserved_kept ∙ c.grow.ensures.reserved_kept) c.if-index-self.false
    (OnTrue_at done c.put.ensures.written ∙ ap (λ f. store f c.args.place (width c.args.size) c.args.value) same)))

pub returns-clause-did : goal.returns-clause-did
returns-clause-did c =
    let z = c.self.inside.words in
    let grown = c.grow.new.self in
    let new = c.put.new.self in
    let P : VecMemory → Type 0 = λ m. VecWrites m c.args.place c.args.size c.args.value (all_words new) c.put.result in
    let Q : Bool → Type 0 = λ b. VecWrites (all_words z) c.args.place c.args.size c.args.value (all_words new) b in
    let done : c.put.result ≡ true = c.put.ensures.there.1 c.grow.ensures.there in
    let same = fun_ext (same_bytes z.words.mem.items grown.words.mem.items c.grow.ensures.same) in
    subst P c.self.view_is (subst Q (sym done)
    (did_write z c.args.place c.args.size c.requires (omega arith) c.args.value new
    (c.put.ensures.room_kept ∙ c.grow.ensures.room_kept) (c.put.ensures.reserved_kept ∙ c.grow.ensures.reserved_kept) c.if-index-self.false
    (OnTrue_at done c.put.ensures.written ∙ ap (λ f. store f c.args.place (width c.args.size) c.args.value) same)
    (λ i other. c.put.ensures.others_kept i other ∙ c.grow.ensures.same i)))
