-- The write is one of a word that is there.
use Rattle.std.proofs.Common.{◌<◌, ◌/◌, true, subst, arith}
use Rattle.std.proofs.lemmas.Bool.{OnTrue_at}
use Rattle.rrs_memory.specs.declared.memories.VecMemory.{VecMemory}
use Rattle.rrs_memory.specs.Bytes.{width, Writes}
use Rattle.rrs_memory.specs.VecBytes.{vec_bytes, vec_writable, vec_layout, VecWrites}
use Rattle.rrs_board.specs.Ram.{all_words}
use Rattle.rrs_board.proofs.PaddedWords.{fits, granted_write, did_write}
use Rattle.rrs_board.proofs.memory.Ram.put.Goals as goal

pub returns-then-put-clause-laws : goal.returns-then-put-clause-laws
returns-then-put-clause-laws c =
    let z = c.self.inside.words in
    let new = c.put.new.self in
    let P : VecMemory → Type 0 = λ m. Writes vec_bytes vec_writable vec_layout m (all_words new) c.args.place (width c.args.size) c.args.value true in
    let there : c.args.place / 4 < z.room = omega (arith, c.put.ensures.there.0 c.if-put.true, fits z) in
    subst P c.self.view_is
    (granted_write z c.args.place c.args.size c.requires (omega arith) c.args.value new
    c.put.ensures.room_kept c.put.ensures.reserved_kept there (OnTrue_at c.if-put.true c.put.ensures.written))

pub returns-then-put-clause-did : goal.returns-then-put-clause-did
returns-then-put-clause-did c =
    let z = c.self.inside.words in
    let new = c.put.new.self in
    let P : VecMemory → Type 0 = λ m. VecWrites m c.args.place c.args.size c.args.value (all_words new) true in
    let there : c.args.place / 4 < z.room = omega (arith, c.put.ensures.there.0 c.if-put.true, fits z) in
    subst P c.self.view_is
    (did_write z c.args.place c.args.size c.requires (omega arith) c.args.value new
    c.put.ensures.room_kept c.put.ensures.reserved_kept there (OnTrue_at c.if-put.true c.put.ensures.written)
    c.put.ensures.others_kept)
