use Rattle.std.proofs.Common.{◌++◌, sym, subst}
use Rattle.rrs_lib.specs.Machine.{state_of}
use Rattle.rrs_hart.specs.Harts.{hart_with, HartStep, OfHalves, AccessesOfHart, HalvesAccesses}
use Rattle.rrs_hart.proofs.Fetches.{fetched_by_words, reads_by_halves, reads_by_words}
use Rattle.rrs_hart.proofs.parts.execute_in.Goals as goal

-- by half-words
pub returns-then-profile-clause-step : goal.returns-then-profile-clause-step
returns-then-profile-clause-step g c =
    let memory = g.M.Memory in
    let done = c.execute_encoding_told in
    let s = hart_with (state_of c.args.hart.now (memory.bytes c.args.mem.now) (memory.writable c.args.mem.now)) c.args.reservation.now in
    let t = hart_with (state_of done.new.hart (memory.bytes done.new.mem) (memory.writable done.new.mem)) done.new.reservation in
    subst (λ a. HartStep c.args.profile s t a) (sym c.answer_of.ensures) (OfHalves c.if-profile.true done.ensures.step)

pub returns-then-profile-clause-makes : goal.returns-then-profile-clause-makes
returns-then-profile-clause-makes g c =
    let memory = g.M.Memory in
    let bytes = memory.bytes c.args.mem.now in
    let made = c.execute_encoding_told.ensures.makes in
    let s = hart_with (state_of c.args.hart.now bytes (memory.writable c.args.mem.now)) c.args.reservation.now in
    let are = HalvesAccesses c.if-profile.true made.1 in
    (made.0, subst (λ xs. AccessesOfHart c.args.profile s (xs ++ made.0)) (sym (reads_by_halves c.args.profile bytes c.args.hart.now.pc c.if-profile.true)) are, made.2)

-- by words
pub returns-else-profile-clause-makes : goal.returns-else-profile-clause-makes
returns-else-profile-clause-makes g c =
    let memory = g.M.Memory in
    let bytes = memory.bytes c.args.mem.now in
    let pc = c.args.hart.now.pc in
    let made = c.execute_word.ensures.makes in
    let s = hart_with (state_of c.args.hart.now bytes (memory.writable c.args.mem.now)) c.args.reservation.now in
    let there = fetched_by_words c.args.profile bytes pc c.args.encoding c.if-profile.false c.requires.fetched in
    (made.0, subst (λ xs. AccessesOfHart c.args.profile s (xs ++ made.0)) (sym (reads_by_words c.args.profile bytes pc c.if-profile.false there.0)) made.1, made.2)
