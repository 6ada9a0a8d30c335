-- By half-words or by words.
use Rattle.std.proofs.Common.{◌≡◌, ◌++◌, true, false, Option, Result, Ok, Err, IfOk, sym, subst}
use Rattle.rrs_lib.specs.declared.instruction_executor.InstructionException.{InstructionException}
use Rattle.rrs_lib.specs.Machine.{State, state_of}
use Rattle.rrs_words.specs.declared.csrs.HartProfile.{HartProfile}
use Rattle.rrs_hart.specs.declared.bytes.ByteAccess.{ByteAccess}
use Rattle.rrs_hart.specs.Harts.{hart_with, OfHalves, TellsBytes, AccessesOfHart, HalvesAccesses}
use Rattle.rrs_hart.specs.Halves.{TellsHalves}
use Rattle.rrs_hart.proofs.Fetches.{fetched_by_words, reads_by_halves, reads_by_words}
use Rattle.rrs_trace.specs.HartRecords.{Tells}
use Rattle.rrs_trace.proofs.HartAccesses.{not_halves}
use Rattle.rrs_trace.proofs.hart_retired.execute_told.Goals as goal

tells_halves : (p : HartProfile) (s : State) (told : Result (Option ByteAccess) InstructionException) → p.compressed ≡ true → IfOk told (TellsHalves p s) → IfOk told (Tells p s)
tells_halves p s (Ok x) halves tells = record { by_words = λ words. absurd (not_halves p words halves); by_halves = λ _. tells }
tells_halves p s (Err e) halves tells = tt

tells_words : (p : HartProfile) (s : State) (told : Result (Option ByteAccess) InstructionException) → p.compressed ≡ false → IfOk told (TellsBytes p s) → IfOk told (Tells p s)
tells_words p s (Ok x) words tells = record { by_words = λ _. tells; by_halves = λ halves. absurd (not_halves p words halves) }
tells_words p s (Err e) words tells = tt

-- by half-words
pub returns-then-profile-clause-step : goal.returns-then-profile-clause-step
returns-then-profile-clause-step g c = OfHalves c.if-profile.true c.execute_encoding_told.ensures.step

pub returns-then-profile-clause-told : goal.returns-then-profile-clause-told
returns-then-profile-clause-told g c = tells_halves c.args.profile _ _ c.if-profile.true c.execute_encoding_told.ensures.told

pub returns-then-profile-clause-makes : goal.returns-then-profile-clause-makes
returns-then-profile-clause-makes g c =
    let memory = g.M.Memory in
    let bytes = memory.bytes c.args.mem.now in
    let made = c.execute_encoding_told.ensures.makes in
    let s = hart_with (state_of c.args.hart.now bytes (memory.writable c.args.mem.now)) c.args.reservation.now in
    let are = HalvesAccesses c.if-profile.true made.1 in
    (made.0, subst (λ xs. AccessesOfHart c.args.profile s (xs ++ made.0)) (sym (reads_by_halves c.args.profile bytes c.args.hart.now.pc c.if-profile.true)) are, made.2)

-- by words
pub returns-else-profile-clause-told : goal.returns-else-profile-clause-told
returns-else-profile-clause-told g c = tells_words c.args.profile _ _ c.if-profile.false c.execute_word_told.ensures.told

pub returns-else-profile-clause-makes : goal.returns-else-profile-clause-makes
returns-else-profile-clause-makes g c =
    let memory = g.M.Memory in
    let bytes = memory.bytes c.args.mem.now in
    let pc = c.args.hart.now.pc in
    let made = c.execute_word_told.ensures.makes in
    let s = hart_with (state_of c.args.hart.now bytes (memory.writable c.args.mem.now)) c.args.reservation.now in
    let there = fetched_by_words c.args.profile bytes pc c.args.encoding c.if-profile.false c.requires.fetched in
    (made.0, subst (λ xs. AccessesOfHart c.args.profile s (xs ++ made.0)) (sym (reads_by_words c.args.profile bytes pc c.if-profile.false there.0)) made.1, made.2)
