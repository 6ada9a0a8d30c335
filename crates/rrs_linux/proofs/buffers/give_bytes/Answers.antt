use Rattle.std.proofs.Common.{◌≡◌, ◌+◌, ◌<◌, [], ◌∷◌, ◌++◌, length, take, drop, slice_index, false, refl, sym, ap, ◌∙◌, arith}
use Rattle.std.proofs.lemmas.List.{length-take-le}
use Rattle.rrs_linux.specs.Requests.{error}
use Rattle.rrs_linux.specs.Transfers.{counted}
use Rattle.rrs_linux.specs.Giving.{IsWhole, IsRefused, PassesEnd}
use Rattle.rrs_linux.proofs.Placed.{none_loaded}
use Rattle.rrs_linux.proofs.KnownStreams.{gives_text, written_next, given_next, left_after}
use Rattle.rrs_linux.proofs.buffers.give_bytes.Goals as goal

pub returns-in_default-clause-given : goal.returns-in_default-clause-given
returns-in_default-clause-given g c =
    gives_text 0 c.args.input.now [] (none_loaded _ _ _ (omega (arith, c.ranges.address)))
    (PassesEnd (rw c.in_default.is at c.most_of.ensures) refl refl refl) refl

pub loop-done-init : goal.loop-done-init
loop-done-init g c =
    record { loaded = none_loaded _ _ _ (omega arith); made = refl; writable_kept = refl; layout_kept = refl }

pub returns-then-not-write_mem-clause-given : goal.returns-then-not-write_mem-clause-given
returns-then-not-write_mem-clause-given g c =
    let memory = g.M.Memory in
    let so_far = c.loop-done.invariant in
    let done = c.loop-done.done in
    let input = c.args.input.now in
    let refused = c.if-not-write_mem.ensures in
    let within : done < length input = omega (arith, c.loop-done-test.true, c.min-most.ensures) in
    let long : length (take done input) ≡ done = length-take-le done input (omega (arith, within)) in
    let there : c.args.address + done + 0 ≡ c.args.address + length (take done input) = omega (arith, long) in
    let closed : memory.writable c.args.memory.now (c.args.address + length (take done input)) ≡ false =
    rw (← there, ← so_far.writable_kept) (sym refused.laws.granted) in
    gives_text done input (take done input ++ slice_index input done ∷ []) (rw refused.laws.refused so_far.loaded)
    (IsRefused (slice_index input done) (drop (done + 1) input) c.in-Some.ensures.0
    (omega (arith, long, c.loop-done-test.true, c.min-most.ensures, c.in-Some.ensures.1)) (left_after input done within)
    closed refl (c.answer_of.ensures ∙ ap (λ k. counted k (error 14)) (sym long)))
    (written_next memory.reads memory.writes c.args.address done input c.args.memory.now c.loop-done.memory
    c.write_mem.new.self within (omega (arith, c.loop-done-test.true, c.min-most.ensures, c.in-Some.ensures))
    c.from.ensures so_far.made so_far.writable_kept refused.laws.granted refused.did)

pub loop-done-preserved : goal.loop-done-preserved
loop-done-preserved g c =
    let memory = g.M.Memory in
    let so_far = c.loop-done.invariant in
    let done = c.loop-done.done in
    let wrote = c.if-not-write_mem.ensures in
    let next = given_next memory.reads memory.writes c.args.address done c.args.input.now c.args.memory.now
    c.loop-done.memory c.write_mem.new.self (omega (arith, c.loop-done-test.true, c.min-most.ensures))
    (omega (arith, c.loop-done-test.true, c.min-most.ensures, c.in-Some.ensures)) c.from.ensures so_far.made
    so_far.writable_kept wrote.laws.granted wrote.did (omega (arith, c.type_inv.input done)) so_far.loaded refl
    wrote.laws.lawful wrote.laws.written in
    record {
      loaded = next.0;
      made = next.1;
      writable_kept = wrote.laws.writable_kept ∙ so_far.writable_kept;
      layout_kept = wrote.laws.layout_kept ∙ so_far.layout_kept;
    }

pub returns-clause-given : goal.returns-clause-given
returns-clause-given g c =
    let so_far = c.loop-done.invariant in
    let input = c.args.input.now in
    let most = c.min-most.result in
    let all : c.loop-done.done ≡ most = omega (arith, c.loop-done-test.false, c.loop-done.auto.done-end) in
    let long : length (take most input) ≡ most = length-take-le most input (omega (arith, c.min-most.ensures)) in
    gives_text most input (take most input) (rw all at so_far.loaded)
    (IsWhole c.in-Some.ensures.0 (omega (arith, long, c.min-most.ensures, c.in-Some.ensures.1)) refl (sym long))
    (rw all at so_far.made)
