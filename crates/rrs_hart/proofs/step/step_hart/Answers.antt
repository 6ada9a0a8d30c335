use Rattle.std.proofs.Common.{◌≡◌, ◌++◌, None, Err, refl, sym, subst}
use Rattle.rrs_lib.specs.Machine.{State, state_of}
use Rattle.rrs_lib.specs.Steps.{cleared}
use Rattle.rrs_lib.proofs.Making.{Makes-append}
use Rattle.rrs_hart.specs.Harts.{hart_with, fetch_reads_in, HartStep, AccessesOfHart}
use Rattle.rrs_hart.proofs.HartSteps.{HartStep-unique, step_of_kit, exactly_hart}
use Rattle.rrs_hart.proofs.Fetches.{begun_at_read}
use Rattle.rrs_hart.proofs.KitsWords.{kits_at_word}
use Rattle.rrs_hart.proofs.step.step_hart.Goals as goal

-- an instruction was fetched, and is executed
pub returns-in-Ok-clause-step : goal.returns-in-Ok-clause-step
returns-in-Ok-clause-step g c =
    begun_at_read c.args.profile c.args.executor.now.hart_state.now _ _ _ _ c.args.reservation.now _ c.execute_in.result
    c.fetch_in.ensures.bytes_kept c.fetch_in.ensures.writable_kept c.execute_in.ensures.step

pub returns-in-Ok-clause-only : goal.returns-in-Ok-clause-only
returns-in-Ok-clause-only g c = λ t' answer' other.
    HartStep-unique c.args.profile _ t' _ answer' _ other
    (begun_at_read c.args.profile c.args.executor.now.hart_state.now _ _ _ _ c.args.reservation.now _ c.execute_in.result
    c.fetch_in.ensures.bytes_kept c.fetch_in.ensures.writable_kept c.execute_in.ensures.step)

pub returns-in-Ok-clause-kit : goal.returns-in-Ok-clause-kit
returns-in-Ok-clause-kit g c = λ kits. step_of_kit c.args.profile _ _ _
    (begun_at_read c.args.profile c.args.executor.now.hart_state.now _ _ _ _ c.args.reservation.now _ c.execute_in.result
    c.fetch_in.ensures.bytes_kept c.fetch_in.ensures.writable_kept c.execute_in.ensures.step) kits

pub returns-in-Ok-clause-words : goal.returns-in-Ok-clause-words
returns-in-Ok-clause-words g c = λ w at.
    kits_at_word c.args.profile _ _ _ w c.fetch_in.ensures.inside at
    (begun_at_read c.args.profile c.args.executor.now.hart_state.now _ _ _ _ c.args.reservation.now _ c.execute_in.result
    c.fetch_in.ensures.bytes_kept c.fetch_in.ensures.writable_kept c.execute_in.ensures.step)

pub returns-in-Ok-clause-accesses : goal.returns-in-Ok-clause-accesses
returns-in-Ok-clause-accesses g c =
    let memory = g.M.Memory in
    let h = c.args.executor.now.hart_state.now in
    let read = c.fetch_in in
    let old = c.args.executor.now.mem.now in
    let p = c.args.profile in
    let after : state_of h (memory.bytes read.new.mem) (memory.writable read.new.mem) ≡ state_of h (memory.bytes old) (memory.writable old) =
    (λ k. state_of h (read.ensures.bytes_kept k) (read.ensures.writable_kept k)) in
    let reads = fetch_reads_in p (memory.bytes old) h.pc in
    let made = c.execute_in.ensures.makes in
    let are = subst (λ (x : State). AccessesOfHart p (hart_with x c.args.reservation.now) (fetch_reads_in p x.bytes h.pc ++ made.0)) after made.1 in
    exactly_hart memory.reads memory.writes p (hart_with (state_of h (memory.bytes old) (memory.writable old)) c.args.reservation.now) (reads ++ made.0) old
    c.execute_in.new.mem are
    (Makes-append memory.reads memory.writes reads made.0 old read.new.mem c.execute_in.new.mem read.ensures.makes made.2)

-- none was
pub returns-in-Err-clause-step : goal.returns-in-Err-clause-step
returns-in-Err-clause-step g c =
    let memory = g.M.Memory in
    let h = c.args.executor.now.hart_state.now in
    let old = c.args.executor.now.mem.now in
    let read = c.fetch_in in
    let s = state_of h (memory.bytes old) (memory.writable old) in
    let kept : cleared s ≡ record (state_of h (memory.bytes read.new.mem) (memory.writable read.new.mem)) { last = None } =
    (λ k. record (state_of h (sym read.ensures.bytes_kept k) (sym read.ensures.writable_kept k)) { last = None }) in
    subst (λ x. HartStep c.args.profile (hart_with s c.args.reservation.now) (hart_with x c.args.reservation.now) (Err c.in-Err.fault)) kept
    (c.in-Err.ensures.step (hart_with s c.args.reservation.now) refl refl)
