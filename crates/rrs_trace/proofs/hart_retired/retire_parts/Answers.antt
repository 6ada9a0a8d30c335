-- The fetch, and then what was fetched is executed: what is told of it is put together with the registers.
use Rattle.std.proofs.Common.{◌≡◌, ◌++◌, Some, None, Err, refl, sym, subst, ap, ◌∙◌, rules}
use Rattle.rrs_lib.specs.Machine.{state_of}
use Rattle.rrs_lib.specs.Steps.{cleared}
use Rattle.rrs_lib.proofs.Making.{Makes-append}
use Rattle.rrs_hart.specs.Harts.{hart_with, HartStep, fetch_reads_in, AccessesOfHart}
use Rattle.rrs_hart.proofs.HartLast.{HartStep-last}
use Rattle.rrs_hart.proofs.HartSteps.{exactly_hart}
use Rattle.rrs_trace.specs.HartRecords.{HasAccess, bits_fetched}
use Rattle.rrs_trace.proofs.HartAccesses.{access_fault, bits_in, word_sources_unfetched, halves_sources_unfetched, word_sources, halves_sources}
use Rattle.rrs_trace.proofs.hart_retired.retire_parts.Goals as goal

-- nothing is there
pub returns-in-Err-clause-step : goal.returns-in-Err-clause-step
returns-in-Err-clause-step g c =
    let memory = g.M.Memory in
    let h = c.args.hart.now in
    let read = c.fetch_in in
    let s = state_of h (memory.bytes c.args.mem.now) (memory.writable c.args.mem.now) in
    let r = c.args.reservation.now in
    let kept : cleared s ≡ record (state_of h (memory.bytes read.new.mem) (memory.writable read.new.mem)) { last = None } =
    (λ k. record (state_of h (sym read.ensures.bytes_kept k) (sym read.ensures.writable_kept k)) { last = None }) in
    subst (λ x. HartStep c.args.profile (hart_with s r) (hart_with x r) (Err c.in-Err.fault)) kept
    (c.in-Err.ensures.step (hart_with s r) refl refl)

pub returns-in-Err-clause-retires : goal.returns-in-Err-clause-retires
returns-in-Err-clause-retires g c =
    let memory = g.M.Memory in
    let s = state_of c.args.hart.now (memory.bytes c.args.mem.now) (memory.writable c.args.mem.now) in
    let p = c.args.profile in
    let none = sym c.in-Err.ensures.fetched in
    rw c.unfetched.ensures (record {
      order_is = refl;
      insn_is = sym (bits_in p s ∙ ap bits_fetched none);
      trap_is = refl;
      pc_before = refl;
      pc_after = refl;
      sources = λ words. word_sources_unfetched p s c.in-Err.fault words none;
      halves_sources = λ halves. halves_sources_unfetched p s c.in-Err.fault halves none;
      first_value = refl;
      second_value = refl;
      written = refl;
      written_value = refl;
      access = access_fault p (hart_with s c.args.reservation.now) c.in-Err.fault _ refl;
    })

pub returns-in-Err-clause-accesses : goal.returns-in-Err-clause-accesses
returns-in-Err-clause-accesses g c =
    let memory = g.M.Memory in
    let s = state_of c.args.hart.now (memory.bytes c.args.mem.now) (memory.writable c.args.mem.now) in
    let h = hart_with s c.args.reservation.now in
    exactly_hart memory.reads memory.writes c.args.profile h (fetch_reads_in c.args.profile s.bytes s.pc) c.args.mem.now
    c.fetch_in.new.mem (c.in-Err.ensures.alone h refl refl) c.fetch_in.ensures.makes

-- an instruction is there
pub last_register-rd_addr-requires : goal.last_register-rd_addr-requires
last_register-rd_addr-requires g c = HartStep-last c.args.profile _ _ _ c.execute_in_seen-answer.ensures.step

pub returns-clause-step : goal.returns-clause-step
returns-clause-step g c =
    let memory = g.M.Memory in
    let h = c.args.hart.now in
    let read = c.fetch_in in
    let s = state_of h (memory.bytes c.args.mem.now) (memory.writable c.args.mem.now) in
    let r = c.args.reservation.now in
    let after : state_of h (memory.bytes read.new.mem) (memory.writable read.new.mem) ≡ s =
    (λ k. state_of h (read.ensures.bytes_kept k) (read.ensures.writable_kept k)) in
    let done = c.execute_in_seen-answer in
    let t = hart_with (state_of done.new.hart (memory.bytes done.new.mem) (memory.writable done.new.mem)) done.new.reservation in
    subst (λ x. HartStep c.args.profile (hart_with x r) t done.result.0) after done.ensures.step

pub returns-clause-retires : goal.returns-clause-retires
returns-clause-retires g c =
    let memory = g.M.Memory in
    let h = c.args.hart.now in
    let read = c.fetch_in in
    let s = state_of h (memory.bytes c.args.mem.now) (memory.writable c.args.mem.now) in
    let r = c.args.reservation.now in
    let after : state_of h (memory.bytes read.new.mem) (memory.writable read.new.mem) ≡ s =
    (λ k. state_of h (read.ensures.bytes_kept k) (read.ensures.writable_kept k)) in
    let done = c.execute_in_seen-answer in
    let t = state_of done.new.hart (memory.bytes done.new.mem) (memory.writable done.new.mem) in
    let p = c.args.profile in
    let x = c.in-Ok.encoding in
    let there = sym c.in-Ok.ensures.fetched in
    let sources = c.sources_in-rs1_addr.ensures in
    record {
      order_is = refl;
      insn_is = ap Some c.bits_of.ensures ∙ sym (bits_in p s ∙ ap bits_fetched there);
      trap_is = search rules;
      pc_before = refl;
      pc_after = refl;
      sources = λ words. word_sources p s x _ _ there sources.of_row sources.of_layer sources.of_illegal words;
      halves_sources = λ halves. halves_sources p s x _ _ there sources.of_row sources.of_layer sources.of_illegal halves;
      first_value = c.register_value-rs1_rdata.ensures s refl;
      second_value = c.register_value-rs2_rdata.ensures s refl;
      written = c.last_register-rd_addr.ensures.number;
      written_value = c.register_value.ensures t refl;
      access = subst (λ x. HasAccess p (hart_with x r) done.result.0 done.result.1) after done.ensures.access;
    }

pub returns-clause-numbers : goal.returns-clause-numbers
returns-clause-numbers g c = (c.sources_in-rs1_addr.ensures.low.0, c.sources_in-rs1_addr.ensures.low.1, c.last_register-rd_addr.ensures.low)

pub returns-clause-accesses : goal.returns-clause-accesses
returns-clause-accesses g c =
    let memory = g.M.Memory in
    let h = c.args.hart.now in
    let read = c.fetch_in in
    let old = c.args.mem.now in
    let s = state_of h (memory.bytes old) (memory.writable old) in
    let r = c.args.reservation.now in
    let p = c.args.profile in
    let after : state_of h (memory.bytes read.new.mem) (memory.writable read.new.mem) ≡ s =
    (λ k. state_of h (read.ensures.bytes_kept k) (read.ensures.writable_kept k)) in
    let done = c.execute_in_seen-answer in
    let made = done.ensures.makes in
    let are = subst (λ x. AccessesOfHart p (hart_with x r) (fetch_reads_in p x.bytes x.pc ++ made.0)) after made.1 in
    exactly_hart memory.reads memory.writes p (hart_with s r) (fetch_reads_in p s.bytes s.pc ++ made.0) old done.new.mem are
    (Makes-append memory.reads memory.writes (fetch_reads_in p s.bytes s.pc) made.0 old read.new.mem done.new.mem read.ensures.makes made.2)
