-- The fetch, and then the instruction that the word is.
use Rattle.std.proofs.Common.{rules, refl, sym, ◌∙◌, []}
use Rattle.std.proofs.lemmas.Option.{none-some}
use Rattle.rrs_lib.specs.Instructions.{row_of, fields_of}
use Rattle.rrs_lib.specs.Machine.{hart_of}
use Rattle.rrs_lib.specs.Steps.{Step, Illegal, cleared}
use Rattle.rrs_lib.proofs.Engines.{moved}
use Rattle.rrs_lib.proofs.Making.{exactly-fetch, exactly-step, accesses_of_illegal, accesses_of_legal}
use Rattle.rrs_lib.proofs.Rows.{one_row_at_most}
use Rattle.rrs_trace.specs.Traced.{traced_state}
use Rattle.rrs_trace.proofs.retired.step_traced.Goals as goal

pub returns-in-Err-clause-step : goal.returns-in-Err-clause-step
returns-in-Err-clause-step g c = λ last.
    let s = traced_state g.M.Memory.bytes g.M.Memory.writable (hart_of c.args.registers.now c.args.pc last)
    c.args.traced.now in
    moved (λ t. Step s t c.faulted.result.answer) (cleared s) _ (search rules)
    (rw c.faulted.ensures.answer (c.in-Err.ensures.fault s refl refl))

pub returns-in-Err-clause-sources : goal.returns-in-Err-clause-sources
returns-in-Err-clause-sources g c = λ last.
    let s = traced_state g.M.Memory.bytes g.M.Memory.writable (hart_of c.args.registers.now c.args.pc last)
    c.args.traced.now in
    record {
      of_row = λ w row f is decodes. absurd (none-some _ (sym (c.in-Err.ensures.none s refl refl) ∙ is));
      of_none = λ none. c.no_sources.ensures.numbers;
    }

pub returns-in-Err-clause-accesses : goal.returns-in-Err-clause-accesses
returns-in-Err-clause-accesses g c = λ last.
    let s = traced_state g.M.Memory.bytes g.M.Memory.writable (hart_of c.args.registers.now c.args.pc last)
    c.args.traced.now in
    exactly-fetch _ _ one_row_at_most s _ _ _ (c.in-Err.ensures.alone s refl refl) (c.fetch_word.ensures.makes s refl)

pub returns-in_default-clause-step : goal.returns-in_default-clause-step
returns-in_default-clause-step g c = λ last.
    let s = traced_state g.M.Memory.bytes g.M.Memory.writable (hart_of c.args.registers.now c.args.pc last)
    c.args.traced.now in
    let fetched = c.in-Ok.ensures.word in
    moved (λ t. Step s t c.faulted-in_default.result.answer) (cleared s) _ (search rules)
    (rw c.faulted-in_default.ensures.answer
    (Illegal c.in-Ok.word fetched.0 fetched.1 c.in_default.ensures.outside refl refl))

pub returns-in_default-clause-accesses : goal.returns-in_default-clause-accesses
returns-in_default-clause-accesses g c = λ last.
    let s = traced_state g.M.Memory.bytes g.M.Memory.writable (hart_of c.args.registers.now c.args.pc last)
    c.args.traced.now in
    let fetched = c.in-Ok.ensures.word in
    exactly-step _ _ one_row_at_most s [] _ _ _ fetched.0 (c.fetch_word.ensures.makes s refl)
    (accesses_of_illegal s c.in-Ok.word fetched.0 fetched.1 c.in_default.ensures.outside) refl

pub returns-clause-step : goal.returns-clause-step
returns-clause-step g c = λ last.
    let state = traced_state g.M.Memory.bytes g.M.Memory.writable in
    let hart = hart_of c.args.registers.now c.args.pc last in
    let done = c.execute_parts in
    let t = state (hart_of done.new.registers done.result.pc done.result.last_register_write) done.new.mem in
    let fetched = c.in-Ok.ensures in
    moved (λ x. Step x t done.result.answer) (state hart c.fetch_word.new.mem) _ (search rules)
    (done.ensures.step last _ fetched.word.0 (rw fetched.bytes_kept fetched.word.1) c.in-Some.ensures.decoded)

pub returns-clause-accesses : goal.returns-clause-accesses
returns-clause-accesses g c = λ last.
    let s = traced_state g.M.Memory.bytes g.M.Memory.writable (hart_of c.args.registers.now c.args.pc last)
    c.args.traced.now in
    let i = c.in-Some.instruction in
    let fetched = c.in-Ok.ensures.word in
    exactly-step _ _ one_row_at_most s _ _ _ _ fetched.0 (c.fetch_word.ensures.makes s refl)
    (accesses_of_legal s _ c.in-Ok.word (row_of i) (fields_of i) fetched.0 fetched.1 (search rules)
    c.in-Some.ensures.decoded) c.execute_parts.ensures.makes
