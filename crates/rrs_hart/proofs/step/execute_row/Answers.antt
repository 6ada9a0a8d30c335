use Rattle.std.proofs.Common.{◌≡◌, ◌∷◌, ◌++◌, ◌%◌, None, Ok, Err, IfOk, refl, sym, subst, ap, ◌∙◌}
use Rattle.rrs_instruction.specs.Instructions.{row_of, fields_of}
use Rattle.rrs_memory.specs.Bytes.{little_endian, EndsAtLastAddress}
use Rattle.rrs_lib.specs.Machine.{State, state_of, hart_of, Executes}
use Rattle.rrs_lib.specs.Steps.{Step, StepAnswer, cleared}
use Rattle.rrs_lib.specs.Accesses.{fetch, accesses_of_row}
use Rattle.rrs_lib.proofs.Keeping.{Step-fault}
use Rattle.rrs_lib.proofs.Making.{Makes-append, accesses_of_legal}
use Rattle.rrs_hart.specs.Anywhere.{answer_of}
use Rattle.rrs_hart.specs.Harts.{hart_with, HartStep, TellsBytes, AccessesOfHart, OfKit, KitAccesses}
use Rattle.rrs_hart.proofs.HartSteps.{next_stands, kits_legal, no_bytes_ok, whole_step, tells_none, tells_uncleared, executes_fault, HartStep-uncleared, AccessesOfHart-uncleared}
use Rattle.rrs_hart.proofs.step.execute_row.Goals as goal

-- ---- what the end of a row asks for

pub end_row-requires-clause-ends : goal.end_row-requires-clause-ends
end_row-requires-clause-ends g c =
    let memory = g.M.Memory in
    let h = c.args.hart.now in
    let s = state_of h (memory.bytes c.args.mem.now) (memory.writable c.args.mem.now) in
    let done = c.execute_parts-end in
    let t = state_of (hart_of done.new.registers done.result.pc done.result.last_register_write) (memory.bytes done.new.mem) (memory.writable done.new.mem) in
    let step : Step s t (Err c.in-Err.fault) =
    subst (λ (a : StepAnswer). Step s t a) c.in-Err.is (done.ensures.step h.last_register_write c.args.word c.requires.aligned c.requires.word c.requires.is) in
    let same : t ≡ cleared s = Step-fault s t (Err c.in-Err.fault) step in
    subst (λ (x : State). EndsAtLastAddress x.bytes x.writable) (sym same) c.requires.ends

pub end_row-requires-clause-forgot : goal.end_row-requires-clause-forgot
end_row-requires-clause-forgot g c =
    let memory = g.M.Memory in
    let h = c.args.hart.now in
    let s = state_of h (memory.bytes c.args.mem.now) (memory.writable c.args.mem.now) in
    let done = c.execute_parts-end in
    let t = state_of (hart_of done.new.registers done.result.pc done.result.last_register_write) (memory.bytes done.new.mem) (memory.writable done.new.mem) in
    let step : Step s t (Err c.in-Err.fault) =
    subst (λ (a : StepAnswer). Step s t a) c.in-Err.is (done.ensures.step h.last_register_write c.args.word c.requires.aligned c.requires.word c.requires.is) in
    let same : t ≡ cleared s = Step-fault s t (Err c.in-Err.fault) step in
    ap (λ (x : State). x.last) same

pub end_row-requires-clause-aligned : goal.end_row-requires-clause-aligned
end_row-requires-clause-aligned g c =
    let memory = g.M.Memory in
    let h = c.args.hart.now in
    let s = state_of h (memory.bytes c.args.mem.now) (memory.writable c.args.mem.now) in
    let done = c.execute_parts-end in
    let t = state_of (hart_of done.new.registers done.result.pc done.result.last_register_write) (memory.bytes done.new.mem) (memory.writable done.new.mem) in
    let step : Step s t (Err c.in-Err.fault) =
    subst (λ (a : StepAnswer). Step s t a) c.in-Err.is (done.ensures.step h.last_register_write c.args.word c.requires.aligned c.requires.word c.requires.is) in
    let same : t ≡ cleared s = Step-fault s t (Err c.in-Err.fault) step in
    ap (λ (x : State). x.pc % 4) same ∙ c.requires.aligned

pub end_row-requires-clause-word : goal.end_row-requires-clause-word
end_row-requires-clause-word g c =
    let memory = g.M.Memory in
    let h = c.args.hart.now in
    let s = state_of h (memory.bytes c.args.mem.now) (memory.writable c.args.mem.now) in
    let done = c.execute_parts-end in
    let t = state_of (hart_of done.new.registers done.result.pc done.result.last_register_write) (memory.bytes done.new.mem) (memory.writable done.new.mem) in
    let step : Step s t (Err c.in-Err.fault) =
    subst (λ (a : StepAnswer). Step s t a) c.in-Err.is (done.ensures.step h.last_register_write c.args.word c.requires.aligned c.requires.word c.requires.is) in
    let same : t ≡ cleared s = Step-fault s t (Err c.in-Err.fault) step in
    ap (λ (x : State). little_endian x.bytes x.pc 4) same ∙ c.requires.word

pub end_row-requires-clause-refused : goal.end_row-requires-clause-refused
end_row-requires-clause-refused g c =
    let memory = g.M.Memory in
    let h = c.args.hart.now in
    let s = state_of h (memory.bytes c.args.mem.now) (memory.writable c.args.mem.now) in
    let done = c.execute_parts-end in
    let t = state_of (hart_of done.new.registers done.result.pc done.result.last_register_write) (memory.bytes done.new.mem) (memory.writable done.new.mem) in
    let step : Step s t (Err c.in-Err.fault) =
    subst (λ (a : StepAnswer). Step s t a) c.in-Err.is (done.ensures.step h.last_register_write c.args.word c.requires.aligned c.requires.word c.requires.is) in
    let same : t ≡ cleared s = Step-fault s t (Err c.in-Err.fault) step in
    let i = c.args.instruction.now in
    subst (λ x. Executes (row_of i) (fields_of i) x t (Err c.in-Err.fault)) (sym same)
    (executes_fault s t c.args.word (row_of i) (fields_of i) c.in-Err.fault c.requires.aligned c.requires.word c.requires.is step)

-- ---- the row ends without a fault

pub returns-in-Ok-clause-step : goal.returns-in-Ok-clause-step
returns-in-Ok-clause-step g c = λ r.
    let memory = g.M.Memory in
    let h = c.args.hart.now in
    let s = state_of h (memory.bytes c.args.mem.now) (memory.writable c.args.mem.now) in
    let done = c.execute_parts-end in
    let t = state_of (hart_of done.new.registers done.result.pc done.result.last_register_write) (memory.bytes done.new.mem) (memory.writable done.new.mem) in
    let step : Step s t (Ok tt) =
    subst (λ (a : StepAnswer). Step s t a) c.in-Ok.is (done.ensures.step h.last_register_write c.args.word c.requires.aligned c.requires.word c.requires.is) in
    let i = c.args.instruction.now in
    OfKit (kits_legal c.args.profile s c.args.word (row_of i) (fields_of i) c.requires.whole (next_stands s c.args.word c.requires.aligned c.requires.word) c.requires.is
    (no_bytes_ok c.args.profile s t c.args.word (row_of i) (fields_of i) c.requires.aligned c.requires.word c.requires.is step)) step refl

pub returns-in-Ok-clause-told : goal.returns-in-Ok-clause-told
returns-in-Ok-clause-told g c =
    let memory = g.M.Memory in
    let h = c.args.hart.now in
    let s = state_of h (memory.bytes c.args.mem.now) (memory.writable c.args.mem.now) in
    let done = c.execute_parts-end in
    let t = state_of (hart_of done.new.registers done.result.pc done.result.last_register_write) (memory.bytes done.new.mem) (memory.writable done.new.mem) in
    let step : Step s t (Ok tt) =
    subst (λ (a : StepAnswer). Step s t a) c.in-Ok.is (done.ensures.step h.last_register_write c.args.word c.requires.aligned c.requires.word c.requires.is) in
    let i = c.args.instruction.now in
    tells_none c.args.profile s None (whole_step c.args.profile s t c.args.word (row_of i) (fields_of i) c.requires.aligned c.requires.word c.requires.is step) refl

pub returns-in-Ok-clause-makes : goal.returns-in-Ok-clause-makes
returns-in-Ok-clause-makes g c = λ r.
    let memory = g.M.Memory in
    let h = c.args.hart.now in
    let s = state_of h (memory.bytes c.args.mem.now) (memory.writable c.args.mem.now) in
    let done = c.execute_parts-end in
    let t = state_of (hart_of done.new.registers done.result.pc done.result.last_register_write) (memory.bytes done.new.mem) (memory.writable done.new.mem) in
    let step : Step s t (Ok tt) =
    subst (λ (a : StepAnswer). Step s t a) c.in-Ok.is (done.ensures.step h.last_register_write c.args.word c.requires.aligned c.requires.word c.requires.is) in
    let i = c.args.instruction.now in (
      accesses_of_row (row_of i) (fields_of i) (cleared s),
      KitAccesses
          (kits_legal c.args.profile s c.args.word (row_of i) (fields_of i) c.requires.whole (next_stands s c.args.word c.requires.aligned c.requires.word) c.requires.is
          (no_bytes_ok c.args.profile s t c.args.word (row_of i) (fields_of i) c.requires.aligned c.requires.word c.requires.is step))
          (accesses_of_legal s (cleared s) c.args.word (row_of i) (fields_of i) c.requires.aligned c.requires.word refl c.requires.is),
      c.execute_parts-end.ensures.makes,
    )

-- ---- it ends with a fault

pub returns-in-Err-clause-step : goal.returns-in-Err-clause-step
returns-in-Err-clause-step g c = λ r.
    let memory = g.M.Memory in
    let h = c.args.hart.now in
    let s = state_of h (memory.bytes c.args.mem.now) (memory.writable c.args.mem.now) in
    let done = c.execute_parts-end in
    let t = state_of (hart_of done.new.registers done.result.pc done.result.last_register_write) (memory.bytes done.new.mem) (memory.writable done.new.mem) in
    let step : Step s t (Err c.in-Err.fault) =
    subst (λ (a : StepAnswer). Step s t a) c.in-Err.is (done.ensures.step h.last_register_write c.args.word c.requires.aligned c.requires.word c.requires.is) in
    let same : t ≡ cleared s = Step-fault s t (Err c.in-Err.fault) step in
    let end = c.end_row in
    let u = hart_with (state_of end.new.hart (memory.bytes end.new.mem) (memory.writable end.new.mem)) r in
    HartStep-uncleared c.args.profile s r u (answer_of end.result)
    (subst (λ x. HartStep c.args.profile (hart_with x r) u (answer_of end.result)) same (end.ensures.step r))

pub returns-in-Err-clause-told : goal.returns-in-Err-clause-told
returns-in-Err-clause-told g c =
    let memory = g.M.Memory in
    let h = c.args.hart.now in
    let s = state_of h (memory.bytes c.args.mem.now) (memory.writable c.args.mem.now) in
    let done = c.execute_parts-end in
    let t = state_of (hart_of done.new.registers done.result.pc done.result.last_register_write) (memory.bytes done.new.mem) (memory.writable done.new.mem) in
    let step : Step s t (Err c.in-Err.fault) =
    subst (λ (a : StepAnswer). Step s t a) c.in-Err.is (done.ensures.step h.last_register_write c.args.word c.requires.aligned c.requires.word c.requires.is) in
    let same : t ≡ cleared s = Step-fault s t (Err c.in-Err.fault) step in
    tells_uncleared c.args.profile s c.end_row.result (subst (λ x. IfOk c.end_row.result (TellsBytes c.args.profile x)) same c.end_row.ensures.told)

pub returns-in-Err-clause-makes : goal.returns-in-Err-clause-makes
returns-in-Err-clause-makes g c = λ r.
    let memory = g.M.Memory in
    let h = c.args.hart.now in
    let s = state_of h (memory.bytes c.args.mem.now) (memory.writable c.args.mem.now) in
    let done = c.execute_parts-end in
    let t = state_of (hart_of done.new.registers done.result.pc done.result.last_register_write) (memory.bytes done.new.mem) (memory.writable done.new.mem) in
    let step : Step s t (Err c.in-Err.fault) =
    subst (λ (a : StepAnswer). Step s t a) c.in-Err.is (done.ensures.step h.last_register_write c.args.word c.requires.aligned c.requires.word c.requires.is) in
    let same : t ≡ cleared s = Step-fault s t (Err c.in-Err.fault) step in
    let i = c.args.instruction.now in
    let row = row_of i in
    let f = fields_of i in
    let end = c.end_row in
    let made = end.ensures.makes r in
    let are = subst (λ x. AccessesOfHart c.args.profile (hart_with x r) (fetch x ∷ (accesses_of_row row f x ++ made.0))) same made.1 in (
      accesses_of_row row f (cleared s) ++ made.0,
      AccessesOfHart-uncleared c.args.profile s r (fetch s ∷ (accesses_of_row row f (cleared s) ++ made.0)) are,
      Makes-append memory.reads memory.writes (accesses_of_row row f (cleared s)) made.0 c.args.mem.now c.execute_parts-end.new.mem end.new.mem
          c.execute_parts-end.ensures.makes made.2,
    )
