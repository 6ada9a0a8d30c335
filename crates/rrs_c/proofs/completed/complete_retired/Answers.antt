-- Each field is what was read of the hart before or after the step, and the access is what was given.
use Rattle.std.proofs.Common.{rules, refl, ap, ◌∙◌}
use Rattle.rrs_lib.specs.Machine.{state_of, hart_of}
use Rattle.rrs_trace.specs.Outside.{bytes_after}
use Rattle.rrs_c.specs.Harts.{register_in}
use Rattle.rrs_c.specs.Asking.{request_answer, given}
use Rattle.rrs_c.specs.Completing.{logged}
use Rattle.rrs_c.proofs.Logged.{logged_access}
use Rattle.rrs_c.proofs.completed.complete_retired.Goals as goal

pub returns-clause-retires : goal.returns-clause-retires
returns-clause-retires c = λ bytes writable has accesses made answers.
    let hart = c.args.hart.now in
    let last = register_in hart.last in
    let after = c.rrs_complete-fault.new.hart in
    record {
      order_is = refl;
      insn_is = c.fetched-insn.ensures.insn hart.x last bytes writable has;
      trap_is = search rules;
      pc_before = refl;
      pc_after = refl;
      sources = c.fetched-insn.ensures.sources hart.x last bytes writable has;
      first_value = c.register_value-rs1_rdata.ensures (state_of (hart_of hart.x hart.pc last) bytes writable) refl;
      second_value = c.register_value-rs2_rdata.ensures (state_of (hart_of hart.x hart.pc last) bytes writable) refl;
      written = search rules;
      written_value = c.register_value.ensures (state_of (hart_of after.x after.pc (register_in after.last)) (bytes_after accesses bytes) writable) refl;
      access = λ all are. c.access_logged.ensures
          ∙ ap (λ g. logged (request_answer c.rrs_request-asked.result) g) c.given_by.ensures
          ∙ logged_access _ _ (given c.args.granted c.args.value) accesses all
          (c.rrs_request-asked.ensures.access bytes writable has) made answers are;
    }
