-- What was seen is what is told.
use Rattle.std.proofs.Common.{rules, refl, None}
use Rattle.rrs_lib.proofs.Keeping.{Step-last}
use Rattle.rrs_trace.proofs.retired.step_retired_parts.Goals as goal

pub last_register-rd_addr-requires : goal.last_register-rd_addr-requires
last_register-rd_addr-requires g c = Step-last _ _ _ (c.see_step-seen.ensures.step None)

pub returns-clause-retires : goal.returns-clause-retires
returns-clause-retires g c = λ last.
    let seen = c.see_step-seen.ensures in
    record {
      order_is = refl;
      insn_is = seen.insn last;
      trap_is = search rules;
      pc_before = refl;
      pc_after = refl;
      sources = seen.sources last;
      first_value = (seen.values last).first;
      second_value = (seen.values last).second;
      written = c.last_register-rd_addr.ensures.number;
      written_value = search rules;
      access = seen.access last;
    }

pub returns-clause-numbers : goal.returns-clause-numbers
returns-clause-numbers g c =
    let values = c.see_step-seen.ensures.values None in
    (values.first_low, values.second_low, c.last_register-rd_addr.ensures.low)
