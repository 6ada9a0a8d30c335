use Rattle.std.proofs.Common.{map, string_bytes, inr, sym, ◌∙◌}
use Rattle.rrs_run_commands.proofs.requests.take_option.Goals as goal

pub returns-in-Err-clause-refused : goal.returns-in-Err-clause-refused
returns-in-Err-clause-refused c =
    let setting = c.in-Some-setting_of in
    let given = c.in-Some-value_of in
    inr (inr (inr (
      setting.setting,
      given.value.now,
      map string_bytes given.left.now,
      (setting.ensures.0, sym c.name_and_value.ensures.name ∙ setting.ensures.1),
      given.ensures.given,
      c.in-Err.ensures.refused,
    )))
