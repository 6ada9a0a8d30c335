use Rattle.std.proofs.Common.{◌∙◌, subst}
use Rattle.std.specs.Io.KnownBytes.{Appends}
use Rattle.std.proofs.KnownBytes.{Appends-kept}
use Rattle.std.proofs.lemmas.Result.{err_from_is_err_and}
use Rattle.rrs_lib.proofs.RegionFields.{OnOk_always}
use Rattle.rrs_cli.proofs.Printing.{stopped_in_text, stopped_in_flush}
use Rattle.rrs_cli.proofs.report.print_ending.Goals as goal

pub returns-in_err-write_text-clause-fault : goal.returns-in_err-write_text-clause-fault
returns-in_err-write_text-clause-fault g c = λ bytes writable.
    let made = c.deref.ensures.value ∙ c.in_ok-ending.ensures.text bytes writable in
    let p = err_from_is_err_and c.from_residual-in_err-write_text.result c.from_residual-in_err-write_text.ensures.1 in
    rw (p.1, p.2) (stopped_in_text _ _ _ _ _ made c.in_err-write_text.ensures.fault)

pub returns-clause-printed : goal.returns-clause-printed
returns-clause-printed g c = λ bytes writable.
    let made = c.deref.ensures.value ∙ c.in_ok-ending.ensures.text bytes writable in
    let appended = Appends-kept _ _ _ _ c.in_ok-write_text.ensures.ok c.flush.ensures.kept in
    OnOk_always c.flush.result (subst (Appends _ _) made appended)

pub returns-clause-fault : goal.returns-clause-fault
returns-clause-fault g c = λ bytes writable.
    let made = c.deref.ensures.value ∙ c.in_ok-ending.ensures.text bytes writable in
    let appended = Appends-kept _ _ _ _ c.in_ok-write_text.ensures.ok c.flush.ensures.kept in
    stopped_in_flush _ _ _ _ c.flush.result c.flush.ensures.fault (subst (Appends _ _) made appended)
