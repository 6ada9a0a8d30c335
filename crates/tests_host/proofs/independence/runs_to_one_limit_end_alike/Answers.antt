use Rattle.std.proofs.Common.{rules, refl, sym, ◌≡◌, ◌∙◌}
use denote.Param.Object.{read_made}
use Rattle.rrs_lib.specs.VecBytes.{vec_bytes, vec_writable}
use Rattle.tests_host.proofs.independence.runs_to_one_limit_end_alike.OwnLists as own
use Rattle.tests_host.proofs.independence.runs_to_one_limit_end_alike.Goals as goal

pub both_runs-requires-clause-bytes : goal.both_runs-requires-clause-bytes
both_runs-requires-clause-bytes g c =
    let same : vec_bytes c.in_ok-new.field-0.value ≡ vec_bytes c.new-memory.result = search rules in
    sym (read_made own.own-1 (own.own-1.entry own.at-1-1) own.at-1-1 refl _ (λ j v. j.1.bytes v) _ _ _ c.into_dyn_box.ensures.1 ∙ same)

pub both_runs-requires-clause-writable : goal.both_runs-requires-clause-writable
both_runs-requires-clause-writable g c =
    let same : vec_writable c.in_ok-new.field-0.value ≡ vec_writable c.new-memory.result = search rules in
    sym (read_made own.own-1 (own.own-1.entry own.at-1-1) own.at-1-1 refl _ (λ j v. j.1.writable v) _ _ _ c.into_dyn_box.ensures.1 ∙ same)
