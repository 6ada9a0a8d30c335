-- What was found, and that there is none where none was.
use Rattle.std.proofs.Common.{rules}
use Rattle.rrs_trace.proofs.OutsideSteps.{goes_behind, none_behind}
use Rattle.rrs_trace.proofs.outside.go_behind.Goals as goal

pub returns-in_default-clause-none : goal.returns-in_default-clause-none
returns-in_default-clause-none g c = none_behind _ _ _ _ c.access_at_pc.ensures.finds (search rules)

pub returns-clause-behind : goal.returns-clause-behind
returns-clause-behind g c =
    goes_behind _ _ _ _ _ c.in-Some.instruction c.in-Some.request _ c.access_at_pc.ensures.finds
    (search rules) (search rules) c.access_at_pc.ensures.kept (c.grant-end.ensures.grants.grants _ _)
