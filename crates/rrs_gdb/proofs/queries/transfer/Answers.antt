-- A part of something else, or none.
use Rattle.rrs_gdb.proofs.queries.transfer.Goals as goal

pub returns-then-is_some-clause-target : goal.returns-then-is_some-clause-target
returns-then-is_some-clause-target c = λ place is. absurd (c.in_default.ensures place is)

pub returns-clause-target : goal.returns-clause-target
returns-clause-target c = λ place is. absurd (c.in_default.ensures place is)

pub returns-clause-path : goal.returns-clause-path
returns-clause-path c = λ rest is. absurd (c.in_default-behind.ensures rest is)
