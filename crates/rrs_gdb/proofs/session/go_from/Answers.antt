use Rattle.std.proofs.Common.{refl, ◌∙◌}
use Rattle.std.proofs.lemmas.Bool.{OnFalse_at}
use Rattle.rrs_lib.specs.Executor.{state_in}
use Rattle.rrs_gdb.proofs.AnswerLemmas.{always, goes_begun, goes_nowhere, goes_refused, no_such}
use Rattle.rrs_gdb.proofs.session.go_from.Goals as goal

pub returns-clause-goes : goal.returns-clause-goes
returns-clause-goes g c =
    let begun = c.begin_at.new in
    let found = c.in-Some.ensures in
    goes_begun c.go.result c.args.payload.now c.in-Some.address.now c.in-Some.going _ _ begun.state
    (state_in g.M.Memory.bytes g.M.Memory.writable begun.executor) c.begin_at.result found.letter found.action
    found.signal c.begin_at.ensures.places c.if-not-begin_at.false (c.begin_at.ensures.begins c.args.environment.now)
    c.go.ensures.goes_on c.go.ensures.told

-- it is no action
pub returns-in_default-clause-goes : goal.returns-in_default-clause-goes
returns-in_default-clause-goes g c =
    let found = c.in_default.ensures in
    goes_refused c.refuse.result _ _ _ found.no_signal found.none.0 found.none.1 refl refl c.refuse.ensures.error

-- what stands after its letter is no address
pub returns-then-not-begin_at-clause-goes : goal.returns-then-not-begin_at-clause-goes
returns-then-not-begin_at-clause-goes g c =
    let fails = c.if-not-begin_at.true in
    let none = OnFalse_at fails c.begin_at.ensures.none in
    let kept = OnFalse_at fails c.begin_at.ensures.kept in
    let found = c.in-Some.ensures in
    goes_nowhere c.refuse-then-not-begin_at.result c.args.payload.now c.in-Some.address.now c.in-Some.going _ _
    found.action found.signal none.0 none.1 kept.0 refl c.refuse-then-not-begin_at.ensures.error

pub returns-clause-places : goal.returns-clause-places
returns-clause-places g c =
    let begun = c.begin_at.ensures.places in
    let gone = c.go.ensures.places in
    record {
      stops_kept = gone.stops_kept ∙ begun.stops_kept;
      watches_kept = gone.watches_kept ∙ begun.watches_kept;
      settings_kept = gone.settings_kept ∙ begun.settings_kept;
      caught_kept = gone.caught_kept ∙ begun.caught_kept;
      profile_kept = gone.profile_kept ∙ begun.profile_kept;
    }

pub returns-clause-error : goal.returns-clause-error
returns-clause-error g c = no_such c.go.result _ _ c.go.ensures.error

pub returns-in_default-clause-places : goal.returns-in_default-clause-places
returns-in_default-clause-places g c =
    record { stops_kept = refl; watches_kept = refl; settings_kept = refl; caught_kept = refl; profile_kept = refl }

pub returns-in_default-clause-error : goal.returns-in_default-clause-error
returns-in_default-clause-error g c =
    always _ c.refuse.result
    (λ _. (refl, refl, record { stops_kept = refl; watches_kept = refl; settings_kept = refl; history_kept = refl; reserved_kept = refl }))

pub returns-then-not-begin_at-clause-places : goal.returns-then-not-begin_at-clause-places
returns-then-not-begin_at-clause-places g c = c.begin_at.ensures.places

pub returns-then-not-begin_at-clause-error : goal.returns-then-not-begin_at-clause-error
returns-then-not-begin_at-clause-error g c =
    let kept = OnFalse_at c.if-not-begin_at.true c.begin_at.ensures.kept in
    always _ c.refuse-then-not-begin_at.result (λ _. (kept.0, refl, kept.1))
