-- The record that is written out is the one of the step.
use Rattle.std.proofs.Common.{sym, subst}
use Rattle.rrs_c.specs.Harts.{hart_in, answer_of}
use Rattle.rrs_c.specs.Asking.{given}
use Rattle.rrs_c.specs.Completing.{CompletesRetiring}
use Rattle.rrs_c.proofs.rrs_complete_rvfi.Goals as goal

pub returns-clause-retires : goal.returns-clause-retires
returns-clause-retires c =
    let done = c.complete_retired in
    subst (CompletesRetiring c.args.order (hart_in c.args.hart.now) (hart_in done.new.hart) c.args.word
    (given c.args.granted c.args.value) (answer_of done.result.0)) (sym c.written_out.ensures.same) done.ensures.retires
