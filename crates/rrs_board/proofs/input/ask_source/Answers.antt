-- The read that is not interrupted gives the answer, and each before it is one interruption more.
use Rattle.std.proofs.Common.{Ok, Err, Option, ℕ, arith, ap, sym, ◌∙◌}
use Rattle.std.proofs.KnownBytes.{Consumes-nil, Consumes-trans}
use Rattle.rrs_board.specs.declared.input.InputAnswer.TheVariants.{Byte}
use Rattle.rrs_board.specs.Inputs.{Interruptions, answer_of, answer_of_error}
use Rattle.rrs_board.proofs.InputReads.{answers, answers_none, other_fails}
use Rattle.rrs_board.proofs.input.ask_source.Goals as goal

pub loop-interrupted-init : goal.loop-interrupted-init
loop-interrupted-init g c = record {
  within = omega arith;
  made = Interruptions.NoneYet;
  bytes = Consumes-nil _;
}

pub returns-in-Ok-Some-clause-answers : goal.returns-in-Ok-Some-clause-answers
returns-in-Ok-Some-clause-answers g c =
    let is = ap (λ (given : Option ℕ). answer_of (Ok given)) c.in-Ok-Some.field-0-is in
    answers g.R.ByteSource.reads _ _ _ _ _ _ _ c.loop-interrupted-test.true
    c.loop-interrupted.invariant.made c.in-Ok-Some.ensures.made tt
    (is ∙ ap Byte (sym c.in-Ok-Some.byte-is))

pub returns-in-Ok-None-clause-answers : goal.returns-in-Ok-None-clause-answers
returns-in-Ok-None-clause-answers g c =
    answers g.R.ByteSource.reads _ _ _ _ _ _ _ c.loop-interrupted-test.true
    c.loop-interrupted.invariant.made c.in-Ok-None.ensures.made tt
    (ap (λ (given : Option ℕ). answer_of (Ok given)) c.in-Ok-None.field-0-is)

pub loop-interrupted-preserved : goal.loop-interrupted-preserved
loop-interrupted-preserved g c =
    let before = c.loop-interrupted.invariant in
    record {
      within = omega (arith, c.loop-interrupted-test.true);
      made = Interruptions.Again before.made c.in-Err.ensures.made
          (sym c.kind.ensures ∙ c.in-Interrupted.is);
      bytes = Consumes-trans _ _ _ _ _ before.bytes c.in-Err.ensures.bytes;
    }

pub returns-in-WouldBlock-clause-answers : goal.returns-in-WouldBlock-clause-answers
returns-in-WouldBlock-clause-answers g c =
    let is = sym c.kind.ensures ∙ c.in-WouldBlock.is in
    answers g.R.ByteSource.reads _ _ _ _ _ (Err c.in-Err.error) _ c.loop-interrupted-test.true
    c.loop-interrupted.invariant.made c.in-Err.ensures.made (λ was. cc (sym is ∙ was))
    (ap answer_of_error is)

pub returns-in_default : goal.returns-in_default
returns-in_default g c =
    let before = c.loop-interrupted.invariant in
    record {
      answers = answers g.R.ByteSource.reads _ _ _ _ _ (Err c.in-Err.error) _
          c.loop-interrupted-test.true before.made c.in-Err.ensures.made
          (λ was. c.in_default.not-Interrupted (c.kind.ensures ∙ was))
          (other_fails _ (λ was. c.in_default.not-WouldBlock (c.kind.ensures ∙ was)));
      bytes = Consumes-trans _ _ _ _ _ before.bytes c.in-Err.ensures.bytes;
    }

pub returns-clause-answers : goal.returns-clause-answers
returns-clause-answers g c =
    let before = c.loop-interrupted.invariant in
    answers_none g.R.ByteSource.reads _ _ _ _
    (omega (arith, c.loop-interrupted-test.false, before.within)) before.made
