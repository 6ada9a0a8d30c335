use Rattle.std.proofs.Common.{lit<, arith}
use Rattle.std.proofs.lemmas.List.{length_push}
use Rattle.std.proofs.lemmas.Iterator.Consumers.{YieldsList-at, YieldsList-turn, YieldsList-end}
use Rattle.std.proofs.lemmas.Iterator.Splits.{YieldsList-from_str_split}
use Rattle.rrs_oracle.proofs.Lists.{registers_more, registers_fail, registers_out_of_order, registers_end}
use Rattle.rrs_oracle.proofs.Pieces.{none_anyway}
use Rattle.rrs_oracle.proofs.parsing.registers_of.Goals as goal

pub loop-entry-preserved : goal.loop-entry-preserved
loop-entry-preserved c =
    let t = YieldsList-turn (YieldsList-at c.into_iter-entry-iterator.ensures.into_iter_gives (YieldsList-from_str_split 44 c.args.text.now (lit< tt) c.split-entry-items.ensures.text c.split-entry-items.ensures.has_more c.split-entry-items.ensures.pattern)) c.loop-entry.yielded _ c.loop-entry.yielded_by _ _ c.in-Some.entry c.in-Some.is c.next.ensures.steps in
    let more = registers_more c.args.text.now _ _ _ _ _ _ t c.in_ok-register.ensures.value c.if-register-least.false c.loop-entry.invariant in
    rw (length_push c.loop-entry.yielded c.in-Some.entry) more

pub returns-in_err-register-clause-none : goal.returns-in_err-register-clause-none
returns-in_err-register-clause-none c =
    let t = YieldsList-turn (YieldsList-at c.into_iter-entry-iterator.ensures.into_iter_gives (YieldsList-from_str_split 44 c.args.text.now (lit< tt) c.split-entry-items.ensures.text c.split-entry-items.ensures.has_more c.split-entry-items.ensures.pattern)) c.loop-entry.yielded _ c.loop-entry.yielded_by _ _ c.in-Some.entry c.in-Some.is c.next.ensures.steps in
    none_anyway c.from_residual.result (registers_fail c.args.text.now _ _ _ _ t c.in_err-register.ensures.none c.loop-entry.invariant)

pub returns-then-register-least-clause-none : goal.returns-then-register-least-clause-none
returns-then-register-least-clause-none c =
    let t = YieldsList-turn (YieldsList-at c.into_iter-entry-iterator.ensures.into_iter_gives (YieldsList-from_str_split 44 c.args.text.now (lit< tt) c.split-entry-items.ensures.text c.split-entry-items.ensures.has_more c.split-entry-items.ensures.pattern)) c.loop-entry.yielded _ c.loop-entry.yielded_by _ _ c.in-Some.entry c.in-Some.is c.next.ensures.steps in
    registers_out_of_order c.args.text.now _ _ _ _ _ _ t c.in_ok-register.ensures.value c.if-register-least.true c.loop-entry.invariant

pub returns-clause-value : goal.returns-clause-value
returns-clause-value c =
    let t = YieldsList-end (YieldsList-at c.into_iter-entry-iterator.ensures.into_iter_gives (YieldsList-from_str_split 44 c.args.text.now (lit< tt) c.split-entry-items.ensures.text c.split-entry-items.ensures.has_more c.split-entry-items.ensures.pattern)) c.loop-entry.yielded _ c.loop-entry.yielded_by _ _ c.in-None.is c.next.ensures.steps in
    registers_end c.args.text.now _ _ _ (omega (arith, t.1)) c.loop-entry.invariant
