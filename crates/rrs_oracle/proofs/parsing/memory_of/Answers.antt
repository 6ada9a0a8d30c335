use Rattle.std.proofs.Common.{sym, ◌∙◌, lit<, arith}
use Rattle.std.proofs.lemmas.List.{length_push}
use Rattle.std.proofs.lemmas.Iterator.Consumers.{YieldsList-at, YieldsList-turn, YieldsList-end}
use Rattle.std.proofs.lemmas.Iterator.Splits.{YieldsList-from_str_split}
use Rattle.rrs_oracle.proofs.Lists.{memory_more, memory_fails, memory_end}
use Rattle.rrs_oracle.proofs.Pieces.{fails_anyway}
use Rattle.rrs_oracle.proofs.parsing.memory_of.Goals as goal

pub loop-entry-preserved : goal.loop-entry-preserved
loop-entry-preserved c =
    let t = YieldsList-turn (YieldsList-at c.into_iter-entry-iterator.ensures.into_iter_gives (YieldsList-from_str_split 44 c.args.text.now (lit< tt) c.split-entry-items.ensures.text c.split-entry-items.ensures.has_more c.split-entry-items.ensures.pattern)) c.loop-entry.yielded _ c.loop-entry.yielded_by _ _ c.in-Some.entry c.in-Some.is c.next.ensures.steps in
    let is = sym c.hex_word.ensures ∙ c.in_ok-ok_or.ensures.ok_part in
    let more = memory_more c.args.text.now _ _ _ _ t is c.loop-entry.invariant in
    rw (c.in_ok-push.ensures.items, length_push c.loop-entry.yielded c.in-Some.entry) more

pub returns-in_err-ok_or-clause-none : goal.returns-in_err-ok_or-clause-none
returns-in_err-ok_or-clause-none c =
    let t = YieldsList-turn (YieldsList-at c.into_iter-entry-iterator.ensures.into_iter_gives (YieldsList-from_str_split 44 c.args.text.now (lit< tt) c.split-entry-items.ensures.text c.split-entry-items.ensures.has_more c.split-entry-items.ensures.pattern)) c.loop-entry.yielded _ c.loop-entry.yielded_by _ _ c.in-Some.entry c.in-Some.is c.next.ensures.steps in
    fails_anyway c.from_residual.result
    (memory_fails c.args.text.now _ _ _ t (sym c.hex_word.ensures ∙ c.in_err-ok_or.ensures.ok_part) c.loop-entry.invariant)

pub returns-clause-value : goal.returns-clause-value
returns-clause-value c =
    let t = YieldsList-end (YieldsList-at c.into_iter-entry-iterator.ensures.into_iter_gives (YieldsList-from_str_split 44 c.args.text.now (lit< tt) c.split-entry-items.ensures.text c.split-entry-items.ensures.has_more c.split-entry-items.ensures.pattern)) c.loop-entry.yielded _ c.loop-entry.yielded_by _ _ c.in-None.is c.next.ensures.steps in
    memory_end c.args.text.now _ _ (omega (arith, t.1)) c.loop-entry.invariant
