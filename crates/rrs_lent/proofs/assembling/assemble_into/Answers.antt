use Rattle.std.proofs.Common.{◌++◌, ℕ, List, length, drop, ap, ◌∙◌}
use Rattle.rrs_lent.specs.declared.outcome.RrsStatement.{RrsStatement}
use Rattle.rrs_lent.specs.declared.outcome.RrsSymbol.{RrsSymbol}
use Rattle.rrs_lent.proofs.Delivered.{needs, assembled}
use Rattle.rrs_lent.proofs.assembling.assemble_into.Goals as goal

-- what does not fit says what it needs
pub returns-then-not-fits-clause-needed : goal.returns-then-not-fits-clause-needed
returns-then-not-fits-clause-needed g c = λ ended. needs c.args.source.now c.args.start c.in_ok-told.told c.counts_of-counts.result c.in_ok-told.ensures c.counts_of-counts.ensures

-- what fits stands in the buffers
pub returns-clause-assembled : goal.returns-clause-assembled
returns-clause-assembled g c =
    λ ended. assembled c.args.source.now c.args.start c.in_ok-told.told c.counts_of-counts.result c.put.new.buffer _ c.put-2.new.buffer _ c.put-3.new.buffer _ c.put-5.new.buffer _
    c.in_ok-told.ensures c.counts_of-counts.ensures ended
    (c.put.ensures ∙ ap (λ (xs : List ℕ). xs ++ drop (length c.deref.result.now) c.args.bytes.now) c.deref.ensures.value)
    (c.put-2.ensures ∙ ap (λ (xs : List RrsStatement). xs ++ drop (length c.deref-2.result.now) c.args.statements.now) c.deref-2.ensures.value)
    (c.put-3.ensures ∙ ap (λ (xs : List RrsSymbol). xs ++ drop (length c.deref-3.result.now) c.args.symbols.now) c.deref-3.ensures.value)
    (c.put-5.ensures ∙ ap (λ (xs : List ℕ). xs ++ drop (length c.deref-5.result.now) c.args.texts.now) c.deref-5.ensures.value)
